-- A decision as a number. 01: "the second answers 1 or 0".
use Rattle.std.specs.Prelude.{ℕ, Bool, true, false}

abbrev pub one_or_zero : Bool → ℕ
one_or_zero true = 1
one_or_zero false = 0
