-- The references that a core is lent as, by their names.
use Rattle.std.specs.Prelude.{◌≡◌}
use base.Fml.{GName}

pub record Names : Type 0 where
  pub modes : GName
  pub requests : GName
  pub marks : GName
  pub recoverings : GName
  pub tx_errors : GName
  pub rx_errors : GName
  pub pendings : GName
  pub dones : GName
  pub fulls : GName

-- the same memory is lent
abbrev pub SameNames : Names → Names → Type 0
SameNames a b =
    (a.modes ≡ b.modes) × (a.requests ≡ b.requests) × (a.marks ≡ b.marks)
    × (a.recoverings ≡ b.recoverings) × (a.tx_errors ≡ b.tx_errors) × (a.rx_errors ≡ b.rx_errors)
    × (a.pendings ≡ b.pendings) × (a.dones ≡ b.dones) × (a.fulls ≡ b.fulls)

abbrev pub no_names : Names
no_names = record { modes = 0; requests = 0; marks = 0; recoverings = 0; tx_errors = 0; rx_errors = 0; pendings = 0; dones = 0; fulls = 0 }
