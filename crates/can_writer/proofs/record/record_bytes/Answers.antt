-- Each byte stands in its place.
use Prim.Native.Nat.{ℕ}
use mathlib.Core.Path.{◌≡◌, refl, ap, ◌∙◌}
use mathlib.Core.Bool.{Bool, true, false, not, cond, ◌&&◌}
use mathlib.Core.List.{List, [], ◌∷◌, ◌++◌}
use lib.ListN.{get_or}
use lib.Dec.{eqb}
use mir.Val.{bool_byte}
use Rattle.rules.specs.Bytes.{big_endian}
use Rattle.can_writer.proofs.BigEndian.{bytes_4}
use Rattle.can_writer.proofs.record.record_bytes.Goals as goal

kind_byte : (b : Bool) → bool_byte b ≡ cond b 1 0
kind_byte true = refl
kind_byte false = refl

-- four bytes and four more, where the first four are a pool's or a code's
in_a_row : (said : Bool) (pool code mask : ℕ) → let c = cond said (0 ∷ 0 ∷ 0 ∷ pool ∷ []) (big_endian 4 code) in let m = big_endian 4 mask in
    (get_or c 0 0 ∷ get_or c 1 0 ∷ get_or c 2 0 ∷ get_or c 3 0 ∷ get_or m 0 0 ∷ get_or m 1 0 ∷ get_or m 2 0 ∷ get_or m 3 0 ∷ []) ≡ c ++ m
unfolding big_endian
in_a_row true pool code mask = refl
in_a_row false pool code mask = refl

pub returns : goal.returns
returns c =
    let a = c.args in
    rw (c.code_bytes-code.ensures, c.to_be_bytes-mask.ensures ∙ bytes_4 a.settings.mask, kind_byte a.owner.receiving)
    (ap (λ (l : List ℕ). a.owner.controller ∷ cond a.owner.receiving 1 0 ∷ a.settings.payload ∷ a.settings.padding ∷ l)
    (in_a_row (eqb a.version 2 && not a.owner.receiving) a.owner.pool a.settings.code a.settings.mask))
