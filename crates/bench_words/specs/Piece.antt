-- Texts in a row, with a bar behind each but the last.
use Rattle.std.specs.Prelude.{ℕ, List, [], eqb, slice_get, unwrap_or}
use Rattle.std.specs.List.{slice_split}

-- text n, none past the last one
unfoldable pub piece : ℕ → List ℕ → List ℕ
piece n texts = unwrap_or (slice_get (slice_split (λ b. eqb b 124) texts) n) []
