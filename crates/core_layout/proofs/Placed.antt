-- What putting the first notification leaves.
use Prim.Native.Nat.{ℕ}
use mathlib.Core.Path.{◌≡◌, ◌∙◌}
use mathlib.Core.List.{List, [], ◌∷◌}
use Rattle.rules.specs.Bytes.{splice}
use Rattle.rules.specs.Notification.{Notification, words, sheet_after}
use Rattle.laws.proofs.Sheets.{all_words_one}

-- a notification put first is the only one
pub put_first : (n : Notification) (before : List ℕ) {after : List ℕ} → after ≡ splice 0 (words n) before → after ≡ sheet_after (n ∷ []) before
put_first n before put = put ∙ rw (all_words_one n)
