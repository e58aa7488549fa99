-- Notifications on the sheet: one more is written right behind the others.
use Prim.Native.Nat.{ℕ, ◌+◌, ◌*◌, ◌≤◌}
use mathlib.Core.Path.{◌≡◌, refl, sym, ◌∙◌}
use mathlib.Core.List.{List, [], ◌∷◌, ◌++◌, append_assoc}
use native.Mathlib.Omega.{arith}
use lib.ListN.{length, length-append}
use Rattle.rules.specs.Bytes.{splice}
use Rattle.rules.specs.Notification.{Notification, tx_confirmation, rx_indication, mode_indication, bus_off_indication, development_error, data_lost, tx_cancellation, error_passive_indication, words, all_words, sheet_after}
use Rattle.laws.proofs.Splices.{splice_nil, length_splice, splice_splice}

pub length_words : (n : Notification) → length (words n) ≡ 4
unfolding words
length_words (tx_confirmation h handle) = refl
length_words (rx_indication h identifier len) = refl
length_words (mode_indication c mode) = refl
length_words (bus_off_indication c) = refl
length_words (development_error service error) = refl
length_words (data_lost h) = refl
length_words (tx_cancellation h handle) = refl
length_words (error_passive_indication c tx rx) = refl

pub length_all_words : (ns : List Notification) → length (all_words ns) ≡ 4 * length ns
unfolding all_words
length_all_words [] = refl
length_all_words (n ∷ ns) = rw (length-append (words n) (all_words ns), length_words n, length_all_words ns) (omega arith)

pub all_words_one : (n : Notification) → all_words (n ∷ []) ≡ words n
unfolding all_words words
all_words_one (tx_confirmation h handle) = refl
all_words_one (rx_indication h identifier len) = refl
all_words_one (mode_indication c mode) = refl
all_words_one (bus_off_indication c) = refl
all_words_one (development_error service error) = refl
all_words_one (data_lost h) = refl
all_words_one (tx_cancellation h handle) = refl
all_words_one (error_passive_indication c tx rx) = refl

pub all_words_append : (ns ms : List Notification) → all_words (ns ++ ms) ≡ all_words ns ++ all_words ms
unfolding all_words
all_words_append [] ms = refl
all_words_append (n ∷ ns) ms = rw (all_words_append ns ms) (sym (append_assoc (words n) (all_words ns) (all_words ms)))

pub sheet_none : (sheet : List ℕ) → sheet_after [] sheet ≡ sheet
unfolding all_words
sheet_none sheet = splice_nil 0 sheet

module _ (ns : List Notification) (sheet : List ℕ) (room : 4 * length ns ≤ length sheet) where
  pub sheet_length : length (sheet_after ns sheet) ≡ length sheet
  sheet_length = length_splice 0 (all_words ns) sheet (rw (length_all_words ns) (omega arith))

  -- number length ns is written behind the first length ns
  pub sheet_more : (n : Notification) → splice (4 * length ns) (words n) (sheet_after ns sheet) ≡ sheet_after (ns ++ (n ∷ [])) sheet
  sheet_more n =
      let long : 0 + length (all_words ns) ≡ 4 * length ns = omega (arith, length_all_words ns) in
      rw (← long, ← all_words_one n) (splice_splice 0 (all_words ns) sheet (rw (length_all_words ns) (omega arith)) (all_words (n ∷ [])) ∙ rw (← all_words_append ns (n ∷ [])))
