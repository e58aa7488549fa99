-- The four stores are a run of stores, and the four words that they store are the whole array.
use Prim.Native.Nat.{ℕ, ◌+◌}
use mathlib.Core.Path.{◌≡◌, ap, ◌∙◌}
use mathlib.Core.List.{List}
use native.Mathlib.Omega.{arith}
use native.Mathlib.Numerals.{towards_suc}
use lib.ListN.{length, get_or, length-set}
use lib.Seq.{take_all}
use Rattle.rules.specs.Repeat.{list_below}
use Rattle.rules.specs.Bytes.{splice}
use Rattle.core_layout.specs.Sheet.{words_each}
use Rattle.laws.proofs.Splices.{sets_splice, read_part}
use borrow.Author.Rules.{rules}
use Rattle.core_layout.proofs.notification.put_words.Goals as goal

pub bounds-sheet-at-2 : goal.bounds-sheet-at-2
bounds-sheet-at-2 c = simp length-set (omega arith)

pub bounds-sheet-at-3 : goal.bounds-sheet-at-3
bounds-sheet-at-3 c = simp length-set (omega arith)

pub bounds-sheet-at-4 : goal.bounds-sheet-at-4
bounds-sheet-at-4 c = simp length-set (omega arith)

pub returns : goal.returns
unfolding list_below
returns c =
    let words = c.args.words in
    let long : length words ≡ words_each = search rules in
    let stored : list_below words_each (λ i. get_or words (0 + i) 0) ≡ words = read_part 0 words_each words 0 (omega arith) ∙ take_all words_each words (omega arith) in
    let a = c.args in
    simp towards_suc
    (sets_splice (list_below words_each (λ i. get_or words (0 + i) 0)) a.sheet.now a.at (omega arith) ∙ ap (λ (l : List ℕ). splice a.at l a.sheet.now) stored)
