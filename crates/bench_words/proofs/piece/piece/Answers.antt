-- `bench_words::piece::piece` meets its contract: what `split` gives is what the definition splits, and one of it is taken.
use Rattle.std.proofs.Common.{rules, tests, ◌≡◌, ℕ, List}
use Rattle.std.specs.Prelude.{Option, Some, None, unwrap_or, option_map, slice_get, eqb}
use Rattle.std.specs.Borrow.{Bor}
use Rattle.std.specs.List.{slice_split}
use Rattle.std.proofs.lemmas.Iterator.Consumers.{nth_from_yields_List}
use Rattle.std.proofs.lemmas.Iterator.Splits.{YieldsList-from_slice_split}
use Rattle.bench_words.specs.Piece.{piece}
use Rattle.bench_words.proofs.piece.piece.Goals as goal

-- what the one that is taken points to
pointed : (o : Option (Bor (List ℕ))) (d : Bor (List ℕ)) {p : Option (List ℕ)} → option_map (λ x. x.now) o ≡ p → (unwrap_or o d).now ≡ unwrap_or p d.now
pointed None d e = rw (← e)
pointed (Some x) d e = rw (← e)

pub returns : goal.returns
unfolding piece
returns c =
    let given = c.args in
    let taken : option_map (λ x. x.now) c.nth.result ≡ slice_get (slice_split (λ b. eqb b 124) given.texts.now) given.n =
    nth_from_yields_List _ _ given.n c.nth.ensures.ran
    (YieldsList-from_slice_split _ (λ b. eqb b 124) given.texts.now c.split.ensures.rest c.split.ensures.done c.split.ensures.closure (λ x b q k. search (rules, tests))) in
    rw c.unwrap_or.ensures (pointed c.nth.result _ taken)
