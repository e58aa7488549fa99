-- A pass over the errors of the controllers that goes on.
use Prim.Native.Nat.{ℕ, ◌+◌}
use mathlib.Core.Path.{◌≡◌, refl, ap, ◌∙◌}
use mathlib.Core.List.{List}
use native.Mathlib.Numerals.{add-one}
use Rattle.rules.specs.Repeat.{rising}
use Rattle.rules.specs.Core.{Controller}
use Rattle.rules.specs.Errors.{Errors}
use Rattle.rules.specs.Polls.{Turn, errors_one, errors_all}

module _ (t : Turn) (ks : List Controller) (start : List Errors) where
  pub errors_none : start ≡ errors_all t 0 ks start
  unfolding errors_all rising
  errors_none = refl

  pub errors_more : (c : ℕ) {es next : List Errors} → es ≡ errors_all t c ks start → next ≡ errors_one t ks c es → next ≡ errors_all t (c + 1) ks start
  unfolding errors_all rising
  errors_more c so one = rw add-one (one ∙ ap (errors_one t ks c) so)
