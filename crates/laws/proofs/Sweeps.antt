-- A sweep visits each place once and changes it or leaves it: what stands at each place afterwards.
use Prim.Native.Nat.{ℕ, zero, suc, ◌≤◌, ◌<◌}
use mathlib.Core.Path.{◌≡◌, refl, ap, ◌∙◌}
use mathlib.Core.Bool.{Bool, cond}
use mathlib.Core.List.{List}
use mathlib.Core.Logic.{⊎_elim}
use native.Mathlib.Omega.{arith}
use native.Mathlib.Decide.{dec_lt}
use native.Mathlib.Nat.{le_refl}
use lib.ListN.{length, set, get_or, length-set, get_or-eq_default}
use lib.Seq.{get_or-set_same, get_or-set_other}
use Rattle.rules.specs.Repeat.{rising}
use Rattle.rules.specs.Errors.{Errors, no_errors}
use Rattle.rules.specs.Polls.{Boxes, Sweep, Visit, Turn, visit_one, visit_all, turn_one, turn_all, sweep_of, errors_one, errors_all}
use Rattle.rules.specs.Core.{Controller, Mailbox, Core, idle_controller, empty_mailbox, controller_at, errors_at, mailbox_at}
use Rattle.laws.proofs.Tests.{cond_map, cond_both}
use Rattle.laws.proofs.Repeat.{last_or_below}

-- a place that is set to the default holds it, wherever it lies
pub set_default : {A : Type 0} (l : List A) (i : ℕ) (d : A) → get_or (set l i d) i d ≡ d
set_default l i d = go (dec_lt i (length l))
  where
    go : Dec (i < length l) → get_or (set l i d) i d ≡ d
    go (yes k) = get_or-set_same l i d d k
    go (no k) = get_or-eq_default (set l i d) d (rw length-set (omega arith))

-- W is what the sweep carries, items its places, and f the visit of one place
module _ (W A : Type 0) (items : W → List A) (d : A) (test : ℕ → A → Bool) (change : ℕ → A → A) (f : ℕ → W → W)
    (visit : (i : ℕ) (w : W) → items (f i w) ≡ cond (test i (get_or (items w) i d)) (set (items w) i (change i (get_or (items w) i d))) (items w))
    (w : W) where
  -- what a place that is visited holds afterwards
  abbrev pub visited : ℕ → A → A
  visited i a = cond (test i a) (change i a) a

  visit_length : (i : ℕ) (x : W) → length (items (f i x)) ≡ length (items x)
  visit_length i x =
      rw (visit i x)
      (cond_both (λ (l : List A). length l ≡ length (items x)) (test i (get_or (items x) i d)) (set (items x) i (change i (get_or (items x) i d))) (items x)
      (λ t. length-set (items x) i (change i (get_or (items x) i d)))
      (λ t. refl))

  visit_other : (i j : ℕ) (x : W) → (j ≡ i → ⊥) → get_or (items (f i x)) j d ≡ get_or (items x) j d
  visit_other i j x apart =
      rw (visit i x)
      (cond_both (λ (l : List A). get_or l j d ≡ get_or (items x) j d) (test i (get_or (items x) i d)) (set (items x) i (change i (get_or (items x) i d))) (items x)
      (λ t. get_or-set_other (items x) i j (change i (get_or (items x) i d)) d apart)
      (λ t. refl))

  pub sweep_length : (n : ℕ) → length (items (rising n f w)) ≡ length (items w)
  unfolding rising
  sweep_length zero = refl
  sweep_length (suc n) = visit_length n (rising n f w) ∙ sweep_length n

  pub sweep_above : (n i : ℕ) → n ≤ i → get_or (items (rising n f w)) i d ≡ get_or (items w) i d
  unfolding rising
  sweep_above zero i k = refl
  sweep_above (suc n) i k = visit_other n i (rising n f w) (λ e. omega arith) ∙ sweep_above n i (omega arith)

  -- the change lasts: the place exists, or the change is to what stands outside
  module _ (size : ℕ) (lasts : (i : ℕ) (l : List A) → i < size → length l ≡ length (items w) → get_or (set l i (change i (get_or l i d))) i d ≡ change i (get_or l i d)) where
    visit_same : (i : ℕ) (x : W) → i < size → length (items x) ≡ length (items w) → get_or (items (f i x)) i d ≡ visited i (get_or (items x) i d)
    visit_same i x inside long =
        let t = test i (get_or (items x) i d) in
        rw (visit i x)
        (cond_map (λ (l : List A). get_or l i d) t (set (items x) i (change i (get_or (items x) i d))) (items x)
        ∙ ap (λ (a : A). cond t a (get_or (items x) i d)) (lasts i (items x) inside long))

    pub sweep_below : (n i : ℕ) → n ≤ size → i < n → get_or (items (rising n f w)) i d ≡ visited i (get_or (items w) i d)
    unfolding rising
    sweep_below zero i within k = absurd (omega arith)
    sweep_below (suc n) i within k =
        ⊎_elim
        (λ (e : i ≡ n). rw e (visit_same n (rising n f w) (omega arith) (sweep_length n) ∙ ap (λ (a : A). visited n a) (sweep_above n n (omega arith))))
        (λ (l : i < n). visit_other n i (rising n f w) (λ e. omega arith) ∙ sweep_below n i (omega arith) l)
        (last_or_below n i k)

-- The sweeps of the polls over the mailboxes: each frees those that pass a test.
abbrev pub freed : Bool → Mailbox → Mailbox
freed t m = cond t empty_mailbox m

-- one object's visit, seen at the mailboxes
pub visit_step : (v : Visit) (h : ℕ) (b : Boxes) → (visit_one v h b).mailboxes ≡ cond (v.due h (mailbox_at b.mailboxes h)) (set b.mailboxes h empty_mailbox) b.mailboxes
visit_step v h b = cond_map (λ (x : Boxes). x.mailboxes) (v.due h (mailbox_at b.mailboxes h)) _ b

module _ (v : Visit) (b : Boxes) where
  pub boxes_length : (n : ℕ) → length (visit_all v n b).mailboxes ≡ length b.mailboxes
  unfolding visit_all
  boxes_length n = sweep_length Boxes Mailbox (λ x. x.mailboxes) empty_mailbox v.due (λ i m. empty_mailbox) (visit_one v) (visit_step v) b n

  pub boxes_above : (n h : ℕ) → n ≤ h → mailbox_at (visit_all v n b).mailboxes h ≡ mailbox_at b.mailboxes h
  unfolding visit_all
  boxes_above n h k = sweep_above Boxes Mailbox (λ x. x.mailboxes) empty_mailbox v.due (λ i m. empty_mailbox) (visit_one v) (visit_step v) b n h k

  pub boxes_below : (n h : ℕ) → h < n → mailbox_at (visit_all v n b).mailboxes h ≡ freed (v.due h (mailbox_at b.mailboxes h)) (mailbox_at b.mailboxes h)
  unfolding visit_all
  boxes_below n h k =
      sweep_below Boxes Mailbox (λ x. x.mailboxes) empty_mailbox v.due (λ i m. empty_mailbox) (visit_one v) (visit_step v) b n (λ i l inside long. set_default l i empty_mailbox) n h (le_refl n) k

-- The sweeps of the polls over the controllers: each has its turn, if it is due.
module _ (size : ℕ) (t : Turn) (core : Core) (ram : List ℕ) where
  -- one controller's turn, seen at the controllers
  turn_step : (c : ℕ) (w : Sweep)
      → (turn_one size t core ram c w).controllers ≡ cond (t.due (controller_at w.controllers c)) (set w.controllers c (t.entered (controller_at w.controllers c))) w.controllers
  turn_step c w = cond_map (λ (x : Sweep). x.controllers) (t.due (controller_at w.controllers c)) _ w

  -- those above are as they were at first
  pub turns_above : (n c : ℕ) → n ≤ c → controller_at (rising n (turn_one size t core ram) (sweep_of core)).controllers c ≡ controller_at core.controllers c
  turns_above n c l =
      sweep_above Sweep Controller (λ (w : Sweep). w.controllers) idle_controller (λ i. t.due) (λ i. t.entered) (turn_one size t core ram) turn_step (sweep_of core) n c l

  pub turns_beyond : (c : ℕ) → core.controller_count ≤ c → controller_at (turn_all size t core ram).controllers c ≡ controller_at core.controllers c
  unfolding turn_all
  turns_beyond c l = turns_above core.controller_count c l

  -- a controller in use whose turn is due enters its next mode
  pub turns_below : core.controller_count ≤ length core.controllers → (c : ℕ) → c < core.controller_count
      → controller_at (turn_all size t core ram).controllers c ≡ cond (t.due (controller_at core.controllers c)) (t.entered (controller_at core.controllers c)) (controller_at core.controllers c)
  unfolding turn_all
  turns_below within c l =
      let n = core.controller_count in
      sweep_below Sweep Controller (λ (w : Sweep). w.controllers) idle_controller (λ i. t.due) (λ i. t.entered) (turn_one size t core ram) turn_step (sweep_of core) n
      (λ i ks inside long. get_or-set_same ks i (t.entered (controller_at ks i)) idle_controller (rw long (omega arith))) n c (le_refl n) l

-- what such a poll leaves of the errors
module _ (t : Turn) (ks : List Controller) (es : List Errors) where
  abbrev errors_change : ℕ → Errors → Errors
  errors_change c e = t.errors_after (controller_at ks c) e

  abbrev errors_due : ℕ → Errors → Bool
  errors_due c e = t.due (controller_at ks c)

  pub errors_length : (n : ℕ) → length (errors_all t n ks es) ≡ length es
  unfolding errors_all
  errors_length n = sweep_length (List Errors) Errors (λ x. x) no_errors errors_due errors_change (errors_one t ks) (λ c x. refl) es n

  pub errors_above : (n c : ℕ) → n ≤ c → errors_at (errors_all t n ks es) c ≡ errors_at es c
  unfolding errors_all
  errors_above n c l = sweep_above (List Errors) Errors (λ x. x) no_errors errors_due errors_change (errors_one t ks) (λ c x. refl) es n c l

  pub errors_below : (n : ℕ) → n ≤ length es → (c : ℕ) → c < n
      → errors_at (errors_all t n ks es) c ≡ cond (t.due (controller_at ks c)) (t.errors_after (controller_at ks c) (errors_at es c)) (errors_at es c)
  unfolding errors_all
  errors_below n within c l =
      sweep_below (List Errors) Errors (λ x. x) no_errors errors_due errors_change (errors_one t ks) (λ c x. refl) es n
      (λ i x inside long. get_or-set_same x i (errors_change i (errors_at x i)) no_errors (rw long (omega arith))) n c (le_refl n) l
