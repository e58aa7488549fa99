-- The tests of the arrays make up the test of all places.
use Prim.Native.Nat.{ℕ, ◌≤◌, ◌<◌, min}
use native.Mathlib.Omega.{arith}
use mathlib.Core.Path.{◌≡◌, refl, sym, ap, ◌∙◌}
use mathlib.Core.Bool.{Bool, true, false, not, cond, ◌&&◌, ◌||◌, and-true, and-false, and_assoc, and_comm}
use mathlib.Core.Logic.{⊎_elim}
use mathlib.Core.List.{List}
use lib.ListN.{length}
use lib.Dec.{eqb, ltb, leb}
use borrow.Author.Tests.{ltb-true, leb-true, eq-eqb, eqb-true}
use Rattle.rules.specs.Repeat.{all_below}
use Rattle.rules.specs.Errors.{Errors, errors_none}
use Rattle.rules.specs.Core.{Controller, Owner, Mailbox, Core, has_places, owner_place_valid, controller_place_valid, mailbox_place_valid, owner_at, mailbox_at, controller_at, errors_at, controller_of, is_started, controller_valid, errors_valid, controller_idle, owner_valid, owner_unused, mailbox_valid, mailbox_empty}
use Rattle.laws.proofs.Tests.{both, left, right, decide, same_truth, under}
use Rattle.laws.proofs.Repeat.{all_facts, facts_all}
use Rattle.core_places.specs.View.{limits_of}
use Rattle.core_places.proofs.Laws.{limited_count}
use Rattle.core_validity.specs.Tests.{counts_suit, controllers_valid, controllers_idle, objects_valid, objects_unused, waiting_started, places_valid, errors_suit, errors_rest, errors_places_valid}
use Rattle.core_validity.proofs.Laws.{and_pairs, all_below_ext, all_below-and, by_use, by_count}

-- A frame waits only for a STARTED controller, asked of the objects and asked of the controllers.
module _ (count n : ℕ) (started waits : ℕ → Bool) (owner : ℕ → ℕ) (named : (h : ℕ) → h < count → owner h < n) where
  abbrev none : ℕ → ℕ → Bool
  none c h = not (waits h) || not (eqb (owner h) c)

  abbrev by_controller : Bool
  by_controller = all_below n (λ c. started c || all_below count (none c))

  abbrev by_object : Bool
  by_object = all_below count (λ h. not (waits h) || started (owner h))

  to_objects : by_controller ≡ true → by_object ≡ true
  to_objects e = facts_all count (λ h. not (waits h) || started (owner h)) (λ h l. at h l (waits h) refl (started (owner h)) refl)
    where
      at : (h : ℕ) → h < count → (w : Bool) → waits h ≡ w → (s : Bool) → started (owner h) ≡ s → (not w || s) ≡ true
      at h l false p s q = refl
      at h l true p true q = refl
      at h l true p false q =
          let here = all_facts n (λ c. started c || all_below count (none c)) e (owner h) (named h l) in
          let empty : all_below count (none (owner h)) ≡ true = rw q at here in
          let fact = all_facts count (none (owner h)) empty h l in
          rw (p, eq-eqb (owner h) (owner h) refl) at fact

  to_controllers : by_object ≡ true → by_controller ≡ true
  to_controllers e = facts_all n (λ c. started c || all_below count (none c)) (λ c l. at c (started c) refl)
    where
      at : (c : ℕ) → (s : Bool) → started c ≡ s → (s || all_below count (none c)) ≡ true
      at c true q = refl
      at c false q = facts_all count (none c) (λ h l. each h l (waits h) refl (eqb (owner h) c) refl)
        where
          each : (h : ℕ) → h < count → (w : Bool) → waits h ≡ w → (b : Bool) → eqb (owner h) c ≡ b → (not w || not b) ≡ true
          each h l false p b r = refl
          each h l true p false r = refl
          each h l true p true r =
              let fact = all_facts count (λ h. not (waits h) || started (owner h)) e h l in
              rw (p, eqb-true (owner h) c r, q) at fact

  pub by_owner : by_controller ≡ by_object
  by_owner = same_truth by_controller by_object to_objects to_controllers

-- Whether its controller is STARTED matters to a mailbox only where a frame waits.
mailbox_parts : (receiving started : Bool) (m : Mailbox)
    → mailbox_valid receiving started m ≡ (mailbox_valid receiving true m && (not m.tx_pending || started))
mailbox_parts receiving started m = go receiving started m.tx_pending (not m.tx_done || m.tx_pending) (not m.rx_full || receiving)
  where
    go : (r s p a b : Bool) → ((not p || not r && s) && a && b) ≡ ((not p || not r && true) && a && b && (not p || s))
    go r s false a b = sym (and-true (a && b))
    go true s true a b = refl
    go false true true a b = sym (and-true (a && b))
    go false false true a b = sym (and-false (a && b))

-- The tests of owners, controllers and mailboxes, grouped by what is in use.
regrouped : (owners controllers mailboxes a b c d : Bool) → (owners && mailboxes) ≡ (b && d) → controllers ≡ (a && c)
    → (owners && controllers && mailboxes) ≡ (a && b && (c && d))
regrouped owners controllers mailboxes a b c d e f =
    and_assoc owners controllers mailboxes ∙ ap (λ (t : Bool). owners && t) (and_comm controllers mailboxes) ∙ sym (and_assoc owners mailboxes controllers)
    ∙ rw (e, f) (and_comm (b && d) (a && c) ∙ and_pairs a c b d)

module _ (C O : ℕ) (core : Core) (controllers_are : length core.controllers ≡ C) (owners_are : length core.owners ≡ O) (mailboxes_are : length core.mailboxes ≡ O) where
  abbrev ks : List Controller
  ks = core.controllers

  abbrev os : List Owner
  os = core.owners

  abbrev ms : List Mailbox
  ms = core.mailboxes

  abbrev counts : Bool
  counts = counts_suit (limits_of C O) core.initialised core.controller_count core.object_count

  abbrev test : Bool
  test = places_valid (limits_of C O) core

  -- Counts that do not suit refuse any core.
  pub counts_refuse : counts ≡ false → false ≡ test
  unfolding places_valid
  counts_refuse e = rw (e, and-false (has_places (limits_of C O) core))

  -- the objects in use, as the rules ask
  abbrev object_in_use : ℕ → Bool
  object_in_use h = owner_valid core.controller_count (owner_at os h) && mailbox_valid (owner_at os h).receiving (is_started (controller_of core h)) (mailbox_at ms h)

  all_places : has_places (limits_of C O) core ≡ true
  all_places = both (both (eq-eqb _ _ controllers_are) (eq-eqb _ _ owners_are)) (eq-eqb _ _ mailboxes_are)

  controllers_parts : core.controller_count ≤ C
      → all_below C (controller_place_valid core) ≡ (controllers_valid ks core.controller_count && controllers_idle ks core.controller_count)
  controllers_parts l =
      rw controllers_are
      (by_count core.controller_count (λ c. controller_idle (controller_at ks c)) C (λ c. controller_valid (controller_at ks c)) l)

  objects_parts : core.object_count ≤ O
      → (all_below O (owner_place_valid core.controller_count core.object_count os) && all_below O (mailbox_place_valid core))
      ≡ (all_below core.object_count object_in_use && objects_unused os ms core.object_count)
  objects_parts l =
      rw owners_are
      (sym
      (by_use O core.object_count (λ h. owner_valid core.controller_count (owner_at os h))
      (λ h. mailbox_valid (owner_at os h).receiving (is_started (controller_of core h)) (mailbox_at ms h)) (λ h. owner_unused (owner_at os h))
      (λ h. mailbox_empty (mailbox_at ms h)))
      ∙ by_count core.object_count (λ h. owner_unused (owner_at os h) && mailbox_empty (mailbox_at ms h)) O object_in_use l)

  -- What is in use, and what is not.
  by_places : counts ≡ true → core.controller_count ≤ C → core.object_count ≤ O
      → test
      ≡ (controllers_valid ks core.controller_count && all_below core.object_count object_in_use && (controllers_idle ks core.controller_count && objects_unused os ms core.object_count))
  unfolding places_valid
  by_places e c o =
      let owned = all_below O (owner_place_valid core.controller_count core.object_count os) in
      let controls = all_below C (controller_place_valid core) in
      let boxes = all_below O (mailbox_place_valid core) in
      rw (all_places, e)
      (regrouped owned controls boxes (controllers_valid ks core.controller_count) (all_below core.object_count object_in_use)
      (controllers_idle ks core.controller_count) (objects_unused os ms core.object_count) (objects_parts o) (controllers_parts c))

  -- an object in use, as far as it shows itself
  abbrev alone : ℕ → Bool
  alone h = ltb (owner_at os h).controller core.controller_count && mailbox_valid (owner_at os h).receiving true (mailbox_at ms h)

  abbrev waits_rightly : ℕ → Bool
  waits_rightly h = not (mailbox_at ms h).tx_pending || is_started (controller_of core h)

  object_parts : (h : ℕ) → object_in_use h ≡ (alone h && waits_rightly h)
  object_parts h =
      let named = ltb (owner_at os h).controller core.controller_count in
      let receiving = (owner_at os h).receiving in
      let box = mailbox_at ms h in
      ap (λ (b : Bool). named && b) (mailbox_parts receiving (is_started (controller_of core h)) box)
      ∙ sym (and_assoc named (mailbox_valid receiving true box) (waits_rightly h))

  waiting_parts : ((h : ℕ) → h < core.object_count → (owner_at os h).controller < 256)
      → all_below core.object_count object_in_use
      ≡ (objects_valid core.controller_count os ms core.object_count && waiting_started (min core.controller_count 256) ks os ms core.object_count)
  waiting_parts byte =
      all_below_ext core.object_count object_in_use (λ h. alone h && waits_rightly h) (λ h l. object_parts h)
      ∙ sym (all_below-and core.object_count alone waits_rightly)
      ∙ under (all_below core.object_count alone)
      (λ e.
      sym
      (by_owner core.object_count (min core.controller_count 256) (λ c. is_started (controller_at ks c)) (λ h. (mailbox_at ms h).tx_pending) (λ h. (owner_at os h).controller)
      (λ h l.
      let below = left (ltb (owner_at os h).controller core.controller_count) (mailbox_valid (owner_at os h).receiving true (mailbox_at ms h)) (all_facts core.object_count alone e h l) in
      omega (arith, ltb-true (owner_at os h).controller core.controller_count below, byte h l))))

  -- After initialisation the places in use are tested, and the others are at rest.
  pub initialised_parts : counts ≡ true → core.controller_count ≤ C → core.object_count ≤ O → ((h : ℕ) → h < core.object_count → (owner_at os h).controller < 256)
      → (controllers_valid ks core.controller_count
      && (objects_valid core.controller_count os ms core.object_count && waiting_started (min core.controller_count 256) ks os ms core.object_count)
      && (controllers_idle ks core.controller_count && objects_unused os ms core.object_count))
      ≡ test
  initialised_parts e c o byte = sym (by_places e c o ∙ rw (waiting_parts byte))

  -- Before it nothing is in use.
  pub uninitialised_parts : counts ≡ true → core.controller_count ≡ 0 → core.object_count ≡ 0
      → (controllers_idle ks core.controller_count && objects_unused os ms core.object_count) ≡ test
  unfolding all_below
  uninitialised_parts e c o =
      let no_controllers : controllers_valid ks core.controller_count ≡ true = ap (λ (n : ℕ). controllers_valid ks n) c in
      let no_objects : all_below core.object_count object_in_use ≡ true = ap (λ (n : ℕ). all_below n object_in_use) o in
      sym (by_places e (omega arith) (omega arith) ∙ rw (no_controllers, no_objects))

-- What the counts say of the places.
module _ (n m controller_count object_count : ℕ) (initialised : Bool) (suit : counts_suit (limits_of n m) initialised controller_count object_count ≡ true) where
  pub counts_some : initialised ≡ true → (1 ≤ controller_count) × (controller_count ≤ n) × (object_count ≤ m)
  counts_some on =
      let some = leb 1 controller_count in
      let fit = leb controller_count n in
      let objects = leb object_count m in
      let valid : (some && fit && objects) ≡ true = rw on at suit in
      let first = left (some && fit) objects valid in
      (leb-true 1 controller_count (left some fit first), leb-true controller_count n (right some fit first), leb-true object_count m (right (some && fit) objects valid))

  pub counts_none : initialised ≡ false → (controller_count ≡ 0) × (object_count ≡ 0)
  counts_none off =
      let none : (eqb controller_count 0 && eqb object_count 0) ≡ true = rw off at suit in
      (eqb-true controller_count 0 (left (eqb controller_count 0) (eqb object_count 0) none), eqb-true object_count 0 (right (eqb controller_count 0) (eqb object_count 0) none))

  pub counts_fit : (controller_count ≤ n) × (object_count ≤ m)
  counts_fit = ⊎_elim (λ on. let s = counts_some on in (s.1, s.2)) (λ off. let none = counts_none off in omega arith) (decide initialised)

-- The errors of controllers in use and the others are all errors.
pub all_errors_parts : (n count : ℕ) (ks : List Controller) (es : List Errors) → length es ≡ n
    → (errors_suit ks es (min count n) && errors_rest es (min count n)) ≡ errors_places_valid n count ks es
all_errors_parts n count ks es places =
    let end = min count n in
    let used : ℕ → Bool = λ c. errors_valid (controller_at ks c) (errors_at es c) in
    let rest : ℕ → Bool = λ c. errors_none (errors_at es c) in
    rw (places, eq-eqb n n refl)
    (sym (by_count end rest n used (omega arith))
    ∙ all_below_ext n (λ c. cond (ltb c end) (used c) (rest c)) (λ c. cond (ltb c count) (used c) (rest c)) (λ c l. rw (limited_count c n count l)))
