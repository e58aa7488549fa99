-- 02's choice of who sends next, proved: when it is made, when it is "none", and which object it names.
use Prim.Native.Nat.{ℕ, ◌-◌, ◌%◌, ◌^◌, ◌≤◌, ◌<◌}
use mathlib.Core.Path.{◌≡◌, refl, ap, sym, ◌∙◌}
use mathlib.Core.Bool.{Bool, true, false, not, cond}
use mathlib.Core.List.{List}
use mathlib.Core.Option.{Option, none, some}
use mathlib.Core.Logic.{◌↔◌, ◌⊎◌, inl, inr, ⊎_elim}
use native.Mathlib.Omega.{arith}
use native.Mathlib.Decide.{dec_lt}
use native.Mathlib.Nat.{eq-or-lt_of_le}
use lib.ListN.{length}
use lib.Dec.{eqb}
use borrow.Author.Tests.{eq-eqb, eqb-true, lt-ltb, ltb-true}
use Rattle.rules.specs.Limits.{Limits, ram_size}
use Rattle.rules.specs.Format.{Format}
use Rattle.rules.specs.Repeat.{best_below}
use Rattle.rules.specs.Reason.{E_OK, first_reason, ◌then◌, reasons_named}
use Rattle.rules.specs.Head.{identifier_in}
use Rattle.rules.specs.Core.{Core, controller_at, owner_at, mailbox_at, in_use}
use Rattle.rules.specs.State.{State}
use Rattle.rules.specs.Outcome.{Outcome, Answer, sends_next, ram_gate, lifted}
use Rattle.rules.specs.Events as events
use Rattle.rules.specs.Events.{has_unsent, competes, next_object, next_to_send_checks}
use Rattle.rules.specs.Polls.{object_in}
use Rattle.rules.specs.Calls.{next_to_send}
use Rattle.rules.specs.Can.{can_format, is_extended, base_identifier, lower_identifier, arbitration_key}
use Rattle.laws.specs.NextRule.{NextAsked, AskedRule, Waits, NoneRule, NextFirst, ranks_before, RankRule, GoesBefore, lower_base, standard, lower_bits, both_standard, both_extended, goes_before, CanNextRule, Unchanged, UnchangedRule}
use Rattle.laws.proofs.Tests.{both, left, right, clash, decide, cond_both, cond_same, not_true, not_false}
use Rattle.laws.proofs.Choice.{choice_tells, choice_must, best_first, first_best}
use Rattle.laws.proofs.Reasons.{then_first, then_second, check_passed, judged_cases, judged_either, judged_accepts, rejected_code}
use Rattle.laws.proofs.Acceptance.{ram_gate_passed}

-- Who waits

module _ (core : Core) (c : ℕ) where
  waits : (h : ℕ) → h < core.object_count → competes core c h ≡ true → Waits core c h
  waits h l t =
      let m = mailbox_at core.mailboxes h in
      let own = eqb (owner_at core.owners h).controller c in
      let unsent = right own (has_unsent m) t in
      record {
        in_use = l;
        own = eqb-true (owner_at core.owners h).controller c (left own (has_unsent m) t);
        occupied = left m.tx_pending (not m.tx_done) unsent;
        not_gone = not_true m.tx_done (right m.tx_pending (not m.tx_done) unsent);
      }

  waits_competes : (h : ℕ) → Waits core c h → competes core c h ≡ true
  waits_competes h w = both (eq-eqb (owner_at core.owners h).controller c w.own) (both w.occupied (rw w.not_gone))

module _ (L : Limits) (F : Format) (s : State F) (ram : List ℕ) (c : ℕ) where
  abbrev rank : ℕ → ℕ
  rank h = F.priority (object_in L.object_size ram h)

  abbrev gate : ℕ
  gate = ram_gate L F s ram

  abbrev own : ℕ
  own = first_reason (next_to_send_checks s.core c)

  -- Accepted exactly if none of 41, 33, 5 and 4 applies

  asked : (gate then own) ≡ 0 → NextAsked L F s ram c
  unfolding reasons_named
  asked r =
      let passed = ram_gate_passed L F s ram (then_first gate own r) in
      let checks = next_to_send_checks s.core c in
      let found = then_second gate own r in
      record {
        sound = passed.0;
        ram_whole = passed.1;
        initialised = not_false s.core.initialised (check_passed 0 checks refl found);
        configured = ltb-true c s.core.controller_count (not_false (in_use s.core c) (check_passed 1 checks refl found));
      }

  no_reason : NextAsked L F s ram c → (gate then own) ≡ 0
  unfolding ram_gate first_reason
  no_reason a = rw (a.sound, eq-eqb (length ram) (ram_size L) a.ram_whole, a.initialised, lt-ltb c s.core.controller_count a.configured)

  asked_exactly : ((next_to_send L F s ram c).code ≡ E_OK) ↔ NextAsked L F s ram c
  unfolding next_to_send events.next_to_send
  asked_exactly = (only, every)
    where
      only : (next_to_send L F s ram c).code ≡ E_OK → NextAsked L F s ram c
      only = judged_cases (λ (o : Outcome Core). o.code ≡ E_OK → NextAsked L F s ram c) (gate then own) _ _
          (λ refused accepted. clash (eq-eqb _ _ accepted) (rejected_code _ refused))
          (λ r accepted. asked r)

      every : NextAsked L F s ram c → (next_to_send L F s ram c).code ≡ E_OK
      every a = ap (λ (o : Outcome Core). o.code) (judged_accepts _ _ _ (no_reason a))

  answered : NextAsked L F s ram c → (next_to_send L F s ram c).answer ≡ sends_next (next_object s.core c rank)
  unfolding next_to_send events.next_to_send
  answered a = ap (λ (o : Outcome Core). o.answer) (judged_accepts _ _ _ (no_reason a))

  unchanged : Unchanged F s ram (next_to_send L F s ram c)
  unfolding next_to_send events.next_to_send
  unchanged =
      judged_either (λ (o : Outcome Core). Unchanged F s ram (lifted s o)) (gate then own) _ _
      (record { state_kept = refl; ram_kept = refl; none_told = refl })
      (λ r. record { state_kept = refl; ram_kept = refl; none_told = refl })

  -- Which object

  abbrev marked : Bool
  marked = (controller_at s.core.controllers c).bus_off

  abbrev best : Option ℕ
  best = best_below s.core.object_count (competes s.core c) rank

  same_next : {o q : Option ℕ} → ◌≡◌ {A = Answer} (sends_next o) (sends_next q) → o ≡ q
  same_next e = cc

  -- the answer is the object chosen, and a marked controller has none
  is_answered : NextAsked L F s ram c → (o : Option ℕ) → ((next_to_send L F s ram c).answer ≡ sends_next o) ↔ (cond marked none best ≡ o)
  unfolding next_object
  is_answered a o = (λ e. same_next (sym (answered a) ∙ e), λ e. answered a ∙ ap sends_next e)

  none_exactly : NextAsked L F s ram c → ((next_to_send L F s ram c).answer ≡ sends_next none) ↔ (((h : ℕ) → Waits s.core c h → ⊥) ⊎ (marked ≡ true))
  none_exactly a = (λ e. only (decide marked) ((is_answered a none).0 e), λ n. (is_answered a none).1 (every n))
    where
      only : (marked ≡ true) ⊎ (marked ≡ false) → cond marked none best ≡ none → ((h : ℕ) → Waits s.core c h → ⊥) ⊎ (marked ≡ true)
      only (inl t) e = inr t
      only (inr t) e = inl (λ h w. clash (waits_competes s.core c h w) (choice_tells _ _ s.core.object_count none (rw t at e) h w.in_use))

      idle : ((h : ℕ) → Waits s.core c h → ⊥) → (h : ℕ) → h < s.core.object_count → competes s.core c h ≡ false
      idle n h l = ⊎_elim (λ t. absurd (n h (waits s.core c h l t))) (λ t. t) (decide (competes s.core c h))

      every : ((h : ℕ) → Waits s.core c h → ⊥) ⊎ (marked ≡ true) → cond marked none best ≡ none
      every (inr t) = rw t
      every (inl n) = rw (choice_must _ rank s.core.object_count none (idle n)) (cond_same marked none)

  rank_exactly : NextAsked L F s ram c → (h : ℕ) → ((next_to_send L F s ram c).answer ≡ sends_next (some h)) ↔ NextFirst s.core (ranks_before rank) c h
  rank_exactly a h = (λ e. only marked refl ((is_answered a (some h)).0 e), λ n. (is_answered a (some h)).1 (every n))
    where
      only : (b : Bool) → marked ≡ b → cond b none best ≡ some h → NextFirst s.core (ranks_before rank) c h
      only true t e = absurd (let z : ◌≡◌ {A = ℕ} 0 1 = cc in omega arith)
      only false t e =
          let b = choice_tells _ rank s.core.object_count (some h) e in
          record {
            on_bus = t;
            waits = waits s.core c h b.below b.fitting;
            first = λ j w. best_first _ rank s.core.object_count h b j w.in_use (waits_competes s.core c j w);
          }

      every : NextFirst s.core (ranks_before rank) c h → cond marked none best ≡ some h
      every n =
          rw n.on_bus
          (choice_must _ rank s.core.object_count (some h)
          (first_best _ rank s.core.object_count h n.waits.in_use (waits_competes s.core c h n.waits) (λ j l t. n.first j (waits s.core c j l t))))

pub asked_rule : (L : Limits) (F : Format) → AskedRule L F
asked_rule = asked_exactly

pub none_rule : (L : Limits) (F : Format) → NoneRule L F
none_rule = none_exactly

pub rank_rule : (L : Limits) (F : Format) → RankRule L F
rank_rule = rank_exactly

pub unchanged_rule : (L : Limits) (F : Format) → UnchangedRule L F
unchanged_rule = unchanged

-- 02's order is the order of the keys

-- an identifier's rank: the lowest key ranks highest
abbrev rank_of : ℕ → ℕ
rank_of x = 2 ^ 30 - 1 - arbitration_key x

-- the bit of a key that says the kind
abbrev kind_bit : ℕ → ℕ
kind_bit x = cond (is_extended x) 1 0

-- the parts of a key have 11, 1 and 18 bits
record Parts (x : ℕ) : Type 0 where
  base_few : base_identifier x < 2 ^ 11
  kind_few : kind_bit x ≤ 1
  lower_few : lower_identifier x < 2 ^ 18

module _ (x : ℕ) where
  parts : Parts x
  parts =
      record {
        base_few = cond_both (λ (n : ℕ). n < 2 ^ 11) (is_extended x) _ _ (λ t. omega arith) (λ t. omega arith);
        kind_few = cond_both (λ (n : ℕ). n ≤ 1) (is_extended x) _ _ (λ t. omega arith) (λ t. omega arith);
        lower_few = cond_both (λ (n : ℕ). n < 2 ^ 18) (is_extended x) _ _ (λ t. omega arith) (λ t. omega arith);
      }

  standard_parts : is_extended x ≡ false → (kind_bit x ≡ 0) × (lower_identifier x ≡ 0)
  standard_parts e = rw e (refl, refl)

  extended_parts : is_extended x ≡ true → (kind_bit x ≡ 1) × (lower_identifier x ≡ x % 2 ^ 18)
  extended_parts e = rw e (refl, refl)

module _ (h x j y : ℕ) where
  ranked : GoesBefore h x j y → (rank_of y < rank_of x) ⊎ ((rank_of y ≡ rank_of x) × (h < j))
  ranked b = go b (parts x) (parts y)
    where
      go : GoesBefore h x j y → Parts x → Parts y → (rank_of y < rank_of x) ⊎ ((rank_of y ≡ rank_of x) × (h < j))
      go (lower_base b) p q = inl (omega arith)
      go (standard b e f) p q = inl (omega (arith, standard_parts x e, extended_parts y f))
      go (lower_bits b e f l) p q = inl (omega (arith, extended_parts x e, extended_parts y f))
      go (both_standard b e f l) p q = inr (omega (arith, standard_parts x e, standard_parts y f))
      go (both_extended b e f same l) p q = inr (omega (arith, extended_parts x e, extended_parts y f))

  ordered : (rank_of y < rank_of x) ⊎ ((rank_of y ≡ rank_of x) × (h < j)) → GoesBefore h x j y
  ordered r = by_base (parts x) (parts y) (⊎_elim (λ (l : rank_of y < rank_of x). omega arith) (λ (e : (rank_of y ≡ rank_of x) × (h < j)). omega arith) r) (dec_lt (base_identifier x) (base_identifier y))
    where
      equals : rank_of y ≡ rank_of x → h < j
      equals same = ⊎_elim (λ (l : rank_of y < rank_of x). absurd (omega arith)) (λ (e : (rank_of y ≡ rank_of x) × (h < j)). e.1) r

      by_kind : Parts x → Parts y → rank_of y ≤ rank_of x → base_identifier x ≡ base_identifier y → (is_extended x ≡ true) ⊎ (is_extended x ≡ false) → (is_extended y ≡ true) ⊎ (is_extended y ≡ false) → GoesBefore h x j y
      by_kind p q le b (inl e) (inl f) =
          let v = extended_parts x e in
          let w = extended_parts y f in
          ⊎_elim (λ (same : x % 2 ^ 18 ≡ y % 2 ^ 18). both_extended b e f same (equals (omega arith))) (λ (less : x % 2 ^ 18 < y % 2 ^ 18). lower_bits b e f less) (eq-or-lt_of_le (omega arith))
      by_kind p q le b (inl e) (inr f) = absurd (omega (arith, extended_parts x e, standard_parts y f))
      by_kind p q le b (inr e) (inl f) = standard b e f
      by_kind p q le b (inr e) (inr f) = both_standard b e f (equals (omega (arith, standard_parts x e, standard_parts y f)))

      by_base : Parts x → Parts y → rank_of y ≤ rank_of x → Dec (base_identifier x < base_identifier y) → GoesBefore h x j y
      by_base p q le (yes l) = lower_base l
      by_base p q le (no l) = by_kind p q le (omega arith) (decide (is_extended x)) (decide (is_extended y))

pub can_next_rule : (L : Limits) → CanNextRule L
can_next_rule L s ram c a h =
    let rule = rank_rule L can_format s ram c a h in
    (λ e. spelled (rule.0 e), λ n. rule.1 (joined n))
  where
    identifier : ℕ → ℕ
    identifier i = identifier_in (object_in L.object_size ram i)

    spelled : NextFirst s.core (ranks_before (λ i. rank_of (identifier i))) c h → NextFirst s.core (goes_before L ram) c h
    spelled n = record { on_bus = n.on_bus; waits = n.waits; first = λ j w d. ordered h (identifier h) j (identifier j) (n.first j w d) }

    joined : NextFirst s.core (goes_before L ram) c h → NextFirst s.core (ranks_before (λ i. rank_of (identifier i))) c h
    joined n = record { on_bus = n.on_bus; waits = n.waits; first = λ j w d. ranked h (identifier h) j (identifier j) (n.first j w d) }
