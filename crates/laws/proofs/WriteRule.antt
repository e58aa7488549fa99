-- Demand 2's write rule, proved: a write is accepted exactly if it fits; and which member of its pool it takes.
use Prim.Native.Nat.{ℕ, ◌<◌}
use mathlib.Core.Path.{◌≡◌, refl, ap, sym, ◌∙◌}
use mathlib.Core.Bool.{Bool, true, false, cond}
use mathlib.Core.List.{List}
use mathlib.Core.Logic.{◌↔◌, ◌⊎◌, inl, inr}
use native.Mathlib.Omega.{arith}
use native.Mathlib.Decide.{dec_lt}
use lib.ListN.{length}
use lib.Dec.{eqb}
use borrow.Author.Tests.{eq-eqb, eqb-true, le-ltb}
use Rattle.rules.specs.Limits.{Limits, sheet_size, ram_size}
use Rattle.rules.specs.Format.{Format}
use Rattle.rules.specs.Reason.{E_OK, OBJECT_BUSY, first_reason, ◌then◌, reasons_named}
use Rattle.rules.specs.Core.{owner_at, mailbox_at, counts_valid, nothing_in_use, in_pool, free_in_pool, free_member}
use Rattle.rules.specs.State.{State, valid}
use Rattle.rules.specs.Outcome.{Outcome, Answer, taken_by, full_gate}
use Rattle.rules.specs.Services.{write_reason}
use Rattle.rules.specs.Calls.{write, frame_reason, settings_of_object}
use Rattle.rules.specs.Can.{can_format, identifier_good, length_fits}
use Rattle.rules.specs.Can.{write_checks as can_checks}
use Rattle.laws.specs.WriteRule.{FreeMember, WriteAllowed, WriteFits, CanWriteFits, LowestFree, WriteRule, CanWriteRule, MemberRule, BusyRule}
use Rattle.laws.proofs.Tests.{both, right, clash, decide, not_true, not_false}
use Rattle.laws.proofs.Reasons.{then_first, then_second, check_passed, judged_cases, judged_accepts, rejected_code}
use Rattle.laws.proofs.Pools.{Named, named, taken_member, lowest_holds, lowest_least}
use Rattle.laws.proofs.Validity.{core_facts, state_core}
use Rattle.laws.proofs.Acceptance.{gate_passed, write_passed}

module _ (L : Limits) (F : Format) (s : State F) (sheet : ℕ) (ram : List ℕ) (h handle : ℕ) (frame : F.Frame) where
  -- an object in use says that the driver is initialised
  initialised : valid L F s ≡ true → h < s.core.object_count → s.core.initialised ≡ true
  initialised sound used = go s.core.initialised (core_facts L s.core (state_core L F s sound)).counts
    where
      go : (b : Bool) → cond b (counts_valid L s.core.controller_count s.core.object_count) (nothing_in_use s.core) ≡ true → b ≡ true
      go true e = refl
      go false e =
          let none_used = eqb-true s.core.object_count 0 (right (eqb s.core.controller_count 0) (eqb s.core.object_count 0) e) in
          absurd (omega arith)

  abbrev gate : ℕ
  gate = full_gate L F s sheet ram

  abbrev own : ℕ
  own = write_reason s.core h (frame_reason L F s h frame)

  -- the member that it would take
  abbrev m : ℕ
  m = free_member s.core h

  -- past the earlier reasons the free member decides
  by_member : WriteAllowed L F s sheet ram h frame → (gate then own) ≡ cond (mailbox_at s.core.mailboxes m).tx_pending OBJECT_BUSY 0
  unfolding full_gate first_reason
  by_member w =
      rw (
        w.sound,
        le-ltb sheet (sheet_size L) w.sheet_holds,
        eq-eqb (length ram) (ram_size L) w.ram_whole,
        initialised w.sound (named s.core h w.pool_named).in_use,
        w.pool_named,
        w.frame_fits,
        w.started,
      )
      (decided (mailbox_at s.core.mailboxes m).tx_pending)
    where
      decided : (b : Bool) → cond b OBJECT_BUSY 0 ≡ cond b OBJECT_BUSY 0
      decided b = refl

  -- a free member, and then the one that is taken is free
  pub some_free : (i : ℕ) → FreeMember s.core h i → (mailbox_at s.core.mailboxes m).tx_pending ≡ false
  some_free i f =
      let holds = lowest_holds s.core.object_count (free_in_pool s.core h) h i f.in_use (both f.pooled (rw f.free)) in
      not_true (mailbox_at s.core.mailboxes m).tx_pending (right (in_pool s.core.owners (owner_at s.core.owners h).pool m) _ holds)

  member_free : Named s.core h → (mailbox_at s.core.mailboxes m).tx_pending ≡ false → FreeMember s.core h m
  member_free n free = let p = taken_member s.core h n in record { in_use = p.in_use; pooled = p.pooled; free = free }

  no_reason : WriteFits L F s sheet ram h frame → (gate then own) ≡ 0
  no_reason w = by_member w.allowed ∙ rw (some_free w.member w.free)

  -- what an accepted write tells
  fits : (gate then own) ≡ 0 → WriteFits L F s sheet ram h frame
  fits r =
      let g = gate_passed L F s sheet ram (then_first gate own r) in
      let w = write_passed s.core h (frame_reason L F s h frame) (then_second gate own r) in
      record {
        allowed =
            record {
              sound = g.sound;
              sheet_holds = g.sheet_holds;
              ram_whole = g.ram_whole;
              frame_fits = w.frame_fits;
              pool_named = w.pool_named;
              started = w.started;
            };
        member = m;
        free = member_free (named s.core h w.pool_named) w.free;
      }

  -- accepted exactly if it fits
  fits_exactly : ((write L F s sheet ram h handle frame).code ≡ E_OK) ↔ WriteFits L F s sheet ram h frame
  unfolding write
  fits_exactly = (only, every)
    where
      only : (write L F s sheet ram h handle frame).code ≡ E_OK → WriteFits L F s sheet ram h frame
      only = judged_cases (λ (o : Outcome (State F)). o.code ≡ E_OK → WriteFits L F s sheet ram h frame) (gate then own) _ _
          (λ refused accepted. clash (eq-eqb _ _ accepted) (rejected_code _ refused))
          (λ r accepted. fits r)

      every : WriteFits L F s sheet ram h frame → (write L F s sheet ram h handle frame).code ≡ E_OK
      every w = ap (λ (o : Outcome (State F)). o.code) (judged_accepts _ _ _ (no_reason w))

  -- the member that is taken is the lowest free one, and no other is
  lowest_free : WriteFits L F s sheet ram h frame → LowestFree s.core h m
  lowest_free w =
      let n = named s.core h w.allowed.pool_named in
      record {
        free = member_free n (some_free w.member w.free);
        lowest = λ j below f.
            let p = taken_member s.core h n in
            clash (both f.pooled (rw f.free)) (lowest_least s.core.object_count (free_in_pool s.core h) h j f.in_use below);
      }

  one_lowest_free : (i j : ℕ) → LowestFree s.core h i → LowestFree s.core h j → i ≡ j
  one_lowest_free i j a b = go (dec_lt i j) (dec_lt j i)
    where
      go : Dec (i < j) → Dec (j < i) → i ≡ j
      go (yes l) r = absurd (b.lowest i l a.free)
      go (no l) (yes r) = absurd (a.lowest j r b.free)
      go (no l) (no r) = omega arith

  member_exactly : (write L F s sheet ram h handle frame).code ≡ E_OK → (i : ℕ) → ((write L F s sheet ram h handle frame).answer ≡ taken_by i) ↔ LowestFree s.core h i
  unfolding write
  member_exactly accepted i =
      let w = fits_exactly.0 accepted in
      let answered : (write L F s sheet ram h handle frame).answer ≡ taken_by m = ap (λ (o : Outcome (State F)). o.answer) (judged_accepts _ _ _ (no_reason w)) in
      (λ e. rw (taken_same (sym e ∙ answered)) (lowest_free w), λ l. answered ∙ ap taken_by (one_lowest_free m i (lowest_free w) l))
    where
      taken_same : {a b : ℕ} → ◌≡◌ {A = Answer} (taken_by a) (taken_by b) → a ≡ b
      taken_same e = cc

  busy_exactly : WriteAllowed L F s sheet ram h frame → ((write L F s sheet ram h handle frame).reason ≡ OBJECT_BUSY) ↔ ((i : ℕ) → FreeMember s.core h i → ⊥)
  unfolding write
  busy_exactly w = (only, every)
    where
      n : Named s.core h
      n = named s.core h w.pool_named

      reason_is : (write L F s sheet ram h handle frame).reason ≡ (gate then own)
      reason_is = judged_cases (λ (o : Outcome (State F)). o.reason ≡ (gate then own)) (gate then own) _ _ (λ refused. refl) (λ r. sym r)

      only : (write L F s sheet ram h handle frame).reason ≡ OBJECT_BUSY → (i : ℕ) → FreeMember s.core h i → ⊥
      only e i f =
          let found : (gate then own) ≡ 0 = by_member w ∙ rw (some_free i f) in
          let busy : OBJECT_BUSY ≡ 0 = sym e ∙ reason_is ∙ found in
          omega arith

      every : ((i : ℕ) → FreeMember s.core h i → ⊥) → (write L F s sheet ram h handle frame).reason ≡ OBJECT_BUSY
      every none_free = reason_is ∙ by_member w ∙ rw occupied
        where
          go : ((mailbox_at s.core.mailboxes m).tx_pending ≡ true) ⊎ ((mailbox_at s.core.mailboxes m).tx_pending ≡ false) → (mailbox_at s.core.mailboxes m).tx_pending ≡ true
          go (inl t) = t
          go (inr t) = absurd (none_free m (member_free n t))

          occupied : (mailbox_at s.core.mailboxes m).tx_pending ≡ true
          occupied = go (decide (mailbox_at s.core.mailboxes m).tx_pending)

pub write_rule : (L : Limits) (F : Format) → WriteRule L F
write_rule = fits_exactly

pub member_rule : (L : Limits) (F : Format) → MemberRule L F
member_rule = member_exactly

pub busy_rule : (L : Limits) (F : Format) → BusyRule L F
busy_rule = busy_exactly

-- the same for classic and FD frames, in the words of the demand
pub can_write_rule : (L : Limits) → CanWriteRule L
unfolding first_reason reasons_named
can_write_rule L s sheet ram h handle frame =
    let rule = write_rule L can_format s sheet ram h handle frame in
    (λ accepted. spelled (rule.0 accepted), λ w. rule.1 (joined w))
  where
    spelled : WriteFits L can_format s sheet ram h frame → CanWriteFits L s sheet ram h frame
    spelled w =
        let checks = can_checks (settings_of_object L can_format s h) frame in
        record {
          sound = w.allowed.sound;
          sheet_holds = w.allowed.sheet_holds;
          ram_whole = w.allowed.ram_whole;
          good_identifier = not_false (identifier_good frame.identifier) (check_passed 1 checks refl w.allowed.frame_fits);
          length_carried = not_false (length_fits (settings_of_object L can_format s h).payload frame.identifier (length frame.sdu)) (check_passed 0 checks refl w.allowed.frame_fits);
          pool_named = w.allowed.pool_named;
          started = w.allowed.started;
          member = w.member;
          free = w.free;
        }

    joined : CanWriteFits L s sheet ram h frame → WriteFits L can_format s sheet ram h frame
    joined w =
        record {
          allowed =
              record {
                sound = w.sound;
                sheet_holds = w.sheet_holds;
                ram_whole = w.ram_whole;
                frame_fits = rw (w.length_carried, w.good_identifier);
                pool_named = w.pool_named;
                started = w.started;
              };
          member = w.member;
          free = w.free;
        }
