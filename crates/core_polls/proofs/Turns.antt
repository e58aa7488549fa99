-- One controller's turn, and a sweep over the controllers that goes on.
use Prim.Native.Nat.{ℕ, zero, suc, ◌+◌, ◌*◌, ◌≤◌, ◌<◌}
use mathlib.Core.Path.{◌≡◌, refl, ap, sym, ◌∙◌}
use mathlib.Core.Bool.{Bool, true, false, cond}
use mathlib.Core.List.{List, ◌++◌, append_assoc, append-nil}
use native.Mathlib.Omega.{arith}
use native.Mathlib.Numerals.{add-one}
use lib.ListN.{length, length-append}
use Rattle.rules.specs.Repeat.{rising}
use Rattle.rules.specs.Notification.{Notification, all_words}
use Rattle.rules.specs.Core.{Controller, Mailbox, Core, controller_at, mailbox_at}
use Rattle.rules.specs.Polls.{Boxes, Sweep, Visit, Turn, notify, visit_one, visit_all, closing, turn_one, turn_all, sweep_of}
use Rattle.laws.proofs.Splices.{splice_nil, splice_then}
use Rattle.laws.proofs.Sheets.{length_all_words, all_words_append}
use Rattle.laws.proofs.Bounds.{busy_count, mailbox_busy, closing_frees, count_limit, sweep_load}
use Rattle.core_layout.specs.Sheet.{words_each}
use Rattle.core_sweeps.specs.Swept.{Swept, boxes_from}
use Rattle.core_polls.specs.Swept.{SweptAll, closed_if, turn_told}
use Rattle.core_sweeps.proofs.Visits.{swept_none, swept_room}

-- what is told when a controller's objects are closed was busy before
pub closed_room : (leaves : Bool) (size : ℕ) (core : Core) (ram : List ℕ) (c : ℕ) (start : List Mailbox) {from told : ℕ} {ms : List Mailbox} {before sheet : List ℕ}
    → Swept (closed_if leaves size core ram c (boxes_from start)) from before sheet ms told → told ≤ from + busy_count core.object_count start
closed_room true size core ram c start s =
    let count = core.object_count in
    let same = swept_room (closing size core.owners ram c) (closing_frees size core.owners ram c) count count (omega arith) start s in omega arith
closed_room false size core ram c start s = let told = s.told_is in omega arith

-- a controller that stays on the bus has nothing closed
pub closed_none : (leaves : Bool) (size : ℕ) (core : Core) (ram : List ℕ) (c from : ℕ) (before : List ℕ) → leaves ≡ false
    → Swept (closed_if leaves size core ram c (boxes_from core.mailboxes)) from before before core.mailboxes from
closed_none leaves size core ram c from before stays = rw stays (swept_none from before core.mailboxes)

-- a sweep that has not begun
pub swept_nothing : (core : Core) (from : ℕ) (before : List ℕ) → SweptAll core (sweep_of core) from before before core from
unfolding all_words
swept_nothing core from before = record { core_is = refl; told_is = omega arith; sheet_is = sym (splice_nil (words_each * from) before) }

-- a controller whose turn is not due
pub turned_not : (t : Turn) (size : ℕ) (core : Core) (ram : List ℕ) (c from : ℕ) (before : List ℕ) → t.due (controller_at core.controllers c) ≡ false
    → SweptAll core (turn_one size t core ram c (sweep_of core)) from before before core from
turned_not t size core ram c from before due = rw due (swept_nothing core from before)

-- Sweeping on from notifications that were told before.
abbrev behind : List Notification → Boxes → Boxes
behind ns b = record { mailboxes = b.mailboxes; notifications = ns ++ b.notifications }

abbrev sweep_behind : List Notification → Sweep → Sweep
sweep_behind ns w = record { controllers = w.controllers; boxes = behind ns w.boxes }

behind_cond : (ns : List Notification) (t : Bool) (x y : Boxes) → cond t (behind ns x) (behind ns y) ≡ behind ns (cond t x y)
behind_cond ns true x y = refl
behind_cond ns false x y = refl

sweep_cond : (ns : List Notification) (t : Bool) (x y : Sweep) → cond t (sweep_behind ns x) (sweep_behind ns y) ≡ sweep_behind ns (cond t x y)
sweep_cond ns true x y = refl
sweep_cond ns false x y = refl

visit_behind : (v : Visit) (h : ℕ) (ns : List Notification) (b : Boxes) → visit_one v h (behind ns b) ≡ behind ns (visit_one v h b)
visit_behind v h ns b = rw (append_assoc ns b.notifications) (behind_cond ns (v.due h (mailbox_at b.mailboxes h)) _ b)

visits_behind : (v : Visit) (n : ℕ) (ns : List Notification) (b : Boxes) → visit_all v n (behind ns b) ≡ behind ns (visit_all v n b)
unfolding visit_all rising
visits_behind v zero ns b = refl
visits_behind v (suc n) ns b = rw (visits_behind v n ns b) (visit_behind v n ns (rising n (visit_one v) b))

module _ (t : Turn) (size : ℕ) (core : Core) (ram : List ℕ) (c : ℕ) (ns : List Notification) where
  told_behind : (k : Controller) (b : Boxes) → turn_told t size core ram c k (behind ns b) ≡ behind ns (turn_told t size core ram c k b)
  told_behind k b =
      ap (λ (x : Boxes). notify (t.note c k) (cond (t.leaves k) x (behind ns b))) (visits_behind (closing size core.owners ram c) core.object_count ns b)
      ∙ ap (notify (t.note c k)) (behind_cond ns (t.leaves k) (visit_all (closing size core.owners ram c) core.object_count b) b)
      ∙ rw (append_assoc ns)

  turn_behind : (w : Sweep) → turn_one size t core ram c (sweep_behind ns w) ≡ sweep_behind ns (turn_one size t core ram c w)
  turn_behind w =
      let k = controller_at w.controllers c in
      rw (told_behind k w.boxes) (sweep_cond ns (t.due k) _ w)

-- what comes after told notifications is written right behind them
swept_then : {core core₁ core₂ : Core} {w₁ w₂ : Sweep} {from told₁ told₂ : ℕ} {before sheet after : List ℕ}
    → SweptAll core w₁ from before sheet core₁ told₁ → SweptAll core₁ w₂ told₁ sheet after core₂ told₂ → words_each * told₁ ≤ length before
    → SweptAll core (sweep_behind w₁.boxes.notifications w₂) from before after core₂ told₂
swept_then {core} {core₁} {core₂} {w₁} {w₂} {from} {told₁} {told₂} {before} {sheet} {after} s t room =
    let ns₁ = w₁.boxes.notifications in
    let ns₂ = w₂.boxes.notifications in
    let at : words_each * told₁ ≡ words_each * from + length (all_words ns₁) = omega (arith, s.told_is, length_all_words ns₁) in
    record {
      core_is = t.core_is ∙ rw s.core_is;
      told_is = t.told_is ∙ rw (length-append ns₁ ns₂, s.told_is) (omega arith);
      sheet_is = splice_then (words_each * from) (words_each * told₁) (all_words ns₁) (all_words ns₂) before s.sheet_is t.sheet_is at room ∙ rw (all_words_append ns₁ ns₂);
    }

-- one more controller has its turn
module _ (t : Turn) (size : ℕ) (core : Core) (ram : List ℕ) where
  turned_more : {w : Sweep} {core₁ core₂ : Core} {before sheet after : List ℕ} {from told told₁ : ℕ} (c : ℕ) → SweptAll core w from before sheet core₁ told → words_each * told ≤ length before
      → SweptAll core₁ (turn_one size t core₁ ram c (sweep_of core₁)) told sheet after core₂ told₁ → SweptAll core (turn_one size t core ram c w) from before after core₂ told₁
  turned_more {w} {core₁} {core₂} {before} {sheet} {after} {from} {told} {told₁} c s room u =
      let ns = w.boxes.notifications in
      let start : Sweep = record { controllers = w.controllers; boxes = boxes_from w.boxes.mailboxes } in
      let same : sweep_behind ns start ≡ w = rw (append-nil ns) in
      let turned : SweptAll core (sweep_behind ns (turn_one size t core ram c start)) from before after core₂ told₁ = rw s.core_is at (swept_then s u room) in
      rw (← same, turn_behind t size core ram c ns start) turned

-- A loop over the controllers: those below c have had their turn.
pub record Turning (t : Turn) (size : ℕ) (ram : List ℕ) (start : Core) (before : List ℕ) (core : Core) (sheet : List ℕ) (told c : ℕ) : Type 0 where
  pub within : c ≤ start.controller_count
  pub same_sheet : length sheet ≡ length before
  pub swept : SweptAll start (rising c (turn_one size t start ram) (sweep_of start)) 0 before sheet core told

pub turns_begin : (t : Turn) (size : ℕ) (ram : List ℕ) (core : Core) (before : List ℕ) → Turning t size ram core before core before 0 0
unfolding rising
turns_begin t size ram core before = record { within = omega arith; same_sheet = refl; swept = swept_nothing core 0 before }

module _ {t : Turn} {size : ℕ} {ram : List ℕ} {start : Core} {before : List ℕ} {core : Core} {sheet : List ℕ} {told c : ℕ} (s : Turning t size ram start before core sheet told c)
    (enough : words_each * (start.controller_count + start.object_count) ≤ length before) where
  -- what was told and what is still busy leave room for the controllers to come
  pub turn_room : told + busy_count core.object_count core.mailboxes ≤ c + start.object_count
  turn_room =
      let grown = sweep_load size t start ram c (sweep_of start) in
      let most = count_limit start.object_count (λ h. mailbox_busy (mailbox_at start.mailboxes h)) in
      rw (s.swept.told_is, s.swept.core_is) (omega arith)

  pub turn_count : core.object_count ≡ start.object_count
  turn_count = ap (λ (x : Core). x.object_count) s.swept.core_is

  pub turns_go_on : c < start.controller_count → {next : Core} {sheet₁ : List ℕ} {told₁ : ℕ} → SweptAll core (turn_one size t core ram c (sweep_of core)) told sheet sheet₁ next told₁
      → length sheet₁ ≡ length sheet → Turning t size ram start before next sheet₁ told₁ (c + 1)
  unfolding rising
  turns_go_on l turned es =
      record {
        within = omega arith;
        same_sheet = es ∙ s.same_sheet;
        swept = let room = turn_room in rw add-one (turned_more t size start ram c s.swept (omega arith) turned);
      }

  pub turns_end : start.controller_count ≤ c → SweptAll start (turn_all size t start ram) 0 before sheet core told
  unfolding turn_all
  turns_end l = let all : c ≡ start.controller_count = let w = s.within in omega arith in rw all at s.swept
