-- One object's visit, and a sweep over the objects that goes on.
use Prim.Native.Nat.{ℕ, ◌+◌, ◌*◌, ◌≤◌, ◌<◌}
use mathlib.Core.Path.{◌≡◌, refl, sym, ◌∙◌}
use mathlib.Core.Bool.{Bool, true, false, cond}
use mathlib.Core.List.{List, [], ◌∷◌, ◌++◌}
use mathlib.Core.Logic.{◌⊎◌, inl, inr}
use native.Mathlib.Omega.{arith}
use native.Mathlib.Numerals.{add-one}
use native.Mathlib.Nat.{mul-le-mul_left, mul-suc}
use lib.ListN.{length, set}
use Rattle.rules.specs.Repeat.{rising}
use Rattle.rules.specs.Notification.{Notification, words, all_words}
use Rattle.rules.specs.Core.{Owner, Mailbox, empty_mailbox, mailbox_at}
use Rattle.rules.specs.Polls.{Boxes, Visit, notify, visit_one, visit_all}
use Rattle.laws.proofs.Tests.{decide}
use Rattle.laws.proofs.Splices.{splice_nil, splice_then, length_splice}
use Rattle.laws.proofs.Sheets.{length_all_words, all_words_one, all_words_append}
use Rattle.laws.proofs.Bounds.{mailbox_busy, busy_count, busy_freed, Frees, confirmation_frees, indication_frees, closing_frees, load, visits_load, length-snoc}
use Rattle.core_layout.specs.Head.{length_bytes}
use Rattle.core_layout.specs.Sheet.{words_each}
use Rattle.core_sweeps.specs.declared.visit.Visit as declared
use Rattle.core_sweeps.specs.declared.visit.Visit.TheVariants.{Sent, Received, Occupied}
use Rattle.core_sweeps.specs.Visits.{visit_of}
use Rattle.core_sweeps.specs.Swept.{Told, Freed, Visited, Swept, boxes_from}

-- every visit of a poll frees only what is busy
pub visit_frees : (visit : declared.Visit) (size : ℕ) (two : Bool) (owners : List Owner) (ram : List ℕ) → Frees (visit_of visit size two owners ram)
visit_frees Sent size two owners ram = confirmation_frees size ram
visit_frees Received size two owners ram = indication_frees size (length_bytes two) ram
visit_frees (Occupied c) size two owners ram = closing_frees size owners ram c

module _ {told : ℕ} {before : List ℕ} where
  pub visited_freed : (v : Visit) (h : ℕ) (ms : List Mailbox) {n : Notification} {next : List Mailbox} {after : List ℕ} {count : ℕ}
      → Freed n h ms next told before after count → n ≡ v.note h (mailbox_at ms h) → v.due h (mailbox_at ms h) ≡ true → Visited v h ms next told before after count
  visited_freed v h ms f e due =
      let t = rw e at f.told_of in
      record { mailboxes_are = rw due f.mailboxes_are; count_is = rw due t.count_is; sheet_is = rw due t.sheet_is }

  pub visited_not : (v : Visit) (h : ℕ) (ms : List Mailbox) → v.due h (mailbox_at ms h) ≡ false → Visited v h ms ms told before before told
  visited_not v h ms due = record { mailboxes_are = rw due; count_is = rw due; sheet_is = rw due }

module _ (from : ℕ) (before : List ℕ) where
  pub swept_none : (ms : List Mailbox) → Swept (boxes_from ms) from before before ms from
  unfolding all_words
  swept_none ms = record { mailboxes_are = refl; told_is = omega arith; sheet_is = sym (splice_nil (words_each * from) before) }

  module _ {b : Boxes} {sheet : List ℕ} {ms : List Mailbox} {told : ℕ} (s : Swept b from before sheet ms told) where
    -- n is told, with no object freed
    pub swept_told : (n : Notification) {next : List ℕ} {count : ℕ} → Told n told sheet next count → words_each * told ≤ length before → Swept (notify n b) from before next ms count
    swept_told n t room =
        let at : words_each * told ≡ words_each * from + length (all_words b.notifications) = omega (arith, s.told_is, length_all_words b.notifications) in
        record {
          mailboxes_are = s.mailboxes_are;
          told_is = t.count_is ∙ rw (length-snoc b.notifications n, s.told_is) (omega arith);
          sheet_is =
              splice_then (words_each * from) (words_each * told) (all_words b.notifications) (words n) before s.sheet_is t.sheet_is at room
              ∙ rw (all_words_append b.notifications (n ∷ []), all_words_one n);
        }

    -- one more object is visited
    pub swept_more : (v : Visit) (h : ℕ) {next : List Mailbox} {after : List ℕ} {count : ℕ} → Visited v h ms next told sheet after count
        → (v.due h (mailbox_at ms h) ≡ true → words_each * told ≤ length before) → Swept (visit_one v h b) from before after next count
    swept_more v h {next} {after} {count} x room = rw (← s.mailboxes_are) (go (decide (v.due h (mailbox_at ms h))))
      where
        go : (v.due h (mailbox_at ms h) ≡ true) ⊎ (v.due h (mailbox_at ms h) ≡ false)
            → Swept (cond (v.due h (mailbox_at ms h)) (record { mailboxes = set ms h empty_mailbox; notifications = b.notifications ++ (v.note h (mailbox_at ms h) ∷ []) }) (record { mailboxes = ms; notifications = b.notifications })) from before after next count
        go (inl e) =
            let more = swept_told (v.note h (mailbox_at ms h)) (record { count_is = rw e at x.count_is; sheet_is = rw e at x.sheet_is }) (room e) in
            rw e (record { mailboxes_are = rw e at x.mailboxes_are; told_is = more.told_is; sheet_is = more.sheet_is })
        go (inr e) =
            rw e (record {
              mailboxes_are = rw e at x.mailboxes_are;
              told_is = (rw e at x.count_is) ∙ s.told_is;
              sheet_is = (rw e at x.sheet_is) ∙ s.sheet_is;
            })

-- an object ends where the next begins
pub object_within : (size h count : ℕ) (ram : List ℕ) → h < count → size * count ≤ length ram → size * h + size ≤ length ram
object_within size h count ram l fits = let ends = rw (mul-suc size h) at (mul-le-mul_left size l) in omega arith

-- where mailbox h is busy, some is
pub busy_some : (count : ℕ) (ms : List Mailbox) (h : ℕ) → h < count → mailbox_busy (mailbox_at ms h) ≡ true → 1 ≤ busy_count count ms
busy_some count ms h l e = let fewer = busy_freed count ms h l e in omega arith

-- what is told and what is busy stay within what was
pub swept_room : (v : Visit) → Frees v → (count h : ℕ) → h ≤ count → (start : List Mailbox) {from told : ℕ} {ms : List Mailbox} {before sheet : List ℕ}
    → Swept (visit_all v h (boxes_from start)) from before sheet ms told → told + busy_count count ms ≡ from + busy_count count start
swept_room v frees count h within start {from} {told} {ms} s =
    let same : load count (visit_all v h (boxes_from start)) ≡ load count (boxes_from start) = visits_load count v frees h (boxes_from start) within in
    rw (s.told_is, s.mailboxes_are) (omega (arith, same))

-- the sheet keeps its length
pub swept_length : {b : Boxes} {from told : ℕ} {before sheet : List ℕ} {ms : List Mailbox} → Swept b from before sheet ms told → words_each * told ≤ length before → length sheet ≡ length before
swept_length {b} {from} {told} {before} {sheet} s room =
    rw s.sheet_is (length_splice (words_each * from) (all_words b.notifications) before (omega (arith, s.told_is, length_all_words b.notifications)))

-- A loop over the objects: those below h are visited, behind the notifications told before.
pub record Sweeping (v : Visit) (count from : ℕ) (start : List Mailbox) (before : List ℕ) (ms : List Mailbox) (sheet : List ℕ) (told h : ℕ) : Type 0 where
  pub within : h ≤ count
  pub same_sheet : length sheet ≡ length before
  pub swept : Swept (visit_all v h (boxes_from start)) from before sheet ms told

pub sweep_begins : (v : Visit) (count from : ℕ) (ms : List Mailbox) (before : List ℕ) → Sweeping v count from ms before ms before from 0
unfolding rising visit_all
sweep_begins v count from ms before = record { within = omega arith; same_sheet = refl; swept = swept_none from before ms }

module _ {v : Visit} (frees : Frees v) {count from : ℕ} {start : List Mailbox} {before : List ℕ} {ms : List Mailbox} {sheet : List ℕ} {told h : ℕ}
    (s : Sweeping v count from start before ms sheet told h) (enough : words_each * (from + busy_count count start) ≤ length before) where
  -- what was told and what is still busy have room
  pub sweep_room : words_each * (told + busy_count count ms) ≤ length before
  sweep_room = let same = swept_room v frees count h s.within start s.swept in rw same enough

  pub busy_room : h < count → mailbox_busy (mailbox_at ms h) ≡ true → words_each * told + words_each ≤ length sheet
  busy_room l busy = let some = busy_some count ms h l busy in let room = sweep_room in rw s.same_sheet (omega arith)

  pub sweep_goes_on : h < count → {ms₁ : List Mailbox} {sheet₁ : List ℕ} {told₁ : ℕ} → Visited v h ms ms₁ told sheet sheet₁ told₁ → length sheet₁ ≡ length sheet
      → Sweeping v count from start before ms₁ sheet₁ told₁ (h + 1)
  unfolding visit_all rising
  sweep_goes_on l visited es =
      record {
        within = omega arith;
        same_sheet = es ∙ s.same_sheet;
        swept = rw add-one (swept_more from before s.swept v h visited (λ due. let room = sweep_room in omega arith));
      }
