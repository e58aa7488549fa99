-- "No call writes more than 36 records": the bound, once for any limits.
-- Each visit takes one busy mailbox away, so notifications and busy mailboxes together grow only by a controller's own record.
use Prim.Native.Nat.{ℕ, zero, suc, ◌+◌, ◌≤◌, ◌<◌}
use mathlib.Core.Path.{◌≡◌, refl, ap, ◌∙◌}
use mathlib.Core.Bool.{Bool, true, false, cond, ◌||◌, or-true}
use mathlib.Core.List.{List, [], ◌∷◌, ◌++◌}
use mathlib.Core.Logic.{⊎_elim}
use native.Mathlib.Omega.{arith}
use lib.ListN.{length, set, length-append}
use lib.Seq.{get_or-set_other}
use lib.Dec.{eqb}
use Rattle.rules.specs.Repeat.{rising}
use Rattle.rules.specs.Core.{Owner, Mailbox, Core, empty_mailbox, owner_at, mailbox_at, controller_at}
use Rattle.rules.specs.Notification.{Notification}
use Rattle.rules.specs.Polls.{Boxes, Sweep, Visit, Turn, notify, visit_one, visit_all, confirmation, indication, closing, turn_one, turn_all, sweep_of}
use Rattle.laws.proofs.Tests.{cond_both, right}
use Rattle.laws.proofs.Repeat.{rising_keeps, last_or_below}
use Rattle.laws.proofs.Sweeps.{set_default}

-- how many numbers below n pass the test
unfoldable pub count_below : ℕ → (ℕ → Bool) → ℕ
count_below zero p = 0
count_below (suc n) p = count_below n p + cond (p n) 1 0

pub count_limit : (n : ℕ) (p : ℕ → Bool) → count_below n p ≤ n
unfolding count_below
count_limit zero p = omega arith
count_limit (suc n) p =
    let h = count_limit n p in
    cond_both (λ (b : ℕ). count_below n p + b ≤ suc n) (p n) 1 0 (λ e. omega arith) (λ e. omega arith)

pub count_same : (n : ℕ) (p q : ℕ → Bool) → ((i : ℕ) → i < n → q i ≡ p i) → count_below n q ≡ count_below n p
unfolding count_below
count_same zero p q same = refl
count_same (suc n) p q same = rw (count_same n p q (λ i l. same i (omega arith)), same n (omega arith))

-- one number fewer passes
pub count_drop : (n : ℕ) (p q : ℕ → Bool) (h : ℕ) → h < n → p h ≡ true → q h ≡ false → ((i : ℕ) → (i ≡ h → ⊥) → q i ≡ p i) → suc (count_below n q) ≡ count_below n p
unfolding count_below
count_drop zero p q h l ph qh same = absurd (omega arith)
count_drop (suc n) p q h l ph qh same =
    ⊎_elim
    (λ (e : h ≡ n). let earlier = count_same n p q (λ i k. same i (λ z. omega arith)) in
    let pn : p n ≡ true = rw e at ph in
    let qn : q n ≡ false = rw e at qh in
    rw (pn, qn, earlier) (omega arith))
    (λ (k : h < n). let earlier = count_drop n p q h k ph qh same in rw (same n (λ z. omega arith)) (omega (arith, earlier)))
    (last_or_below n h l)

-- a frame waits in the mailbox, or its confirmation is due: nothing else is ever told of or freed
abbrev pub mailbox_busy : Mailbox → Bool
mailbox_busy m = m.tx_pending || m.tx_done || m.rx_full

-- how many of the first n mailboxes are busy
abbrev pub busy_count : ℕ → List Mailbox → ℕ
busy_count n ms = count_below n (λ h. mailbox_busy (mailbox_at ms h))

pub busy_freed : (n : ℕ) (ms : List Mailbox) (h : ℕ) → h < n → mailbox_busy (mailbox_at ms h) ≡ true → suc (busy_count n (set ms h empty_mailbox)) ≡ busy_count n ms
busy_freed n ms h l p =
    count_drop n (λ i. mailbox_busy (mailbox_at ms i)) (λ i. mailbox_busy (mailbox_at (set ms h empty_mailbox) i)) h l p
    (ap mailbox_busy (set_default ms h empty_mailbox))
    (λ i d. ap mailbox_busy (get_or-set_other ms h i empty_mailbox empty_mailbox d))

-- one notification more
pub length-snoc : {A : Type 0} (xs : List A) (x : A) → length (xs ++ (x ∷ [])) ≡ suc (length xs)
length-snoc xs x = rw (length-append xs (x ∷ [])) (omega arith)

-- a visit tells of each object at most once
pub visited_bounded : (v : Visit) (n : ℕ) (b : Boxes) → length (visit_all v n b).notifications ≤ n + length b.notifications
unfolding visit_all rising
visited_bounded v zero b = omega arith
visited_bounded v (suc n) b =
    let earlier = visited_bounded v n b in
    let sofar = rising n (visit_one v) b in
    cond_both (λ (x : Boxes). length x.notifications ≤ suc n + length b.notifications) (v.due n (mailbox_at sofar.mailboxes n)) _ sofar
    (λ t. rw (length-snoc sofar.notifications _) (omega arith))
    (λ t. omega arith)

-- a visit frees only what is busy
abbrev pub Frees : Visit → Type 0
Frees v = (h : ℕ) (m : Mailbox) → v.due h m ≡ true → mailbox_busy m ≡ true

pub confirmation_frees : (size : ℕ) (ram : List ℕ) → Frees (confirmation size ram)
confirmation_frees size ram h m e = rw (e, or-true m.tx_pending)

pub indication_frees : (size length_size : ℕ) (ram : List ℕ) → Frees (indication size length_size ram)
indication_frees size length_size ram h m e = rw (e, or-true (m.tx_pending || m.tx_done))

pub closing_frees : (size : ℕ) (owners : List Owner) (ram : List ℕ) (c : ℕ) → Frees (closing size owners ram c)
closing_frees size owners ram c h m e = rw (right (eqb (owner_at owners h).controller c) m.tx_pending e)

module _ (count : ℕ) where
  -- notifications so far and mailboxes still busy
  abbrev pub load : Boxes → ℕ
  load b = length b.notifications + busy_count count b.mailboxes

  pub visit_load : (v : Visit) → Frees v → (h : ℕ) (b : Boxes) → h < count → load (visit_one v h b) ≡ load b
  visit_load v frees h b l =
      let m = mailbox_at b.mailboxes h in
      cond_both (λ (x : Boxes). load x ≡ load b) (v.due h m) _ b
      (λ t. let fewer = busy_freed count b.mailboxes h l (frees h m t) in
      rw (length-snoc b.notifications _) (omega (arith, fewer)))
      (λ t. refl)

  -- a sweep over some of the objects
  pub visits_load : (v : Visit) → Frees v → (n : ℕ) (b : Boxes) → n ≤ count → load (visit_all v n b) ≡ load b
  unfolding visit_all
  visits_load v frees n b within =
      rising_keeps (λ (x : Boxes). load x ≡ load b) (visit_one v) n (λ h l x e. visit_load v frees h x (omega arith) ∙ e) b refl

  pub notify_load : (n : Notification) (b : Boxes) → load (notify n b) ≡ suc (load b)
  notify_load n b = rw (length-snoc b.notifications n) (omega arith)

module _ (size : ℕ) (t : Turn) (core : Core) (ram : List ℕ) where
  abbrev load_of : Boxes → ℕ
  load_of b = load core.object_count b

  -- a controller's turn adds at most its own record
  pub turn_load : (c : ℕ) (w : Sweep) → load_of (turn_one size t core ram c w).boxes ≤ suc (load_of w.boxes)
  turn_load c w =
      let k = controller_at w.controllers c in
      let v = closing size core.owners ram c in
      let visited = visit_all v core.object_count w.boxes in
      let closed = cond (t.leaves k) visited w.boxes in
      let same : load_of closed ≡ load_of w.boxes =
      cond_both (λ (b : Boxes). load_of b ≡ load_of w.boxes) (t.leaves k) visited w.boxes
      (λ e. visits_load core.object_count v (closing_frees size core.owners ram c) core.object_count w.boxes (omega arith))
      (λ e. refl) in
      cond_both (λ (x : Sweep). load_of x.boxes ≤ suc (load_of w.boxes)) (t.due k) _ w
      (λ e. omega (arith, notify_load core.object_count (t.note c k) closed, same))
      (λ e. omega arith)

  -- a sweep over the controllers adds at most one record for each beyond the mailboxes that were busy
  pub sweep_load : (n : ℕ) (w : Sweep) → load_of (rising n (turn_one size t core ram) w).boxes ≤ n + load_of w.boxes
  unfolding rising
  sweep_load zero w = omega arith
  sweep_load (suc n) w = let h = sweep_load n w in let k = turn_load n (rising n (turn_one size t core ram) w) in omega arith

  pub turns_bounded : length (turn_all size t core ram).boxes.notifications ≤ core.controller_count + core.object_count
  unfolding turn_all
  turns_bounded =
      let h = sweep_load core.controller_count (sweep_of core) in
      let k = count_limit core.object_count (λ h. mailbox_busy (mailbox_at core.mailboxes h)) in
      omega arith
