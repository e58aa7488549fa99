-- How a sweep over the objects goes on. 01: "A call writes its records from word 0 on, four words each .. Words after them keep their
-- values."
use Rattle.std.specs.Prelude.{ℕ, ◌+◌, ◌*◌, ◌^◌, ◌≤◌, ◌≡◌, cond, List, [], length, set}
use Rattle.rules.specs.Bytes.{splice}
use Rattle.rules.specs.Notification.{Notification, words, all_words}
use Rattle.rules.specs.Core.{Mailbox, empty_mailbox, mailbox_at}
use Rattle.rules.specs.Polls.{Boxes, Visit}
use Rattle.core_layout.specs.Head.{head_size}
use Rattle.core_layout.specs.Sheet.{words_each}

-- one more notification is told: the count, and the whole sheet afterwards
pub record Told (n : Notification) (told : ℕ) (before after : List ℕ) (count : ℕ) : Type 0 where
  pub count_is : count ≡ told + 1
  pub sheet_is : after ≡ splice (words_each * told) (words n) before

-- object h is free again, and n tells of it
pub record Freed (n : Notification) (h : ℕ) (ms next : List Mailbox) (told : ℕ) (before after : List ℕ) (count : ℕ) : Type 0 where
  pub mailboxes_are : next ≡ set ms h empty_mailbox
  pub told_of : Told n told before after count

-- Object h is visited: where it is due it is told of and free, else all stays as it was.
pub record Visited (v : Visit) (h : ℕ) (ms next : List Mailbox) (told : ℕ) (before after : List ℕ) (count : ℕ) : Type 0 where
  pub mailboxes_are : next ≡ cond (v.due h (mailbox_at ms h)) (set ms h empty_mailbox) ms
  pub count_is : count ≡ cond (v.due h (mailbox_at ms h)) (told + 1) told
  pub sheet_is : after ≡ cond (v.due h (mailbox_at ms h)) (splice (words_each * told) (words (v.note h (mailbox_at ms h))) before) before

-- where a sweep begins: the mailboxes as they are, and nothing reported
abbrev pub boxes_from : List Mailbox → Boxes
boxes_from ms = record { mailboxes = ms; notifications = [] }

-- A sweep that began behind the first `from` notifications has come to b.
pub record Swept (b : Boxes) (from : ℕ) (before after : List ℕ) (ms : List Mailbox) (told : ℕ) : Type 0 where
  pub mailboxes_are : ms ≡ b.mailboxes
  pub told_is : told ≡ from + length b.notifications
  pub sheet_is : after ≡ splice (words_each * from) (all_words b.notifications) before

-- the memory holds so many objects of this size, and their numbers fit a word of the sheet
pub record Lent (size count : ℕ) (ram : List ℕ) : Type 0 where
  pub numbered : count ≤ 2 ^ 32
  pub head_fits : head_size ≤ size
  pub objects_fit : size * count ≤ length ram
