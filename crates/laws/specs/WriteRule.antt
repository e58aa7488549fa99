-- Demand 2's write rule: "With a sound state and sheet and memory of the required size, a write of a good identifier, with a format
-- and length its object can carry, to a free sending object of a started controller is accepted, and no other write is." 02, Q-2, reads it
-- with "a pool with a free member in place of a free object". And which member a write takes, and when it finds none.
use Rattle.std.specs.Prelude.{ℕ, ◌≤◌, ◌<◌, ◌≡◌, true, false, List, ◌↔◌, length}
use Rattle.rules.specs.Limits.{Limits, sheet_size, ram_size}
use Rattle.rules.specs.Format.{Format}
use Rattle.rules.specs.Reason.{E_OK, OBJECT_BUSY}
use Rattle.rules.specs.Core.{Core, owner_at, mailbox_at, is_started, controller_of, in_pool, names_pool}
use Rattle.rules.specs.State.{State, valid}
use Rattle.rules.specs.Outcome.{taken_by}
use Rattle.rules.specs.Calls.{frame_reason, settings_of_object, write}
use Rattle.rules.specs.Can.{Frame, can_format, identifier_good, length_fits}

-- object i is a free member of the pool of object h
pub record FreeMember (core : Core) (h i : ℕ) : Type 0 where
  pub in_use : i < core.object_count
  pub pooled : in_pool core.owners (owner_at core.owners h).pool i ≡ true
  pub free : (mailbox_at core.mailboxes i).tx_pending ≡ false

-- what the demand asks of a write but the free member, for any kind of frame; the number is the sheet's length in words
pub record WriteAllowed (L : Limits) (F : Format) (s : State F) (sheet : ℕ) (ram : List ℕ) (h : ℕ) (frame : F.Frame) : Type 0 where
  -- "a sound state"
  pub sound : valid L F s ≡ true
  -- "sheet and memory of the required size"
  pub sheet_holds : sheet_size L ≤ sheet
  pub ram_whole : length ram ≡ ram_size L
  -- what the format finds in the frame: nothing
  pub frame_fits : frame_reason L F s h frame ≡ 0
  -- "a pool", named by "its lowest object"
  pub pool_named : names_pool s.core h ≡ true
  -- "of a started controller"
  pub started : is_started (controller_of s.core h) ≡ true

-- and "with a free member"
pub record WriteFits (L : Limits) (F : Format) (s : State F) (sheet : ℕ) (ram : List ℕ) (h : ℕ) (frame : F.Frame) : Type 0 where
  pub allowed : WriteAllowed L F s sheet ram h frame
  pub member : ℕ
  pub free : FreeMember s.core h member

-- the same for classic and FD frames, in the words of the demand
pub record CanWriteFits (L : Limits) (s : State can_format) (sheet : ℕ) (ram : List ℕ) (h : ℕ) (frame : Frame) : Type 0 where
  pub sound : valid L can_format s ≡ true
  pub sheet_holds : sheet_size L ≤ sheet
  pub ram_whole : length ram ≡ ram_size L
  -- "a good identifier"
  pub good_identifier : identifier_good frame.identifier ≡ true
  -- "a format and length its object can carry"
  pub length_carried : length_fits (settings_of_object L can_format s h).payload frame.identifier (length frame.sdu) ≡ true
  pub pool_named : names_pool s.core h ≡ true
  pub started : is_started (controller_of s.core h) ≡ true
  pub member : ℕ
  pub free : FreeMember s.core h member

-- ".. is accepted, and no other write is"
abbrev pub WriteRule : Limits → Format → Type 0
WriteRule L F =
    (s : State F) (sheet : ℕ) (ram : List ℕ) (h handle : ℕ) (frame : F.Frame) → ((write L F s sheet ram h handle frame).code ≡ E_OK) ↔ WriteFits L F s sheet ram h frame

abbrev pub CanWriteRule : Limits → Type 0
CanWriteRule L =
    (s : State can_format) (sheet : ℕ) (ram : List ℕ) (h handle : ℕ) (frame : Frame)
    → ((write L can_format s sheet ram h handle frame).code ≡ E_OK) ↔ CanWriteFits L s sheet ram h frame

-- 02: a write that is accepted "takes the lowest free member, answers which"
pub record LowestFree (core : Core) (h i : ℕ) : Type 0 where
  pub free : FreeMember core h i
  pub lowest : (j : ℕ) → j < i → FreeMember core h j → ⊥

abbrev pub MemberRule : Limits → Format → Type 0
MemberRule L F =
    (s : State F) (sheet : ℕ) (ram : List ℕ) (h handle : ℕ) (frame : F.Frame) → (write L F s sheet ram h handle frame).code ≡ E_OK
    → (i : ℕ) → ((write L F s sheet ram h handle frame).answer ≡ taken_by i) ↔ LowestFree s.core h i

-- 02: a write "past the earlier reasons, gives 36 exactly if none is free"
abbrev pub BusyRule : Limits → Format → Type 0
BusyRule L F =
    (s : State F) (sheet : ℕ) (ram : List ℕ) (h handle : ℕ) (frame : F.Frame) → WriteAllowed L F s sheet ram h frame
    → ((write L F s sheet ram h handle frame).reason ≡ OBJECT_BUSY) ↔ ((i : ℕ) → FreeMember s.core h i → ⊥)
