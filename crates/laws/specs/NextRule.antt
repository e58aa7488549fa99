-- 02, Q-2: "the bench's choice of who sends next on a controller". When it is made, when it is "none", and which object it names: by 02's
-- order as the paper says it, not by the number that the rules make of it.
use Rattle.std.specs.Prelude.{ℕ, ◌<◌, ◌%◌, ◌^◌, ◌≡◌, true, false, List, [], ◌↔◌, ◌⊎◌, length}
use Rattle.std.proofs.Math.Option.{none, some}
use Rattle.rules.specs.Limits.{Limits, ram_size}
use Rattle.rules.specs.Format.{Format}
use Rattle.rules.specs.Reason.{E_OK}
use Rattle.rules.specs.Head.{identifier_in}
use Rattle.rules.specs.Core.{Core, controller_at, owner_at, mailbox_at}
use Rattle.rules.specs.State.{State, valid}
use Rattle.rules.specs.Outcome.{Outcome, sends_next}
use Rattle.rules.specs.Polls.{object_in}
use Rattle.rules.specs.Calls.{next_to_send}
use Rattle.rules.specs.Can.{can_format, is_extended, base_identifier}

-- what the choice asks: neither 41 nor 33, 5 or 4
pub record NextAsked (L : Limits) (F : Format) (s : State F) (ram : List ℕ) (c : ℕ) : Type 0 where
  pub sound : valid L F s ≡ true
  pub ram_whole : length ram ≡ ram_size L
  pub initialised : s.core.initialised ≡ true
  pub configured : c < s.core.controller_count

abbrev pub AskedRule : Limits → Format → Type 0
AskedRule L F = (s : State F) (ram : List ℕ) (c : ℕ) → ((next_to_send L F s ram c).code ≡ E_OK) ↔ NextAsked L F s ram c

-- a frame waits in object h to be sent on controller c
pub record Waits (core : Core) (c h : ℕ) : Type 0 where
  pub in_use : h < core.object_count
  pub own : (owner_at core.owners h).controller ≡ c
  pub occupied : (mailbox_at core.mailboxes h).tx_pending ≡ true
  -- "gone objects don't compete"
  pub not_gone : (mailbox_at core.mailboxes h).tx_done ≡ false

-- ""none" exactly if nobody waits or the controller is off-bus"
abbrev pub NoneRule : Limits → Format → Type 0
NoneRule L F =
    (s : State F) (ram : List ℕ) (c : ℕ) → NextAsked L F s ram c
    → ((next_to_send L F s ram c).answer ≡ sends_next none) ↔ (((h : ℕ) → Waits s.core c h → ⊥) ⊎ ((controller_at s.core.controllers c).bus_off ≡ true))

-- Whose frame goes first, for any kind of frame: object h waits on a controller that is not off-bus, and before, an order of two objects,
-- puts it before each other one that waits
pub record NextFirst (core : Core) (before : ℕ → ℕ → Type 0) (c h : ℕ) : Type 0 where
  pub on_bus : (controller_at core.controllers c).bus_off ≡ false
  pub waits : Waits core c h
  pub first : (j : ℕ) → Waits core c j → (j ≡ h → ⊥) → before h j

-- the higher rank, "then the lower object"
abbrev pub ranks_before : (ℕ → ℕ) → ℕ → ℕ → Type 0
ranks_before rank h j = (rank j < rank h) ⊎ ((rank j ≡ rank h) × (h < j))

abbrev pub RankRule : Limits → Format → Type 0
RankRule L F =
    (s : State F) (ram : List ℕ) (c : ℕ) → NextAsked L F s ram c
    → (h : ℕ)
    → ((next_to_send L F s ram c).answer ≡ sends_next (some h)) ↔ NextFirst s.core (ranks_before (λ i. F.priority (object_in L.object_size ram i))) c h

-- The same for classic and FD frames, in the words of the paper

-- identifier x in object h goes before identifier y in object j
pub data GoesBefore (h x j y : ℕ) : Type 0 where
  -- "lowest 11-bit base identifier first"
  lower_base : base_identifier x < base_identifier y → GoesBefore h x j y
  -- "then standard before extended"
  standard : base_identifier x ≡ base_identifier y → is_extended x ≡ false → is_extended y ≡ true → GoesBefore h x j y
  -- "then the lower 18 bits of extended ones"
  lower_bits : base_identifier x ≡ base_identifier y → is_extended x ≡ true → is_extended y ≡ true → x % 2 ^ 18 < y % 2 ^ 18 → GoesBefore h x j y
  -- "then the lower object": of standard ones with one base, and of extended ones alike in all 29 bits
  both_standard : base_identifier x ≡ base_identifier y → is_extended x ≡ false → is_extended y ≡ false → h < j → GoesBefore h x j y
  both_extended : base_identifier x ≡ base_identifier y → is_extended x ≡ true → is_extended y ≡ true → x % 2 ^ 18 ≡ y % 2 ^ 18 → h < j → GoesBefore h x j y

-- the identifiers are those in the memory lent
abbrev pub goes_before : Limits → List ℕ → ℕ → ℕ → Type 0
goes_before L ram h j = GoesBefore h (identifier_in (object_in L.object_size ram h)) j (identifier_in (object_in L.object_size ram j))

abbrev pub CanNextRule : Limits → Type 0
CanNextRule L =
    (s : State can_format) (ram : List ℕ) (c : ℕ) → NextAsked L can_format s ram c
    → (h : ℕ) → ((next_to_send L can_format s ram c).answer ≡ sends_next (some h)) ↔ NextFirst s.core (goes_before L ram) c h

-- whatever it answers, it changes nothing and tells of nothing
pub record Unchanged (F : Format) (s : State F) (ram : List ℕ) (o : Outcome (State F)) : Type 0 where
  pub state_kept : o.state ≡ s
  pub ram_kept : o.ram ≡ ram
  pub none_told : o.notifications ≡ []

abbrev pub UnchangedRule : Limits → Format → Type 0
UnchangedRule L F = (s : State F) (ram : List ℕ) (c : ℕ) → Unchanged F s ram (next_to_send L F s ram c)
