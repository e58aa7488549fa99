-- The parts of the test of a core. Places in use stand first: a count parts them from the unused ones.
use Rattle.std.specs.Prelude.{ℕ, Bool, true, not, cond, ◌&&◌, ◌||◌, List, length, eqb, ltb}
use Rattle.rules.specs.Limits.{Limits}
use Rattle.rules.specs.Mode.{STARTED}
use Rattle.rules.specs.Repeat.{all_below}
use Rattle.rules.specs.Errors.{Errors, errors_none}
use Rattle.rules.specs.Core.{Controller, Owner, Mailbox, Core, controller_at, errors_at, owner_at, mailbox_at, controller_valid, errors_valid, controller_idle, owner_unused, mailbox_valid, mailbox_empty, counts_valid, has_places, nothing_in_use, owner_place_valid, controller_place_valid, mailbox_place_valid}

-- p holds of every place below n but the first ones, so many as the count says
abbrev pub all_from : ℕ → ℕ → (ℕ → Bool) → Bool
all_from n count p = all_below n (λ i. cond (ltb i count) true (p i))

-- the counts of an initialised core are valid, and before initialisation nothing is in use
abbrev pub counts_suit : Limits → Bool → ℕ → ℕ → Bool
counts_suit L initialised controller_count object_count =
    cond initialised (counts_valid L controller_count object_count) (eqb controller_count 0 && eqb object_count 0)

-- each controller in use is valid
abbrev pub controllers_valid : List Controller → ℕ → Bool
controllers_valid ks count = all_below count (λ c. controller_valid (controller_at ks c))

-- each other controller is at rest
abbrev pub controllers_idle : List Controller → ℕ → Bool
controllers_idle ks count = all_from (length ks) count (λ c. controller_idle (controller_at ks c))

-- each object in use names a controller in use, and its mailbox would be valid if that were STARTED
abbrev pub objects_valid : ℕ → List Owner → List Mailbox → ℕ → Bool
objects_valid controller_count os ms count =
    all_below count (λ h. ltb (owner_at os h).controller controller_count && mailbox_valid (owner_at os h).receiving true (mailbox_at ms h))

-- each other object is at rest
abbrev pub objects_unused : List Owner → List Mailbox → ℕ → Bool
objects_unused os ms count = all_from (length os) count (λ h. owner_unused (owner_at os h) && mailbox_empty (mailbox_at ms h))

-- no frame waits in an object of controller c
abbrev pub none_waits : List Owner → List Mailbox → ℕ → ℕ → Bool
none_waits os ms count c = all_below count (λ h. not (mailbox_at ms h).tx_pending || not (eqb (owner_at os h).controller c))

-- controller c, which is in this mode, is STARTED, or no frame waits for it
abbrev pub started_or_none : List Owner → List Mailbox → ℕ → ℕ → ℕ → Bool
started_or_none os ms count mode c = eqb mode STARTED || none_waits os ms count c

-- so it is of every controller below a number
abbrev pub waiting_started : ℕ → List Controller → List Owner → List Mailbox → ℕ → Bool
waiting_started controllers ks os ms count = all_below controllers (λ c. started_or_none os ms count (controller_at ks c).mode c)

-- the errors of each controller in use are valid for it
abbrev pub errors_suit : List Controller → List Errors → ℕ → Bool
errors_suit ks es count = all_below count (λ c. errors_valid (controller_at ks c) (errors_at es c))

-- the errors of each other place are at rest
abbrev pub errors_rest : List Errors → ℕ → Bool
errors_rest es count = all_from (length es) count (λ c. errors_none (errors_at es c))

-- the errors of all places, where so many controllers are in use; `all_errors_valid` of a core (proofs/Whole.antt)
abbrev pub errors_places_valid : ℕ → ℕ → List Controller → List Errors → Bool
errors_places_valid places count ks es =
    eqb (length es) places
    && all_below places (λ c. cond (ltb c count) (errors_valid (controller_at ks c) (errors_at es c)) (errors_none (errors_at es c)))

-- a valid core, but for its pools and its errors
unfoldable pub places_valid : Limits → Core → Bool
places_valid L core =
    has_places L core
    && cond core.initialised (counts_valid L core.controller_count core.object_count) (nothing_in_use core)
    && all_below L.objects (owner_place_valid core.controller_count core.object_count core.owners)
    && all_below L.controllers (controller_place_valid core)
    && all_below L.objects (mailbox_place_valid core)
