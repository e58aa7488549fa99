-- The first rule that a configuration's bytes break, and by which object's record. 01, "Configuration bytes": "Anything else is a bad
-- configuration."; 02, Q-1 and Q-2. A missing byte reads as 0; the records are judged only where none is missing.
use Rattle.std.specs.Prelude.{ℕ, zero, suc, Bool, cond, ◌&&◌, ◌||◌, List, [], ◌∷◌, take, get_or, eqb, ltb, leb, Result, Ok, Err}
use Rattle.std.specs.Int.Bits.{bit_and}
use Rattle.std.specs.Result.{result_and}
use Rattle.rules.specs.Bytes.{same_bytes}
use Rattle.rules.specs.Core.{Owner, owner_at, owner_valid, lowest_of}
use Rattle.rules.specs.Configuration.{Configuration, version_of, controllers_byte, objects_byte, owner_of, settings_at, object_record, configuration_of, size_valid}
use Rattle.rules.specs.Can.{Settings, can_format, known_version, is_extended, extended_only, within_mask, longest_classic, longest_fd, settings_of}
use Rattle.rules.specs.Chip.{chip}
use Rattle.can_faults.specs.declared.fault.OutlineRule.{OutlineRule}
use Rattle.can_faults.specs.declared.fault.OutlineRule.TheVariants.{Mark, Version, Controllers, Objects, ZeroByte, Size}
use Rattle.can_faults.specs.declared.fault.RecordRule.{RecordRule}
use Rattle.can_faults.specs.declared.fault.RecordRule.TheVariants.{Controller, Kind, Payload, SendingCode, SendingMask, Pool, ReceivingPadding, CodeBits, MaskBits, StandardCode, StandardMask, StrayBit}
use Rattle.can_faults.specs.declared.fault.PoolRule.{PoolRule}
use Rattle.can_faults.specs.declared.fault.PoolRule.TheVariants as pools
use Rattle.can_faults.specs.declared.fault.Fault.{Fault}
use Rattle.can_faults.specs.declared.fault.Fault.TheVariants as faults

-- what is kept, or the rule or the fault that is not
abbrev pub Kept : Type 0 → Type 0
Kept E = Result (Unit {0}) E

-- one line of a list of rules: `rule unless kept`
pub record Test (R : Type 0) : Type 0 where
  pub rule : R
  pub kept : Bool

infix 70 ◌unless◌
abbrev pub ◌unless◌ : {R : Type 0} → R → Bool → Test R
r unless t = record { rule = r; kept = t }

-- the first of them that is broken
unfoldable pub first_broken : {R : Type 0} → List (Test R) → Kept R
first_broken [] = Ok tt
first_broken (t ∷ ts) = cond t.kept (first_broken ts) (Err t.rule)

-- The header in its order, then the total
unfoldable pub outline_rules : List ℕ → List (Test OutlineRule)
outline_rules bytes =
    -- "the three bytes 43 48 42"
    Mark unless same_bytes (take 3 bytes) (0x43 ∷ 0x48 ∷ 0x42 ∷ [])
    -- "version 00 01", or 02's "version 2 (bytes 00 02)"
    ∷ Version unless known_version (version_of bytes)
    -- "controllers (1 to 4)"
    ∷ Controllers unless (leb 1 (controllers_byte bytes) && leb (controllers_byte bytes) chip.controllers)
    -- "objects n (0 to 32)"
    ∷ Objects unless leb (objects_byte bytes) chip.objects
    -- "a zero byte"
    ∷ ZeroByte unless eqb (get_or bytes 7 0) 0
    -- "Total exactly 8 + 12n"
    ∷ Size unless size_valid chip can_format bytes
    ∷ []

-- Sending: what 01 asks, then 02, Q-2
unfoldable pub sending_rules : ℕ → Settings → List (Test RecordRule)
sending_rules pool s =
    -- "code and mask zero"; of version 2, "its other code and mask bytes stay zero"
    SendingCode unless eqb s.code 0
    ∷ SendingMask unless eqb s.mask 0
    -- "a pool number, 0 to 31"
    ∷ Pool unless ltb pool chip.objects
    ∷ []

-- Receiving: what 01 asks, in its order, then 02, Q-1
unfoldable pub receiving_rules : Settings → List (Test RecordRule)
receiving_rules s =
    -- "padding zero"
    ReceivingPadding unless eqb s.padding 0
    -- "code bits 30 and 29 zero"
    ∷ CodeBits unless eqb (bit_and s.code 0x60000000) 0
    -- "mask bits 31 to 29 zero"
    ∷ MaskBits unless eqb (bit_and s.mask 0xE0000000) 0
    -- "if code bit 31 is clear, bits 28 to 11 of code and mask zero"
    ∷ StandardCode unless (is_extended s.code || eqb (bit_and s.code extended_only) 0)
    ∷ StandardMask unless (is_extended s.code || eqb (bit_and s.mask extended_only) 0)
    -- "if bits 28 to 0 of its code have a one where the mask has a zero"
    ∷ StrayBit unless within_mask s.code s.mask
    ∷ []

-- A record in its order, by what it says
unfoldable pub rules_of : ℕ → Owner → ℕ → Settings → List (Test RecordRule)
rules_of controller_count owner kind s =
    -- "controller (below the count)"
    Controller unless owner_valid controller_count owner
    -- "kind (0 sending, 1 receiving)"
    ∷ Kind unless leb kind 1
    -- "payload (8 or 64)"
    ∷ Payload unless (eqb s.payload longest_classic || eqb s.payload longest_fd)
    ∷ cond owner.receiving (receiving_rules s) (sending_rules owner.pool s)

-- the first rule that the bytes of object h's record break
abbrev pub record_rule : ℕ → ℕ → ℕ → List ℕ → Kept RecordRule
record_rule version controller_count h r = first_broken (rules_of controller_count (owner_of can_format version h r) (get_or r 1 0) (settings_of version r))

-- Object h beside another of its pool: 02, "Objects with one pool number must agree in controller, payload and padding"; a receiving object
-- is in no pool
unfoldable pub pool_rules : Configuration can_format → ℕ → ℕ → List (Test PoolRule)
pool_rules c h other =
    let o = owner_at c.owners h in
    let s = settings_at can_format c.settings h in
    let t = settings_at can_format c.settings other in
    cond o.receiving []
    (pools.Controller unless eqb o.controller (owner_at c.owners other).controller
    ∷ pools.Payload unless eqb s.payload t.payload
    ∷ pools.Padding unless eqb s.padding t.padding
    ∷ [])

-- the first of these rules that object h breaks
abbrev pub pool_rule : Configuration can_format → ℕ → ℕ → Kept PoolRule
pool_rule c h other = first_broken (pool_rules c h other)

-- The fault of all bytes

-- two in a row: the first fault, or the second where the first is none
infixr 60 ◌then◌
abbrev pub ◌then◌ : Kept Fault → Kept Fault → Kept Fault
a then b = result_and a b

-- the fault that a broken rule is
abbrev pub as_fault : {R : Type 0} → (R → Fault) → Kept R → Kept Fault
as_fault f (Ok x) = Ok x
as_fault f (Err r) = Err (f r)

-- the first fault of the objects below n
unfoldable pub first_fault : ℕ → (ℕ → Kept Fault) → Kept Fault
first_fault zero at = Ok tt
first_fault (suc n) at = first_fault n at then at n

-- of the bytes' records, by the version and the counts that the header says
abbrev pub record_fault : List ℕ → ℕ → ℕ → ℕ → Kept Fault
record_fault bytes version controller_count h =
    as_fault (λ r. faults.Record r h) (record_rule version controller_count h (object_record chip can_format bytes h))

abbrev pub records_fault : List ℕ → ℕ → ℕ → ℕ → Kept Fault
records_fault bytes version controller_count n = first_fault n (record_fault bytes version controller_count)

-- of the pools, each object beside the lowest one of its pool
abbrev pub pool_fault : Configuration can_format → ℕ → Kept Fault
pool_fault c h = as_fault (λ r. faults.Pool r h (lowest_of c.owners h)) (pool_rule c h (lowest_of c.owners h))

abbrev pub pools_fault : Configuration can_format → Kept Fault
pools_fault c = first_fault c.object_count (pool_fault c)

-- the header and the total, then the records in rising order, then the pools
unfoldable pub fault_of : List ℕ → Kept Fault
fault_of bytes =
    as_fault faults.Outline (first_broken (outline_rules bytes))
    then records_fault bytes (version_of bytes) (controllers_byte bytes) (objects_byte bytes)
    then pools_fault (configuration_of chip can_format bytes)
