-- A fault is found exactly in a configuration that Init does not accept: the rules, each kept or broken, are the tests of the reader.
use Prim.Native.Nat.{ℕ, ◌≤◌, ◌<◌}
use native.Mathlib.Omega.{arith}
use mathlib.Core.Path.{◌≡◌, refl, sym, ap, ap₂, ◌∙◌}
use mathlib.Core.Bool.{Bool, true, false, cond, ◌&&◌, ◌||◌, and-true, and_assoc}
use mathlib.Core.Logic.{◌⊎◌, inl, inr}
use mathlib.Core.List.{List}
use lib.ListN.{take, get_or}
use lib.Dec.{eqb, ltb, leb}
use lib.Bits.{bit_and}
use borrow.Author.Tests.{lt-ltb}
use Rattle.std.specs.Prelude.{is_ok}
use Rattle.rules.specs.Bytes.{same_bytes}
use Rattle.rules.specs.Repeat.{all_below}
use Rattle.rules.specs.Core.{Owner, unused_owner, owner_at, owner_valid, lowest_of, pool_valid}
use Rattle.rules.specs.Configuration.{Configuration, version_of, controllers_byte, objects_byte, owner_of, settings_at, object_record, configuration_of, size_valid}
use Rattle.rules.specs.Can.{Settings, can_format, header, known_version, is_extended, extended_only, within_mask, longest_classic, longest_fd, settings_of, settings_agree, sending_valid, receiving_valid}
use Rattle.rules.specs.Chip.{chip}
use Rattle.laws.proofs.Tests.{and_false, decide, under}
use Rattle.laws.proofs.Repeat.{all_below_ext, get_or-list_below}
use Rattle.core_validity.proofs.Laws.{all_below-and}
use Rattle.can_config.specs.Reading.{record_valid, records_valid, owner_said, pools_judged}
use Rattle.can_config.proofs.Laws.{and_left_comm, filled}
use Rattle.can_config.proofs.Accepted.{said, outline, judged, outline_holds}
use Rattle.can_faults.specs.declared.fault.Fault.TheVariants as faults
use Rattle.can_faults.specs.Fault.{first_broken, outline_rules, sending_rules, receiving_rules, rules_of, record_rule, pool_rules, pool_rule, ◌then◌, as_fault, record_fault, records_fault, pool_fault, pools_fault, fault_of}
use Rattle.can_faults.specs.Exactly.{FaultRule}
use Rattle.can_faults.proofs.Seen.{by_tests}
use Rattle.can_faults.proofs.Laws.{all_kept, first_kept, then_ok, as_fault_ok, first_fault_ok}

-- The header

-- the rules of the header and the total in the reader's order
arranged : (mark version controllers objects zero size : Bool)
    → (mark && (version && (controllers && (objects && (zero && (size && true)))))) ≡ (mark && version && zero && size && (controllers && objects))
arranged false v k n z s = refl
arranged true false k n z s = refl
arranged true true true true true s = refl
arranged true true true true false s = refl
arranged true true true false z s = sym (and_false (z && s))
arranged true true false n z s = sym (and_false (z && s))

pub outline_exactly : (bytes : List ℕ) → is_ok (first_broken (outline_rules bytes)) ≡ outline bytes (controllers_byte bytes) (objects_byte bytes)
unfolding outline_rules all_kept
outline_exactly bytes =
    let k = controllers_byte bytes in
    first_kept (outline_rules bytes)
    ∙ arranged (same_bytes (take 3 bytes) header) (known_version (version_of bytes)) (leb 1 k && leb k chip.controllers) (leb (objects_byte bytes) chip.objects) (eqb (get_or bytes 7 0) 0)
    (size_valid chip can_format bytes)

-- The records

-- a pool number that there is; a receiving object has none
abbrev numbered : Owner → Bool
numbered o = o.receiving || ltb o.pool chip.objects

-- the same of what record h says
abbrev numbered_at : List ℕ → ℕ → ℕ → Bool
numbered_at bytes version h = numbered (owner_said bytes version h)

sending : (code mask pool : Bool) → (code && (mask && (pool && true))) ≡ (code && mask && pool)
sending true true pool = and-true pool
sending true false pool = refl
sending false mask pool = refl

receiving : (padding code mask extended c m within : Bool)
    → (padding && (code && (mask && ((extended || c) && ((extended || m) && (within && true))))))
    ≡ (padding && code && mask && (extended || c && m) && within)
receiving false code mask extended c m within = refl
receiving true false mask extended c m within = refl
receiving true true false extended c m within = refl
receiving true true true true c m within = and-true within
receiving true true true false true true within = and-true within
receiving true true true false true false within = refl
receiving true true true false false m within = refl

-- the rules of an object's kind are the tests of its settings, and of its pool's number
kind_kept : (t : Bool) (pool : ℕ) (s : Settings)
    → all_kept (cond t (receiving_rules s) (sending_rules pool s)) ≡ (cond t (receiving_valid s) (sending_valid s) && (t || ltb pool chip.objects))
unfolding all_kept receiving_rules sending_rules
kind_kept true pool s =
    receiving (eqb s.padding 0) (eqb (bit_and s.code 0x60000000) 0) (eqb (bit_and s.mask 0xE0000000) 0) (is_extended s.code)
    (eqb (bit_and s.code extended_only) 0) (eqb (bit_and s.mask extended_only) 0) (within_mask s.code s.mask)
    ∙ sym (and-true (receiving_valid s))
kind_kept false pool s = sending (eqb s.code 0) (eqb s.mask 0) (ltb pool chip.objects)

last_apart : (a b c d e : Bool) → (a && (b && (c && (d && e)))) ≡ (a && (b && (c && d)) && e)
last_apart true true true d e = refl
last_apart true true false d e = refl
last_apart true false c d e = refl
last_apart false b c d e = refl

record_exactly : (version count h : ℕ) (r : List ℕ) → is_ok (record_rule version count h r) ≡ (record_valid version h count r && numbered (owner_of can_format version h r))
unfolding rules_of all_kept
record_exactly version count h r =
    let owner = owner_of can_format version h r in
    let s = settings_of version r in
    let known = leb (get_or r 1 0) 1 in
    let payload = eqb s.payload longest_classic || eqb s.payload longest_fd in
    first_kept (rules_of count owner (get_or r 1 0) s)
    ∙ and_left_comm (owner_valid count owner) known (payload && all_kept (cond owner.receiving (receiving_rules s) (sending_rules owner.pool s)))
    ∙ ap (λ (t : Bool). known && (owner_valid count owner && (payload && t))) (kind_kept owner.receiving owner.pool s)
    ∙ last_apart known (owner_valid count owner) payload (cond owner.receiving (receiving_valid s) (sending_valid s)) (numbered owner)

pub records_exactly : (bytes : List ℕ) (version count n : ℕ)
    → is_ok (records_fault bytes version count n) ≡ (records_valid bytes version count n && all_below n (numbered_at bytes version))
records_exactly bytes version count n =
    let r = object_record chip can_format bytes in
    let fault = record_fault bytes version count in
    first_fault_ok fault n
    ∙ all_below_ext n (λ h. is_ok (fault h)) (λ h. record_valid version h count (r h) && numbered_at bytes version h)
    (λ h l. as_fault_ok (λ rule. faults.Record rule h) (record_rule version count h (r h)) ∙ record_exactly version count h (r h))
    ∙ sym (all_below-and n (λ h. record_valid version h count (r h)) (numbered_at bytes version))

-- The pools

members : (inside owned payload padding : Bool)
    → (inside && is_ok (by_tests owned payload padding)) ≡ (inside && owned && (payload && padding))
members true true true true = refl
members true true true false = refl
members true true false padding = refl
members true false payload padding = refl
members false owned payload padding = refl

-- a pool number that there is, and no rule broken beside the lowest object: the pool is valid, and the settings agree
pool_exactly : (c : Configuration can_format) (h : ℕ) → let o = owner_at c.owners h in
    (o.receiving ≡ true) ⊎ (o.receiving ≡ false) → (o.receiving ≡ true → o.pool ≡ 0)
    → (numbered o && is_ok (pool_rule c h (lowest_of c.owners h)))
    ≡ (pool_valid chip.objects c.owners h
    && (o.receiving || settings_agree (settings_at can_format c.settings h) (settings_at can_format c.settings (lowest_of c.owners h))))
unfolding first_broken pool_rules
pool_exactly c h (inl receives) none = rw (receives, none receives)
pool_exactly c h (inr sends) none =
    let o = owner_at c.owners h in
    let s = settings_at can_format c.settings h in
    let low = lowest_of c.owners h in
    let t = settings_at can_format c.settings low in
    rw sends (members (ltb o.pool chip.objects) (eqb o.controller (owner_at c.owners low).controller) (eqb s.payload t.payload) (eqb s.padding t.padding))

module _ (bytes : List ℕ) (fits : objects_byte bytes ≤ chip.objects) where
  -- an object in use is the one that its record says
  owner_is : (h : ℕ) → h < objects_byte bytes → owner_at (said bytes).owners h ≡ owner_said bytes (version_of bytes) h
  unfolding configuration_of
  owner_is h used =
      get_or-list_below chip.objects (filled (owner_said bytes (version_of bytes)) unused_owner (objects_byte bytes)) h unused_owner (omega arith)
      ∙ rw (lt-ltb h (objects_byte bytes) used)

  -- a receiving object has no pool
  no_pool : (h : ℕ) → h < objects_byte bytes → (owner_at (said bytes).owners h).receiving ≡ true → (owner_at (said bytes).owners h).pool ≡ 0
  no_pool h used receives =
      let said_so : (owner_said bytes (version_of bytes) h).receiving ≡ true = rw (owner_is h used) at receives in
      ap (λ (o : Owner). o.pool) (owner_is h used) ∙ rw said_so

  -- the pools' numbers, judged with the records, and what is judged behind them
  pools_exactly : (all_below (objects_byte bytes) (numbered_at bytes (version_of bytes)) && is_ok (pools_fault (said bytes))) ≡ pools_judged (said bytes)
  unfolding configuration_of
  pools_exactly =
      let n = objects_byte bytes in
      let c = said bytes in
      let fault = pool_fault c in
      let kept : ℕ → Bool = λ h. is_ok (pool_rule c h (lowest_of c.owners h)) in
      let agreed : ℕ → Bool = λ h. (owner_at c.owners h).receiving || settings_agree (settings_at can_format c.settings h) (settings_at can_format c.settings (lowest_of c.owners h)) in
      ap (λ (t : Bool). all_below n (numbered_at bytes (version_of bytes)) && t) (first_fault_ok fault n ∙ all_below_ext n (λ h. is_ok (fault h)) kept (λ h used. as_fault_ok (λ rule. faults.Pool rule h (lowest_of c.owners h)) (pool_rule c h (lowest_of c.owners h))))
      ∙ all_below-and n (numbered_at bytes (version_of bytes)) kept
      ∙ all_below_ext n (λ h. numbered_at bytes (version_of bytes) h && kept h) (λ h. pool_valid chip.objects c.owners h && agreed h)
      (λ h used.
      ap (λ (o : Owner). numbered o && kept h) (sym (owner_is h used)) ∙ pool_exactly c h (decide (owner_at c.owners h).receiving) (no_pool h used))
      ∙ sym (all_below-and n (pool_valid chip.objects c.owners) agreed)

pub fault_exactly : FaultRule
unfolding fault_of
fault_exactly bytes =
    let v = version_of bytes in
    let k = controllers_byte bytes in
    let n = objects_byte bytes in
    let pools = pools_fault (configuration_of chip can_format bytes) in
    let records_good = records_valid bytes v k n in
    let pools_good = all_below n (numbered_at bytes v) in
    then_ok (as_fault faults.Outline (first_broken (outline_rules bytes))) (records_fault bytes v k n then pools)
    ∙ ap₂ ◌&&◌ (as_fault_ok faults.Outline (first_broken (outline_rules bytes)) ∙ outline_exactly bytes)
    (then_ok (records_fault bytes v k n) pools ∙ ap (λ (t : Bool). t && is_ok pools) (records_exactly bytes v k n) ∙ and_assoc records_good pools_good (is_ok pools))
    ∙ under (outline bytes k n) (λ good. ap (λ (t : Bool). records_good && t) (pools_exactly bytes (outline_holds bytes k n refl good).0))
    ∙ judged bytes
