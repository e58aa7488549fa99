-- The outline's first broken rule is the fault; where it has none, the records are there and theirs is; where they have none, the pools'.
use Prim.Native.Nat.{ℕ, ◌+◌, ◌*◌, ◌≤◌}
use mathlib.Core.Path.{◌≡◌, refl, sym, ap, ◌∙◌}
use mathlib.Core.List.{List}
use lib.ListN.{length}
use Rattle.std.specs.Prelude.{Ok, Err, is_ok, Option, IsSome, Some, None}
use Rattle.std.proofs.lemmas.Option.{MatchOption-at_some}
use Rattle.rules.specs.Configuration.{header_size, version_of, controllers_byte, objects_byte, accepted_bytes}
use Rattle.rules.specs.Can.{can_format}
use Rattle.rules.specs.Chip.{chip}
use Rattle.laws.proofs.Tests.{left, clash}
use Rattle.can_config.specs.declared.setup.Setup.{Setup}
use Rattle.can_config.specs.View.{view_setup}
use Rattle.can_config.specs.Reading.{Records_read, Records_said, records_valid}
use Rattle.can_config.proofs.Accepted.{said_by, outline_holds}
use Rattle.can_faults.specs.declared.fault.OutlineRule.{OutlineRule}
use Rattle.can_faults.specs.declared.fault.Fault.{Fault}
use Rattle.can_faults.specs.declared.fault.Fault.TheVariants as faults
use Rattle.can_faults.specs.Fault.{first_broken, outline_rules, records_fault, pools_fault, fault_of}
use Rattle.can_faults.proofs.Exactly.{outline_exactly, records_exactly, fault_exactly}

module _ (bytes : List ℕ) where
  pub told : accepted_bytes chip can_format bytes ≡ is_ok (fault_of bytes)
  told = sym (fault_exactly bytes)

  pub by_outline : {r : OutlineRule} → first_broken (outline_rules bytes) ≡ Err r → fault_of bytes ≡ Err (faults.Outline r)
  unfolding fault_of
  by_outline broken = rw broken

  module _ (kept : first_broken (outline_rules bytes) ≡ Ok tt) {v k n : ℕ} (versions : v ≡ version_of bytes) (controllers : k ≡ controllers_byte bytes) (objects : n ≡ objects_byte bytes) where
    pub records_held : (n ≤ chip.objects) × (header_size + can_format.record_size * n ≤ length bytes)
    records_held = rw objects (outline_holds bytes (controllers_byte bytes) (objects_byte bytes) (outline_exactly bytes) (ap is_ok kept))

    pub by_records : {f : Fault} → records_fault bytes v k n ≡ Err f → fault_of bytes ≡ Err f
    unfolding fault_of
    by_records broken = rw (kept, ← versions, ← controllers, ← objects, broken)

    -- no record breaks a rule, so that each is read
    module _ (none : records_fault bytes v k n ≡ Ok tt) where
      pub records_there : (r : Option Setup) → Records_read bytes v k n r → IsSome r
      records_there (Some s) read = refl
      records_there None invalid = clash (left (records_valid bytes v k n) _ (sym (records_exactly bytes v k n) ∙ ap is_ok none)) invalid

      pub by_pools : (r : Option Setup) (s : Setup) → Records_read bytes v k n r → r ≡ Some s → fault_of bytes ≡ pools_fault (view_setup s)
      unfolding fault_of
      by_pools r s read is =
          let said = MatchOption-at_some _ (Records_said bytes v k n) s is read in
          rw (kept, ← versions, ← controllers, ← objects, none) (sym (ap pools_fault (said.setup ∙ said_by bytes versions controllers objects)))

-- what the contract of `fault` needs
pub ruleset whole = (told, by_outline, by_records, by_pools, records_held, records_there)
