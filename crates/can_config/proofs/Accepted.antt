-- The tests that the reader makes are the rules' test of the bytes: it judges each record once, and the rules judge the kinds of all
-- records and then the places of the configuration.
use Prim.Native.Nat.{ℕ, ◌+◌, ◌*◌, ◌≤◌}
use native.Mathlib.Omega.{arith}
use mathlib.Core.Path.{◌≡◌, refl, sym, ap, ap₂, ◌∙◌}
use mathlib.Core.Bool.{Bool, true, false, cond, ◌&&◌}
use mathlib.Core.List.{List}
use lib.ListN.{length}
use lib.Dec.{eqb, ltb, leb}
use borrow.Author.Tests.{leb-true, eqb-true}
use Rattle.rules.specs.Repeat.{all_below}
use Rattle.rules.specs.Core.{Owner, unused_owner, owner_valid, owner_unused, owner_place_valid, pool_valid, counts_valid}
use Rattle.rules.specs.Configuration.{Configuration, header_size, version_of, settings_place_valid, settings_agreed, controllers_byte, objects_byte, configuration_of, header_valid, size_valid, kind_valid, accepted_bytes}
use Rattle.rules.specs.Can.{Settings, can_format, settings_valid, settings_unused, unused_settings}
use Rattle.rules.specs.Chip.{chip}
use Rattle.laws.proofs.Tests.{left, right, and_false}
use Rattle.laws.proofs.Repeat.{get_or-list_below}
use Rattle.core_validity.proofs.Laws.{and_pairs, all_below-and}
use Rattle.can_config.specs.declared.setup.Setup.{Setup}
use Rattle.can_config.specs.View.{view_setup}
use Rattle.can_config.specs.Reading.{records_valid, owner_said, settings_said, records_say, Records_said, pools_judged, Configuration_said}
use Rattle.can_config.proofs.Laws.{all_in_use, filled}

-- an unused place is at rest
owner_place : (count : ℕ) (o : Owner) (t : Bool)
    → cond t (owner_valid count (cond t o unused_owner)) (owner_unused (cond t o unused_owner)) ≡ cond t (owner_valid count o) true
owner_place count o true = refl
owner_place count o false = refl

settings_place : (o : Owner) (s : Settings) (t : Bool)
    → cond t (settings_valid (cond t o unused_owner).receiving (cond t s unused_settings)) (settings_unused (cond t s unused_settings))
    ≡ cond t (settings_valid o.receiving s) true
settings_place o s true = refl
settings_place o s false = refl

-- the records matter only where the counts are valid; the pools are judged once all records are read
arranged : (front counts kinds owned pooled suited agreed records : Bool) → (counts ≡ true → records ≡ (kinds && (owned && suited)))
    → (front && counts && (records && (pooled && agreed))) ≡ (front && kinds && (counts && (owned && pooled) && (suited && agreed)))
arranged false counts kinds owned pooled suited agreed records e = refl
arranged true false kinds owned pooled suited agreed records e = sym (and_false kinds)
arranged true true true owned pooled suited agreed records e = rw (e refl) (and_pairs owned suited pooled agreed)
arranged true true false owned pooled suited agreed records e = rw (e refl)

module _ (bytes : List ℕ) where
  abbrev pub said : Configuration can_format
  said = configuration_of chip can_format bytes

  abbrev version : ℕ
  version = version_of bytes

  -- the owner and the settings of record h are valid
  abbrev owner_good : ℕ → Bool
  owner_good h = owner_valid (controllers_byte bytes) (owner_said bytes version h)

  abbrev settings_good : ℕ → Bool
  settings_good h = settings_valid (owner_said bytes version h).receiving (settings_said bytes version h)

  owners_judged : objects_byte bytes ≤ chip.objects
      → all_below (objects_byte bytes) owner_good ≡ all_below chip.objects (owner_place_valid (controllers_byte bytes) (objects_byte bytes) said.owners)
  unfolding configuration_of
  owners_judged fits =
      let n = objects_byte bytes in
      all_in_use n chip.objects owner_good (owner_place_valid (controllers_byte bytes) n said.owners) fits
      (λ h l. rw (get_or-list_below chip.objects (filled (owner_said bytes version) unused_owner n) h unused_owner l)
      (owner_place (controllers_byte bytes) (owner_said bytes version h) (ltb h n)))

  settings_judged : objects_byte bytes ≤ chip.objects
      → all_below (objects_byte bytes) settings_good ≡ all_below chip.objects (settings_place_valid can_format (objects_byte bytes) said.owners said.settings)
  unfolding configuration_of
  settings_judged fits =
      let n = objects_byte bytes in
      all_in_use n chip.objects settings_good (settings_place_valid can_format n said.owners said.settings) fits
      (λ h l. rw (
        get_or-list_below chip.objects (filled (owner_said bytes version) unused_owner n) h unused_owner l,
        get_or-list_below chip.objects (filled (settings_said bytes version) unused_settings n) h unused_settings l,
      ) (settings_place (owner_said bytes version h) (settings_said bytes version h) (ltb h n)))

  -- the header, the size and the counts, then the records, by the two counts
  abbrev pub outline : ℕ → ℕ → Bool
  outline k n = header_valid chip can_format bytes && eqb (length bytes) (header_size + can_format.record_size * n) && counts_valid chip k n

  pub judged : (outline (controllers_byte bytes) (objects_byte bytes) && (records_valid bytes version (controllers_byte bytes) (objects_byte bytes) && pools_judged said)) ≡ accepted_bytes chip can_format bytes
  unfolding accepted_bytes configuration_of
  judged =
      let k = controllers_byte bytes in
      let n = objects_byte bytes in
      let kinds = kind_valid chip can_format bytes in
      arranged (header_valid chip can_format bytes && size_valid chip can_format bytes) (counts_valid chip k n) (all_below n kinds)
      (all_below chip.objects (owner_place_valid k n said.owners)) (all_below n (pool_valid chip.objects said.owners))
      (all_below chip.objects (settings_place_valid can_format n said.owners said.settings)) (settings_agreed can_format n said.owners said.settings) (records_valid bytes version k n)
      (λ counts.
      let fits = leb-true n chip.objects (right (leb 1 k && leb k chip.controllers) (leb n chip.objects) counts) in
      sym (all_below-and n kinds (λ h. owner_good h && settings_good h))
      ∙ ap (λ (b : Bool). all_below n kinds && b) (sym (all_below-and n owner_good settings_good) ∙ ap₂ ◌&&◌ (owners_judged fits) (settings_judged fits)))

  -- the same by a version and counts that were read from the bytes
  module _ {v k n : ℕ} (versions : v ≡ version) (controllers : k ≡ controllers_byte bytes) (objects : n ≡ objects_byte bytes) where
    pub said_by : records_say bytes v k n ≡ said
    unfolding configuration_of
    said_by = rw (versions, controllers, objects)

    judged_by : {front : Bool} → front ≡ outline k n → (front && (records_valid bytes v k n && pools_judged (records_say bytes v k n))) ≡ accepted_bytes chip can_format bytes
    judged_by {front} e =
        ap (λ (c : Configuration can_format). front && (records_valid bytes v k n && pools_judged c)) said_by ∙ rw (e, versions, controllers, objects) judged

  -- where the outline is good, there is a place for each object and the bytes hold each record
  pub outline_holds : (k n : ℕ) {front : Bool} → front ≡ outline k n → front ≡ true → (n ≤ chip.objects) × (header_size + can_format.record_size * n ≤ length bytes)
  outline_holds k n is holds =
      let e = sym is ∙ holds in
      let size = header_size + can_format.record_size * n in
      let front = header_valid chip can_format bytes && eqb (length bytes) size in
      let whole = eqb-true (length bytes) size (right (header_valid chip can_format bytes) (eqb (length bytes) size) (left front (counts_valid chip k n) e)) in
      let fits = right (leb 1 k && leb k chip.controllers) (leb n chip.objects) (right front (counts_valid chip k n) e) in
      (leb-true n chip.objects fits, omega arith)

  -- what each test of the reader says of the whole, by counts that were read from the bytes
  module _ {k n : ℕ} (controllers : k ≡ controllers_byte bytes) (objects : n ≡ objects_byte bytes) {front : Bool} (is : front ≡ outline k n) where
    pub outline_refused : front ≡ false → accepted_bytes chip can_format bytes ≡ false
    outline_refused refused = sym (rw refused at (judged_by {v = version} refl controllers objects is))

    module _ (holds : front ≡ true) {v : ℕ} (versions : v ≡ version) where
      pub records_refused : records_valid bytes v k n ≡ false → accepted_bytes chip can_format bytes ≡ false
      records_refused invalid = sym (rw (holds, invalid) at (judged_by versions controllers objects is))

      module _ {s : Setup} (read : Records_said bytes v k n s) where
        pub pools_left : accepted_bytes chip can_format bytes ≡ pools_judged (view_setup s)
        pools_left = sym (rw (holds, read.valid) at (judged_by versions controllers objects is)) ∙ ap pools_judged (sym read.setup)

        pub all_said : pools_judged (view_setup s) ≡ true → Configuration_said bytes (record { version = v; setup = s })
        all_said agree = record { accepted = pools_left ∙ agree; version_read = versions; setup = read.setup ∙ said_by versions controllers objects }

-- what says that the bytes are not accepted
pub ruleset refusals = (outline_refused, records_refused, pools_left)
