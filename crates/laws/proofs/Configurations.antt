-- Configurations and their bytes as facts, and back: what a valid one has at its places, what a version can say, what bytes are accepted.
use Prim.Native.Nat.{ℕ, ◌+◌, ◌*◌, ◌≤◌, ◌<◌}
use mathlib.Core.Path.{◌≡◌}
use mathlib.Core.Bool.{true, not, ◌&&◌}
use mathlib.Core.List.{List}
use native.Mathlib.Omega.{arith}
use lib.ListN.{length, take, get_or}
use lib.Dec.{eqb, ltb, leb}
use borrow.Author.Tests.{eqb-true, eq-eqb, ltb-true, lt-ltb, le-ltb, leb-true, le-leb}
use Rattle.rules.specs.Limits.{Limits}
use Rattle.rules.specs.Format.{Format}
use Rattle.rules.specs.Repeat.{all_below}
use Rattle.rules.specs.Bytes.{same_bytes}
use Rattle.rules.specs.Core.{Owner, unused_owner, owner_at, owner_unused, owner_place_valid, pool_valid, counts_valid, owners_valid}
use Rattle.rules.specs.Configuration.{Configuration, settings_at, settings_place_valid, settings_agreed, all_settings_valid, configuration_valid}
use Rattle.rules.specs.Configuration.{header_size, version_of, objects_byte, object_record, configuration_of, kind_valid, size_valid, accepted_bytes}
use Rattle.rules.specs.Writer.{record_sayable, can_say}
use Rattle.laws.proofs.Tests.{both, left, right, not_true}
use Rattle.laws.proofs.Repeat.{all_facts, facts_all}
use Rattle.laws.proofs.Objects.{same_bytes_refl}
use Rattle.laws.proofs.Bytes.{same_bytes_true}

-- a place at rest is the unused one
unused_is : (o : Owner) → owner_unused o ≡ true → o ≡ unused_owner
unused_is o t =
    let k = eqb o.controller 0 in
    let r = not o.receiving in
    let p = eqb o.pool 0 in
    let two = left (k && r) p t in
    λ i. record {
      controller = eqb-true o.controller 0 (left k r two) i;
      receiving = not_true o.receiving (right k r two) i;
      pool = eqb-true o.pool 0 (right (k && r) p t) i;
    }

module _ (L : Limits) (F : Format) where
  -- What a valid configuration has at its places
  pub record Placed (c : Configuration F) : Type 0 where
    pub controllers_within : c.controller_count ≤ L.controllers
    pub within : c.object_count ≤ L.objects
    pub controller_used : (h : ℕ) → h < c.object_count → (owner_at c.owners h).controller < c.controller_count
    pub pool_used : (h : ℕ) → h < c.object_count → pool_valid L.objects c.owners h ≡ true
    pub settings_used : (h : ℕ) → h < c.object_count → F.settings_valid (owner_at c.owners h).receiving (settings_at F c.settings h) ≡ true
    pub owner_free : (h : ℕ) → c.object_count ≤ h → h < L.objects → owner_at c.owners h ≡ unused_owner
    pub settings_free : (h : ℕ) → c.object_count ≤ h → h < L.objects → F.settings_unused (settings_at F c.settings h) ≡ true

  pub placed : (c : Configuration F) → configuration_valid L F c ≡ true → Placed c
  placed c v =
      let n = c.object_count in
      let counts = counts_valid L c.controller_count n in
      let owners = owners_valid L c.controller_count n c.owners in
      let settings = all_settings_valid L F n c.owners c.settings in
      let owner_place = owner_place_valid c.controller_count n c.owners in
      let settings_place = settings_place_valid F n c.owners c.settings in
      let pool = pool_valid L.objects c.owners in
      let front = left (counts && owners) settings v in
      let owner_fact = all_facts L.objects owner_place (left (all_below L.objects owner_place) (all_below n pool) (right counts owners front)) in
      let pool_fact = all_facts n pool (right (all_below L.objects owner_place) (all_below n pool) (right counts owners front)) in
      let agreed = settings_agreed F n c.owners c.settings in
      let settings_fact = all_facts L.objects settings_place (left (all_below L.objects settings_place) agreed (right (counts && owners) settings v)) in
      let some = leb 1 c.controller_count in
      let few = leb c.controller_count L.controllers in
      let counted = left counts owners front in
      let le : n ≤ L.objects = leb-true n L.objects (right (some && few) (leb n L.objects) counted) in
      record {
        controllers_within = leb-true c.controller_count L.controllers (right some few (left (some && few) (leb n L.objects) counted));
        within = le;
        controller_used = λ h l. ltb-true _ c.controller_count (rw (lt-ltb h n l) at (owner_fact h (omega arith)));
        pool_used = pool_fact;
        settings_used = λ h l. rw (lt-ltb h n l) at (settings_fact h (omega arith));
        owner_free = λ h l b. unused_is (owner_at c.owners h) (rw (le-ltb h n l) at (owner_fact h b));
        settings_free = λ h l b. rw (le-ltb h n l) at (settings_fact h b);
      }

  -- What a version can say, as facts and back
  pub record CanSay (version : ℕ) (c : Configuration F) : Type 0 where
    pub known : F.known_version version ≡ true
    pub valid : configuration_valid L F c ≡ true
    pub owner_places : length c.owners ≡ L.objects
    pub settings_places : length c.settings ≡ L.objects
    pub controllers : c.controller_count < 256
    pub objects : c.object_count < 256
    pub records : (h : ℕ) → h < c.object_count → record_sayable L F version c h ≡ true

  pub say_facts : (version : ℕ) (c : Configuration F) → can_say L F version c ≡ true → CanSay version c
  unfolding can_say
  say_facts version c t =
      let k = F.known_version version in
      let v = configuration_valid L F c in
      let o = eqb (length c.owners) L.objects in
      let s = eqb (length c.settings) L.objects in
      let a = ltb c.controller_count 256 in
      let b = ltb c.object_count 256 in
      let r = all_below c.object_count (record_sayable L F version c) in
      let t₄ = left (k && v && (o && s) && (a && b)) r t in
      let t₃ = left (k && v && (o && s)) (a && b) t₄ in
      let t₂ = left (k && v) (o && s) t₃ in
      let places = right (k && v) (o && s) t₃ in
      let counts = right (k && v && (o && s)) (a && b) t₄ in
      record {
        known = left k v t₂;
        valid = right k v t₂;
        owner_places = eqb-true (length c.owners) L.objects (left o s places);
        settings_places = eqb-true (length c.settings) L.objects (right o s places);
        controllers = ltb-true c.controller_count 256 (left a b counts);
        objects = ltb-true c.object_count 256 (right a b counts);
        records = all_facts c.object_count (record_sayable L F version c) (right (k && v && (o && s) && (a && b)) r t);
      }

  pub facts_say : (version : ℕ) (c : Configuration F) → CanSay version c → can_say L F version c ≡ true
  unfolding can_say
  facts_say version c f =
      both
      (both
      (both (both f.known f.valid) (both (eq-eqb _ _ f.owner_places) (eq-eqb _ _ f.settings_places)))
      (both (lt-ltb _ _ f.controllers) (lt-ltb _ _ f.objects)))
      (facts_all c.object_count (record_sayable L F version c) f.records)

  -- Accepted bytes, as facts and back
  pub record Accepted (bytes : List ℕ) : Type 0 where
    pub header : take (length F.header) bytes ≡ F.header
    pub known : F.known_version (version_of bytes) ≡ true
    pub zero_byte : get_or bytes 7 0 ≡ 0
    pub size : length bytes ≡ header_size + F.record_size * objects_byte bytes
    pub kinds : (h : ℕ) → h < objects_byte bytes → get_or (object_record L F bytes h) 1 0 ≤ 1
    pub valid : configuration_valid L F (configuration_of L F bytes) ≡ true

  pub accepted_facts : (bytes : List ℕ) → accepted_bytes L F bytes ≡ true → Accepted bytes
  unfolding accepted_bytes
  accepted_facts bytes t =
      let first = take (length F.header) bytes in
      let m = same_bytes first F.header in
      let k = F.known_version (version_of bytes) in
      let z = eqb (get_or bytes 7 0) 0 in
      let s = size_valid L F bytes in
      let r = all_below (objects_byte bytes) (kind_valid L F bytes) in
      let v = configuration_valid L F (configuration_of L F bytes) in
      let t₃ = left (m && k && z && s && r) v t in
      let t₂ = left (m && k && z && s) r t₃ in
      let t₁ = left (m && k && z) s t₂ in
      record {
        header = same_bytes_true first F.header (left m k (left (m && k) z t₁));
        known = right m k (left (m && k) z t₁);
        zero_byte = eqb-true (get_or bytes 7 0) 0 (right (m && k) z t₁);
        size = eqb-true (length bytes) (header_size + F.record_size * objects_byte bytes) (right (m && k && z) s t₂);
        kinds = λ h l. leb-true _ 1 (all_facts (objects_byte bytes) (kind_valid L F bytes) (right (m && k && z && s) r t₃) h l);
        valid = right (m && k && z && s && r) v t;
      }

  pub facts_accepted : (bytes : List ℕ) → Accepted bytes → accepted_bytes L F bytes ≡ true
  unfolding accepted_bytes
  facts_accepted bytes f =
      let start : same_bytes (take (length F.header) bytes) F.header ≡ true = rw f.header (same_bytes_refl F.header) in
      both
      (both
      (both
      (both (both start f.known) (eq-eqb _ 0 f.zero_byte))
      (eq-eqb _ _ f.size))
      (facts_all (objects_byte bytes) (kind_valid L F bytes) (λ h l. le-leb _ 1 (f.kinds h l))))
      f.valid
