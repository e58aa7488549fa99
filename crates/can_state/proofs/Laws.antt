-- How the tests of the settings and of the pools make up those of the rules, and the tests of the parts that of the state.
use Prim.Native.Nat.{ℕ, ◌+◌, ◌≤◌, ◌<◌, min}
use native.Mathlib.Omega.{arith}
use mathlib.Core.Path.{◌≡◌, refl, sym, ap, ap₂, ◌∙◌}
use mathlib.Core.Bool.{Bool, true, false, cond, ◌&&◌, ◌||◌, and-true, and_assoc, and_comm}
use mathlib.Core.Logic.{◌⊎◌, inl, inr}
use mathlib.Core.List.{List}
use lib.ListN.{length}
use lib.Dec.{ltb}
use borrow.Author.Tests.{ltb-true, eq-eqb}
use Rattle.rules.specs.Configuration.{settings_at, settings_place_valid, settings_agreed}
use Rattle.rules.specs.Repeat.{all_below}
use Rattle.rules.specs.Core.{Owner, Core, owner_at, lowest_of, pool_valid}
use Rattle.rules.specs.State.{State, valid}
use Rattle.rules.specs.Can as can
use Rattle.rules.specs.Can.{can_format}
use Rattle.rules.specs.Chip.{chip}
use Rattle.laws.proofs.Tests.{both, left, decide, under}
use Rattle.laws.proofs.Repeat.{facts_all}
use Rattle.core_places.specs.View.{limits_of}
use Rattle.core_places.proofs.Laws.{limited_count}
use Rattle.core_validity.specs.Tests.{places_valid, errors_places_valid}
use Rattle.core_validity.specs.Pools.{Tabled, lowest_seen, pool_beside, own_pools, pools_valid}
use Rattle.core_validity.proofs.LowestTable.{seen_lowest, beside_valid}
use Rattle.core_validity.proofs.OwnPools.{own_lowest, own_valid}
use Rattle.core_validity.proofs.Whole.{core_parts, places_within}
use Rattle.core_validity.proofs.Laws.{and_pairs, all_below_ext, all_below-and, all_below_more, by_count}
use Rattle.can_state.specs.Tests.{settings_suit, settings_rest, settings_places_valid, pools_agreed}

-- The test of one object: what it is compared with is the lowest of its pool, where its pool is valid, and else that does not matter.
module _ (os : List Owner) (ss : List can.Settings) where
  -- object h has the payload and the padding of another
  abbrev agree : ℕ → ℕ → Bool
  agree h other = can.settings_agree (settings_at can_format ss h) (settings_at can_format ss other)

  -- object h receives, or agrees with the lowest of its pool
  abbrev agreed_at : ℕ → Bool
  agreed_at h = (owner_at os h).receiving || agree h (lowest_of os h)

  agree_self : (h : ℕ) → agree h h ≡ true
  agree_self h = let s = settings_at can_format ss h in both (eq-eqb s.payload s.payload refl) (eq-eqb s.padding s.padding refl)

  module _ (h : ℕ) (table : List ℕ) (tabled : Tabled os chip.objects h table) (past : h ≤ chip.objects) (fits : length table ≡ chip.objects) where
    abbrev low : ℕ
    low = lowest_seen os table h

    beside_agreed : pool_valid chip.objects os h ≡ true → agree h low ≡ agreed_at h
    beside_agreed good = go (decide (owner_at os h).receiving)
      where
        go : ((owner_at os h).receiving ≡ true) ⊎ ((owner_at os h).receiving ≡ false) → agree h low ≡ agreed_at h
        go (inl receives) = rw receives (agree_self h)
        go (inr sends) =
            let own = (owner_at os h).pool in
            let inside = ltb-true own chip.objects (left (ltb own chip.objects) _ (rw sends at good)) in
            ap (agree h) (seen_lowest os chip.objects h table tabled past sends (omega (arith, fits, inside))) ∙ rw sends

    -- the test of one object more, beside what it finds
    pub agreed_more : {ok pooled agreed : Bool} {lowest : ℕ} → ok ≡ pools_agreed h os ss → lowest ≡ low
        → pooled ≡ pool_beside chip.objects os h lowest → agreed ≡ agree h lowest → (ok && (pooled && agreed)) ≡ pools_agreed (h + 1) os ss
    agreed_more e found p a =
        let each : ℕ → Bool = λ i. pool_valid chip.objects os i && agreed_at i in
        let all : (n : ℕ) → all_below n each ≡ pools_agreed n os ss = λ n. sym (all_below-and n (pool_valid chip.objects os) agreed_at) in
        all_below_more each h (e ∙ sym (all h))
        (ap₂ ◌&&◌ (p ∙ ap (pool_beside chip.objects os h) found ∙ beside_valid os chip.objects h table tabled past chip.objects fits) (a ∙ ap (agree h) found)
        ∙ under (pool_valid chip.objects os h) beside_agreed)
        ∙ all (h + 1)

  -- where no pool is shared, each object is compared with itself
  pub own_agreed : (n : ℕ) → n ≤ chip.objects → own_pools os n ≡ true → true ≡ pools_agreed n os ss
  own_agreed n within own = sym (both (own_valid os n own chip.objects within) (facts_all n agreed_at (λ h used. go h used (decide (owner_at os h).receiving))))
    where
      go : (h : ℕ) → h < n → ((owner_at os h).receiving ≡ true) ⊎ ((owner_at os h).receiving ≡ false) → agreed_at h ≡ true
      go h used (inl receives) = rw receives
      go h used (inr sends) = rw (sends, own_lowest os n own h used sends) (agree_self h)

-- The settings in use and the others are all settings.
pub settings_parts : (count : ℕ) (os : List Owner) (ss : List can.Settings) → length ss ≡ chip.objects
    → (settings_suit os ss (min count chip.objects) && settings_rest ss (min count chip.objects)) ≡ settings_places_valid count os ss
settings_parts count os ss places =
    let end = min count chip.objects in
    let used : ℕ → Bool = λ h. can.settings_valid (owner_at os h).receiving (settings_at can_format ss h) in
    let rest : ℕ → Bool = λ h. can.settings_unused (settings_at can_format ss h) in
    rw places
    (sym (by_count end rest chip.objects used (omega arith))
    ∙ all_below_ext chip.objects (λ h. cond (ltb h end) (used h) (rest h)) (settings_place_valid can_format count os ss)
    (λ h l. rw (limited_count h chip.objects count l)))

-- The places are tested as the rules test them: their test looks at no more of the chip than how many there are.
same_places : (core : Core) → places_valid (limits_of chip.controllers chip.objects) core ≡ places_valid chip core
unfolding places_valid
same_places core = refl

last_to_second : (a b c : Bool) → (a && b && c) ≡ (a && c && b)
last_to_second a b c = and_assoc a b c ∙ ap (λ (t : Bool). a && t) (and_comm b c) ∙ sym (and_assoc a c b)

-- The tests of the places, of all settings, of the pools and of all errors are the test of the state.
pub valid_parts : (s : State can_format) → length s.settings ≡ chip.objects → {a b c d : Bool}
    → a ≡ places_valid (limits_of chip.controllers chip.objects) s.core
    → b ≡ settings_places_valid s.core.object_count s.core.owners s.settings
    → c ≡ pools_agreed (min s.core.object_count chip.objects) s.core.owners s.settings
    → d ≡ errors_places_valid chip.controllers s.core.controller_count s.core.controllers s.core.errors
    → (a && b && c && d) ≡ valid chip can_format s
unfolding valid
valid_parts s full a_is b-is c_is d_is =
    let core = s.core in
    let os = core.owners in
    let ss = s.settings in
    let count = core.object_count in
    let places = places_valid chip core in
    let settings = settings_places_valid count os ss in
    let pooled = pools_valid chip.objects os count in
    let agreed = settings_agreed can_format count os ss in
    let errors = errors_places_valid chip.controllers core.controller_count core.controllers core.errors in
    let counted : places ≡ true → min count chip.objects ≡ count = λ t. let within = places_within chip core t in omega (arith, within) in
    let tested : (places_valid (limits_of chip.controllers chip.objects) core && settings && pools_agreed (min count chip.objects) os ss)
    ≡ (places && pooled && (settings && agreed)) =
    rw (same_places core)
    (and_assoc places settings (pools_agreed (min count chip.objects) os ss)
    ∙ under places (λ t. ap (λ (n : ℕ). settings && pools_agreed n os ss) (counted t))
    ∙ sym (and_assoc places settings (pooled && agreed))
    ∙ and_pairs places settings pooled agreed)
    in
    ap₂ ◌&&◌ (ap₂ ◌&&◌ (ap₂ ◌&&◌ a_is b-is) c_is) d_is
    ∙ ap (λ (b : Bool). b && errors) tested
    ∙ last_to_second (places && pooled) (settings && agreed) errors
    ∙ rw (core_parts chip core, eq-eqb (length ss) chip.objects full, and-true (places && pooled && errors))
