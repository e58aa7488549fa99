-- The records of a configuration: how long each is, one more of them, and when a version can say it.
use Prim.Native.Nat.{ℕ, ◌+◌, ◌*◌, ◌≤◌}
use mathlib.Core.Path.{◌≡◌, refl}
use mathlib.Core.Bool.{Bool, true, false, not, cond, ◌&&◌}
use mathlib.Core.List.{List, [], ◌∷◌, ◌++◌}
use native.Mathlib.Omega.{arith}
use native.Mathlib.Numerals.{add-one}
use lib.ListN.{length}
use lib.Dec.{eqb}
use borrow.Author.Tests.{eq-eqb, lt-ltb}
use Rattle.rules.specs.Repeat.{all_below, concat_below}
use Rattle.rules.specs.Bytes.{big_endian, splice}
use Rattle.rules.specs.Core.{Owner, owner_at}
use Rattle.rules.specs.Configuration.{Configuration, header_size, settings_at, configuration_valid}
use Rattle.rules.specs.Writer.{record_sayable, can_say}
use Rattle.rules.specs.Can.{Settings, can_format, header, known_version, record_of}
use Rattle.rules.specs.Chip.{chip}
use Rattle.laws.proofs.Tests.{right}
use Rattle.laws.proofs.Splices.{splice_then}
use Rattle.laws.proofs.Bytes.{concat-length}
use Rattle.laws.proofs.Configurations.{placed, say_facts}
use Rattle.can_writer.specs.Records.{record_at}

-- the header has its size, and every record has
pub header_whole : (version controller_count object_count : ℕ)
    → length (header ++ (big_endian 2 version ++ (controller_count ∷ object_count ∷ 0 ∷ []))) ≡ header_size
unfolding big_endian
header_whole version controller_count object_count = refl

pub record_whole : (version : ℕ) (o : Owner) (s : Settings) → length (record_of version o s) ≡ can_format.record_size
unfolding big_endian
record_whole version o s = go (eqb version 2 && not o.receiving)
  where
    go : (b : Bool) → length ((0 ∷ 0 ∷ 0 ∷ 0 ∷ []) ++ (cond b (0 ∷ 0 ∷ 0 ∷ o.pool ∷ []) (big_endian 4 s.code) ++ big_endian 4 s.mask)) ≡ 12
    go true = refl
    go false = refl

module _ (version : ℕ) (os : List Owner) (ss : List Settings) where
  abbrev size : ℕ
  size = can_format.record_size

  -- a record right behind the others is one more of them
  pub record_more : (h : ℕ) (buffer : List ℕ) {l₁ l₂ r : List ℕ} → header_size + size * h ≤ length buffer
      → l₁ ≡ splice header_size (concat_below h (record_at version os ss)) buffer
      → r ≡ record_at version os ss h → l₂ ≡ splice (header_size + size * h) r l₁
      → l₂ ≡ splice header_size (concat_below (h + 1) (record_at version os ss)) buffer
  unfolding concat_below
  record_more h buffer room before is after =
      let long = concat-length size h (record_at version os ss) (λ i l. record_whole version (owner_at os i) (settings_at can_format ss i)) in
      rw add-one
      (splice_then header_size (header_size + size * h) (concat_below h (record_at version os ss)) (record_at version os ss h) buffer before
      (rw is at after) (omega arith) room)

-- A known version says a valid configuration that has the chip's places, if its records do.
module _ (version : ℕ) (c : Configuration can_format) where
  abbrev pub allowed : Bool
  allowed = known_version version && configuration_valid chip can_format c

  pub unsayable : allowed ≡ false → false ≡ can_say chip can_format version c
  unfolding can_say
  unsayable t = rw t

  pub sayable : length c.owners ≡ chip.objects → length c.settings ≡ chip.objects → allowed ≡ true
      → all_below c.object_count (record_sayable chip can_format version c) ≡ can_say chip can_format version c
  unfolding can_say
  sayable owners settings t =
      let p = placed chip can_format c (right (known_version version) (configuration_valid chip can_format c) t) in
      rw (
        t,
        eq-eqb (length c.owners) chip.objects owners,
        eq-eqb (length c.settings) chip.objects settings,
        lt-ltb c.controller_count 256 (omega (arith, p.controllers_within)),
        lt-ltb c.object_count 256 (omega (arith, p.within)),
      )

-- What a version says has no more in use than there are places.
pub said_within : (version : ℕ) (c : Configuration can_format) → can_say chip can_format version c ≡ true → (c.controller_count ≤ chip.controllers) × (c.object_count ≤ chip.objects)
said_within version c said =
    let p = placed chip can_format c (say_facts chip can_format version c said).valid in
    (p.controllers_within, p.within)
