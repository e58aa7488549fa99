-- The writer of configurations. 02, Q-2: "Also add the writer of both versions".
use Rattle.std.specs.Prelude.{ℕ, ◌+◌, ◌*◌, Bool, not, cond, ◌&&◌, List, [], ◌∷◌, ◌++◌, length, eqb, ltb}
use Rattle.rules.specs.Limits.{Limits}
use Rattle.rules.specs.Repeat.{all_below, concat_below}
use Rattle.rules.specs.Bytes.{big_endian, splice}
use Rattle.rules.specs.Reason.{Check, ◌if◌, first_reason, CAN_E_INIT_FAILED, SHEET_TOO_SHORT}
use Rattle.rules.specs.Core.{owner_at}
use Rattle.rules.specs.Format.{Format}
use Rattle.rules.specs.Configuration.{Configuration, header_size, settings_at, configuration_valid}

module _ (L : Limits) (F : Format) where
  -- what record h says
  abbrev pub record_sayable : ℕ → Configuration F → ℕ → Bool
  record_sayable version c h = F.can_say version h (owner_at c.owners h) (settings_at F c.settings h)

  -- the version is known, and says the configuration: it is valid, with a place for each object and no more, its counts have a byte each,
  -- and a record says each object
  unfoldable pub can_say : ℕ → Configuration F → Bool
  can_say version c =
      F.known_version version
      && configuration_valid L F c
      && (eqb (length c.owners) L.objects && eqb (length c.settings) L.objects)
      && (ltb c.controller_count 256 && ltb c.object_count 256)
      && all_below c.object_count (record_sayable version c)

  -- the bytes: header, version, controllers, objects, a zero byte, then the records
  unfoldable pub configuration_bytes : ℕ → Configuration F → List ℕ
  configuration_bytes version c =
      (F.header ++ (big_endian 2 version ++ (c.controller_count ∷ c.object_count ∷ 0 ∷ [])))
      ++ concat_below c.object_count (λ h. F.record_of version (owner_at c.owners h) (settings_at F c.settings h))

  -- "8 + 12n"
  abbrev pub written_size : Configuration F → ℕ
  written_size c = header_size + F.record_size * c.object_count

  -- "9 exactly for what its version cannot say, then 32 for a short buffer"; the number is the buffer's length
  abbrev pub writer_checks : ℕ → Configuration F → ℕ → List Check
  writer_checks version c room = CAN_E_INIT_FAILED if not (can_say version c) ∷ SHEET_TOO_SHORT if ltb room (written_size c) ∷ []

  unfoldable pub writer_reason : ℕ → Configuration F → ℕ → ℕ
  writer_reason version c room = first_reason (writer_checks version c room)

  -- "both leaving it unchanged; bytes past its last stay"
  unfoldable pub buffer_after : ℕ → Configuration F → List ℕ → List ℕ
  buffer_after version c buffer = cond (eqb (writer_reason version c (length buffer)) 0) (splice 0 (configuration_bytes version c) buffer) buffer
