-- Settings in one array for each field: what stands at a place is what stands at its number in each of them; and so each array is read off the
-- places again.
use Prim.Native.Nat.{ℕ}
use mathlib.Core.Path.{◌≡◌, ap, sym, ◌∙◌}
use mathlib.Core.List.{List, map}
use lib.ListN.{length, get_or}
use Rattle.rules.specs.Configuration.{settings_at}
use Rattle.rules.specs.Can as can
use Rattle.core_places.specs.Arrays.{zip_with_4, Alike}
use Rattle.core_places.specs.Zip.{zip_4_length, zip_4_at}
use Rattle.core_places.specs.Columns.{column}

-- payload, padding value, filter code, filter mask
abbrev pub settings_in : List ℕ → List ℕ → List ℕ → List ℕ → List can.Settings
settings_in payloads paddings codes masks =
    zip_with_4 (λ p d c m. record { payload = p; padding = d; code = c; mask = m }) payloads paddings codes masks

-- the arrays have a place for each of the same numbers
pub record SettingsAlike (payloads paddings codes masks : List ℕ) : Type 0 where
  pub three : Alike payloads paddings codes
  pub fourth : length masks ≡ length payloads

module _ (payloads paddings codes masks : List ℕ) (alike : SettingsAlike payloads paddings codes masks) where
  abbrev ss : List can.Settings
  ss = settings_in payloads paddings codes masks

  pub settings_length : length ss ≡ length payloads
  settings_length = zip_4_length _ payloads paddings codes masks alike.three alike.fourth

  pub settings_seen : (h : ℕ)
      → settings_at can.can_format ss h ≡ record { payload = get_or payloads h 0; padding = get_or paddings h 0; code = get_or codes h 0; mask = get_or masks h 0 }
  settings_seen h =
      zip_4_at (λ p d c m. record { payload = p; padding = d; code = c; mask = m }) payloads paddings codes masks h 0 0 0 0 alike.three alike.fourth

  pub payload_back : map (λ (s : can.Settings). s.payload) ss ≡ payloads
  payload_back = column (λ (s : can.Settings). s.payload) can.unused_settings ss payloads (settings_length) (λ h. ap (λ (s : can.Settings). s.payload) (settings_seen h))

  pub padding_back : map (λ (s : can.Settings). s.padding) ss ≡ paddings
  padding_back = column (λ (s : can.Settings). s.padding) can.unused_settings ss paddings (settings_length ∙ sym alike.three.second) (λ h. ap (λ (s : can.Settings). s.padding) (settings_seen h))

  pub code_back : map (λ (s : can.Settings). s.code) ss ≡ codes
  code_back = column (λ (s : can.Settings). s.code) can.unused_settings ss codes (settings_length ∙ sym alike.three.third) (λ h. ap (λ (s : can.Settings). s.code) (settings_seen h))

  pub mask_back : map (λ (s : can.Settings). s.mask) ss ≡ masks
  mask_back = column (λ (s : can.Settings). s.mask) can.unused_settings ss masks (settings_length ∙ sym alike.fourth) (λ h. ap (λ (s : can.Settings). s.mask) (settings_seen h))
