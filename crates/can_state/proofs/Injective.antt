-- The view forgets nothing: two states that the rules see alike are one state. So a contract, which speaks of views, speaks of every field that the
-- code has, and no field can be added to a state that the rules do not see. The view is that of the state's model, and so it is of the core in it; a
-- struct of arrays is seen as the list of its places, which gives the arrays back: core_places/proofs/Injective.antt.
use Prim.Native.Nat.{ℕ}
use mathlib.Core.Path.{◌≡◌}
use Rattle.rules.specs.Can.{Settings}
use Rattle.core_places.proofs.Injective.{same}
use Rattle.can_state.specs.declared.state.State.TheInside as of_state
use Rattle.can_state.specs.declared.settings_places.SettingsPlaces.TheInside.{Inside}
use Rattle.can_state.specs.Seen.{state_seen}
use Rattle.can_state.specs.Columns.{SettingsAlike, settings_in, payload_back, padding_back, code_back, mask_back}

pub view_injective : (s t : of_state.Inside) → state_seen s ≡ state_seen t → s ≡ t
view_injective s t e =
    λ i.
    record {
      core = (e i).core;
      settings = (e i).settings;
    }

-- So it is of the settings' arrays.
pub settings_injective : {N : ℕ} (a b : Inside N) → SettingsAlike a.payloads a.paddings a.codes a.masks → SettingsAlike b.payloads b.paddings b.codes b.masks
    → settings_in a.payloads a.paddings a.codes a.masks ≡ settings_in b.payloads b.paddings b.codes b.masks → a ≡ b
settings_injective a b m n e =
    λ i.
    record {
      payloads = same (λ (s : Settings). s.payload) e (payload_back a.payloads a.paddings a.codes a.masks m) (payload_back b.payloads b.paddings b.codes b.masks n) i;
      paddings = same (λ (s : Settings). s.padding) e (padding_back a.payloads a.paddings a.codes a.masks m) (padding_back b.payloads b.paddings b.codes b.masks n) i;
      codes = same (λ (s : Settings). s.code) e (code_back a.payloads a.paddings a.codes a.masks m) (code_back b.payloads b.paddings b.codes b.masks n) i;
      masks = same (λ (s : Settings). s.mask) e (mask_back a.payloads a.paddings a.codes a.masks m) (mask_back b.payloads b.paddings b.codes b.masks n) i;
    }
