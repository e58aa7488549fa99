-- Settings whose fields stand in arrays that need not be as long as each other: there are as many as the longest has, and past an array's end its
-- field is at rest. So a call can be lent `&[]` for a field that it does not read.
use Rattle.std.specs.Prelude.{ℕ, suc, max, eqb, cond, List, length, get_or}
use Rattle.rules.specs.Repeat.{list_below}
use Rattle.rules.specs.Can.{Settings}
use Rattle.core_places.specs.Beside.{longest}

-- payload, padding value, filter code, filter mask
abbrev pub settings_beside : List ℕ → List ℕ → List ℕ → List ℕ → List Settings
settings_beside payloads paddings codes masks =
    list_below (max (length payloads) (longest paddings codes masks))
    (λ h. record { payload = get_or payloads h 0; padding = get_or paddings h 0; code = get_or codes h 0; mask = get_or masks h 0 })

-- the settings of one object, and the padding values of the others
abbrev pub settings_of_one : ℕ → Settings → List ℕ → List Settings
settings_of_one object s paddings =
    list_below (max (suc object) (length paddings))
    (λ h. cond (eqb h object) s (record { payload = 0; padding = get_or paddings h 0; code = 0; mask = 0 }))
