-- What stands at a number where arrays need not be as long as each other.
use Prim.Native.Nat.{ℕ, suc, ◌≤◌, max}
use mathlib.Core.Path.{◌≡◌, refl, sym, ◌∙◌}
use mathlib.Core.Bool.{Bool, true, false, cond}
use mathlib.Core.List.{List}
use native.Mathlib.Omega.{arith}
use lib.ListN.{length, get_or, get_or-eq_default}
use lib.Dec.{ltb, eqb}
use borrow.Author.Tests.{ltb-true, ltb-false, eqb-true}
use Rattle.rules.specs.Configuration.{settings_at}
use Rattle.rules.specs.Can.{Settings, can_format, unused_settings}
use Rattle.laws.proofs.Repeat.{length-list_below, get_or-list_below}
use Rattle.core_places.specs.Beside.{longest}
use Rattle.can_state.specs.Beside.{settings_beside, settings_of_one}

pub settings_beside_at : (payloads paddings codes masks : List ℕ) (h : ℕ)
    → settings_at can_format (settings_beside payloads paddings codes masks) h
    ≡ record { payload = get_or payloads h 0; padding = get_or paddings h 0; code = get_or codes h 0; mask = get_or masks h 0 }
settings_beside_at payloads paddings codes masks h = at (ltb h n) refl
  where
    n : ℕ
    n = max (length payloads) (longest paddings codes masks)

    f : ℕ → Settings
    f i = record { payload = get_or payloads i 0; padding = get_or paddings i 0; code = get_or codes i 0; mask = get_or masks i 0 }

    at : (t : Bool) → ltb h n ≡ t → settings_at can_format (settings_beside payloads paddings codes masks) h ≡ f h
    at true e = get_or-list_below n f h unused_settings (ltb-true h n e)
    at false e =
        let past = ltb-false h n e in
        let first : length payloads ≤ h = omega (arith, past) in
        let second : length paddings ≤ h = omega (arith, past) in
        let third : length codes ≤ h = omega (arith, past) in
        let fourth : length masks ≤ h = omega (arith, past) in
        let all : length (settings_beside payloads paddings codes masks) ≤ h = omega (arith, past, length-list_below n f) in
        rw (get_or-eq_default payloads 0 first, get_or-eq_default paddings 0 second, get_or-eq_default codes 0 third, get_or-eq_default masks 0 fourth)
        (get_or-eq_default (settings_beside payloads paddings codes masks) unused_settings all)

pub settings_of_one_at : (object : ℕ) (s : Settings) (paddings : List ℕ) (h : ℕ)
    → settings_at can_format (settings_of_one object s paddings) h
    ≡ cond (eqb h object) s (record { payload = 0; padding = get_or paddings h 0; code = 0; mask = 0 })
settings_of_one_at object s paddings h = at (ltb h n) refl
  where
    n : ℕ
    n = max (suc object) (length paddings)

    f : ℕ → Settings
    f i = cond (eqb i object) s (record { payload = 0; padding = get_or paddings i 0; code = 0; mask = 0 })

    at : (t : Bool) → ltb h n ≡ t → settings_at can_format (settings_of_one object s paddings) h ≡ f h
    at true e = get_or-list_below n f h unused_settings (ltb-true h n e)
    at false e = other (eqb h object) refl
      where
        other : (b : Bool) → eqb h object ≡ b → settings_at can_format (settings_of_one object s paddings) h ≡ f h
        other true q = let same = eqb-true h object q in let past = ltb-false h n e in absurd (omega (arith, past, same))
        other false q =
            let past = ltb-false h n e in
            let none : length paddings ≤ h = omega (arith, past) in
            let all : length (settings_of_one object s paddings) ≤ h = omega (arith, past, length-list_below n f) in
            rw (q, get_or-eq_default paddings 0 none) (get_or-eq_default (settings_of_one object s paddings) unused_settings all)
