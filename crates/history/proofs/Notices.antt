-- Which notifications close an object. One that does not leaves the object's account as it was.
use Prim.Native.Nat.{ℕ}
use mathlib.Core.Path.{◌≡◌, refl, ap, ◌∙◌}
use mathlib.Core.Bool.{Bool, false}
use mathlib.Core.List.{List, [], ◌∷◌, ◌++◌}
use mathlib.Core.Option.{Option, none, some}
use lib.Dec.{eqb}
use Rattle.rules.specs.Reason.{is_development_error}
use Rattle.rules.specs.Notification.{Notification, tx_confirmation, rx_indication, mode_indication, bus_off_indication, development_error, data_lost, tx_cancellation, error_passive_indication}
use Rattle.rules.specs.Errors.{Errors, capped}
use Rattle.rules.specs.Core.{Controller, Mailbox}
use Rattle.rules.specs.Polls.{closing_notification}
use Rattle.rules.specs.Events.{enters_passive, passive_report}
use Rattle.history.specs.Account.{Account, after_notification, after_notifications}
use Rattle.history.specs.Demand1.{error_record}
use Rattle.history.specs.Notices.{one_of, closes, closed_in}
use Rattle.laws.proofs.Tests.{cond_both, neither}

-- a refusal's record is not such, where no development error is
pub quiet_error : (such : Notification → Bool) → ((service error : ℕ) → such (development_error service error) ≡ false) → (service : Option ℕ) (r : ℕ) → one_of such (error_record service r) ≡ false
unfolding one_of
quiet_error such quiet none r = refl
quiet_error such quiet (some service) r =
    cond_both (λ (ns : List Notification). one_of such ns ≡ false) (is_development_error r) (development_error service r ∷ []) [] (λ t. rw (quiet service r)) (λ t. refl)

-- nor is the record of a controller that enters passive
pub quiet_passive : (such : Notification → Bool) → ((c tx rx : ℕ) → such (error_passive_indication c tx rx) ≡ false) → (c tx rx : ℕ) (k : Controller) (e : Errors) → one_of such (passive_report c tx rx k e) ≡ false
unfolding one_of
quiet_passive such quiet c tx rx k e =
    cond_both (λ (ns : List Notification). one_of such ns ≡ false) (enters_passive tx rx k e) (error_passive_indication c (capped tx) (capped rx) ∷ []) []
    (λ t. rw (quiet c (capped tx) (capped rx))) (λ t. refl)

-- one notification more, which is not such either
pub still_none : (such : Notification → Bool) (ns : List Notification) (n : Notification) → one_of such ns ≡ false → such n ≡ false → one_of such (ns ++ (n ∷ [])) ≡ false
unfolding one_of
still_none such [] n e f = rw f
still_none such (m ∷ ns) n e f =
    let none = neither (such m) (one_of such ns) e in
    rw none.0 (still_none such ns n none.1 f)

-- a closing notice closes the object that it names
pub closes_named : (h i handle : ℕ) (m : Mailbox) → closes h (closing_notification m i handle) ≡ eqb i h
closes_named h i handle m =
    cond_both (λ (n : Notification). closes h n ≡ eqb i h) m.tx_done (tx_confirmation i handle) (tx_cancellation i handle) (λ t. refl) (λ t. refl)

pub unclosed_one : (h : ℕ) (n : Notification) (x : Account) → closes h n ≡ false → after_notification h x n ≡ x
unclosed_one h (tx_confirmation i handle) x e = rw e
unclosed_one h (tx_cancellation i handle) x e = rw e
unclosed_one h (rx_indication i identifier len) x e = refl
unclosed_one h (mode_indication c m) x e = refl
unclosed_one h (bus_off_indication c) x e = refl
unclosed_one h (development_error service error) x e = refl
unclosed_one h (data_lost i) x e = refl
unclosed_one h (error_passive_indication c tx rx) x e = refl

pub unclosed : (h : ℕ) (ns : List Notification) (x : Account) → closed_in h ns ≡ false → after_notifications h x ns ≡ x
unfolding one_of after_notifications
unclosed h [] x e = refl
unclosed h (n ∷ ns) x e =
    let none_closed = neither (closes h n) (closed_in h ns) e in
    ap (λ (y : Account). after_notifications h y ns) (unclosed_one h n x none_closed.0) ∙ unclosed h ns x none_closed.1

-- the account after one notification more
pub after_more : (h : ℕ) (a : Account) (ns : List Notification) (n : Notification) → after_notifications h a (ns ++ (n ∷ [])) ≡ after_notification h (after_notifications h a ns) n
unfolding after_notifications
after_more h a [] n = refl
after_more h a (m ∷ ns) n = after_more h (after_notification h a m) ns n

pub after_unclosed : (h : ℕ) (a : Account) (ns : List Notification) (n : Notification) → closes h n ≡ false → after_notifications h a (ns ++ (n ∷ [])) ≡ after_notifications h a ns
after_unclosed h a ns n e = after_more h a ns n ∙ unclosed_one h n (after_notifications h a ns) e
