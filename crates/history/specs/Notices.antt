-- Which of a call's records close an object, and which cancel it.
use Rattle.std.specs.Prelude.{ℕ, Bool, false, ◌||◌, List, [], ◌∷◌, eqb}
use Rattle.rules.specs.Notification.{Notification, tx_confirmation, rx_indication, mode_indication, bus_off_indication, development_error, data_lost, tx_cancellation, error_passive_indication}

-- one of the records is such
unfoldable pub one_of : (Notification → Bool) → List Notification → Bool
one_of such [] = false
one_of such (n ∷ ns) = such n || one_of such ns

-- "A closing notice of an object is a record of kind 1 (a confirmation) or 7 that names it"
abbrev pub closes : ℕ → Notification → Bool
closes h (tx_confirmation i handle) = eqb i h
closes h (tx_cancellation i handle) = eqb i h
closes h (rx_indication i identifier len) = false
closes h (mode_indication c m) = false
closes h (bus_off_indication c) = false
closes h (development_error service error) = false
closes h (data_lost i) = false
closes h (error_passive_indication c tx rx) = false

-- 01: "7 cancelled"
abbrev pub cancels : ℕ → Notification → Bool
cancels h (tx_cancellation i handle) = eqb i h
cancels h (tx_confirmation i handle) = false
cancels h (rx_indication i identifier len) = false
cancels h (mode_indication c m) = false
cancels h (bus_off_indication c) = false
cancels h (development_error service error) = false
cancels h (data_lost i) = false
cancels h (error_passive_indication c tx rx) = false

abbrev pub closed_in : ℕ → List Notification → Bool
closed_in h ns = one_of (closes h) ns

abbrev pub cancelled_in : ℕ → List Notification → Bool
cancelled_in h ns = one_of (cancels h) ns
