-- What a call reports, and how it stands on the sheet. 01, "Records": a notification is 01's record.
use Rattle.std.specs.Prelude.{ℕ, List, [], ◌∷◌, ◌++◌}
use Rattle.rules.specs.Bytes.{splice}

pub data Notification : Type 0 where
  -- "confirmed": object, handle
  tx_confirmation : ℕ → ℕ → Notification
  -- "received": object, identifier, wire length
  rx_indication : ℕ → ℕ → ℕ → Notification
  -- "mode": controller, mode
  mode_indication : ℕ → ℕ → Notification
  -- "bus-off": controller
  bus_off_indication : ℕ → Notification
  -- "development error": service, error
  development_error : ℕ → ℕ → Notification
  -- "runtime error, data lost": object
  data_lost : ℕ → Notification
  -- "cancelled": object, handle
  tx_cancellation : ℕ → ℕ → Notification
  -- 02, Q-5: "Entering passive from active": "controller, transmit count, receive count"
  error_passive_indication : ℕ → ℕ → ℕ → Notification

-- the four words of a notification, the kind first
unfoldable pub words : Notification → List ℕ
words (tx_confirmation h handle) = 1 ∷ h ∷ handle ∷ 0 ∷ []
words (rx_indication h identifier len) = 2 ∷ h ∷ identifier ∷ len ∷ []
words (mode_indication c mode) = 3 ∷ c ∷ mode ∷ 0 ∷ []
words (bus_off_indication c) = 4 ∷ c ∷ 0 ∷ 0 ∷ []
words (development_error service error) = 5 ∷ service ∷ error ∷ 0 ∷ []
words (data_lost h) = 6 ∷ h ∷ 1 ∷ 0 ∷ []
words (tx_cancellation h handle) = 7 ∷ h ∷ handle ∷ 0 ∷ []
words (error_passive_indication c tx rx) = 8 ∷ c ∷ tx ∷ rx ∷ []

unfoldable pub all_words : List Notification → List ℕ
all_words [] = []
all_words (n ∷ ns) = words n ++ all_words ns

-- "A call writes its records from word 0 on, four words each .. Words after them keep their values."
abbrev pub sheet_after : List Notification → List ℕ → List ℕ
sheet_after ns sheet = splice 0 (all_words ns) sheet
