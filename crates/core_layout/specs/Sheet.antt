-- A notification on the sheet. 01: "A call writes its records from word 0 on, four words each .. Words after them keep their values."
use Rattle.std.specs.Prelude.{ℕ}
use Rattle.rules.specs.Notification as rules
use Rattle.core_layout.specs.declared.notification.Notification.{Notification}
use Rattle.core_layout.specs.declared.notification.Notification.TheVariants.{TxConfirmation, RxIndication, ModeIndication, BusOffIndication, DevelopmentError, DataLost, TxCancellation, ErrorPassive}

-- the code's notification as the rules'
abbrev pub view : Notification → rules.Notification
view (TxConfirmation object handle) = rules.tx_confirmation object handle
view (RxIndication object identifier len) = rules.rx_indication object identifier len
view (ModeIndication controller mode) = rules.mode_indication controller mode
view (BusOffIndication controller) = rules.bus_off_indication controller
view (DevelopmentError service error) = rules.development_error service error
view (DataLost object) = rules.data_lost object
view (TxCancellation object handle) = rules.tx_cancellation object handle
view (ErrorPassive controller transmit receive) = rules.error_passive_indication controller transmit receive

-- "four words each"
abbrev pub words_each : ℕ
words_each = 4
