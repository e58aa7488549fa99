-- The paper's number for every case of an answer. 01, "Reasons for a no".
use Rattle.std.specs.Prelude.{ℕ, Result, Ok, Err}
use Rattle.rules.specs.Reason.{CAN_E_PARAM_HANDLE, CAN_E_PARAM_DATA_LENGTH, CAN_E_PARAM_CONTROLLER, CAN_E_UNINIT, CAN_E_TRANSITION, CAN_E_INIT_FAILED, SHEET_TOO_SHORT, WRONG_RAM_SIZE, BAD_IDENTIFIER, NOT_STARTED, OBJECT_BUSY, BUS_OFF, NOTHING_TO_SEND, BAD_LENGTH, INVALID_STATE, ERROR_COUNT_TOO_LARGE}
use Rattle.core_answers.specs.declared.rejection.Rejection.{Rejection}
use Rattle.core_answers.specs.declared.rejection.Rejection.TheVariants.{ParamHandle, ParamDataLength, ParamController, Uninit, Transition, InitFailed, SheetTooShort, WrongRamSize, BadIdentifier, NotStarted, ObjectBusy, BusOff, NothingToSend, BadLength, InvalidState, ErrorCountTooLarge}

abbrev pub reason_of : Rejection → ℕ
reason_of ParamHandle = CAN_E_PARAM_HANDLE
reason_of ParamDataLength = CAN_E_PARAM_DATA_LENGTH
reason_of ParamController = CAN_E_PARAM_CONTROLLER
reason_of Uninit = CAN_E_UNINIT
reason_of Transition = CAN_E_TRANSITION
reason_of InitFailed = CAN_E_INIT_FAILED
reason_of SheetTooShort = SHEET_TOO_SHORT
reason_of WrongRamSize = WRONG_RAM_SIZE
reason_of BadIdentifier = BAD_IDENTIFIER
reason_of NotStarted = NOT_STARTED
reason_of ObjectBusy = OBJECT_BUSY
reason_of BusOff = BUS_OFF
reason_of NothingToSend = NOTHING_TO_SEND
reason_of BadLength = BAD_LENGTH
reason_of InvalidState = INVALID_STATE
reason_of ErrorCountTooLarge = ERROR_COUNT_TOO_LARGE

-- "With 0 the reason is 0.", whatever else is answered.
abbrev pub verdict_reason : {T : Type 0} → Result T Rejection → ℕ
verdict_reason (Ok answer) = 0
verdict_reason (Err r) = reason_of r
