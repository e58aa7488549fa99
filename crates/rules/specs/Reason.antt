-- Why a call is refused, and its return code. 01, "Reasons for a no": a rejection is 01's no.
use Rattle.std.specs.Prelude.{ℕ, Bool, true, not, cond, ◌&&◌, List, [], ◌∷◌, eqb, ltb}

-- The return codes.
abbrev pub E_OK : ℕ
E_OK = 0

abbrev pub E_NOT_OK : ℕ
E_NOT_OK = 1

abbrev pub CAN_BUSY : ℕ
CAN_BUSY = 2

-- The development errors, by AUTOSAR's names and numbers.
abbrev pub CAN_E_PARAM_HANDLE : ℕ
CAN_E_PARAM_HANDLE = 2

abbrev pub CAN_E_PARAM_DATA_LENGTH : ℕ
CAN_E_PARAM_DATA_LENGTH = 3

abbrev pub CAN_E_PARAM_CONTROLLER : ℕ
CAN_E_PARAM_CONTROLLER = 4

abbrev pub CAN_E_UNINIT : ℕ
CAN_E_UNINIT = 5

abbrev pub CAN_E_TRANSITION : ℕ
CAN_E_TRANSITION = 6

abbrev pub CAN_E_INIT_FAILED : ℕ
CAN_E_INIT_FAILED = 9

-- The bench's own reasons, from 32 up.
abbrev pub SHEET_TOO_SHORT : ℕ
SHEET_TOO_SHORT = 32

abbrev pub WRONG_RAM_SIZE : ℕ
WRONG_RAM_SIZE = 33

abbrev pub BAD_IDENTIFIER : ℕ
BAD_IDENTIFIER = 34

abbrev pub NOT_STARTED : ℕ
NOT_STARTED = 35

abbrev pub OBJECT_BUSY : ℕ
OBJECT_BUSY = 36

abbrev pub BUS_OFF : ℕ
BUS_OFF = 37

abbrev pub NOTHING_TO_SEND : ℕ
NOTHING_TO_SEND = 38

abbrev pub BAD_LENGTH : ℕ
BAD_LENGTH = 40

abbrev pub INVALID_STATE : ℕ
INVALID_STATE = 41

-- 02, Q-5: "43 for a larger number"
abbrev pub ERROR_COUNT_TOO_LARGE : ℕ
ERROR_COUNT_TOO_LARGE = 43

-- one line of a call's list of reasons: `reason if test`
pub record Check : Type 0 where
  pub reason : ℕ
  pub applies : Bool

infix 70 ◌if◌
abbrev pub ◌if◌ : ℕ → Bool → Check
r if t = record { reason = r; applies = t }

-- "The first that applies counts"; 0 where none does
unfoldable pub first_reason : List Check → ℕ
first_reason [] = 0
first_reason (c ∷ cs) = cond c.applies c.reason (first_reason cs)

-- the reasons of two lists in a row: that of the first, or that of the second where the first gives none
infixr 60 ◌then◌
abbrev pub ◌then◌ : ℕ → ℕ → ℕ
a then b = cond (eqb a 0) b a

-- every reason of the list has a number above 0: then the reason 0 says that none of them applies
unfoldable pub reasons_named : List Check → Bool
reasons_named [] = true
reasons_named (c ∷ cs) = not (eqb c.reason 0) && reasons_named cs

-- "With 0 the reason is 0. All reasons return 1 except 36."
unfoldable pub return_code : ℕ → ℕ
return_code r = cond (eqb r 0) E_OK (cond (eqb r OBJECT_BUSY) CAN_BUSY E_NOT_OK)

-- "Reasons from 32 up write nothing."
abbrev pub is_development_error : ℕ → Bool
is_development_error r = ltb r 32
