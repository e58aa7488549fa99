-- Notifications in words.
use Rattle.std.specs.Prelude.{ℕ, Bool, cond, List, eqb}
use Prim.Native.String.{String}
use Rattle.bench_say.specs.Say.{said, five}

-- the kinds of a notification that closes a write; 01: confirmed 1, cancelled 7
abbrev pub closing : ℕ → Bool → List ℕ
closing kind by_bus_off =
    said (cond (eqb kind 1) "confirmed          " (cond by_bus_off "taken by bus-off   " "cancelled by stop  ")) (five 0 0 0 0 0)

-- a frame that a read poll hands over: its object, its identifier, and the line at which it arrived
abbrev pub received : ℕ → ℕ → ℕ → List ℕ
received object identifier line = said "received           object %2  id %Iarrived at line %l" (five object identifier line 0 0)

-- AUTOSAR's name of a development error
abbrev pub error : ℕ → List ℕ
error number =
    said
    (cond (eqb number 2) "development error %0 CAN_E_PARAM_HANDLE"
    (cond (eqb number 3) "development error %0 CAN_E_PARAM_DATA_LENGTH"
    (cond (eqb number 4) "development error %0 CAN_E_PARAM_CONTROLLER"
    (cond (eqb number 5) "development error %0 CAN_E_UNINIT"
    (cond (eqb number 6) "development error %0 CAN_E_TRANSITION"
    (cond (eqb number 9) "development error %0 CAN_E_INIT_FAILED" "development error %0 ?"))))))
    (five number 0 0 0 0)

-- AUTOSAR's name of a service that asks something of a controller
abbrev pub question_text : ℕ → String
question_text number =
    cond (eqb number 18) " of GetControllerMode\n"
    (cond (eqb number 17) " of GetControllerErrorState\n"
    (cond (eqb number 48) " of GetControllerRxErrorCounter\n"
    (cond (eqb number 49) " of GetControllerTxErrorCounter\n" " of another service\n")))

-- AUTOSAR's name of a service
abbrev pub service : ℕ → List ℕ
service number =
    said
    (cond (eqb number 0) " of Init\n"
    (cond (eqb number 3) " of SetControllerMode\n"
    (cond (eqb number 6) " of Write\n"
    (cond (eqb number 16) " of DeInit\n" (question_text number)))))
    (five 0 0 0 0 0)

-- any other kind, at a controller or an object: a mode 3, a bus-off 4, lost data 6
abbrev pub change : ℕ → ℕ → ℕ → List ℕ
change kind place second =
    said
    (cond (eqb kind 3) "controller %0 is now %m\n"
    (cond (eqb kind 4) "controller %0 went off the bus and is now STOPPED\n"
    (cond (eqb kind 6) "data lost: object %0 is full\n" "unknown notification\n")))
    (five place second 0 0 0)

-- a controller that became error passive: its counts, of which 255 stands for every larger one too
abbrev pub error_passive : ℕ → ℕ → ℕ → List ℕ
error_passive controller tx rx = said "controller %0 is now error passive: transmit count %n, receive count %n\n" (five controller tx rx 0 0)
