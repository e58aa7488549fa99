-- The driver state in words.
use Rattle.std.specs.Prelude.{ℕ, Bool, cond, List, eqb}
use Rattle.bench_say.specs.Say.{said, five}

-- whether the driver is initialised, and how much is configured
abbrev pub counts : Bool → ℕ → ℕ → List ℕ
counts initialised controllers objects = said (cond initialised "initialised: %c, %o" "not initialised") (five controllers objects 0 0 0)

-- a controller: its mode, the mode that it is asked for, where there is one, and whether it is off the bus
abbrev pub controller : ℕ → ℕ → ℕ → Bool → List ℕ
controller place mode asked off =
    said
    (cond off
    (cond (eqb asked 0) "          controller %2  %m, off the bus" "          controller %2  %m, asked for %m, off the bus")
    (cond (eqb asked 0) "          controller %2  %m" "          controller %2  %m, asked for %m"))
    (five place mode asked 0 0)

-- what it remembers of errors, behind that: its error state, where it is not told yet, and both counts. One that a bus-off poll has stopped stays
-- bus-off until it is STARTED.
abbrev pub errors : Bool → Bool → ℕ → ℕ → ℕ → List ℕ
errors off recovering state tx rx =
    cond off (said ": transmit count %0, receive count %0" (five tx rx 0 0 0))
    (said (cond recovering ", %e until STARTED: transmit count %0, receive count %0" ", %e: transmit count %0, receive count %0") (five state tx rx 0 0))

-- an object as the configuration in words has it; the pool of one that sends is said where it is not its own number
abbrev pub sending : ℕ → ℕ → ℕ → ℕ → ℕ → List ℕ
sending object controller payload padding pool =
    said
    (cond (eqb pool object) "          object     %2  send controller %0 payload %0 padding %h" "          object     %2  send controller %0 payload %0 padding %h pool %0")
    (five object controller payload padding pool)

abbrev pub receiving : ℕ → ℕ → ℕ → ℕ → ℕ → List ℕ
receiving object controller payload code mask =
    said "          object     %2  receive controller %0 payload %0 code %x mask %x" (five object controller payload code mask)

-- what a sending object holds, and a receiving one
abbrev pub to_send : Bool → Bool → List ℕ
to_send pending done = said (cond done ": sent, not yet confirmed\n" (cond pending ": waits to be sent\n" ": free\n")) (five 0 0 0 0 0)

abbrev pub to_read : Bool → List ℕ
to_read full = said (cond full ": full\n" ": empty\n") (five 0 0 0 0 0)
