-- Controller modes and the requests permitted. 01, "Modes".
use Rattle.std.specs.Prelude.{ℕ, Bool, ◌&&◌, ◌||◌, eqb}

abbrev pub UNINIT : ℕ
UNINIT = 0

abbrev pub STARTED : ℕ
STARTED = 1

abbrev pub STOPPED : ℕ
STOPPED = 2

abbrev pub SLEEP : ℕ
SLEEP = 3

-- stands where no mode is requested
abbrev pub NO_REQUEST : ℕ
NO_REQUEST = 0

-- "from STARTED to STOPPED; from STOPPED to STARTED, STOPPED or SLEEP; from SLEEP to STOPPED or SLEEP"
abbrev pub permitted : ℕ → ℕ → Bool
permitted mode asked =
    eqb mode STARTED && eqb asked STOPPED
    || eqb mode STOPPED && (eqb asked STARTED || eqb asked STOPPED || eqb asked SLEEP)
    || eqb mode SLEEP && (eqb asked STOPPED || eqb asked SLEEP)
