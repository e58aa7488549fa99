-- The end of a night in words.
use Rattle.std.specs.Prelude.{ℕ, Bool, cond, List, [], ◌∷◌, ltb, get_or}
use Prim.Native.String.{String}
use Rattle.bench_say.specs.Say.{said, five}

-- the rows of the table, in its order
abbrev pub rows : List String
rows =
    "  frames written       %8"
    ∷ "  confirmed            %8"
    ∷ "  cancelled by a stop  %8"
    ∷ "  taken by a bus-off   %8"
    ∷ "  still waiting        %8"
    ∷ "  frames arrived       %8"
    ∷ "  read                 %8"
    ∷ "  still unread         %8"
    ∷ "  dropped by DeInit    %8"
    ∷ "  lost                 %8"
    ∷ "  unwanted             %8"
    ∷ []

-- a row, and its number in all; none behind the last one
abbrev pub row : ℕ → ℕ → List ℕ
row what n = cond (ltb what 11) (said (get_or rows what "") (five n 0 0 0 0)) []

-- the heading of the table, where there is one controller or several
abbrev pub heading : Bool → List ℕ
heading several = said (cond several "\nAt the end of the night     all" "\nAt the end of the night\n") (five 0 0 0 0 0)

-- a controller's heading, and its number
abbrev pub controller : ℕ → List ℕ
controller c = said "  controller %0" (five c 0 0 0 0)

abbrev pub cell : ℕ → List ℕ
cell n = said "      %8" (five n 0 0 0 0)

abbrev pub unreadable : ℕ → List ℕ
unreadable lines = said "  lines not understood %8\n" (five lines 0 0 0 0)

-- the headings of the lists
abbrev pub waiting : List ℕ
waiting = said "\nStill waiting\n" (five 0 0 0 0 0)

abbrev pub taken : Bool → List ℕ
taken some = said (cond some "\nTaken by bus-off\n" "\nTaken by bus-off: no frame\n") (five 0 0 0 0 0)

abbrev pub cancelled : List ℕ
cancelled = said "\nCancelled by a stop\n" (five 0 0 0 0 0)

-- frames that a list had no room for
abbrev pub unlisted : ℕ → List ℕ
unlisted n = said "  and %0 more, each shown under its poll above\n" (five n 0 0 0 0)
