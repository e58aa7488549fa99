-- The names of commands, and how many words follow each.
use Rattle.std.specs.Prelude.{ℕ, List, [], ◌∷◌, codes, bytes_eq, find, Option, option_map}
use Rattle.bench_script.specs.declared.name.Arguments.{Arguments}
use Rattle.bench_script.specs.declared.name.Arguments.TheVariants.{Exactly, AtLeast}
use Rattle.bench_script.specs.declared.name.Name.{Name}
use Rattle.bench_script.specs.declared.name.Name.TheVariants.{Init, DeInit, Set, Get, ErrorState, RxErrors, TxErrors, Write, Poll, Sent, BusOff, Errors, Arrived, Next, Data, Sheet, Memory, Show, State, Config, Controllers, Object}

-- the commands' names: init, deinit, set, get, errorstate, rxerrors, txerrors, write, poll, sent, busoff, errors, arrived, next, data, sheet,
-- memory, show, state, config, controllers, object
abbrev pub names : List (List ℕ × Name)
names =
    (codes "init", Init)
    ∷ (codes "deinit", DeInit)
    ∷ (codes "set", Set)
    ∷ (codes "get", Get)
    ∷ (codes "errorstate", ErrorState)
    ∷ (codes "rxerrors", RxErrors)
    ∷ (codes "txerrors", TxErrors)
    ∷ (codes "write", Write)
    ∷ (codes "poll", Poll)
    ∷ (codes "sent", Sent)
    ∷ (codes "busoff", BusOff)
    ∷ (codes "errors", Errors)
    ∷ (codes "arrived", Arrived)
    ∷ (codes "next", Next)
    ∷ (codes "data", Data)
    ∷ (codes "sheet", Sheet)
    ∷ (codes "memory", Memory)
    ∷ (codes "show", Show)
    ∷ (codes "state", State)
    ∷ (codes "config", Config)
    ∷ (codes "controllers", Controllers)
    ∷ (codes "object", Object)
    ∷ []

-- the command that a word names, if it is one of them
unfoldable pub name_of : List ℕ → Option Name
name_of w = option_map (λ n. n.1) (find (λ n. bytes_eq w n.0) names)

-- how many words follow a name: more may where bytes stand in several words, and where an object's kind says how many it takes
abbrev pub arguments_of : Name → Arguments
arguments_of Init = AtLeast 0
arguments_of DeInit = Exactly 0
arguments_of Set = Exactly 2
arguments_of Get = Exactly 1
arguments_of ErrorState = Exactly 1
arguments_of RxErrors = Exactly 1
arguments_of TxErrors = Exactly 1
arguments_of Write = AtLeast 4
arguments_of Poll = Exactly 1
arguments_of Sent = Exactly 1
arguments_of BusOff = Exactly 1
arguments_of Errors = Exactly 3
arguments_of Arrived = AtLeast 3
arguments_of Next = Exactly 1
arguments_of Data = Exactly 1
arguments_of Sheet = Exactly 1
arguments_of Memory = Exactly 1
arguments_of Show = Exactly 1
arguments_of State = Exactly 0
arguments_of Config = Exactly 2
arguments_of Controllers = Exactly 1
arguments_of Object = AtLeast 1
