-- Places whose fields stand in arrays that need not be as long as each other: there are as many as the longest has, and past an array's end its field
-- is at rest. So a call can be lent `&[]` for a field that it does not read.
use Rattle.std.specs.Prelude.{ℕ, max, Bool, false, List, length, get_or}
use Rattle.rules.specs.Repeat.{list_below}
use Rattle.rules.specs.Errors as errors
use Rattle.rules.specs.Core as rules

-- how many places there are
abbrev pub longest : {A B C : Type 0} → List A → List B → List C → ℕ
longest xs ys zs = max (length xs) (max (length ys) (length zs))

-- f of what stands at each number in three arrays
abbrev pub beside : {A B C D : Type 0} → (A → B → C → D) → A → B → C → List A → List B → List C → List D
beside f a b c xs ys zs = list_below (longest xs ys zs) (λ i. f (get_or xs i a) (get_or ys i b) (get_or zs i c))

-- mode, waiting request, off-bus mark
abbrev pub controllers_beside : List ℕ → List ℕ → List Bool → List rules.Controller
controllers_beside modes requests marks = beside (λ m r b. record { mode = m; requested_mode = r; bus_off = b }) 0 0 false modes requests marks

-- second mark, transmit count, receive count
abbrev pub errors_beside : List Bool → List ℕ → List ℕ → List errors.Errors
errors_beside recoverings tx_errors rx_errors = beside (λ b t r. record { recovering = b; tx_errors = t; rx_errors = r }) false 0 0 recoverings tx_errors rx_errors

-- controller, kind, pool
abbrev pub owners_beside : List ℕ → List Bool → List ℕ → List rules.Owner
owners_beside controllers receivings pools = beside (λ c r p. record { controller = c; receiving = r; pool = p }) 0 false 0 controllers receivings pools

-- occupied, gone, full
abbrev pub mailboxes_beside : List Bool → List Bool → List Bool → List rules.Mailbox
mailboxes_beside pendings dones fulls = beside (λ p d f. record { tx_pending = p; tx_done = d; rx_full = f }) false false false pendings dones fulls
