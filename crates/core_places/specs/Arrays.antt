-- Places that stand in one array for each field: what stands at a place is what stands at its number in each of them.
use Rattle.std.specs.Prelude.{ℕ, ◌≡◌, Bool, List, [], ◌∷◌, length}
use Rattle.rules.specs.Errors.{Errors}
use Rattle.rules.specs.Core.{Controller, Owner, Mailbox}

-- two lists side by side, as far as both go
unfoldable pub zip_with : {A B C : Type 0} → (A → B → C) → List A → List B → List C
zip_with f [] ys = []
zip_with f (a ∷ xs) [] = []
zip_with f (a ∷ xs) (b ∷ ys) = f a b ∷ zip_with f xs ys

-- three lists side by side
abbrev pub zip_with_3 : {A B C D : Type 0} → (A → B → C → D) → List A → List B → List C → List D
zip_with_3 f xs ys zs = zip_with (λ g c. g c) (zip_with f xs ys) zs

-- four lists side by side
abbrev pub zip_with_4 : {A B C D E : Type 0} → (A → B → C → D → E) → List A → List B → List C → List D → List E
zip_with_4 f xs ys zs ws = zip_with (λ g w. g w) (zip_with_3 f xs ys zs) ws

-- mode, waiting request, off-bus mark
abbrev pub controllers_in : List ℕ → List ℕ → List Bool → List Controller
controllers_in modes requests marks = zip_with_3 (λ m r b. record { mode = m; requested_mode = r; bus_off = b }) modes requests marks

-- controller, kind, pool
abbrev pub owners_in : List ℕ → List Bool → List ℕ → List Owner
owners_in controllers receivings pools = zip_with_3 (λ c r p. record { controller = c; receiving = r; pool = p }) controllers receivings pools

-- occupied, gone, full
abbrev pub mailboxes_in : List Bool → List Bool → List Bool → List Mailbox
mailboxes_in pendings dones fulls = zip_with_3 (λ p d f. record { tx_pending = p; tx_done = d; rx_full = f }) pendings dones fulls

-- second mark, transmit count, receive count
abbrev pub errors_in : List Bool → List ℕ → List ℕ → List Errors
errors_in recoverings tx_errors rx_errors = zip_with_3 (λ b t r. record { recovering = b; tx_errors = t; rx_errors = r }) recoverings tx_errors rx_errors

-- the arrays have a place for each of the same numbers
pub record Alike {A B C : Type 0} (xs : List A) (ys : List B) (zs : List C) : Type 0 where
  pub second : length ys ≡ length xs
  pub third : length zs ≡ length xs
