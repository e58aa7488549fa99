-- What stands at a place, by the arrays; and so each array is read off the places again, which is why a struct of arrays can be seen as the list of
-- its places and nothing is forgotten.
use Prim.Native.Nat.{ℕ}
use mathlib.Core.Path.{◌≡◌, ap, sym, ◌∙◌}
use mathlib.Core.Bool.{Bool, false}
use mathlib.Core.List.{List, map}
use lib.ListN.{length, length-map, get_or, get_or-map}
use lib.Seq.{ext_get_or}
use Rattle.rules.specs.Errors as errors
use Rattle.rules.specs.Core as rules
use Rattle.core_places.specs.Arrays.{controllers_in, errors_in, owners_in, mailboxes_in, Alike}
use Rattle.core_places.specs.Zip.{zip_3_length, zip_3_at}

pub controller_seen : (modes requests : List ℕ) (marks : List Bool) (c : ℕ) → Alike modes requests marks
    → rules.controller_at (controllers_in modes requests marks) c ≡ record { mode = get_or modes c 0; requested_mode = get_or requests c 0; bus_off = get_or marks c false }
controller_seen modes requests marks c alike = zip_3_at (λ m r b. record { mode = m; requested_mode = r; bus_off = b }) modes requests marks c 0 0 false alike

pub errors_seen : (recoverings : List Bool) (tx_errors rx_errors : List ℕ) (c : ℕ) → Alike recoverings tx_errors rx_errors
    → rules.errors_at (errors_in recoverings tx_errors rx_errors) c ≡ record { recovering = get_or recoverings c false; tx_errors = get_or tx_errors c 0; rx_errors = get_or rx_errors c 0 }
errors_seen recoverings tx_errors rx_errors c alike = zip_3_at (λ b t r. record { recovering = b; tx_errors = t; rx_errors = r }) recoverings tx_errors rx_errors c false 0 0 alike

pub owner_seen : (controllers : List ℕ) (receivings : List Bool) (pools : List ℕ) (h : ℕ) → Alike controllers receivings pools
    → rules.owner_at (owners_in controllers receivings pools) h ≡ record { controller = get_or controllers h 0; receiving = get_or receivings h false; pool = get_or pools h 0 }
owner_seen controllers receivings pools h alike = zip_3_at (λ c r p. record { controller = c; receiving = r; pool = p }) controllers receivings pools h 0 false 0 alike

pub mailbox_seen : (pendings dones fulls : List Bool) (h : ℕ) → Alike pendings dones fulls
    → rules.mailbox_at (mailboxes_in pendings dones fulls) h ≡ record { tx_pending = get_or pendings h false; tx_done = get_or dones h false; rx_full = get_or fulls h false }
mailbox_seen pendings dones fulls h alike = zip_3_at (λ p d f. record { tx_pending = p; tx_done = d; rx_full = f }) pendings dones fulls h false false false alike

-- An array whose entry at each number is what p reads of the place there is what p reads of the places.
pub column : {D X : Type 0} (p : D → X) (d : D) (places : List D) (xs : List X) → length places ≡ length xs
    → ((i : ℕ) → p (get_or places i d) ≡ get_or xs i (p d)) → map p places ≡ xs
column p d places xs long at = ext_get_or (p d) (map p places) xs (length-map places p ∙ long) (λ i l. get_or-map p places i d ∙ at i)

module _ (modes requests : List ℕ) (marks : List Bool) (alike : Alike modes requests marks) where
  pub mode_back : map (λ (x : rules.Controller). x.mode) (controllers_in modes requests marks) ≡ modes
  mode_back = column (λ (x : rules.Controller). x.mode) rules.idle_controller (controllers_in modes requests marks) modes (zip_3_length _ modes requests marks alike) (λ i. ap (λ (x : rules.Controller). x.mode) (controller_seen modes requests marks i alike))

  pub request_back : map (λ (x : rules.Controller). x.requested_mode) (controllers_in modes requests marks) ≡ requests
  request_back = column (λ (x : rules.Controller). x.requested_mode) rules.idle_controller (controllers_in modes requests marks) requests (zip_3_length _ modes requests marks alike ∙ sym alike.second) (λ i. ap (λ (x : rules.Controller). x.requested_mode) (controller_seen modes requests marks i alike))

  pub mark_back : map (λ (x : rules.Controller). x.bus_off) (controllers_in modes requests marks) ≡ marks
  mark_back = column (λ (x : rules.Controller). x.bus_off) rules.idle_controller (controllers_in modes requests marks) marks (zip_3_length _ modes requests marks alike ∙ sym alike.third) (λ i. ap (λ (x : rules.Controller). x.bus_off) (controller_seen modes requests marks i alike))

module _ (recoverings : List Bool) (tx_errors rx_errors : List ℕ) (alike : Alike recoverings tx_errors rx_errors) where
  pub recovering_back : map (λ (x : errors.Errors). x.recovering) (errors_in recoverings tx_errors rx_errors) ≡ recoverings
  recovering_back = column (λ (x : errors.Errors). x.recovering) errors.no_errors (errors_in recoverings tx_errors rx_errors) recoverings (zip_3_length _ recoverings tx_errors rx_errors alike) (λ i. ap (λ (x : errors.Errors). x.recovering) (errors_seen recoverings tx_errors rx_errors i alike))

  pub tx_back : map (λ (x : errors.Errors). x.tx_errors) (errors_in recoverings tx_errors rx_errors) ≡ tx_errors
  tx_back = column (λ (x : errors.Errors). x.tx_errors) errors.no_errors (errors_in recoverings tx_errors rx_errors) tx_errors (zip_3_length _ recoverings tx_errors rx_errors alike ∙ sym alike.second) (λ i. ap (λ (x : errors.Errors). x.tx_errors) (errors_seen recoverings tx_errors rx_errors i alike))

  pub rx_back : map (λ (x : errors.Errors). x.rx_errors) (errors_in recoverings tx_errors rx_errors) ≡ rx_errors
  rx_back = column (λ (x : errors.Errors). x.rx_errors) errors.no_errors (errors_in recoverings tx_errors rx_errors) rx_errors (zip_3_length _ recoverings tx_errors rx_errors alike ∙ sym alike.third) (λ i. ap (λ (x : errors.Errors). x.rx_errors) (errors_seen recoverings tx_errors rx_errors i alike))

module _ (controllers : List ℕ) (receivings : List Bool) (pools : List ℕ) (alike : Alike controllers receivings pools) where
  pub controller_back : map (λ (x : rules.Owner). x.controller) (owners_in controllers receivings pools) ≡ controllers
  controller_back = column (λ (x : rules.Owner). x.controller) rules.unused_owner (owners_in controllers receivings pools) controllers (zip_3_length _ controllers receivings pools alike) (λ i. ap (λ (x : rules.Owner). x.controller) (owner_seen controllers receivings pools i alike))

  pub kind_back : map (λ (x : rules.Owner). x.receiving) (owners_in controllers receivings pools) ≡ receivings
  kind_back = column (λ (x : rules.Owner). x.receiving) rules.unused_owner (owners_in controllers receivings pools) receivings (zip_3_length _ controllers receivings pools alike ∙ sym alike.second) (λ i. ap (λ (x : rules.Owner). x.receiving) (owner_seen controllers receivings pools i alike))

  pub pool_back : map (λ (x : rules.Owner). x.pool) (owners_in controllers receivings pools) ≡ pools
  pool_back = column (λ (x : rules.Owner). x.pool) rules.unused_owner (owners_in controllers receivings pools) pools (zip_3_length _ controllers receivings pools alike ∙ sym alike.third) (λ i. ap (λ (x : rules.Owner). x.pool) (owner_seen controllers receivings pools i alike))

module _ (pendings dones fulls : List Bool) (alike : Alike pendings dones fulls) where
  pub pending_back : map (λ (x : rules.Mailbox). x.tx_pending) (mailboxes_in pendings dones fulls) ≡ pendings
  pending_back = column (λ (x : rules.Mailbox). x.tx_pending) rules.empty_mailbox (mailboxes_in pendings dones fulls) pendings (zip_3_length _ pendings dones fulls alike) (λ i. ap (λ (x : rules.Mailbox). x.tx_pending) (mailbox_seen pendings dones fulls i alike))

  pub done_back : map (λ (x : rules.Mailbox). x.tx_done) (mailboxes_in pendings dones fulls) ≡ dones
  done_back = column (λ (x : rules.Mailbox). x.tx_done) rules.empty_mailbox (mailboxes_in pendings dones fulls) dones (zip_3_length _ pendings dones fulls alike ∙ sym alike.second) (λ i. ap (λ (x : rules.Mailbox). x.tx_done) (mailbox_seen pendings dones fulls i alike))

  pub full_back : map (λ (x : rules.Mailbox). x.rx_full) (mailboxes_in pendings dones fulls) ≡ fulls
  full_back = column (λ (x : rules.Mailbox). x.rx_full) rules.empty_mailbox (mailboxes_in pendings dones fulls) fulls (zip_3_length _ pendings dones fulls alike ∙ sym alike.third) (λ i. ap (λ (x : rules.Mailbox). x.rx_full) (mailbox_seen pendings dones fulls i alike))
