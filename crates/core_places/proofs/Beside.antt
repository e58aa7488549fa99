-- What stands at a number where arrays need not be as long as each other.
use Prim.Native.Nat.{ℕ, ◌≤◌}
use mathlib.Core.Path.{◌≡◌, refl, sym, ◌∙◌}
use mathlib.Core.Bool.{Bool, true, false}
use mathlib.Core.List.{List}
use native.Mathlib.Omega.{arith}
use lib.ListN.{length, get_or, get_or-eq_default}
use lib.Seq.{ext_get_or}
use lib.Dec.{ltb}
use borrow.Author.Tests.{ltb-true, ltb-false}
use Rattle.rules.specs.Core as rules
use Rattle.laws.proofs.Repeat.{length-list_below, get_or-list_below}
use Rattle.core_places.specs.Arrays.{Alike, zip_with_3}
use Rattle.core_places.specs.Zip.{zip_3_length, zip_3_at}
use Rattle.core_places.specs.Beside.{longest, beside, controllers_beside, errors_beside, owners_beside, mailboxes_beside}

pub beside_length : {A B C D : Type 0} (f : A → B → C → D) (a : A) (b : B) (c : C) (xs : List A) (ys : List B) (zs : List C)
    → length (beside f a b c xs ys zs) ≡ longest xs ys zs
beside_length f a b c xs ys zs = length-list_below (longest xs ys zs) (λ i. f (get_or xs i a) (get_or ys i b) (get_or zs i c))

pub beside_at : {A B C D : Type 0} (f : A → B → C → D) (a : A) (b : B) (c : C) (xs : List A) (ys : List B) (zs : List C) (i : ℕ)
    → get_or (beside f a b c xs ys zs) i (f a b c) ≡ f (get_or xs i a) (get_or ys i b) (get_or zs i c)
beside_at f a b c xs ys zs i = at (ltb i (longest xs ys zs)) refl
  where
    at : (t : Bool) → ltb i (longest xs ys zs) ≡ t → get_or (beside f a b c xs ys zs) i (f a b c) ≡ f (get_or xs i a) (get_or ys i b) (get_or zs i c)
    at true e = get_or-list_below (longest xs ys zs) _ i (f a b c) (ltb-true i (longest xs ys zs) e)
    at false e =
        let past = ltb-false i (longest xs ys zs) e in
        let first : length xs ≤ i = omega (arith, past) in
        let second : length ys ≤ i = omega (arith, past) in
        let third : length zs ≤ i = omega (arith, past) in
        let all : length (beside f a b c xs ys zs) ≤ i = omega (arith, past, beside_length f a b c xs ys zs) in
        rw (get_or-eq_default xs a first, get_or-eq_default ys b second, get_or-eq_default zs c third) (get_or-eq_default (beside f a b c xs ys zs) (f a b c) all)

-- arrays that are as long as each other stand side by side
pub beside_alike : {A B C D : Type 0} (f : A → B → C → D) (a : A) (b : B) (c : C) (xs : List A) (ys : List B) (zs : List C) → Alike xs ys zs
    → beside f a b c xs ys zs ≡ zip_with_3 f xs ys zs
beside_alike f a b c xs ys zs alike =
    ext_get_or (f a b c) (beside f a b c xs ys zs) (zip_with_3 f xs ys zs)
    (omega (arith, beside_length f a b c xs ys zs, zip_3_length f xs ys zs alike, alike.second, alike.third))
    (λ i _. beside_at f a b c xs ys zs i ∙ sym (zip_3_at f xs ys zs i a b c alike))

pub controller_beside : (modes requests : List ℕ) (marks : List Bool) (c : ℕ)
    → rules.controller_at (controllers_beside modes requests marks) c ≡ record { mode = get_or modes c 0; requested_mode = get_or requests c 0; bus_off = get_or marks c false }
controller_beside modes requests marks c = beside_at (λ m r b. record { mode = m; requested_mode = r; bus_off = b }) 0 0 false modes requests marks c

pub error_beside : (recoverings : List Bool) (tx_errors rx_errors : List ℕ) (c : ℕ)
    → rules.errors_at (errors_beside recoverings tx_errors rx_errors) c ≡ record { recovering = get_or recoverings c false; tx_errors = get_or tx_errors c 0; rx_errors = get_or rx_errors c 0 }
error_beside recoverings tx_errors rx_errors c = beside_at (λ b t r. record { recovering = b; tx_errors = t; rx_errors = r }) false 0 0 recoverings tx_errors rx_errors c

pub owner_beside : (controllers : List ℕ) (receivings : List Bool) (pools : List ℕ) (h : ℕ)
    → rules.owner_at (owners_beside controllers receivings pools) h ≡ record { controller = get_or controllers h 0; receiving = get_or receivings h false; pool = get_or pools h 0 }
owner_beside controllers receivings pools h = beside_at (λ c r p. record { controller = c; receiving = r; pool = p }) 0 false 0 controllers receivings pools h

pub mailbox_beside : (pendings dones fulls : List Bool) (h : ℕ)
    → rules.mailbox_at (mailboxes_beside pendings dones fulls) h ≡ record { tx_pending = get_or pendings h false; tx_done = get_or dones h false; rx_full = get_or fulls h false }
mailbox_beside pendings dones fulls h = beside_at (λ p d f. record { tx_pending = p; tx_done = d; rx_full = f }) false false false pendings dones fulls h
