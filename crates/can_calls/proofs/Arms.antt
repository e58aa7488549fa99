-- What the last arm of a match knows: its function is none of those that earlier arms took, so that it is the one of its kind that is left, or
-- of the kind that is left.
use Prim.Native.Nat.{ℕ}
use mathlib.Core.Path.{◌≡◌, refl}
use mathlib.Core.Logic.{◌⊎◌, inl, inr}
use native.Mathlib.Omega.{arith}
use Rattle.can_calls.specs.Request.{kind, SERVICE, POLL, EVENT}
use Rattle.can_calls.specs.declared.request.Function.{Function}
use Rattle.can_calls.specs.declared.request.Function.TheVariants.{Init, DeInit, Set, Get, ErrorState, RxErrors, TxErrors, Write, PollWrite, PollRead, PollMode, PollBusOff, Sent, BusOff, ErrorCounts, Arrived, Next}

-- the functions of an arm that names four of them are of one kind
pub kind_of_four : (f a b c d : Function) (m : ℕ) → kind a ≡ m → kind b ≡ m → kind c ≡ m → kind d ≡ m → (f ≡ a) ⊎ ((f ≡ b) ⊎ ((f ≡ c) ⊎ (f ≡ d))) → kind f ≡ m
kind_of_four f a b c d m p q r s (inl e) = rw e p
kind_of_four f a b c d m p q r s (inr (inl e)) = rw e q
kind_of_four f a b c d m p q r s (inr (inr (inl e))) = rw e r
kind_of_four f a b c d m p q r s (inr (inr (inr e))) = rw e s

-- neither a poll nor an event, and not the question of who sends next
pub is_service : (f : Function) → (f ≡ PollWrite → ⊥) → (f ≡ PollRead → ⊥) → (f ≡ PollMode → ⊥) → (f ≡ PollBusOff → ⊥)
    → (f ≡ Sent → ⊥) → (f ≡ BusOff → ⊥) → (f ≡ ErrorCounts → ⊥) → (f ≡ Arrived → ⊥) → (f ≡ Next → ⊥) → kind f ≡ SERVICE
is_service PollWrite a b c d e g h i j = absurd (a refl)
is_service PollRead a b c d e g h i j = absurd (b refl)
is_service PollMode a b c d e g h i j = absurd (c refl)
is_service PollBusOff a b c d e g h i j = absurd (d refl)
is_service Sent a b c d e g h i j = absurd (e refl)
is_service BusOff a b c d e g h i j = absurd (g refl)
is_service ErrorCounts a b c d e g h i j = absurd (h refl)
is_service Arrived a b c d e g h i j = absurd (i refl)
is_service Next a b c d e g h i j = absurd (j refl)
is_service _ a b c d e g h i j = refl

pub last_service : (f : Function) → kind f ≡ SERVICE → (f ≡ Init → ⊥) → (f ≡ DeInit → ⊥) → (f ≡ Set → ⊥) → (f ≡ Get → ⊥) → (f ≡ ErrorState → ⊥)
    → (f ≡ RxErrors → ⊥) → (f ≡ TxErrors → ⊥) → f ≡ Write
last_service Init k a b c d e g h = absurd (a refl)
last_service DeInit k a b c d e g h = absurd (b refl)
last_service Set k a b c d e g h = absurd (c refl)
last_service Get k a b c d e g h = absurd (d refl)
last_service ErrorState k a b c d e g h = absurd (e refl)
last_service RxErrors k a b c d e g h = absurd (g refl)
last_service TxErrors k a b c d e g h = absurd (h refl)
last_service Write k a b c d e g h = refl
last_service _ k a b c d e g h = absurd (omega arith)

pub last_poll : (f : Function) → kind f ≡ POLL → (f ≡ PollWrite → ⊥) → (f ≡ PollRead → ⊥) → (f ≡ PollMode → ⊥) → f ≡ PollBusOff
last_poll PollWrite k a b c = absurd (a refl)
last_poll PollRead k a b c = absurd (b refl)
last_poll PollMode k a b c = absurd (c refl)
last_poll PollBusOff k a b c = refl
last_poll _ k a b c = absurd (omega arith)

pub last_event : (f : Function) → kind f ≡ EVENT → (f ≡ Sent → ⊥) → (f ≡ BusOff → ⊥) → (f ≡ ErrorCounts → ⊥) → f ≡ Arrived
last_event Sent k a b c = absurd (a refl)
last_event BusOff k a b c = absurd (b refl)
last_event ErrorCounts k a b c = absurd (c refl)
last_event Arrived k a b c = refl
last_event _ k a b c = absurd (omega arith)
