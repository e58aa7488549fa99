-- Each way out answers the tests that led there.
use Prim.Native.Nat.{ℕ, ◌+◌}
use native.Mathlib.Nat.{add-sub_cancel_left}
use lib.ListN.{length, get_or}
use borrow.Author.Tests.{lt-ltb, le-ltb, le-leb, lt-leb, eq-eqb, ne_eqb}
use Rattle.rules.specs.Limits.{ram_size, object_start}
use Rattle.rules.specs.Can.{longest_fd, data_of}
use Rattle.rules.specs.Chip.{chip}
use Rattle.can_layout.proofs.read.data_of.Goals as goal

-- where an object's wire length stands
abbrev length_at : ℕ → ℕ
length_at object = object_start chip object + 4

pub returns-then-object-ge-OBJECTS : goal.returns-then-object-ge-OBJECTS
unfolding data_of
returns-then-object-ge-OBJECTS c = rw (le-ltb c.args.object chip.objects c.if-object-ge-OBJECTS.true)

pub returns-then-ram-ne-RAM_SIZE : goal.returns-then-ram-ne-RAM_SIZE
unfolding data_of
returns-then-ram-ne-RAM_SIZE c =
    let a = c.args in
    rw (lt-ltb a.object chip.objects c.if-object-ge-OBJECTS.false, ne_eqb (length a.ram.now) (ram_size chip) c.if-ram-ne-RAM_SIZE.true)

pub returns-then-length-gt-DATA_SIZE : goal.returns-then-length-gt-DATA_SIZE
unfolding data_of
returns-then-length-gt-DATA_SIZE c =
    let a = c.args in
    rw (
      lt-ltb a.object chip.objects c.if-object-ge-OBJECTS.false,
      eq-eqb (length a.ram.now) (ram_size chip) c.if-ram-ne-RAM_SIZE.false,
      lt-leb (get_or a.ram.now (length_at a.object) 0) longest_fd c.if-length-gt-DATA_SIZE.true,
    )

pub returns : goal.returns
unfolding data_of
returns c =
    let a = c.args in
    let n = get_or a.ram.now (length_at a.object) 0 in
    rw (
      lt-ltb a.object chip.objects c.if-object-ge-OBJECTS.false,
      eq-eqb (length a.ram.now) (ram_size chip) c.if-ram-ne-RAM_SIZE.false,
      le-leb n longest_fd c.if-length-gt-DATA_SIZE.false,
      add-sub_cancel_left,
    )
