-- A line that says nothing is read as a blank one.
use Rattle.std.proofs.Common.{◌≡◌, true, List, ℕ, length}
use Rattle.std.specs.Prelude.{leb, Ok}
use borrow.Author.Tests.{leb-true, le-ltb}
use Rattle.laws.proofs.Tests.{left, right}
use Rattle.bench_words.specs.Split.{is_missing}
use Rattle.bench_words.specs.Reading.{longest_line}
use Rattle.bench_script.specs.Command.{silent, says_nothing, command_of}
use Rattle.bench_script.specs.declared.command.Command.TheVariants.{Blank}

pub nothing_is_blank : (line : List ℕ) → says_nothing line ≡ true → command_of line ≡ silent (Ok Blank)
unfolding command_of
nothing_is_blank line e =
    let short = leb-true (length line) longest_line (left (leb (length line) longest_line) (is_missing 0 line) e) in
    rw (le-ltb longest_line (length line) short, right (leb (length line) longest_line) (is_missing 0 line) e)
