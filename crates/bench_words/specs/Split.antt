-- Words are separated by spaces, tabs or commas, and # starts a comment.
use Rattle.std.specs.Prelude.{ℕ, zero, suc, ◌+◌, ◌-◌, Bool, not, ◌&&◌, ◌||◌, List, length, drop, eqb}
use Rattle.std.specs.List.{prefix_len}
use Rattle.rules.specs.Bytes.{part}
use Rattle.bench_words.specs.declared.split.Span.{Span}
use Rattle.bench_words.specs.declared.split.Run.{Run}
use Rattle.bench_words.specs.declared.split.Run.TheVariants.{Blanks, Word, Text}

-- a space, a tab or a comma
abbrev pub is_blank : ℕ → Bool
is_blank b = eqb b 32 || eqb b 9 || eqb b 44

-- any other byte, but for #, with which a comment begins
abbrev pub in_word : ℕ → Bool
in_word b = not (is_blank b) && not (eqb b 35)

-- any byte but a bar, which ends one of several texts in a row
abbrev pub in_text : ℕ → Bool
in_text b = not (eqb b 124)

-- the bytes that belong to a run
abbrev pub in_run : Run → ℕ → Bool
in_run Blanks b = is_blank b
in_run Word b = in_word b
in_run Text b = in_text b

-- the first word at or after a position: behind the blanks there, up to a blank, a comment or the line's end
abbrev pub word_from : List ℕ → ℕ → Span
word_from line start = record { start = start; end = start + prefix_len in_word (drop start line) }

abbrev pub next_word : List ℕ → ℕ → Span
next_word line at = word_from line (at + prefix_len is_blank (drop at line))

-- where word n stands; each word begins its search where the one before it ends
unfoldable pub word_at : List ℕ → ℕ → Span
word_at line zero = next_word line 0
word_at line (suc n) = next_word line (word_at line n).end

-- the bytes of a word
abbrev pub spanned : Span → List ℕ → List ℕ
spanned s line = part s.start (s.end - s.start) line

-- the bytes of word n, none if there is no such word
unfoldable pub word : ℕ → List ℕ → List ℕ
word n line = spanned (word_at line n) line

-- word n is missing where it is empty
abbrev pub is_missing : ℕ → List ℕ → Bool
is_missing n line = eqb (length (word n line)) 0

-- the first word of a text, and what follows it
abbrev pub first : List ℕ → List ℕ
first text = word 0 text

abbrev pub after : List ℕ → List ℕ
after text = drop (next_word text 0).end text
