-- An object of a configuration in words: what stands behind `object`.
use Rattle.std.specs.Prelude.{ℕ, cond, List, bytes_eq, codes, Result, Ok, Err}
use Rattle.bench_words.specs.Split.{is_missing, first, after}
use Rattle.bench_words.specs.Reading.{with_value, number_of, limited_to, identifier_of, one_byte_of, largest_byte}
use Rattle.bench_words.specs.declared.reading.Trouble.{Trouble}
use Rattle.bench_words.specs.declared.reading.Trouble.TheVariants.{ByteTooLarge, UnexpectedWord, UnknownKind}
use Rattle.bench_script.specs.Count.{ending_at}
use Rattle.bench_script.specs.declared.command.Command.{Command}
use Rattle.bench_script.specs.declared.command.Command.TheVariants.{Send, SendInPool, Receive}

-- a number that fits a byte
abbrev pub small_of : List ℕ → Result ℕ Trouble
small_of w = limited_to largest_byte ByteTooLarge (number_of w)

-- the word behind a fixed word
abbrev pub field_of : List ℕ → List ℕ → Result (List ℕ) Trouble
field_of keyword text = cond (bytes_eq (first text) keyword) (Ok (first (after text))) (Err UnexpectedWord)

-- a fixed word, and the value behind it
abbrev pub value_of : List ℕ → (List ℕ → Result ℕ Trouble) → List ℕ → Result ℕ Trouble
value_of keyword read text = with_value (field_of keyword text) read

abbrev pub behind_field : List ℕ → List ℕ
behind_field text = after (after text)

-- the fixed words
abbrev pub controller_word : List ℕ
controller_word = codes "controller"

abbrev pub payload_word : List ℕ
payload_word = codes "payload"

abbrev pub padding_word : List ℕ
padding_word = codes "padding"

abbrev pub pool_word : List ℕ
pool_word = codes "pool"

abbrev pub code_word : List ℕ
code_word = codes "code"

abbrev pub mask_word : List ℕ
mask_word = codes "mask"

-- controller C payload P, with which each object begins
abbrev pub common_of : List ℕ → Result (ℕ × ℕ) Trouble
common_of text =
    with_value (value_of controller_word small_of text) (λ c. with_value (value_of payload_word small_of (behind_field text)) (λ p. Ok (c, p)))

-- what stands behind it
abbrev pub behind_common : List ℕ → List ℕ
behind_common text = behind_field (behind_field text)

-- send controller C payload P padding XX
abbrev pub send_of : List ℕ → Result Command Trouble
send_of text =
    with_value (ending_at 5 text)
    (λ _. with_value (common_of text) (λ o. with_value (value_of padding_word one_byte_of (behind_common text)) (λ x. Ok (Send o.0 o.1 x))))

-- send controller C payload P padding XX pool N
abbrev pub pooled_of : List ℕ → Result Command Trouble
pooled_of text =
    with_value (ending_at 7 text)
    (λ _. with_value (common_of text)
    (λ o. with_value (value_of padding_word one_byte_of (behind_common text))
    (λ x. with_value (value_of pool_word small_of (behind_field (behind_common text))) (λ n. Ok (SendInPool o.0 o.1 x n)))))

-- receive controller C payload P code ID mask ID
abbrev pub receive_of : List ℕ → Result Command Trouble
receive_of text =
    with_value (ending_at 7 text)
    (λ _. with_value (common_of text)
    (λ o. with_value (value_of code_word identifier_of (behind_common text))
    (λ i. with_value (value_of mask_word identifier_of (behind_field (behind_common text))) (λ m. Ok (Receive o.0 o.1 i m)))))

-- send .. or receive ..: a word behind the padding of one that sends says that a pool follows
unfoldable pub object_of : List ℕ → Result Command Trouble
object_of text =
    cond (bytes_eq (first text) (codes "send")) (cond (is_missing 6 (after text)) (send_of (after text)) (pooled_of (after text)))
    (cond (bytes_eq (first text) (codes "receive")) (receive_of (after text)) (Err UnknownKind))
