-- Each text is found in its table: the texts in a row, with a bar behind each but the last.
use Prim.Native.Nat.{ℕ, zero, suc, ◌<◌}
use mathlib.Core.Path.{◌≡◌, refl}
use mathlib.Core.List.{[], ◌∷◌}
use native.Mathlib.Omega.{arith}
use lib.ListN.{get_or}
use Rattle.std.specs.Prelude.{Option, Some, None}
use Rattle.bench_words.specs.Text.{ascii}
use Rattle.bench_words.specs.Piece.{piece}
use Rattle.bench_say.proofs.Joined.{joined}
use Rattle.bench_words.specs.declared.reading.Trouble.{Trouble}
use Rattle.bench_words.specs.declared.reading.Trouble.TheVariants as troubles
use Rattle.bench_script.specs.declared.name.Name.{Name}
use Rattle.bench_script.specs.declared.name.Name.TheVariants as names
use Rattle.bench_messages.specs.Troubles.{trouble_text, usage_text, word_text}
use Rattle.bench_messages.specs.Totals.{rows}
use Rattle.bench_messages.specs.Places.{trouble_place, name_place}

pub trouble_found : (x : Trouble) → piece (trouble_place x) (joined (trouble_text troubles.LineTooLong ∷ trouble_text troubles.UnknownCommand ∷ trouble_text troubles.WordMissing ∷ trouble_text troubles.WordTooMany ∷ trouble_text troubles.NotANumber ∷ trouble_text troubles.NumberTooLarge ∷ trouble_text troubles.NotAnIdentifier ∷ trouble_text troubles.IdentifierTooLong ∷ trouble_text troubles.NotHexDigits ∷ trouble_text troubles.OddDigits ∷ trouble_text troubles.NotOneByte ∷ trouble_text troubles.NotAMode ∷ trouble_text troubles.UnknownPoll ∷ trouble_text troubles.HandleTooLarge ∷ trouble_text troubles.SheetTooLong ∷ trouble_text troubles.MemoryTooLong ∷ trouble_text troubles.RoomTooLarge ∷ trouble_text troubles.ByteTooLarge ∷ trouble_text troubles.UnexpectedWord ∷ trouble_text troubles.UnknownKind ∷ trouble_text troubles.TooManyObjects ∷ [])) ≡ ascii (trouble_text x)
unfolding piece
trouble_found troubles.LineTooLong = refl
trouble_found troubles.UnknownCommand = refl
trouble_found troubles.WordMissing = refl
trouble_found troubles.WordTooMany = refl
trouble_found troubles.NotANumber = refl
trouble_found troubles.NumberTooLarge = refl
trouble_found troubles.NotAnIdentifier = refl
trouble_found troubles.IdentifierTooLong = refl
trouble_found troubles.NotHexDigits = refl
trouble_found troubles.OddDigits = refl
trouble_found troubles.NotOneByte = refl
trouble_found troubles.NotAMode = refl
trouble_found troubles.UnknownPoll = refl
trouble_found troubles.HandleTooLarge = refl
trouble_found troubles.SheetTooLong = refl
trouble_found troubles.MemoryTooLong = refl
trouble_found troubles.RoomTooLarge = refl
trouble_found troubles.ByteTooLarge = refl
trouble_found troubles.UnexpectedWord = refl
trouble_found troubles.UnknownKind = refl
trouble_found troubles.TooManyObjects = refl

pub usage_found : (x : Option Name) → piece (name_place x) (joined (usage_text (Some names.Init) ∷ usage_text (Some names.DeInit) ∷ usage_text (Some names.Set) ∷ usage_text (Some names.Get) ∷ usage_text (Some names.ErrorState) ∷ usage_text (Some names.RxErrors) ∷ usage_text (Some names.TxErrors) ∷ usage_text (Some names.Write) ∷ usage_text (Some names.Poll) ∷ usage_text (Some names.Sent) ∷ usage_text (Some names.BusOff) ∷ usage_text (Some names.Errors) ∷ usage_text (Some names.Arrived) ∷ usage_text (Some names.Next) ∷ usage_text (Some names.Data) ∷ usage_text (Some names.Sheet) ∷ usage_text (Some names.Memory) ∷ usage_text (Some names.Show) ∷ usage_text (Some names.State) ∷ usage_text (Some names.Config) ∷ usage_text (Some names.Controllers) ∷ usage_text (Some names.Object) ∷ usage_text None ∷ [])) ≡ ascii (usage_text x)
unfolding piece
usage_found (Some names.Init) = refl
usage_found (Some names.DeInit) = refl
usage_found (Some names.Set) = refl
usage_found (Some names.Get) = refl
usage_found (Some names.ErrorState) = refl
usage_found (Some names.RxErrors) = refl
usage_found (Some names.TxErrors) = refl
usage_found (Some names.Write) = refl
usage_found (Some names.Poll) = refl
usage_found (Some names.Sent) = refl
usage_found (Some names.BusOff) = refl
usage_found (Some names.Errors) = refl
usage_found (Some names.Arrived) = refl
usage_found (Some names.Next) = refl
usage_found (Some names.Data) = refl
usage_found (Some names.Sheet) = refl
usage_found (Some names.Memory) = refl
usage_found (Some names.Show) = refl
usage_found (Some names.State) = refl
usage_found (Some names.Config) = refl
usage_found (Some names.Controllers) = refl
usage_found (Some names.Object) = refl
usage_found None = refl

pub word_found : (x : Trouble) → piece (trouble_place x) (joined (word_text troubles.LineTooLong ∷ word_text troubles.UnknownCommand ∷ word_text troubles.WordMissing ∷ word_text troubles.WordTooMany ∷ word_text troubles.NotANumber ∷ word_text troubles.NumberTooLarge ∷ word_text troubles.NotAnIdentifier ∷ word_text troubles.IdentifierTooLong ∷ word_text troubles.NotHexDigits ∷ word_text troubles.OddDigits ∷ word_text troubles.NotOneByte ∷ word_text troubles.NotAMode ∷ word_text troubles.UnknownPoll ∷ word_text troubles.HandleTooLarge ∷ word_text troubles.SheetTooLong ∷ word_text troubles.MemoryTooLong ∷ word_text troubles.RoomTooLarge ∷ word_text troubles.ByteTooLarge ∷ word_text troubles.UnexpectedWord ∷ word_text troubles.UnknownKind ∷ word_text troubles.TooManyObjects ∷ [])) ≡ ascii (word_text x)
unfolding piece
word_found troubles.LineTooLong = refl
word_found troubles.UnknownCommand = refl
word_found troubles.WordMissing = refl
word_found troubles.WordTooMany = refl
word_found troubles.NotANumber = refl
word_found troubles.NumberTooLarge = refl
word_found troubles.NotAnIdentifier = refl
word_found troubles.IdentifierTooLong = refl
word_found troubles.NotHexDigits = refl
word_found troubles.OddDigits = refl
word_found troubles.NotOneByte = refl
word_found troubles.NotAMode = refl
word_found troubles.UnknownPoll = refl
word_found troubles.HandleTooLarge = refl
word_found troubles.SheetTooLong = refl
word_found troubles.MemoryTooLong = refl
word_found troubles.RoomTooLarge = refl
word_found troubles.ByteTooLarge = refl
word_found troubles.UnexpectedWord = refl
word_found troubles.UnknownKind = refl
word_found troubles.TooManyObjects = refl

pub row_found : (what : ℕ) → what < 11 → piece what (joined rows) ≡ ascii (get_or rows what "")
unfolding piece
row_found zero h = refl
row_found (suc zero) h = refl
row_found (suc (suc zero)) h = refl
row_found (suc (suc (suc zero))) h = refl
row_found (suc (suc (suc (suc zero)))) h = refl
row_found (suc (suc (suc (suc (suc zero))))) h = refl
row_found (suc (suc (suc (suc (suc (suc zero)))))) h = refl
row_found (suc (suc (suc (suc (suc (suc (suc zero))))))) h = refl
row_found (suc (suc (suc (suc (suc (suc (suc (suc zero)))))))) h = refl
row_found (suc (suc (suc (suc (suc (suc (suc (suc (suc zero))))))))) h = refl
row_found (suc (suc (suc (suc (suc (suc (suc (suc (suc (suc zero)))))))))) h = refl
row_found (suc (suc (suc (suc (suc (suc (suc (suc (suc (suc (suc what))))))))))) h = absurd (omega arith)
