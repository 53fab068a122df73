-- What one-word readers find.
use Rattle.std.proofs.Common.{◌≡◌, ℕ, Bool, true, false, List, [], ◌∷◌, length, Option, Some, None, Result, Ok, Err, refl}
use Rattle.px_parser.specs.Words.{Word}
use Rattle.px_parser.specs.Readers.{word_at}
use Rattle.px_parser.specs.Reading.{where_true}
use Rattle.px_parser.specs.Gives.{Fails}
use Rattle.px_parser.specs.declared.phrase_end.PhraseEnd.{PhraseEnd}
use Rattle.px_parser.specs.declared.phrase_end.PhraseEnd.TheVariants.{Fault}

pub fails_at : {T : Type 0} (end : PhraseEnd) (words : List Word) (read : Result T ℕ) → end ≡ Fault (length words) → read ≡ Err (length words) → Fails end read
fails_at end words read e f = rw e f

pub none_at : {T : Type 0} (value_of : Word → Option T) (words : List Word) → words ≡ [] → word_at value_of words ≡ Err (length words)
unfolding word_at
none_at value_of words e = rw e refl

pub other_at : {T : Type 0} (value_of : Word → Option T) (words rest : List Word) (word : Word) → words ≡ word ∷ rest → value_of word ≡ None → word_at value_of words ≡ Err (length words)
unfolding word_at
other_at value_of words rest word e none = rw (e, none) refl

pub some_at : {T : Type 0} (value_of : Word → Option T) (words rest : List Word) (word : Word) (value : T) → words ≡ word ∷ rest → value_of word ≡ Some value → word_at value_of words ≡ Ok (value, rest)
unfolding word_at
some_at value_of words rest word value e some = rw (e, some) refl

pub where_holds : {T : Type 0} (b : Bool) (value : T) → b ≡ true → where_true b value ≡ Some value
where_holds b value e = rw e refl

pub where_fails : {T : Type 0} (b : Bool) (value : T) → b ≡ false → where_true b value ≡ None
where_fails b value e = rw e refl
