-- Which call of a program a name and words are, and why they are none.
use Rattle.std.specs.Prelude.{◌≡◌, ℕ, ◌<◌, ◌≤◌, ◌^◌, List, [], ◌∷◌, length, take, Some, slice_get}
use Rattle.px_base.specs.declared.limits.TheConstants.{SCHEDULE_BYTES}
use Rattle.px_terms.specs.Head.TheVariants as head
use Rattle.px_terms.specs.declared.types.Ty.{Ty}
use Rattle.px_terms.specs.declared.term.Value.{Value}
use Rattle.px_terms.specs.declared.program.Def as definition
use Rattle.px_terms.specs.declared.program.Program.{Program}
use Rattle.px_terms.specs.Values.{AreIn}
use Rattle.px_terms.specs.Meaning.{Gives}
use Rattle.px_descent.specs.Checked.{IsChecked}
use Rattle.px_schedule.specs.ValueGrammar.{IsText}
use Rattle.px_drive.specs.declared.outcome.ArgumentKind.{ArgumentKind}
use Rattle.px_drive.specs.declared.outcome.ArgumentKind.TheVariants.{NoSuchName, NotPlain, Count, BadValue}
use Rattle.px_drive.specs.declared.arguments.ClosedCall.{ClosedCall}

-- Definition n of the program has this name.
pub record IsDefined (P : Program) (name : List ℕ) (n : ℕ) (D : definition.Def) : Type 0 where
  pub named : slice_get P.names.defs n ≡ Some name
  pub is_def : slice_get P.defs n ≡ Some D

-- The definition has no type parameters and no function parameters.
pub record IsPlain (D : definition.Def) : Type 0 where
  pub types : D.tparams ≡ 0
  pub funs : D.funs ≡ []

-- The word is this value of the type, and is not too long for one.
pub record IsValueOf (P : Program) (T : Ty) (word : List ℕ) (v : Value) : Type 0 where
  pub fits : length word ≤ SCHEDULE_BYTES
  pub is_text : IsText P T word v

-- the words are these values of the types, one each
pub data AreValuesOf (P : Program) : List Ty → List (List ℕ) → List Value → Type 0 where
  none : AreValuesOf P [] [] []
  more : {T : Ty} {types : List Ty} {word : List ℕ} {words : List (List ℕ)} {v : Value} {values : List Value} → IsValueOf P T word v →
      AreValuesOf P types words values → AreValuesOf P (T ∷ types) (word ∷ words) (v ∷ values)

-- The word of this number, from 0, is the first that is no value of its type.
pub record IsFirstBad (P : Program) (types : List Ty) (words : List (List ℕ)) (number : ℕ) : Type 0 where
  pub T : Ty
  pub word : List ℕ
  pub values : List Value
  pub is_type : slice_get types number ≡ Some T
  pub is_word : slice_get words number ≡ Some word
  pub before : AreValuesOf P (take number types) (take number words) values
  pub bad : (v : Value) → ¬ IsValueOf P T word v

-- The call is that of the definition of this name, which is plain, on the values of its parameters' types that the words are.
pub record IsCall (P : Program) (name : List ℕ) (words : List (List ℕ)) (call : ClosedCall) : Type 0 where
  pub D : definition.Def
  pub defined : IsDefined P name call.def D
  pub plain : IsPlain D
  pub values : AreValuesOf P D.params words call.values

-- the name and the words are no call, for the first cause that they have, and this is the number of the bad word, or 0
pub data IsNoCall (P : Program) (name : List ℕ) (words : List (List ℕ)) : ArgumentKind → ℕ → Type 0 where
  no_such_name : {number : ℕ} → ((n : ℕ) (D : definition.Def) → ¬ IsDefined P name n D) → number ≡ 0 → IsNoCall P name words NoSuchName number
  not_plain : {number : ℕ} (n : ℕ) (D : definition.Def) → IsDefined P name n D → ¬ IsPlain D → number ≡ 0 → IsNoCall P name words NotPlain number
  other_count : {number : ℕ} (n : ℕ) (D : definition.Def) → IsDefined P name n D → IsPlain D → ¬ (length words ≡ length D.params) → number ≡ 0 →
      IsNoCall P name words Count number
  bad_value : {number : ℕ} (n : ℕ) (D : definition.Def) → IsDefined P name n D → IsPlain D → length words ≡ length D.params →
      IsFirstBad P D.params words number → IsNoCall P name words BadValue number

-- The numbers of the definitions, and of the parameters of each, are below 2^32.
pub record DefinitionsAreNumbered (P : Program) : Type 0 where
  pub names : length P.names.defs < 2 ^ 32
  pub params : (n : ℕ) (D : definition.Def) → slice_get P.defs n ≡ Some D → length D.params < 2 ^ 32

-- The program is checked, and the call is one of a plain definition of it, on values of its parameters' types.
pub record FitsProgram (P : Program) (call : ClosedCall) : Type 0 where
  pub checked : IsChecked P
  pub D : definition.Def
  pub is_def : slice_get P.defs call.def ≡ Some D
  pub plain : IsPlain D
  pub values : AreIn P D.params call.values

-- the call has this value and takes exactly so many calls, by the meaning of the program
abbrev pub IsValueOfCall : Program → ClosedCall → Value → ℕ → Type 0
IsValueOfCall P call v count = Gives P (record { head = head.Def call.def; types = [] }) [] call.values v count
