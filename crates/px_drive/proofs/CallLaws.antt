-- Of the program of a text: a name and words are one call, or none for one cause, and a call has one value.
use Rattle.std.proofs.Common.{◌≡◌, ℕ, zero, suc, ◌<◌, ◌≤◌, ◌⊎◌, List, [], ◌∷◌, length, take, Some, slice_get, refl, sym, ◌∙◌, ap, subst, inl, inr, true, false, arith}
use Rattle.std.proofs.Math.Dec.{leb}
use Rattle.std.proofs.lemmas.Bool.Decides.{leb_tells}
use Rattle.px_base.specs.Lawful.{IsLawful}
use Rattle.px_terms.specs.declared.types.Ty.{Ty}
use Rattle.px_terms.specs.declared.term.Value.{Value}
use Rattle.px_terms.specs.declared.program.Def as definition
use Rattle.px_terms.specs.declared.program.Program.{Program}
use Rattle.px_terms.specs.Types.{ty_instance}
use Rattle.px_terms.specs.Extending.{IsExtension}
use Rattle.px_totality.specs.Laws.{ExactlyOne}
use Rattle.px_descent.specs.Checked.{IsChecked}
use Rattle.px_machine.specs.Standing.{FitsDefinition}
use Rattle.px_schedule.specs.ValueLaws as value_laws
use Rattle.px_drive.specs.declared.arguments.ClosedCall.{ClosedCall}
use Rattle.px_drive.specs.declared.outcome.ArgumentKind.{ArgumentKind}
use Rattle.px_drive.specs.Arguments.{IsDefined, IsPlain, IsValueOf, AreValuesOf, none as no_values, more, IsFirstBad, IsCall, IsNoCall, no_such_name, not_plain, other_count, bad_value, IsValueOfCall}
use Rattle.px_drive.specs.Laws.{SourceExtendsItself, SourceIsChecked, OneCall, OneNoCall, NeverCallAndNone, OneValueOfCall}
use Rattle.px_drive.proofs.ArgumentFacts.{one_number}
use Rattle.px_drive.proofs.CallFacts.{call_fits, fits_definition}

-- words are at most one list of values of these types
one_list : value_laws.OneValue → (P : Program) → IsLawful P.names → {types : List Ty} {words : List (List ℕ)} {vs ws : List Value} → AreValuesOf P types words vs → AreValuesOf P types words ws → vs ≡ ws
one_list one P lawful no_values no_values = refl
one_list one P lawful (more {T = T} {word = word} {v = v} a rest) (more {v = w} b others) =
    let first : v ≡ w = one P T word v w lawful a.is_text b.is_text in
    let same = one_list one P lawful rest others in
    λ i. first i ∷ same i

-- there are as many words as types
as_many : {P : Program} {types : List Ty} {words : List (List ℕ)} {vs : List Value} → AreValuesOf P types words vs → length words ≡ length types
as_many no_values = refl
as_many (more first rest) = ap suc (as_many rest)

-- The word is a value of the type.
record HasValue (P : Program) (T : Ty) (word : List ℕ) : Type 0 where
  value : Value
  is : IsValueOf P T word value

-- among words that are values each is one of its type
value_there : {P : Program} {types : List Ty} {words : List (List ℕ)} {vs : List Value} → AreValuesOf P types words vs → (n : ℕ) (T : Ty) (word : List ℕ) → slice_get types n ≡ Some T → slice_get words n ≡ Some word → HasValue P T word
value_there no_values n T word is_type is_word = absurd cc
value_there {P} (more {T = U} {word = own} {v = v} first rest) zero T word is_type is_word =
    let types : U ≡ T = cc in
    let words : own ≡ word = cc in
    record { value = v; is = subst (λ (w : List ℕ). IsValueOf P T w v) words (subst (λ (V : Ty). IsValueOf P V own v) types first) }
value_there (more first rest) (suc n) T word is_type is_word = value_there rest n T word is_type is_word

-- what stands before a place stands there among the first
taken_there : {A : Type 0} (xs : List A) (k n : ℕ) (x : A) → n < k → slice_get xs n ≡ Some x → slice_get (take k xs) n ≡ Some x
taken_there [] k n x less is = absurd cc
taken_there (y ∷ xs) zero n x less is = absurd (omega (arith, less))
taken_there (y ∷ xs) (suc k) zero x less is = is
taken_there (y ∷ xs) (suc k) (suc n) x less is = taken_there xs k n x (omega (arith, less)) is

-- no word before the first bad one is bad
not_earlier : (P : Program) (types : List Ty) (words : List (List ℕ)) (n k : ℕ) → IsFirstBad P types words n → IsFirstBad P types words k → ¬ (n < k)
not_earlier P types words n k one other less =
    let has : HasValue P one.T one.word = value_there other.before n one.T one.word (taken_there types k n one.T less one.is_type) (taken_there words k n one.word less one.is_word) in
    one.bad has.value has.is

same_number : (P : Program) (types : List Ty) (words : List (List ℕ)) (n k : ℕ) → IsFirstBad P types words n → IsFirstBad P types words k → n ≡ k
same_number P types words n k one other = by_place (leb_tells n k) (leb_tells k n)
  where
    by_place : ((leb n k ≡ true) × (n ≤ k)) ⊎ ((leb n k ≡ false) × (k < n)) → ((leb k n ≡ true) × (k ≤ n)) ⊎ ((leb k n ≡ false) × (n < k)) → n ≡ k
    by_place (inl (_, low)) (inl (_, high)) = omega (arith, low, high)
    by_place (inr (_, later)) _ = absurd (not_earlier P types words k n other one later)
    by_place _ (inr (_, earlier)) = absurd (not_earlier P types words n k one other earlier)

-- The call has exactly one value with one count, in the type that its definition gives.
pub record GivesOne (P : Program) (call : ClosedCall) : Type 0 where
  pub D : definition.Def
  pub is_def : slice_get P.defs call.def ≡ Some D
  pub exactly : ExactlyOne P (ty_instance [] D.result) (IsValueOfCall P call)

module _ (P : Program) (checked : IsChecked P) (name : List ℕ) where
  -- a name is that of one definition
  same_place : (n m : ℕ) (D E : definition.Def) → IsDefined P name n D → IsDefined P name m E → n ≡ m
  same_place n m D E one other = one_number P checked name n m one.named other.named

  same_definition : (n m : ℕ) (D E : definition.Def) → IsDefined P name n D → IsDefined P name m E → D ≡ E
  same_definition n m D E one other =
      let place : n ≡ m = same_place n m D E one other in
      let there : slice_get P.defs m ≡ Some D = ap (slice_get P.defs) (sym place) ∙ one.is_def in
      let both : Some D ≡ Some E = sym there ∙ other.is_def in
      cc

  module _ (words : List (List ℕ)) where
    one_call_of : value_laws.OneValue → (call other : ClosedCall) → IsCall P name words call → IsCall P name words other → call ≡ other
    one_call_of one_value call other one two =
        let place : call.def ≡ other.def = same_place call.def other.def one.D two.D one.defined two.defined in
        let defs : one.D ≡ two.D = same_definition call.def other.def one.D two.D one.defined two.defined in
        let here : AreValuesOf P two.D.params words call.values = subst (λ (D : definition.Def). AreValuesOf P D.params words call.values) defs one.values in
        let values : call.values ≡ other.values = one_list one_value P checked.lawful here two.values in
        λ i. record { def = place i; values = values i }

    -- one definition is plain and is not
    plain_or_not : (n m : ℕ) (D E : definition.Def) → IsDefined P name n D → IsDefined P name m E → IsPlain D → ¬ IsPlain E → ⊥
    plain_or_not n m D E one other plain not = not (subst IsPlain (same_definition n m D E one other) plain)

    -- one definition has as many parameters and has not
    many_or_not : (n m : ℕ) (D E : definition.Def) → IsDefined P name n D → IsDefined P name m E → length words ≡ length D.params → ¬ (length words ≡ length E.params) → ⊥
    many_or_not n m D E one other many not = not (many ∙ ap (λ (F : definition.Def). length F.params) (same_definition n m D E one other))

    -- one definition's first bad word is one
    bad_or_bad : (n m number another : ℕ) (D E : definition.Def) → IsDefined P name n D → IsDefined P name m E → IsFirstBad P D.params words number → IsFirstBad P E.params words another → number ≡ another
    bad_or_bad n m number another D E one other bad worse =
        same_number P E.params words number another (subst (λ (F : definition.Def). IsFirstBad P F.params words number) (same_definition n m D E one other) bad) worse

    one_cause : (kind other : ArgumentKind) (number another : ℕ) → IsNoCall P name words kind number → IsNoCall P name words other another → (kind ≡ other) × (number ≡ another)
    one_cause _ _ number another (no_such_name none is) (no_such_name differ zero_too) = (refl, is ∙ sym zero_too)
    one_cause _ _ number another (no_such_name none is) (not_plain m E defined not zero_too) = absurd (none m E defined)
    one_cause _ _ number another (no_such_name none is) (other_count m E defined plain not zero_too) = absurd (none m E defined)
    one_cause _ _ number another (no_such_name none is) (bad_value m E defined plain many bad) = absurd (none m E defined)
    one_cause _ _ number another (not_plain n D defined not is) (no_such_name none zero_too) = absurd (none n D defined)
    one_cause _ _ number another (not_plain n D defined not is) (not_plain m E there differ zero_too) = (refl, is ∙ sym zero_too)
    one_cause _ _ number another (not_plain n D defined not is) (other_count m E there plain differ zero_too) = absurd (plain_or_not m n E D there defined plain not)
    one_cause _ _ number another (not_plain n D defined not is) (bad_value m E there plain many bad) = absurd (plain_or_not m n E D there defined plain not)
    one_cause _ _ number another (other_count n D defined plain not is) (no_such_name none zero_too) = absurd (none n D defined)
    one_cause _ _ number another (other_count n D defined plain not is) (not_plain m E there differ zero_too) = absurd (plain_or_not n m D E defined there plain differ)
    one_cause _ _ number another (other_count n D defined plain not is) (other_count m E there plain_too differ zero_too) = (refl, is ∙ sym zero_too)
    one_cause _ _ number another (other_count n D defined plain not is) (bad_value m E there plain_too many bad) = absurd (many_or_not m n E D there defined many not)
    one_cause _ _ number another (bad_value n D defined plain many bad) (no_such_name none zero_too) = absurd (none n D defined)
    one_cause _ _ number another (bad_value n D defined plain many bad) (not_plain m E there differ zero_too) = absurd (plain_or_not n m D E defined there plain differ)
    one_cause _ _ number another (bad_value n D defined plain many bad) (other_count m E there plain_too differ zero_too) = absurd (many_or_not n m D E defined there many differ)
    one_cause _ _ number another (bad_value n D defined plain many bad) (bad_value m E there plain_too many_too worse) = (refl, bad_or_bad n m number another D E defined there bad worse)

    never_call_of : (call : ClosedCall) (kind : ArgumentKind) (number : ℕ) → IsCall P name words call → ¬ IsNoCall P name words kind number
    never_call_of call _ number is (no_such_name none zero_too) = none call.def is.D is.defined
    never_call_of call _ number is (not_plain m E there differ zero_too) = plain_or_not call.def m is.D E is.defined there is.plain differ
    never_call_of call _ number is (other_count m E there plain differ zero_too) = many_or_not call.def m is.D E is.defined there (as_many is.values) differ
    never_call_of call _ number is (bad_value m E there plain many bad) =
        let here : AreValuesOf P E.params words call.values = subst (λ (D : definition.Def). AreValuesOf P D.params words call.values) (same_definition call.def m is.D E is.defined there) is.values in
        let has : HasValue P bad.T bad.word = value_there here number bad.T bad.word bad.is_type bad.is_word in
        bad.bad has.value has.is

    -- in the program a call has exactly one value with one count, in its definition's result type
    pub gives_one : IsExtension P P → (call : ClosedCall) → IsCall P name words call → GivesOne P call
    gives_one itself call is =
        let fits : FitsDefinition P call.def [] [] call.values = fits_definition P call (call_fits P name words call checked is) in
        record {
          D = fits.def;
          is_def = fits.is_def;
          exactly = (checked.values.in_each P itself).calls call.def fits.def fits.is_def [] fits.as_many fits.types_are [] fits.funs_fit call.values fits.values_fit;
        }

pub one_call_law : SourceIsChecked → value_laws.OneValue → OneCall
one_call_law source_checked one_value text P source name words call other one two = one_call_of P (source_checked text P source) name words one_value call other one two

pub one_no_call_law : SourceIsChecked → OneNoCall
one_no_call_law source_checked text P source name words kind other number another one two = one_cause P (source_checked text P source) name words kind other number another one two

pub never_call_and_none_law : SourceIsChecked → NeverCallAndNone
never_call_and_none_law source_checked text P source name words call kind number is none = never_call_of P (source_checked text P source) name words call kind number is none

pub one_value_of_call_law : SourceIsChecked → SourceExtendsItself → OneValueOfCall
one_value_of_call_law source_checked extends text P source name words call is v w a b one other =
    let exactly = (gives_one P (source_checked text P source) name words (extends text P source) call is).exactly in
    let first : (v ≡ exactly.value) × (a ≡ exactly.count) = exactly.no_other v a one in
    let second : (w ≡ exactly.value) × (b ≡ exactly.count) = exactly.no_other w b other in
    (first.0 ∙ sym second.0, first.1 ∙ sym second.1)
