-- The arguments of `eval`: a definition by its name, the values that words are, and why they are none.
use Rattle.std.proofs.Common.{◌≡◌, ◌<◌, ◌≤◌, ◌+◌, ◌⊎◌, ℕ, zero, suc, true, false, List, [], ◌∷◌, ◌++◌, length, take, get_or, slice_get, None, Some, Result, Ok, Err, IsErrAnd, inl, inr, refl, ap, sym, subst, ◌∙◌, arith}
use Rattle.std.specs.Prelude.{Contains}
use Rattle.std.proofs.Math.Seq.{take-suc}
use Rattle.std.proofs.lemmas.Option.{slice_get_read, slice_get_within, get_or_from_slice_get}
use Rattle.std.proofs.Math.Dec.{leb}
use Rattle.std.proofs.lemmas.Bool.Decides.{leb_tells}
use Rattle.std.proofs.lemmas.List.Elements.{Contains-get_or}
use Rattle.px_base.specs.Distinct.{AreDistinct, more}
use Rattle.px_derive.proofs.NameFacts.{distinct_front}
use Rattle.px_terms.specs.declared.types.Ty.{Ty}
use Rattle.px_terms.specs.declared.term.Value.{Value}
use Rattle.px_terms.specs.declared.program.Def as definition
use Rattle.px_terms.specs.declared.program.Program.{Program}
use Rattle.px_descent.specs.Checked.{IsChecked}
use Rattle.px_drive.specs.declared.arguments.ClosedCall.{ClosedCall}
use Rattle.px_drive.specs.declared.outcome.ArgumentKind.{ArgumentKind}
use Rattle.px_drive.specs.declared.outcome.ArgumentKind.TheVariants.{NoSuchName}
use Rattle.px_drive.specs.declared.outcome.End.{End}
use Rattle.px_drive.specs.declared.outcome.End.TheVariants.{Done, Usage, Source, Rejected, Schedule, Spent, ReadFault, WriteFault, NoMemory, TooLong, Arguments}
use Rattle.px_drive.specs.Arguments.{IsDefined, IsPlain, IsValueOf, AreValuesOf, none, more as one_more, IsFirstBad, IsNoCall, no_such_name, bad_value}
use Rattle.px_drive.specs.Ends.{ReadsValues, FindsCall}

-- a name that stands at the place looked at
pub found_there : (names : List (List ℕ)) (n : ℕ) (own name : List ℕ) → n < length names → own ≡ get_or names n own → own ≡ name → slice_get names n ≡ Some name
found_there names n own name less is same = slice_get_read names (length names) n own refl less is ∙ ap Some same

-- a name that does not stand at the places up to this one
pub found_later : (names : List (List ℕ)) (n : ℕ) (own name : List ℕ) → n < length names → own ≡ get_or names n own → ¬ (own ≡ name)
    → ((m : ℕ) → m < n → ¬ (slice_get names m ≡ Some name)) → (m : ℕ) → m < n + 1 → ¬ (slice_get names m ≡ Some name)
found_later names n own name less is differs before m below found = by_place (leb_tells n m)
  where
    by_place : ((leb n m ≡ true) × (n ≤ m)) ⊎ ((leb n m ≡ false) × (m < n)) → ⊥
    by_place (inr (_, earlier)) = before m earlier found
    by_place (inl (_, high)) =
        let here : m ≡ n = omega (arith, high, below) in
        let at : slice_get names n ≡ Some name = ap (slice_get names) (sym here) ∙ found in
        let there : slice_get names n ≡ Some own = slice_get_read names (length names) n own refl less is in
        differs (let both : Some own ≡ Some name = sym there ∙ at in cc)

-- a name that stands nowhere
pub found_nowhere : (names : List (List ℕ)) (n : ℕ) (name : List ℕ) → length names ≤ n → ((m : ℕ) → m < n → ¬ (slice_get names m ≡ Some name)) → (m : ℕ) → ¬ (slice_get names m ≡ Some name)
found_nowhere names n name past before m found = before m (let less : m < length names = slice_get_within names m name found in omega (arith, less, past)) found

-- one more word is a value of its type
values_snoc : {P : Program} {types : List Ty} {words : List (List ℕ)} {values : List Value} {T : Ty} {word : List ℕ} {v : Value} → AreValuesOf P types words values → IsValueOf P T word v
    → AreValuesOf P (types ++ T ∷ []) (words ++ word ∷ []) (values ++ v ∷ [])
values_snoc none is = one_more is none
values_snoc (one_more first rest) is = one_more first (values_snoc rest is)

take_next : {A : Type 0} (xs : List A) (n : ℕ) (x : A) → n < length xs → x ≡ get_or xs n x → take (n + 1) xs ≡ take n xs ++ x ∷ []
take_next xs n x less is = subst (λ (k : ℕ). take k xs ≡ take n xs ++ x ∷ []) (next n) (take-suc xs n x less ∙ ap (λ y. take n xs ++ y ∷ []) (sym is))
  where
    next : (m : ℕ) → suc m ≡ m + 1
    next m = omega arith

pub one_value_more : (P : Program) (types : List Ty) (words : List (List ℕ)) (n : ℕ) (T : Ty) (word : List ℕ) (v : Value) (values now : List Value)
    → n < length types → n < length words → T ≡ get_or types n T → word ≡ get_or words n word → AreValuesOf P (take n types) (take n words) values → IsValueOf P T word v → now ≡ values ++ v ∷ []
    → AreValuesOf P (take (n + 1) types) (take (n + 1) words) now
one_value_more P types words n T word v values now less_types less_words is_type is_word before is added =
    let more_types : take (n + 1) types ≡ take n types ++ T ∷ [] = take_next types n T less_types is_type in
    let more_words : take (n + 1) words ≡ take n words ++ word ∷ [] = take_next words n word less_words is_word in
    let all : AreValuesOf P (take n types ++ T ∷ []) (take n words ++ word ∷ []) (values ++ v ∷ []) = values_snoc before is in
    rw (more_types, more_words, added) all

-- the first word that is no value of its type
pub first_bad : (P : Program) (types : List Ty) (words : List (List ℕ)) (n : ℕ) (T : Ty) (word : List ℕ) (values : List Value)
    → n < length types → n < length words → T ≡ get_or types n T → word ≡ get_or words n word → AreValuesOf P (take n types) (take n words) values → ((v : Value) → ¬ IsValueOf P T word v) → IsFirstBad P types words n
first_bad P types words n T word values less_types less_words is_type is_word before bad = record {
  T = T;
  word = word;
  values = values;
  is_type = slice_get_read types (length types) n T refl less_types is_type;
  is_word = slice_get_read words (length words) n word refl less_words is_word;
  before = before;
  bad = bad;
}

-- a name stands once
one_place : (names : List (List ℕ)) → AreDistinct names → (n m : ℕ) → n < length names → m < length names → get_or names n [] ≡ get_or names m [] → n ≡ m
one_place [] distinct n m less below same = absurd (omega (arith, less))
one_place (x ∷ xs) (more absent distinct) zero zero less below same = refl
one_place (x ∷ xs) (more absent distinct) zero (suc m) less below same = absurd (absent (subst (Contains xs) (sym same) (Contains-get_or xs m [] (omega (arith, below)))))
one_place (x ∷ xs) (more absent distinct) (suc n) zero less below same = absurd (absent (subst (Contains xs) same (Contains-get_or xs n [] (omega (arith, less)))))
one_place (x ∷ xs) (more absent distinct) (suc n) (suc m) less below same = ap suc (one_place xs distinct n m (omega (arith, less)) (omega (arith, below)) same)

names_distinct : (P : Program) → IsChecked P → AreDistinct P.names.defs
names_distinct P checked = behind_words (P.names.lemmas ++ P.names.replicas) checked.lawful.lowers
  where
    behind_words : {a b : List ℕ} (others : List (List ℕ)) → AreDistinct (a ∷ b ∷ (P.names.defs ++ others)) → AreDistinct P.names.defs
    behind_words others (more absent (more away distinct)) = distinct_front P.names.defs others distinct

-- in a checked program a name is that of one definition
pub one_number : (P : Program) → IsChecked P → (name : List ℕ) (n m : ℕ) → slice_get P.names.defs n ≡ Some name → slice_get P.names.defs m ≡ Some name → n ≡ m
one_number P checked name n m one other =
    one_place P.names.defs (names_distinct P checked) n m (slice_get_within P.names.defs n name one) (slice_get_within P.names.defs m name other)
    (get_or_from_slice_get P.names.defs n name [] one ∙ sym (get_or_from_slice_get P.names.defs m name [] other))

-- an end that is a refusal of arguments, by its name
pub refused_for : (P : Program) (name : List ℕ) (words : List (List ℕ)) (kind : ArgumentKind) (end : End) → end ≡ Arguments kind 0 → IsNoCall P name words kind 0 → FindsCall P name words (Err end)
refused_for P name words kind end is cause = subst (λ (e : End). FindsCall P name words (Err e)) (sym is) cause

module _ (P : Program) (name : List ℕ) (words : List (List ℕ)) where
  -- no definition has the name
  pub no_name : (names : List (List ℕ)) (spelled : List ℕ) → names ≡ P.names.defs → spelled ≡ name → ((n : ℕ) → ¬ (slice_get names n ≡ Some spelled)) → IsNoCall P name words NoSuchName 0
  no_name names spelled are is nowhere = no_such_name (λ n D defined. nowhere n (ap (λ (ns : List (List ℕ)). slice_get ns n) are ∙ (defined.named ∙ ap Some (sym is)))) refl

  -- the name's number is that of no definition
  pub no_definition : IsChecked P → (names : List (List ℕ)) (spelled : List ℕ) (defs : List definition.Def) (n : ℕ) → names ≡ P.names.defs → spelled ≡ name → defs ≡ P.defs → slice_get names n ≡ Some spelled → None ≡ slice_get defs n → IsNoCall P name words NoSuchName 0
  no_definition checked names spelled defs n are is same at missing = no_such_name refused refl
    where
      here : slice_get P.names.defs n ≡ Some name
      here = ap (λ (ns : List (List ℕ)). slice_get ns n) (sym are) ∙ (at ∙ ap Some is)

      refused : (m : ℕ) (D : definition.Def) → ¬ IsDefined P name m D
      refused m D defined =
          let place : m ≡ n = one_number P checked name m n defined.named here in
          let there : slice_get defs n ≡ Some D = ap (λ (ds : List definition.Def). slice_get ds n) same ∙ (ap (slice_get P.defs) (sym place) ∙ defined.is_def) in
          let no : None ≡ Some D = missing ∙ there in
          cc

  pub is_defined : (names : List (List ℕ)) (spelled : List ℕ) (defs : List definition.Def) (n : ℕ) (D : definition.Def) → names ≡ P.names.defs → spelled ≡ name → defs ≡ P.defs → slice_get names n ≡ Some spelled → Some D ≡ slice_get defs n → IsDefined P name n D
  is_defined names spelled defs n D are is same at stands = record {
    named = ap (λ (ns : List (List ℕ)). slice_get ns n) (sym are) ∙ (at ∙ ap Some is);
    is_def = ap (λ (ds : List definition.Def). slice_get ds n) (sym same) ∙ sym stands;
  }

  -- what values were refused, as arguments
  pub values_refused : (n : ℕ) (D : definition.Def) (types : List Ty) → IsDefined P name n D → IsPlain D → types ≡ D.params → length words ≡ length types → (end : End) → ReadsValues P types words (Err end) → FindsCall P name words (Err end)
  values_refused n D types defined plain are as_many (Arguments kind number) (is, bad) =
      subst (λ (k : ArgumentKind). IsNoCall P name words k number) (sym is)
      (bad_value n D defined plain (as_many ∙ ap length are) (subst (λ (ts : List Ty). IsFirstBad P ts words number) are bad))
  values_refused n D types defined plain are as_many NoMemory h = tt
  values_refused n D types defined plain are as_many Done h = absurd h
  values_refused n D types defined plain are as_many Usage h = absurd h
  values_refused n D types defined plain are as_many (Schedule at rule) h = absurd h
  values_refused n D types defined plain are as_many (Source fault) h = absurd h
  values_refused n D types defined plain are as_many (Rejected number why) h = absurd h
  values_refused n D types defined plain are as_many (Spent event) h = absurd h
  values_refused n D types defined plain are as_many ReadFault h = absurd h
  values_refused n D types defined plain are as_many WriteFault h = absurd h
  values_refused n D types defined plain are as_many (TooLong text) h = absurd h

  -- a `?` hands an end on as it is
  pub passed_refusal : (result : Result ClosedCall End) (end : End) → IsErrAnd result (λ e. e ≡ end) → FindsCall P name words (Err end) → FindsCall P name words result
  passed_refusal (Ok call) end is h = absurd is
  passed_refusal (Err e) end is h = subst (λ (e : End). FindsCall P name words (Err e)) (sym is) h
