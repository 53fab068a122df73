-- What holds of the small programs, and what fails.
use Rattle.std.proofs.Common.{◌≡◌, ℕ, zero, suc, ◌+◌, List, [], ◌∷◌, ◌++◌, true, false, Some, slice_get, refl, sym, ap, ◌∙◌}
use Rattle.std.proofs.Common.{subst}
use Rattle.std.specs.Option.{option_map, option_and_then}
use Rattle.px_terms.specs.Head.TheVariants.{Def}
use Rattle.px_terms.specs.Prop.{Prop}
use Rattle.px_terms.specs.Prop.TheVariants.{Idem}
use Rattle.px_terms.specs.declared.types.Ty.{Ty, out-Ty}
use Rattle.px_terms.specs.declared.types.Ty.TheOpen.{Ty-F}
use Rattle.px_terms.specs.declared.types.Ty.TheVariants as type
use Rattle.px_terms.specs.declared.types.FnType.{FnType}
use Rattle.px_terms.specs.declared.types.Fun.{Fun}
use Rattle.px_terms.specs.declared.term.Term.{Term, out-Term}
use Rattle.px_terms.specs.declared.term.Term.TheOpen.{Term-F}
use Rattle.px_terms.specs.declared.term.Term.TheVariants as term
use Rattle.px_terms.specs.declared.term.Value.{Value, out-Value}
use Rattle.px_terms.specs.declared.term.Value.TheOpen.{Value-F}
use Rattle.px_terms.specs.declared.term.Value.TheVariants as value
use Rattle.px_terms.specs.declared.clause.Equation.{Equation}
use Rattle.px_terms.specs.declared.program.ConDef.{ConDef}
use Rattle.px_terms.specs.declared.program.DataDef.{DataDef}
use Rattle.px_terms.specs.declared.program.Def as definition
use Rattle.px_terms.specs.declared.program.Program.{Program}
use Rattle.px_terms.specs.Types.{ty_instance, tys_instance, fn_type_instance}
use Rattle.px_terms.specs.TreeEquations.{ty_instance-Con}
use Rattle.px_terms.specs.Programs.{bool_type, bool_data, false_term, true_term, constructor_at}
use Rattle.px_terms.specs.Values.{IsInLayer, IsIn, AreIn}
use Rattle.px_terms.specs.Values as values
use Rattle.px_terms.specs.Meaning.{truth, FunMeans, FunsMean, MeansOf, MeanAll, Means, Gives, SameValue, free, con, call, none, more, defined}
use Rattle.px_terms.specs.Typing.{IsFunction}
use Rattle.px_terms.specs.Typing as typing
use Rattle.px_terms.specs.Clauses.{Subject, IsSubject, clause_for, functions_alone}
use Rattle.px_terms.specs.Holding.{IsTrueAt, SomeIsTrueAt, here, later}
use Rattle.px_terms.specs.Extending.{IsExtension, BeginsWith, FitsType, FitsFully, FunctionsFit, IsTrueOfAll, HoldsInProgram, HoldsInExtensions}
use Rattle.px_terms.specs.Extending as extending
use Rattle.px_totality.specs.Examples.{first_function, two_truths, same_body, same_function, never_function, same_program, longer_program, same_clause}
use Rattle.px_totality.specs.Examples.{empty_type, empty_data, empty_program, false_clause}
use Rattle.px_totality.specs.ExampleLaws.{SameOfAnyFails, SameOfIdempotentHolds, EmptyHoldsOfNothing}
use Rattle.px_totality.proofs.Instances.{nothing_is_some, one_item}
use Rattle.px_totality.proofs.Total.{truth_is_in}
use Rattle.px_totality.proofs.Calls.{nothing_mapped}
use Rattle.px_totality.proofs.ExamplePrograms.{longer_extends, longer_founded, empty_founded, empty_extends, nothing_assumed}
use Rattle.px_totality.proofs.Closed.{means_itself, same_ends, one_type}
use Rattle.px_totality.proofs.Unique.{unique, unique_all, OfCall, rests_on}

pub not_same : truth false ≡ truth true → ⊥
not_same e =
    let q : Value-F.Con 0 0 [] ≡ Value-F.Con 0 1 [] = sym (value.outs-Con 0 0 []) ∙ ap out-Value e ∙ value.outs-Con 0 1 [] in
    cc

module _ (Q : Program) (types : List Ty) (funs : List Fun) (rho : List Value) where
  none_is_true : (es : List Equation) → es ≡ [] → SomeIsTrueAt Q types funs rho es → ⊥
  none_is_true _ e (here is) = let wrong : ⊥ = cc in wrong
  none_is_true _ e (later some) = let wrong : ⊥ = cc in wrong

  one_is_true : (e : Equation) (es : List Equation) → es ≡ e ∷ [] → SomeIsTrueAt Q types funs rho es → IsTrueAt Q types funs rho e
  one_is_true e _ is_one (here {e = f} {es = fs} is) = let same : f ≡ e = cc in subst (λ (f : Equation). IsTrueAt Q types funs rho f) same is
  one_is_true e _ is_one (later {e = f} {es = fs} some) = let end : fs ≡ [] = cc in absurd (none_is_true fs end some)

  -- of one equation some is true only where it is
  pub only_one : (e : Equation) → SomeIsTrueAt Q types funs rho (e ∷ []) → IsTrueAt Q types funs rho e
  only_one e some = one_is_true e (e ∷ []) refl some

  -- two terms of one value have the values that they are known to have
  pub same_values : (s t : Term) (v w : Value) (a b : ℕ) → Means Q types funs rho s v a → Means Q types funs rho t w b → SameValue Q types funs rho s t → v ≡ w
  same_values s t v w a b left right same =
      let first = unique Q types funs rho [] (out-Term s) v same.0 a same.1 left same.3 in
      let second = unique Q types funs rho [] (out-Term t) same.0 w same.2 b same.4 right in
      first.0 ∙ second.0

  pub of_layer_means : (t : Term) (y : Term-F Term) (v : Value) (c : ℕ) → out-Term t ≡ y → MeansOf Q types funs rho [] y v c → Means Q types funs rho t v c
  of_layer_means t y v c e means = subst (λ (y : Term-F Term). MeansOf Q types funs rho [] y v c) (sym e) means

  pub variable_means : (n : ℕ) (v : Value) → slice_get rho n ≡ Some v → Means Q types funs rho (term.Free n) v 0
  variable_means n v at = of_layer_means (term.Free n) (Term-F.Free n) v 0 (term.outs-Free n) (free at)

  pub false_means : Means Q types funs rho false_term (truth false) 0
  false_means = of_layer_means false_term (Term-F.Con 0 0 [] []) (truth false) 0 (term.outs-Con 0 0 [] []) (con {vs = []} none refl)

  pub true_means : Means Q types funs rho true_term (truth true) 0
  true_means = of_layer_means true_term (Term-F.Con 0 1 [] []) (truth true) 0 (term.outs-Con 0 1 [] []) (con {vs = []} none refl)

  pub false_is_not_true : SomeIsTrueAt Q types funs rho (record { left = false_term; right = true_term } ∷ []) → ⊥
  false_is_not_true some =
      not_same (same_values false_term true_term (truth false) (truth true) 0 0 false_means true_means
      (only_one (record { left = false_term; right = true_term }) some))

-- what stands at the front of a list stands there in one that begins with it
pub stands_still : {A : Type 0} (whole front : List A) (n : ℕ) (x : A) → BeginsWith whole front → slice_get front n ≡ Some x → slice_get whole n ≡ Some x
stands_still {A} whole front n x begins at = ap (λ (xs : List A). slice_get xs n) begins.is ∙ go front n at
  where
    go : (xs : List A) (n : ℕ) → slice_get xs n ≡ Some x → slice_get (xs ++ begins.more) n ≡ Some x
    go [] n at = absurd (nothing_is_some x at)
    go (y ∷ xs) zero at = at
    go (y ∷ xs) (suc n) at = go xs n at

-- what `same` gives, by what the function that it is given does
module _ (Q : Program) (types : List Ty) (f : Fun) (a : Value) where
  pub same_gives : (v : Value) (c : ℕ) → (props : List Prop) → slice_get Q.defs 0 ≡ Some (same_function props) → Gives Q f [] (a ∷ a ∷ []) v c →
      Means Q types (f ∷ []) (a ∷ []) (term.Call (record { head = Def 0; types = [] }) (first_function ∷ []) (term.Free 0 ∷ [])) v (0 + (0 + c + 1))
  same_gives v c props found gives =
      let inside : Means Q [] (f ∷ []) (a ∷ []) same_body v (0 + c) =
      of_layer_means Q [] (f ∷ []) (a ∷ []) same_body (Term-F.Call first_function [] (term.Free 0 ∷ term.Free 0 ∷ [])) v (0 + c)
      (term.outs-Call first_function [] (term.Free 0 ∷ term.Free 0 ∷ []))
      (call {g = f} {gs = []}
      (more (variable_means Q [] (f ∷ []) (a ∷ []) 0 a refl)
      (more (variable_means Q [] (f ∷ []) (a ∷ []) 0 a refl) none refl) refl) refl tt gives refl) in
      of_layer_means Q types (f ∷ []) (a ∷ []) (term.Call (record { head = Def 0; types = [] }) (first_function ∷ []) (term.Free 0 ∷ []))
      (Term-F.Call (record { head = Def 0; types = [] }) (first_function ∷ []) (term.Free 0 ∷ [])) v (0 + (0 + c + 1))
      (term.outs-Call (record { head = Def 0; types = [] }) (first_function ∷ []) (term.Free 0 ∷ []))
      (call {g = record { head = Def 0; types = [] }} {gs = f ∷ []} (more (variable_means Q types (f ∷ []) (a ∷ []) 0 a refl) none refl) refl (refl, tt)
      (defined (ap (option_map (λ (d : definition.Def). d.body)) found) inside refl) refl)

words_are_no_truths : (types : List Ty) → type.Word ∷ type.Word ∷ [] ≡ tys_instance types (bool_type ∷ bool_type ∷ []) → ⊥
words_are_no_truths types e =
    let first : type.Word ≡ ty_instance types bool_type = cc in
    let layers : Ty-F.Word ≡ Ty-F.Con 0 [] = sym type.outs-Word ∙ ap out-Ty (first ∙ ty_instance-Con types 0 []) ∙ type.outs-Con 0 [] in
    cc

-- no function of the program of `same` alone has the type
no_function_fits : (types : List Ty) {f : Fun} {takes : List FnType} {params : List Ty} {T : Ty} →
    IsFunction (same_program []) (functions_alone 0 []) f takes params T → takes ≡ [] → params ≡ tys_instance types (bool_type ∷ bool_type ∷ []) → ⊥
no_function_fits types (typing.of_definition {n = zero} {types = ts} {D = D} found count are takes_are params_are result_is) e p =
    let D_is : same_function [] ≡ D = one_item (same_function []) D found in
    let wrong : D.funs ≡ [] = nothing_mapped (fn_type_instance ts) D.funs (sym takes_are ∙ e) in
    let some : two_truths [] ∷ [] ≡ [] = ap (λ (D : definition.Def). D.funs) D_is ∙ wrong in
    cc
no_function_fits types (typing.of_definition {n = suc n} {D = D} found count are takes_are params_are result_is) e p = nothing_is_some D found
no_function_fits types (typing.at_most is) e p = words_are_no_truths types p
no_function_fits types (typing.equal is) e p = words_are_no_truths types p
no_function_fits types (typing.of_variable {F = F} found params_are result_is) e p = nothing_is_some F found

-- The one function that fits.
record OneFits (Q : Program) (types : List Ty) (F : FnType) (funs : List Fun) : Type 0 where
  f : Fun
  is : funs ≡ f ∷ []
  fully : FitsFully Q types F f

no_other_fits : (Q : Program) (types : List Ty) (Fs : List FnType) (funs : List Fun) → FunctionsFit Q types Fs funs → Fs ≡ [] → funs ≡ []
no_other_fits Q types _ _ extending.none e = refl
no_other_fits Q types _ _ (extending.more first others) e = let wrong : ⊥ = cc in absurd wrong

one_fits : (Q : Program) (types : List Ty) (F : FnType) (Fs : List FnType) (funs : List Fun) → FunctionsFit Q types Fs funs → Fs ≡ F ∷ [] →
    OneFits Q types F funs
one_fits Q types F _ _ extending.none e = let wrong : ⊥ = cc in absurd wrong
one_fits Q types F _ _ (extending.more {F = G} {Fs = Fs} {f = f} {fs = fs} first others) e =
    let same : G ≡ F = cc in
    let end : Fs ≡ [] = cc in
    record {
      f = f;
      is = ap (λ (fs : List Fun). f ∷ fs) (no_other_fits Q types Fs fs others end);
      fully = subst (λ (F : FnType). FitsFully Q types F f) same first;
    }

-- The one value.
record OneValue (Q : Program) (T : Ty) (rho : List Value) : Type 0 where
  a : Value
  is : rho ≡ a ∷ []
  is_in : IsIn Q T a

no_value : (Q : Program) (types : List Ty) (rho : List Value) → AreIn Q types rho → types ≡ [] → rho ≡ []
no_value Q _ _ values.none e = refl
no_value Q _ _ (values.more first others) e = let wrong : ⊥ = cc in absurd wrong

one_value : (Q : Program) (T : Ty) (types : List Ty) (rho : List Value) → AreIn Q types rho → types ≡ T ∷ [] → OneValue Q T rho
one_value Q T _ _ values.none e = let wrong : ⊥ = cc in absurd wrong
one_value Q T _ _ (values.more {T = S} {types = types} {v = v} {values = vs} first others) e =
    let same : S ≡ T = cc in
    let end : types ≡ [] = cc in
    record { a = v; is = ap (λ (vs : List Value). v ∷ vs) (no_value Q types vs others end); is_in = subst (λ (T : Ty). IsIn Q T v) same first }

none_fit : (types : List Ty) (funs : List Fun) → FunctionsFit (same_program []) types (two_truths [] ∷ []) funs → ⊥
none_fit types funs fit =
    let one : OneFits (same_program []) types (two_truths []) funs = one_fits (same_program []) types (two_truths []) (two_truths [] ∷ []) funs fit refl in
    no_function_fits types one.fully.fits.function refl refl

abbrev never : Fun
never = record { head = Def 1; types = [] }

never_fits : FitsFully longer_program [] (two_truths []) never
never_fits = record {
  fits = record { function = typing.of_definition {D = never_function} refl refl typing.none refl refl refl };
  has = λ p has. absurd (nothing_assumed p has);
}

true_is_in : AreIn longer_program (tys_instance [] (bool_type ∷ [])) (truth true ∷ [])
true_is_in =
    values.more (subst (λ (T : Ty). IsIn longer_program T (truth true)) (sym (ty_instance-Con [] 0 []))
    (truth_is_in longer_program longer_founded.typed true)) values.none

fails_in_longer : HoldsInProgram longer_program (same_clause []) → ⊥
fails_in_longer holds =
    let some : SomeIsTrueAt longer_program [] (never ∷ []) (truth true ∷ []) (same_clause []).alternatives =
    (holds.at [] refl typing.none (never ∷ []) (extending.more never_fits extending.none)).at (truth true ∷ []) true_is_in tt in
    let says : Term = term.Call (record { head = Def 0; types = [] }) (first_function ∷ []) (term.Free 0 ∷ []) in
    let same : SameValue longer_program [] (never ∷ []) (truth true ∷ []) says (term.Free 0) =
    only_one longer_program [] (never ∷ []) (truth true ∷ []) (record { left = says; right = term.Free 0 }) some in
    let gives : Gives longer_program never [] (truth true ∷ truth true ∷ []) (truth false) 1 =
    defined refl (false_means longer_program [] [] (truth true ∷ truth true ∷ [])) refl in
    not_same (same_values longer_program [] (never ∷ []) (truth true ∷ []) says (term.Free 0) (truth false) (truth true) (0 + (0 + 1 + 1)) 0
    (same_gives longer_program [] never (truth true) (truth false) 1 [] refl gives)
    (variable_means longer_program [] (never ∷ []) (truth true ∷ []) 0 (truth true) refl) same)

pub same_of_any_fails : SameOfAnyFails
same_of_any_fails = record {
  in_itself = record { at = λ types count are funs fit. absurd (none_fit types funs fit) };
  extension = longer_extends;
  fails_there = fails_in_longer;
  fails = λ holds. fails_in_longer (holds.in_each longer_program longer_extends);
}

-- What a call of a function without functions gives.
record Given (Q : Program) (h : Fun) (ws : List Value) (v : Value) : Type 0 where
  count : ℕ
  gives : Gives Q h [] ws v count

pub nothing_meant : (types : List Ty) (funs gs : List Fun) → FunsMean types funs [] gs → gs ≡ []
nothing_meant types funs [] mean = refl
nothing_meant types funs (g ∷ gs) mean = absurd mean

call_given : (Q : Program) (types : List Ty) (funs : List Fun) (rho : List Value) (f h : Fun) (args : List Term) (ws : List Value) (e : ℕ) (v : Value)
    (c : ℕ) → FunMeans types funs f h → MeanAll Q types funs rho [] args ws e → Means Q types funs rho (term.Call f [] args) v c → Given Q h ws v
call_given Q types funs rho f h args ws e v c stands all means =
    let parts : OfCall Q types funs rho [] f [] args v c =
    rests_on Q types funs rho [] (Term-F.Call f [] args) v c
    (subst (λ (y : Term-F Term). MeansOf Q types funs rho [] y v c) (term.outs-Call f [] args) means) in
    let one : parts.g ≡ h = one_item parts.g h (sym parts.fun_means ∙ stands) in
    let none_given : parts.gs ≡ [] = nothing_meant types funs parts.gs parts.funs_mean in
    let same = unique_all Q types funs rho [] args parts.vs ws parts.a e parts.all all in
    record {
      count = parts.b;
      gives =
          subst (λ (g : Fun). Gives Q g [] ws v parts.b) one
          (subst (λ (gs : List Fun). Gives Q parts.g gs ws v parts.b) none_given
          (subst (λ (vs : List Value). Gives Q parts.g parts.gs vs v parts.b) same.0 parts.gives));
    }

module _ (Q : Program) (types : List Ty) (f : Fun) (fully : FitsFully Q types (two_truths (Idem ∷ [])) f) (a : Value) (is_in : IsIn Q bool_type a) where
  -- an idempotent function of two truth values gives the one that it is given twice
  idempotent_gives : Given Q f (a ∷ a ∷ []) a
  idempotent_gives =
      let has = fully.has Idem refl in
      let s : Subject = has.subject in
      let subject : IsSubject Q (functions_alone 0 []) f [] s = has.is_subject in
      let B : Ty = ty_instance types bool_type in
      let one : (B ∷ B ∷ [] ≡ subject.params) × (B ≡ s.result) =
      one_type Q f [] subject.takes (B ∷ B ∷ []) subject.params B s.result fully.fits.function subject.function in
      let ends : ([] ≡ s.leading) × (B ≡ s.last) = same_ends [] s.leading B s.last (one.0 ∙ subject.shape) in
      let leading : s.leading ≡ [] = sym ends.0 in
      let last : s.last ≡ bool_type = sym ends.1 ∙ ty_instance-Con types 0 [] in
      let t : Subject = record { function = f; given = []; leading = []; last = bool_type; result = s.result } in
      let function : s.function ≡ f = subject.is_function in
      let given : s.given ≡ [] = subject.is_given in
      let same_subject : s ≡ t = λ i. record { function = function i; given = given i; leading = leading i; last = last i; result = s.result } in
      let is_true : IsTrueOfAll Q [] [] (clause_for t Idem 0 []) =
      subst (λ (t : Subject). IsTrueOfAll Q [] [] (clause_for t Idem 0 [])) same_subject has.is_true in
      let are : AreIn Q (tys_instance [] (bool_type ∷ [])) (a ∷ []) =
      values.more (subst (λ (T : Ty). IsIn Q T a) (sym (ty_instance-Con [] 0 [])) is_in) values.none in
      let says : Term = term.Call f [] (term.Free 0 ∷ term.Free 0 ∷ []) in
      let same : SameValue Q [] [] (a ∷ []) says (term.Free 0) =
      only_one Q [] [] (a ∷ []) (record { left = says; right = term.Free 0 }) (is_true.at (a ∷ []) are tt) in
      let a_means : Means Q [] [] (a ∷ []) (term.Free 0) a 0 = variable_means Q [] [] (a ∷ []) 0 a refl in
      let args : MeanAll Q [] [] (a ∷ []) [] (term.Free 0 ∷ term.Free 0 ∷ []) (a ∷ a ∷ []) (0 + (0 + 0)) = more a_means (more a_means none refl) refl in
      let it : Given Q f (a ∷ a ∷ []) same.0 =
      call_given Q [] [] (a ∷ []) f f (term.Free 0 ∷ term.Free 0 ∷ []) (a ∷ a ∷ []) (0 + (0 + 0)) same.0 same.1
      (means_itself Q [] [] fully.fits.function) args same.3 in
      let value_is = unique Q [] [] (a ∷ []) [] (out-Term (term.Free 0)) same.0 a same.2 0 same.4 a_means in
      subst (Given Q f (a ∷ a ∷ [])) value_is.0 it

  same_is_true : slice_get Q.defs 0 ≡ Some (same_function (Idem ∷ [])) → SomeIsTrueAt Q types (f ∷ []) (a ∷ []) (same_clause (Idem ∷ [])).alternatives
  same_is_true found =
      let it : Given Q f (a ∷ a ∷ []) a = idempotent_gives in
      here (a, 0 + (0 + it.count + 1), 0, same_gives Q types f a a it.count (Idem ∷ []) found it.gives, variable_means Q types (f ∷ []) (a ∷ []) 0 a refl)

pub same_of_idempotent_holds : SameOfIdempotentHolds
same_of_idempotent_holds = record {
  in_each = λ Q extends. record { at = λ types count are funs fit. record { at = λ rho in_types premises. go Q extends types funs fit rho in_types } };
}
  where
    go : (Q : Program) → IsExtension Q (same_program (Idem ∷ [])) → (types : List Ty) (funs : List Fun) →
        FunctionsFit Q types (two_truths (Idem ∷ []) ∷ []) funs → (rho : List Value) → AreIn Q (tys_instance types (bool_type ∷ [])) rho →
        SomeIsTrueAt Q types funs rho (same_clause (Idem ∷ [])).alternatives
    go Q extends types funs fit rho in_types =
        let one : OneFits Q types (two_truths (Idem ∷ [])) funs = one_fits Q types (two_truths (Idem ∷ [])) (two_truths (Idem ∷ []) ∷ []) funs fit refl in
        let value : OneValue Q (ty_instance types bool_type) rho =
        one_value Q (ty_instance types bool_type) (tys_instance types (bool_type ∷ [])) rho in_types refl in
        let is_in : IsIn Q bool_type value.a = subst (λ (T : Ty). IsIn Q T value.a) (ty_instance-Con types 0 []) value.is_in in
        let found : slice_get Q.defs 0 ≡ Some (same_function (Idem ∷ [])) =
        stands_still Q.defs (same_function (Idem ∷ []) ∷ []) 0 (same_function (Idem ∷ [])) extends.defs refl in
        subst (λ (funs : List Fun). SomeIsTrueAt Q types funs rho (same_clause (Idem ∷ [])).alternatives) (sym one.is)
        (subst (λ (rho : List Value). SomeIsTrueAt Q types (one.f ∷ []) rho (same_clause (Idem ∷ [])).alternatives) (sym value.is)
        (same_is_true Q types one.f one.fully value.a is_in found))

module _ (Q : Program) (found : slice_get Q.datatypes 1 ≡ Some empty_data) where
  only_constructor : (k : ℕ) (c : ConDef) → slice_get empty_data.cons k ≡ Some c → c.fields ≡ empty_type ∷ []
  only_constructor zero c at = sym (ap (λ (c : ConDef). c.fields) (one_item _ c at))
  only_constructor (suc k) c at = absurd (nothing_is_some c at)

  fields_are : (d k : ℕ) (args : List Ty) (c : ConDef) → Ty-F.Con d args ≡ Ty-F.Con 1 [] → constructor_at Q d k ≡ Some c →
      tys_instance args c.fields ≡ empty_type ∷ []
  fields_are d k args c e at =
      let which : d ≡ 1 = cc in
      let none_given : args ≡ [] = cc in
      let here : slice_get empty_data.cons k ≡ Some c =
      sym (ap (option_and_then (λ (D : DataDef). slice_get D.cons k)) (ap (slice_get Q.datatypes) which ∙ found)) ∙ at in
      ap (tys_instance args) (only_constructor k c here) ∙ ap (λ (T : Ty). T ∷ []) (ty_instance-Con args 1 [])

  mutual
    no_layer : {y : Ty-F Ty} {z : Value-F Value} → IsInLayer Q y z → y ≡ Ty-F.Con 1 [] → ⊥
    no_layer (values.word small) e = cc
    no_layer (values.con {d = d} {k = k} {args = args} {fields = fields} {c = c} at are) e = no_list are (fields_are d k args c e at)

    no_list : {types : List Ty} {vs : List Value} → AreIn Q types vs → types ≡ empty_type ∷ [] → ⊥
    no_list values.none e = cc
    no_list (values.more {T = T} first others) e = let same : T ≡ empty_type = cc in no_layer first (ap out-Ty same ∙ type.outs-Con 1 [])

-- in an extension no value is of the type of `Empty`
of_nothing : (Q : Program) → IsExtension Q empty_program → (types : List Ty) (rho : List Value) → AreIn Q (tys_instance types (empty_type ∷ [])) rho → ⊥
of_nothing Q extends types rho in_types =
    let found : slice_get Q.datatypes 1 ≡ Some empty_data =
    stands_still Q.datatypes (bool_data ∷ empty_data ∷ []) 1 empty_data extends.datatypes refl in
    no_list Q found in_types (ap (λ (T : Ty). T ∷ []) (ty_instance-Con types 1 []))

pub empty_holds_of_nothing : EmptyHoldsOfNothing
empty_holds_of_nothing = record {
  founded = empty_founded;
  of_nothing = record {
    in_each = λ Q extends. record {
      at = λ types count are funs fit. record { at = λ rho in_types premises. absurd (of_nothing Q extends types rho in_types) };
    };
  };
  of_all = λ holds.
      let there : HoldsInProgram empty_program (false_clause []) = holds.in_each empty_program empty_extends in
      false_is_not_true empty_program [] [] [] ((there.at [] refl typing.none [] extending.none).at [] values.none tt);
}
