-- What functions that may be put in stand for fits their types, with each property that is known of them; px_totality shows it of arguments.
use Rattle.std.proofs.Common.{◌≡◌, ℕ, zero, suc, ◌<◌, List, [], ◌∷◌, map, length, Option, Some, slice_get, refl, sym, ap, ◌∙◌, subst, subst₂}
use Rattle.std.specs.Option.{IsSomeAnd}
use Rattle.std.proofs.lemmas.List.{length-map}
use Rattle.px_terms.specs.Head.TheVariants.{Def}
use Rattle.px_terms.specs.Prop.{Prop}
use Rattle.px_terms.specs.PropSets.{HasProp}
use Rattle.px_terms.specs.declared.types.Ty.{Ty}
use Rattle.px_terms.specs.declared.types.Ty.TheVariants as type
use Rattle.px_terms.specs.declared.types.FnType.{FnType}
use Rattle.px_terms.specs.declared.types.Fun.{Fun}
use Rattle.px_terms.specs.declared.clause.Clause.{Clause}
use Rattle.px_terms.specs.declared.program.Def as definition
use Rattle.px_terms.specs.declared.program.Declared.TheVariants as declared
use Rattle.px_terms.specs.declared.program.Program.{Program}
use Rattle.px_terms.specs.declared.sequent.Context.{Context}
use Rattle.px_terms.specs.Types.{ty_instance, tys_instance, fn_type_instance}
use Rattle.px_terms.specs.TreeEquations.{ty_instance-Word, ty_instance-Con}
use Rattle.px_terms.specs.Programs.{bool_type}
use Rattle.px_terms.specs.Meaning.{FunMeans, FunsMean}
use Rattle.px_terms.specs.Implied as implied
use Rattle.px_terms.specs.Typing.{behind, IsType, AreTypes, IsFunction, IsDeclaredBefore, IsKnown}
use Rattle.px_terms.specs.Typing as typing
use Rattle.px_terms.specs.TypedPrograms.{Fits, HasSignature}
use Rattle.px_terms.specs.Clauses.{functions_alone}
use Rattle.px_terms.specs.Obligations.{IsObligation, of_property}
use Rattle.px_terms.specs.Noting.{AreOpenArguments}
use Rattle.px_terms.specs.Noting as noting
use Rattle.px_terms.specs.Extending.{IsWellFounded, FitsFully, FunctionsFit, HasInProgram, HoldsInProgram}
use Rattle.px_terms.specs.Extending as extending
use Rattle.px_totality.specs.PropertyLaws.{at_most, equal}
use Rattle.px_totality.proofs.Instances.{nothing_is_some, one_item, written_types, instances_are_types, instances_twice, instance_twice}
use Rattle.px_totality.proofs.Calls.{nothing_mapped}
use Rattle.px_totality.proofs.Declared.{declared_is_had}
use Rattle.px_totality.proofs.PropertiesHold.{implied_is_true, built_ins_have}
use Rattle.px_totality.proofs.ArgumentsFit.{closure_weaker}

-- as many functions fit as there are types
pub many_fit : (Q : Program) (ts : List Ty) {Fs : List FnType} {gs : List Fun} → FunctionsFit Q ts Fs gs → length gs ≡ length Fs
many_fit Q ts extending.none = refl
many_fit Q ts (extending.more first others) = ap suc (many_fit Q ts others)

-- The function of this number fits.
record FitsAt (Q : Program) (ts : List Ty) (F : FnType) (gs : List Fun) (i : ℕ) : Type 0 where
  g : Fun
  at : slice_get gs i ≡ Some g
  fully : FitsFully Q ts F g

fits_at : (Q : Program) (ts : List Ty) {Fs : List FnType} {gs : List Fun} (i : ℕ) (F : FnType) → FunctionsFit Q ts Fs gs → slice_get Fs i ≡ Some F →
    FitsAt Q ts F gs i
fits_at Q ts i F extending.none at = absurd (nothing_is_some F at)
fits_at Q ts zero F (extending.more {F = G} {f = g} first others) at = record {
  g = g;
  at = refl;
  fully = subst (λ (F : FnType). FitsFully Q ts F g) (one_item G F at) first;
}
fits_at Q ts (suc i) F (extending.more {fs = gs} first others) at =
    let there : FitsAt Q ts F gs i = fits_at Q ts i F others at in
    record { g = there.g; at = there.at; fully = there.fully }

some_holds : {A : Type 0} (o : Option A) (Holds : A → Type 0) (x : A) → o ≡ Some x → IsSomeAnd o Holds → Holds x
some_holds o Holds x e h = let here : IsSomeAnd (Some x) Holds = subst (λ (o : Option _). IsSomeAnd o Holds) e h in here

-- each obligation below this number holds in the program
abbrev pub LowerHold : Program → ℕ → Type 0
LowerHold Q n = (i : ℕ) (clause : Clause) → i < n → IsObligation Q i clause → HoldsInProgram Q clause

-- What the function stands for is one of the program, of this type, and has each property that is known of the function.
pub record StandsFor (Q : Program) (n : ℕ) (context : Context) (ts : List Ty) (gs : List Fun) (f : Fun) (params : List Ty) (T : Ty) : Type 0 where
  pub g : Fun
  pub means : FunMeans ts gs f g
  pub function : IsFunction Q (functions_alone 0 []) g [] (tys_instance ts params) (ty_instance ts T)
  pub has : (p : Prop) → IsKnown Q (behind n) context f.head p → HasInProgram Q g p

-- What functions stand for fits these types.
pub record StandFor (Q : Program) (ts : List Ty) (gs fs : List Fun) (takes : List FnType) : Type 0 where
  pub hs : List Fun
  pub mean : FunsMean ts gs fs hs
  pub fit : FunctionsFit Q ts takes hs

module _ (Q : Program) (founded : IsWellFounded Q) (n : ℕ) (context : Context) (lower : LowerHold Q n) (ts : List Ty)
    (long : length ts ≡ context.tparams) (ground : AreTypes Q 0 ts) (gs : List Fun) (fit : FunctionsFit Q ts context.funs gs) where
  -- a property that is declared below this number is had
  declared_below : (m : ℕ) (D : definition.Def) → slice_get Q.defs m ≡ Some D → D.funs ≡ [] → (us : List Ty) → length us ≡ D.tparams → AreTypes Q 0 us →
      (p : Prop) → IsDeclaredBefore Q (behind n) m p → HasInProgram Q (record { head = Def m; types = us }) p
  declared_below m D found none us many are p d =
      let fits : Fits Q [] (Def m) p = (founded.typed.properties d.number m p d.stands).fits in
      let obligation : IsObligation Q d.number fits.clause = record { declared = declared.Property m p; number = d.stands; says = of_property fits.says } in
      let holds : HoldsInProgram Q fits.clause = lower d.number fits.clause d.earlier obligation in
      declared_is_had Q founded m D found none p fits.clause fits.says holds us many are

  words_are : tys_instance ts (type.Word ∷ type.Word ∷ []) ≡ type.Word ∷ type.Word ∷ []
  words_are = let word : ty_instance ts type.Word ≡ type.Word = ty_instance-Word ts in λ i. word i ∷ word i ∷ []

  bool_is : (T : Ty) → T ≡ bool_type → ty_instance ts T ≡ bool_type
  bool_is T e = ap (ty_instance ts) e ∙ ty_instance-Con ts 0 []

  -- a function without function parameters stands for one with what is known of it
  pub stands_for : {f : Fun} {takes : List FnType} {params : List Ty} {T : Ty} → IsFunction Q context f takes params T → takes ≡ [] →
      StandsFor Q n context ts gs f params T
  stands_for (typing.of_definition {n = m} {types = types} {params = params} {T = T} {D = D} found many are takes_is params_is result_is) none =
      let signature : HasSignature Q D = (founded.typed.defs m D found).signature in
      let us : List Ty = tys_instance ts types in
      let g : Fun = record { head = Def m; types = us } in
      let over : AreTypes Q (length ts) types = subst (λ (k : ℕ). AreTypes Q k types) (sym long) are in
      let us_ground : AreTypes Q 0 us = instances_are_types Q 0 ts ground over in
      let us_long : length us ≡ D.tparams = length-map types (ty_instance ts) ∙ many in
      let no_funs : D.funs ≡ [] = nothing_mapped (fn_type_instance types) D.funs (sym takes_is ∙ none) in
      let params_over : AreTypes Q (length types) D.params =
      subst (λ (k : ℕ). AreTypes Q k D.params) (sym many) (written_types Q D.tparams D.params signature.params) in
      let result_over : IsType Q (length types) D.result = subst (λ (k : ℕ). IsType Q k D.result) (sym many) signature.result.is_type in
      record {
        g = g;
        means = refl;
        function =
            typing.of_definition {D = D} found us_long us_ground (sym (ap (map (fn_type_instance us)) no_funs))
            (ap (tys_instance ts) params_is ∙ instances_twice Q ts types params_over)
            (ap (ty_instance ts) result_is ∙ instance_twice Q ts types D.result result_over);
        has =
            λ p known. implied_is_true Q founded g p
            (closure_weaker (IsDeclaredBefore Q (behind n) m) (HasInProgram Q g) (λ q d. declared_below m D found no_funs us us_long us_ground q d) known);
      }
  stands_for (typing.at_most {T = T} is) none = record {
    g = at_most;
    means = refl;
    function = subst₂ (IsFunction Q (functions_alone 0 []) at_most []) (sym words_are) (sym (bool_is T is)) (typing.at_most refl);
    has =
        λ p known. implied_is_true Q founded at_most p
        (closure_weaker implied.HasAtMost (HasInProgram Q at_most) (built_ins_have.of_at_most Q founded) known);
  }
  stands_for (typing.equal {T = T} is) none = record {
    g = equal;
    means = refl;
    function = subst₂ (IsFunction Q (functions_alone 0 []) equal []) (sym words_are) (sym (bool_is T is)) (typing.equal refl);
    has =
        λ p known. implied_is_true Q founded equal p
        (closure_weaker implied.HasEqual (HasInProgram Q equal) (built_ins_have.of_equal Q founded) known);
  }
  stands_for (typing.of_variable {n = i} {params = params} {T = T} {F = F} found params_is result_is) none =
      let there : FitsAt Q ts F gs i = fits_at Q ts i F fit found in
      let Said : Prop → Type 0 = λ (p : Prop). IsSomeAnd (slice_get context.funs i) (λ (F : FnType). HasProp F.props p) in
      record {
        g = there.g;
        means = there.at;
        function =
            subst₂ (IsFunction Q (functions_alone 0 []) there.g []) (sym (ap (tys_instance ts) params_is))
            (sym (ap (ty_instance ts) result_is)) there.fully.fits.function;
        has =
            λ p known. implied_is_true Q founded there.g p
            (closure_weaker Said (HasInProgram Q there.g)
            (λ q said. there.fully.has q (some_holds (slice_get context.funs i) (λ (F : FnType). HasProp F.props q) F found said)) known);
      }

  -- functions that may be put in stand for functions that fit
  pub stand_for : {fs : List Fun} {takes : List FnType} → AreOpenArguments Q n context fs takes → StandFor Q ts gs fs takes
  stand_for noting.none = record { hs = []; mean = tt; fit = extending.none }
  stand_for (noting.more {f = f} {fs = fs} {wanted = wanted} {takes = takes} is are) =
      let first : StandsFor Q n context ts gs f wanted.params wanted.result = stands_for is.function refl in
      let others : StandFor Q ts gs fs takes = stand_for are in
      record {
        hs = first.g ∷ others.hs;
        mean = (first.means, others.mean);
        fit = extending.more (record { fits = record { function = first.function }; has = λ p assumed. first.has p (is.properties p assumed) }) others.fit;
      }
