-- Functions that are typed as arguments stand for functions that fit, with the properties that are assumed, where each earlier obligation holds.
use Rattle.std.proofs.Common.{◌≡◌, ℕ, zero, suc, List, [], ◌∷◌, map, length, Option, Some, slice_get, refl, sym, ap, ◌∙◌, subst, subst₂, true≢false}
use Rattle.std.specs.Option.{IsSomeAnd}
use Rattle.std.proofs.lemmas.List.{length-map}
use Rattle.px_terms.specs.Head.TheVariants.{Def}
use Rattle.px_terms.specs.Prop.{Prop}
use Rattle.px_terms.specs.PropSet.{PropSet}
use Rattle.px_terms.specs.Prop.TheVariants.{Comm, Assoc, Idem, Sel, Refl, Irrefl, Sym, Antisym, Asym, Trans, Conn}
use Rattle.px_terms.specs.PropSets.{HasProp, set_of}
use Rattle.px_terms.specs.declared.types.Ty.{Ty}
use Rattle.px_terms.specs.declared.types.Ty.TheVariants as type
use Rattle.px_terms.specs.declared.types.FnType.{FnType}
use Rattle.px_terms.specs.declared.types.Fun.{Fun}
use Rattle.px_terms.specs.declared.program.Def as definition
use Rattle.px_terms.specs.declared.program.Declared.TheVariants as declared
use Rattle.px_terms.specs.declared.program.Program.{Program}
use Rattle.px_terms.specs.declared.sequent.Context.{Context}
use Rattle.px_terms.specs.Types.{ty_instance, tys_instance, fn_type_instance}
use Rattle.px_terms.specs.TreeEquations.{ty_instance-Word, ty_instance-Con}
use Rattle.px_terms.specs.Programs.{bool_type}
use Rattle.px_terms.specs.Meaning.{FunMeans}
use Rattle.px_terms.specs.Typing.{Place, IsType, AreTypes, IsFunction, IsDeclaredBefore, IsKnown, IsArgument, AreArguments}
use Rattle.px_terms.specs.Typing as typing
use Rattle.px_terms.specs.TypedPrograms.{Fits, HasSignature}
use Rattle.px_terms.specs.Clauses.{functions_alone}
use Rattle.px_terms.specs.Obligations.{IsObligation, of_property}
use Rattle.px_terms.specs.Implied.{Closure}
use Rattle.px_terms.specs.Implied as implied
use Rattle.px_terms.specs.Extending.{IsWellFounded, FitsFully, FunctionsFit, HasInProgram, HoldsInProgram}
use Rattle.px_terms.specs.Extending as extending
use Rattle.px_totality.specs.PropertyLaws.{at_most, equal, EarlierHold, PassedFit, ArgumentsFit, AtMostFits}
use Rattle.px_totality.proofs.Instances.{nothing_is_some, one_item, written_types, instances_are_types, instances_twice, instance_twice}
use Rattle.px_totality.proofs.Calls.{nothing_mapped}
use Rattle.px_totality.proofs.Declared.{declared_is_had}
use Rattle.px_totality.proofs.PropertiesHold.{implied_is_true, built_ins_have}

-- what is implied by less is implied by more
pub closure_weaker : (Less More : Prop → Type 0) → ((p : Prop) → Less p → More p) → {p : Prop} → Closure Less p → Closure More p
closure_weaker Less More weaker (implied.known {p = p} k) = implied.known (weaker p k)
closure_weaker Less More weaker (implied.sel_gives_idem k) = implied.sel_gives_idem (closure_weaker Less More weaker k)
closure_weaker Less More weaker (implied.conn_gives_refl k) = implied.conn_gives_refl (closure_weaker Less More weaker k)
closure_weaker Less More weaker (implied.asym_gives_irrefl k) = implied.asym_gives_irrefl (closure_weaker Less More weaker k)
closure_weaker Less More weaker (implied.asym_gives_antisym k) = implied.asym_gives_antisym (closure_weaker Less More weaker k)
closure_weaker Less More weaker (implied.irrefl_and_trans_give_asym k l) =
    implied.irrefl_and_trans_give_asym (closure_weaker Less More weaker k) (closure_weaker Less More weaker l)

-- The function of this number fits.
record FitsAt (Q : Program) (ts : List Ty) (F : FnType) (gs : List Fun) (i : ℕ) : Type 0 where
  g : Fun
  at : slice_get gs i ≡ Some g
  fully : FitsFully Q ts F g

fits_at : (Q : Program) (ts : List Ty) {Fs : List FnType} {gs : List Fun} (i : ℕ) (F : FnType) → FunctionsFit Q ts Fs gs → slice_get Fs i ≡ Some F →
    FitsAt Q ts F gs i
fits_at Q ts i F extending.none at = absurd (nothing_is_some F at)
fits_at Q ts zero F (extending.more {F = G} {f = g} first others) at = record {
  g = g;
  at = refl;
  fully = subst (λ (F : FnType). FitsFully Q ts F g) (one_item G F at) first;
}
fits_at Q ts (suc i) F (extending.more {fs = gs} first others) at =
    let there : FitsAt Q ts F gs i = fits_at Q ts i F others at in
    record { g = there.g; at = there.at; fully = there.fully }

some_holds : {A : Type 0} (o : Option A) (Holds : A → Type 0) (x : A) → o ≡ Some x → IsSomeAnd o Holds → Holds x
some_holds o Holds x e h = let here : IsSomeAnd (Some x) Holds = subst (λ (o : Option _). IsSomeAnd o Holds) e h in here

-- What the function stands for is one of the program, of this type, and has these properties.
record StandsAs (Q : Program) (ts : List Ty) (gs : List Fun) (f : Fun) (params : List Ty) (T : Ty) (props : PropSet) : Type 0 where
  g : Fun
  means : FunMeans ts gs f g
  function : IsFunction Q (functions_alone 0 []) g [] (tys_instance ts params) (ty_instance ts T)
  has : (p : Prop) → HasProp props p → HasInProgram Q g p

module _ (Q : Program) (founded : IsWellFounded Q) (place : Place) (context : Context) (earlier : EarlierHold Q place) (ts : List Ty)
    (long : length ts ≡ context.tparams) (ground : AreTypes Q 0 ts) (gs : List Fun) (fit : FunctionsFit Q ts context.funs gs) where
  -- a property that is declared before the place is had
  declared_before : (n : ℕ) (D : definition.Def) → slice_get Q.defs n ≡ Some D → D.funs ≡ [] → (us : List Ty) → length us ≡ D.tparams → AreTypes Q 0 us →
      (p : Prop) → IsDeclaredBefore Q place n p → HasInProgram Q (record { head = Def n; types = us }) p
  declared_before n D found none us many are p d =
      let fits : Fits Q [] (Def n) p = (founded.typed.properties d.number n p d.stands).fits in
      let obligation : IsObligation Q d.number fits.clause = record { declared = declared.Property n p; number = d.stands; says = of_property fits.says } in
      let holds : HoldsInProgram Q fits.clause = earlier.each d.number fits.clause d.earlier obligation in
      declared_is_had Q founded n D found none p fits.clause fits.says holds us many are

  words_are : tys_instance ts (type.Word ∷ type.Word ∷ []) ≡ type.Word ∷ type.Word ∷ []
  words_are = let word : ty_instance ts type.Word ≡ type.Word = ty_instance-Word ts in λ i. word i ∷ word i ∷ []

  bool_is : (T : Ty) → T ≡ bool_type → ty_instance ts T ≡ bool_type
  bool_is T e = ap (ty_instance ts) e ∙ ty_instance-Con ts 0 []

  stands_as : {f : Fun} {takes : List FnType} {params : List Ty} {T : Ty} → IsFunction Q context f takes params T → takes ≡ [] → (props : PropSet) →
      ((p : Prop) → HasProp props p → IsKnown Q place context f.head p) → StandsAs Q ts gs f params T props
  stands_as (typing.of_definition {n = n} {types = types} {params = params} {T = T} {D = D} found many are takes_is params_is result_is) none props known =
      let signature : HasSignature Q D = (founded.typed.defs n D found).signature in
      let us : List Ty = tys_instance ts types in
      let g : Fun = record { head = Def n; types = us } in
      let over : AreTypes Q (length ts) types = subst (λ (k : ℕ). AreTypes Q k types) (sym long) are in
      let us_ground : AreTypes Q 0 us = instances_are_types Q 0 ts ground over in
      let us_long : length us ≡ D.tparams = length-map types (ty_instance ts) ∙ many in
      let no_funs : D.funs ≡ [] = nothing_mapped (fn_type_instance types) D.funs (sym takes_is ∙ none) in
      let params_over : AreTypes Q (length types) D.params =
      subst (λ (k : ℕ). AreTypes Q k D.params) (sym many) (written_types Q D.tparams D.params signature.params) in
      let result_over : IsType Q (length types) D.result = subst (λ (k : ℕ). IsType Q k D.result) (sym many) signature.result.is_type in
      record {
        g = g;
        means = refl;
        function =
            typing.of_definition {D = D} found us_long us_ground (sym (ap (map (fn_type_instance us)) no_funs))
            (ap (tys_instance ts) params_is ∙ instances_twice Q ts types params_over)
            (ap (ty_instance ts) result_is ∙ instance_twice Q ts types D.result result_over);
        has =
            λ p assumed. implied_is_true Q founded g p
            (closure_weaker (IsDeclaredBefore Q place n) (HasInProgram Q g) (λ q d. declared_before n D found no_funs us us_long us_ground q d)
            (known p assumed));
      }
  stands_as (typing.at_most {T = T} is) none props known = record {
    g = at_most;
    means = refl;
    function = subst₂ (IsFunction Q (functions_alone 0 []) at_most []) (sym words_are) (sym (bool_is T is)) (typing.at_most refl);
    has =
        λ p assumed. implied_is_true Q founded at_most p
        (closure_weaker implied.HasAtMost (HasInProgram Q at_most) (built_ins_have.of_at_most Q founded) (known p assumed));
  }
  stands_as (typing.equal {T = T} is) none props known = record {
    g = equal;
    means = refl;
    function = subst₂ (IsFunction Q (functions_alone 0 []) equal []) (sym words_are) (sym (bool_is T is)) (typing.equal refl);
    has =
        λ p assumed. implied_is_true Q founded equal p
        (closure_weaker implied.HasEqual (HasInProgram Q equal) (built_ins_have.of_equal Q founded) (known p assumed));
  }
  stands_as (typing.of_variable {n = i} {params = params} {T = T} {F = F} found params_is result_is) none props known =
      let there : FitsAt Q ts F gs i = fits_at Q ts i F fit found in
      let Assumed : Prop → Type 0 = λ (p : Prop). IsSomeAnd (slice_get context.funs i) (λ (F : FnType). HasProp F.props p) in
      record {
        g = there.g;
        means = there.at;
        function =
            subst₂ (IsFunction Q (functions_alone 0 []) there.g []) (sym (ap (tys_instance ts) params_is))
            (sym (ap (ty_instance ts) result_is)) there.fully.fits.function;
        has =
            λ p assumed. implied_is_true Q founded there.g p
            (closure_weaker Assumed (HasInProgram Q there.g)
            (λ q said. there.fully.has q (some_holds (slice_get context.funs i) (λ (F : FnType). HasProp F.props q) F found said)) (known p assumed));
      }

  all_fit : {fs : List Fun} {takes : List FnType} → AreArguments Q place context fs takes → PassedFit Q ts gs fs takes
  all_fit typing.none = record { hs = []; mean = tt; fit = extending.none }
  all_fit (typing.more {f = f} {fs = fs} {wanted = wanted} {takes = takes} is are) =
      let first : StandsAs Q ts gs f wanted.params wanted.result wanted.props = stands_as is.function refl wanted.props is.properties in
      let others : PassedFit Q ts gs fs takes = all_fit are in
      record {
        hs = first.g ∷ others.hs;
        mean = (first.means, others.mean);
        fit = extending.more (record { fits = record { function = first.function }; has = first.has }) others.fit;
      }

pub arguments_fit : ArgumentsFit
arguments_fit Q founded place context earlier types long ground funs fit fs takes arguments =
    all_fit Q founded place context earlier types long ground funs fit arguments

-- the properties of an order, of `wle`
order_has : (Q : Program) → IsWellFounded Q → (p : Prop) → HasProp (set_of (Refl ∷ Trans ∷ [])) p → HasInProgram Q at_most p
order_has Q founded Comm has = absurd (true≢false (sym has))
order_has Q founded Assoc has = absurd (true≢false (sym has))
order_has Q founded Idem has = absurd (true≢false (sym has))
order_has Q founded Sel has = absurd (true≢false (sym has))
order_has Q founded Refl has = built_ins_have.of_at_most Q founded Refl implied.refl
order_has Q founded Irrefl has = absurd (true≢false (sym has))
order_has Q founded Sym has = absurd (true≢false (sym has))
order_has Q founded Antisym has = absurd (true≢false (sym has))
order_has Q founded Asym has = absurd (true≢false (sym has))
order_has Q founded Trans has = built_ins_have.of_at_most Q founded Trans implied.trans
order_has Q founded Conn has = absurd (true≢false (sym has))

pub at_most_fits : AtMostFits
at_most_fits Q founded =
    let word : ty_instance [] type.Word ≡ type.Word = ty_instance-Word [] in
    let words : tys_instance [] (type.Word ∷ type.Word ∷ []) ≡ type.Word ∷ type.Word ∷ [] = λ i. word i ∷ word i ∷ [] in
    let is_function : IsFunction Q (functions_alone 0 []) at_most [] (tys_instance [] (type.Word ∷ type.Word ∷ [])) (ty_instance [] bool_type) =
    subst₂ (IsFunction Q (functions_alone 0 []) at_most []) (sym words) (sym (ty_instance-Con [] 0 [])) (typing.at_most refl) in
    extending.more (record { fits = record { function = is_function }; has = order_has Q founded }) extending.none
