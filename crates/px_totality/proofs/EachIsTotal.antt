-- Each definition gives a value: by its number, and for one definition by the sizes of the values at the positions where it descends.
use Rattle.std.proofs.Common.{◌≡◌, inl, inr, ℕ, zero, suc, ◌+◌, ◌<◌, List, [], ◌∷◌, length, Some, slice_get, refl, sym, ap, ◌∙◌, subst}
use Rattle.std.proofs.Common.{subst₂, arith}
use Rattle.std.specs.Option.{option_map}
use Rattle.std.proofs.lemmas.List.{length-map}
use Rattle.px_terms.specs.declared.types.Ty.{Ty}
use Rattle.px_terms.specs.declared.types.FnType.{FnType}
use Rattle.px_terms.specs.declared.types.Fun.{Fun}
use Rattle.px_terms.specs.Head.TheVariants.{Def, Wle, Weq}
use Rattle.px_terms.specs.declared.term.Term.{out-Term}
use Rattle.px_terms.specs.declared.term.Value.{Value}
use Rattle.px_terms.specs.declared.program.Def as definition
use Rattle.px_terms.specs.declared.program.Program.{Program}
use Rattle.px_terms.specs.Types.{ty_instance, tys_instance, fn_type_instance}
use Rattle.px_terms.specs.Values.{IsIn, AreIn}
use Rattle.px_terms.specs.Values as values
use Rattle.px_terms.specs.Meaning.{defined}
use Rattle.px_terms.specs.Typing.{Place, in_body, IsType, AreTypes, IsFunction, MayCall, HasType, live}
use Rattle.px_terms.specs.Typing as typing
use Rattle.px_terms.specs.Clauses.{functions_alone}
use Rattle.px_terms.specs.TypedPrograms.{IsTyped, IsTypedDef, IsWrittenFnType, own_context}
use Rattle.px_terms.specs.Descent.{Standing, Descends, Falls, AllDescend}
use Rattle.px_terms.specs.Extending.{IsWellFounded, FitsType, FitTypes, FitValues}
use Rattle.px_terms.specs.Extending as fitting
use Rattle.px_totality.specs.Laws.{IsContext}
use Rattle.px_totality.proofs.Instances.{nothing_is_some, one_item, written_types, type_at}
use Rattle.px_totality.proofs.Sizes.{AllStand}
use Rattle.px_totality.proofs.TypesOfTerms.{all_at}
use Rattle.px_totality.proofs.Total.{GivesIn, IsTotal, AreTotal, two_words, at_most_gives, equal_gives}
use Rattle.px_totality.proofs.Total as total
use Rattle.px_totality.proofs.Calls.{CallsGive, nothing_mapped}
use Rattle.px_totality.proofs.Falling.{sizes_at, falls}
use Rattle.px_totality.proofs.Valued.{Valued, IsVariable, FitVariables, term_valued}

-- Definition n gives a value of its result's type at all ground types, total functions and values of its parameters' types.
pub record DefinitionGives (Q : Program) (n : ℕ) : Type 0 where
  pub at : (D : definition.Def) → slice_get Q.defs n ≡ Some D → (us : List Ty) → length us ≡ D.tparams → AreTypes Q 0 us → (hs : List Fun) →
      AreTotal Q us D.funs hs → (vs : List Value) → AreIn Q (tys_instance us D.params) vs →
      GivesIn Q (record { head = Def n; types = us }) hs vs (ty_instance us D.result)

live_at : (types : List Ty) (i : ℕ) (T : Ty) → slice_get (live types) i ≡ Some (Some T) → slice_get types i ≡ Some T
live_at [] i T at = absurd (nothing_is_some (Some T) at)
live_at (S ∷ types) zero T at = one_item (Some S) (Some T) at
live_at (S ∷ types) (suc i) T at = live_at types i T at

-- values of types fit variables of them
live_fit : (Q : Program) (us types : List Ty) (vs : List Value) → AreIn Q (tys_instance us types) vs → FitVariables Q us (live types) vs
live_fit Q us [] vs are i T at = absurd (nothing_is_some (Some T) at)
live_fit Q us (S ∷ types) _ (values.more {v = v} first others) zero T at =
    let same : S ≡ T = one_item S T (one_item (Some S) (Some T) at) in
    record { v = v; at = refl; is_in = subst (λ (T : Ty). IsIn Q (ty_instance us T) v) same first }
live_fit Q us (S ∷ types) _ (values.more {values = vs} first others) (suc i) T at =
    let there : IsVariable Q us vs i T = live_fit Q us types vs others i T at in record { v = there.v; at = there.at; is_in = there.is_in }

no_functions : (Q : Program) (us : List Ty) (Fs : List FnType) → Fs ≡ [] → AreTotal Q us Fs []
no_functions Q us Fs none = subst (λ (Fs : List FnType). AreTotal Q us Fs []) (sym none) total.no_function

module _ (Q : Program) (typed : IsTyped Q) where
  own_is_context : (n : ℕ) (D : definition.Def) → IsTypedDef Q n D → IsContext Q (own_context D)
  own_is_context n D def = record {
    vars = λ i T at. type_at Q D.tparams D.params i T (written_types Q D.tparams D.params def.signature.params) (live_at D.params i T at);
    results = λ i F at. (all_at (IsWrittenFnType Q D.tparams) D.funs i F def.signature.funs.types at).result.is_type;
  }

  -- a definition without function parameters that gives values is total
  pub passed_total : (m : ℕ) (D : definition.Def) (us : List Ty) → DefinitionGives Q m → slice_get Q.defs m ≡ Some D → length us ≡ D.tparams →
      AreTypes Q 0 us → D.funs ≡ [] → IsTotal Q (record { head = Def m; types = us }) (tys_instance us D.params) (ty_instance us D.result)
  passed_total m D us gives found long ground none = record { at = λ vs are. gives.at D found us long ground [] (no_functions Q us D.funs none) vs are }

  module _ (n : ℕ) (earlier : (m : ℕ) → m < n → DefinitionGives Q m) (D : definition.Def) (found : slice_get Q.defs n ≡ Some D)
      (descends : Descends Q n D) where
    def : IsTypedDef Q n D
    def = typed.defs n D found

    -- the definition gives a value where the sizes have a sum below this bound
    abbrev GivesBelow : ℕ → Type 0
    GivesBelow bound =
        (us : List Ty) → length us ≡ D.tparams → AreTypes Q 0 us → (hs : List Fun) → AreTotal Q us D.funs hs → (vs : List Value) →
        AreIn Q (tys_instance us D.params) vs → sizes_at vs descends.positions < bound →
        GivesIn Q (record { head = Def n; types = us }) hs vs (ty_instance us D.result)

    self_gives : (bound : ℕ) → GivesBelow bound → (m : ℕ) (E : definition.Def) (us : List Ty) (hs : List Fun) (vs : List Value) → slice_get Q.defs m ≡ Some E →
        m ≡ n → length us ≡ E.tparams → AreTypes Q 0 us → AreTotal Q us E.funs hs → AreIn Q (tys_instance us E.params) vs →
        sizes_at vs descends.positions < bound → GivesIn Q (record { head = Def m; types = us }) hs vs (ty_instance us E.result)
    self_gives bound gives m E us hs vs there same long ground totals are small =
        let one : E ≡ D = one_item E D (sym there ∙ ap (slice_get Q.defs) same ∙ found) in
        let long_here : length us ≡ D.tparams = long ∙ ap (λ (D : definition.Def). D.tparams) one in
        let totals_here : AreTotal Q us D.funs hs = subst (λ (D : definition.Def). AreTotal Q us D.funs hs) one totals in
        let are_here : AreIn Q (tys_instance us D.params) vs = subst (λ (D : definition.Def). AreIn Q (tys_instance us D.params) vs) one are in
        let it : GivesIn Q (record { head = Def n; types = us }) hs vs (ty_instance us D.result) = gives us long_here ground hs totals_here vs are_here small in
        subst₂ (λ (m : ℕ) (D : definition.Def). GivesIn Q (record { head = Def m; types = us }) hs vs (ty_instance us D.result)) (sym same) (sym one) it

    -- what calls in the body give
    body_calls : (bound : ℕ) → GivesBelow bound → (us : List Ty) (vs : List Value) → sizes_at vs descends.positions < suc bound →
        CallsGive Q (in_body n) us vs n (Falls descends.positions)
    body_calls bound gives us vs small = record {
      called = λ m E types hs args ws there may many ground totals stand self are. go m E types hs args ws there may many ground totals stand self are;
      passed =
          λ m E types there may many ground none. passed_total m E (tys_instance us types) (earlier m may) there
          (length-map types (ty_instance us) ∙ many) ground none;
    }
      where
        go : (m : ℕ) (E : definition.Def) (types : List Ty) (hs : List Fun) (args : List Standing) (ws : List Value) → slice_get Q.defs m ≡ Some E →
            MayCall Q (in_body n) (Def m) types → length types ≡ E.tparams → AreTypes Q 0 (tys_instance us types) →
            AreTotal Q (tys_instance us types) E.funs hs → AllStand vs args ws → (m ≡ n → Falls descends.positions args) →
            AreIn Q (tys_instance (tys_instance us types) E.params) ws →
            GivesIn Q (record { head = Def m; types = tys_instance us types }) hs ws (ty_instance (tys_instance us types) E.result)
        go m E types hs args ws there (inl before) many ground totals stand self are =
            (earlier m before).at E there (tys_instance us types) (length-map types (ty_instance us) ∙ many) ground hs totals ws are
        go m E types hs args ws there (inr own) many ground totals stand self are =
            let fall : sizes_at ws descends.positions < sizes_at vs descends.positions = falls vs args ws stand descends.positions (self own.0) in
            self_gives bound gives m E (tys_instance us types) hs ws there own.0 (length-map types (ty_instance us) ∙ many) ground totals are
            (omega (arith, fall, small))

    gives_below : (bound : ℕ) → GivesBelow bound
    gives_below zero us long ground hs totals vs are small = let wrong : ⊥ = omega (arith, small) in absurd wrong
    gives_below (suc bound) us long ground hs totals vs are small =
        let value : Valued Q us hs vs [] (out-Term D.body) D.result _ =
        term_valued Q typed (in_body n) (own_context D) (own_is_context n D def) us long ground hs totals vs (live_fit Q us D.params vs are) n
        (Falls descends.positions) (body_calls bound (gives_below bound) us vs small) D.body D.result def.body descends.falls in
        record {
          value = value.v;
          count = value.count + 1;
          gives = defined (ap (option_map (λ (d : definition.Def). d.body)) found) value.means refl;
          in_type = value.in_type;
        }

  -- by the number of the definition
  numbered_gives : AllDescend Q → (bound n : ℕ) → n < bound → DefinitionGives Q n
  numbered_gives all zero n below = let wrong : ⊥ = omega (arith, below) in absurd wrong
  numbered_gives all (suc bound) n below = record {
    at = λ D found us long ground hs totals vs are.
        gives_below n (λ m before. numbered_gives all bound m (omega (arith, before, below))) D found (all.each n D found)
        (suc (sizes_at vs (all.each n D found).positions)) us long ground hs totals vs are (omega arith);
  }

  pub each_gives : AllDescend Q → (n : ℕ) → DefinitionGives Q n
  each_gives all n = numbered_gives all (suc n) n (omega arith)

  -- a function that takes no functions is total
  pub function_is_total : AllDescend Q → {f : Fun} {takes : List FnType} {params : List Ty} {T : Ty} → IsFunction Q (functions_alone 0 []) f takes params T →
      takes ≡ [] → IsTotal Q f params T
  function_is_total all (typing.of_definition {n = n} {types = types} {D = D} found many are takes_is params_is result_is) none =
      let f : Fun = record { head = Def n; types = types } in
      subst₂ (IsTotal Q f) (sym params_is) (sym result_is)
      (passed_total n D types (each_gives all n) found many are (nothing_mapped (fn_type_instance types) D.funs (sym takes_is ∙ none)))
  function_is_total all (typing.at_most is) none = record {
    at = λ vs are. subst (GivesIn Q (record { head = Wle; types = [] }) [] vs) (sym is) (at_most_gives Q typed [] [] vs (two_words Q _ vs are refl));
  }
  function_is_total all (typing.equal is) none = record {
    at = λ vs are. subst (GivesIn Q (record { head = Weq; types = [] }) [] vs) (sym is) (equal_gives Q typed [] [] vs (two_words Q _ vs are refl));
  }
  function_is_total all (typing.of_variable {F = F} found params_is result_is) none = absurd (nothing_is_some F found)

  -- functions that fit are total, also where they stand later
  pub fitting_are_total : AllDescend Q → (types : List Ty) (Fs : List FnType) (fs : List Fun) → FitTypes Q types Fs fs → AreTotal Q types Fs fs
  fitting_are_total all types _ _ fitting.none = total.no_function
  fitting_are_total all types _ _ (fitting.more {Fs = Fs} {fs = fs} first others) =
      total.function (function_is_total all first.function refl) (fitting_are_total all types Fs fs others)
