-- A step keeps the value of a term: each turn keeps the value of the part, and so of the whole.
use Rattle.std.proofs.Common.{◌≡◌, ℕ, zero, suc, List, [], ◌∷◌, ◌++◌, Bool, true, false, nat_le, ◌==◌, Option, Some, None, reverse, length, slice_get}
use Rattle.std.proofs.Common.{option_map}
use Rattle.std.proofs.Common.{option_and_then, refl, sym, ap, ◌∙◌, subst}
use Rattle.std.proofs.lemmas.Option.{none-some, same_Some}
use Rattle.px_terms.specs.declared.types.Ty.{Ty}
use Rattle.px_terms.specs.declared.types.Ty.TheVariants as type
use Rattle.px_terms.specs.declared.types.FnType.{FnType}
use Rattle.px_terms.specs.declared.types.Fun.{Fun}
use Rattle.px_terms.specs.Head.{Head}
use Rattle.px_terms.specs.Head.TheVariants.{Def, Wle, Weq, FnVar}
use Rattle.px_terms.specs.declared.term.Term.{Term, out-Term}
use Rattle.px_terms.specs.declared.term.Term.TheVariants.{outs-Con}
use Rattle.px_terms.specs.declared.term.Term.TheOpen.{Term-F}
use Rattle.px_terms.specs.declared.term.Value.{Value, out-Value}
use Rattle.px_terms.specs.declared.term.Value.TheVariants as value
use Rattle.px_terms.specs.declared.term.Value.TheOpen.{Value-F}
use Rattle.px_terms.specs.declared.clause.Equation.{Equation}
use Rattle.px_terms.specs.declared.clause.Sigma.{Sigma}
use Rattle.px_terms.specs.declared.program.ConDef.{ConDef}
use Rattle.px_terms.specs.declared.program.DataDef.{DataDef}
use Rattle.px_terms.specs.declared.program.Def as definition
use Rattle.px_terms.specs.declared.program.Program.{Program}
use Rattle.px_terms.specs.declared.sequent.Context.{Context}
use Rattle.px_terms.specs.declared.row.Kind.{Kind}
use Rattle.px_terms.specs.Types.{ty_instance, tys_instance}
use Rattle.px_terms.specs.TreeEquations.{ty_instance-Con}
use Rattle.px_terms.specs.Terms.{children_of, children, subterm, term_instance}
use Rattle.px_terms.specs.Programs.{body_of}
use Rattle.px_terms.specs.Steps.{with_fields, truth_term, Turns, unfolds, selects, compares_order, compares_equality, rewrites, rewrites_back}
use Rattle.px_terms.specs.Values.{IsIn}
use Rattle.px_terms.specs.Meaning.{truth, FunMeans, chosen, bind, MeansOf, MeanAll, Means, Gives, con, none, at_most, equal}
use Rattle.px_terms.specs.Typing.{Place, anywhere, in_body, IsType, AreTypes, IsFunction, HasTypeLayer, HaveTypes, HaveTypesInArms, HasType}
use Rattle.px_terms.specs.Typing as typing
use Rattle.px_terms.specs.TypedPrograms.{IsTypedDef, own_context}
use Rattle.px_terms.specs.TypedSequents.{IsTypedContext}
use Rattle.px_terms.specs.Holding.{IsTrueAt, AreTrueAt}
use Rattle.px_terms.specs.Extending.{IsWellFounded, FitTypes, FitValues, FunctionsFit}
use Rattle.px_terms.specs.Extending as fitting
use Rattle.px_totality.specs.Laws.{ExactlyOne, IsContext}
use Rattle.px_totality.proofs.Instances.{nothing_is_some, one_item}
use Rattle.px_totality.proofs.TypesOfTerms.{type_of}
use Rattle.px_totality.proofs.Total.{AreTotal}
use Rattle.px_totality.proofs.EachIsTotal.{fitting_are_total}
use Rattle.px_totality.proofs.EachHasValue.{each_term}
use Rattle.px_totality.proofs.Valued.{IsBuilt, built, IsVariable, FitVariables}
use Rattle.px_totality.proofs.Unique.{unique, unique_gift, rests_on, all_rest_on, gift_rests_on, OfCon, OfMatch, OfCall, OfMore, OfDefined}
use Rattle.px_soundness.specs.Validity.{IsAssignment}
use Rattle.px_soundness.specs.Argument.{StepsKeepValues}
use Rattle.px_soundness.proofs.Forward.{HasMeaning, layer_means, same_term}
use Rattle.px_soundness.proofs.ValuesKeeping.{replaced_keeps}
use Rattle.px_soundness.proofs.ValuesPutIn.{instance_keeps}
use Rattle.px_soundness.proofs.ValuesSelected.{chosen_of, arm_keeps}

-- values that fit the variables stand for them
fit_variables : (Q : Program) (types : List Ty) {vars : List (Option Ty)} {rho : List Value} → FitValues Q types vars rho → FitVariables Q types vars rho
fit_variables Q types fitting.none i T at = absurd (nothing_is_some (Some T) at)
fit_variables Q types (fitting.live {T = S} {v = v} first others) zero T at =
    let same : S ≡ T = one_item S T (one_item (Some S) (Some T) at) in
    record { v = v; at = refl; is_in = subst (λ (T : Ty). IsIn Q (ty_instance types T) v) same first }
fit_variables Q types (fitting.live {rho = rho} first others) (suc i) T at = later (fit_variables Q types others i T at)
  where
    later : {v : Value} → IsVariable Q types rho i T → IsVariable Q types (v ∷ rho) (suc i) T
    later there = record { v = there.v; at = there.at; is_in = there.is_in }
fit_variables Q types (fitting.gone others) zero T at = absurd (nothing_is_some T (one_item _ _ at))
fit_variables Q types (fitting.gone {rho = rho} others) (suc i) T at =
    let there : IsVariable Q types rho i T = fit_variables Q types others i T at in record { v = there.v; at = there.at; is_in = there.is_in }

-- functions that fit have the types
fit_types : (Q : Program) (types : List Ty) {Fs : List FnType} {fs : List Fun} → FunctionsFit Q types Fs fs → FitTypes Q types Fs fs
fit_types Q types fitting.none = fitting.none
fit_types Q types (fitting.more first others) = fitting.more first.fits (fit_types Q types others)

-- The term has some type.
record IsTypedTerm (Q : Program) (context : Context) (t : Term) : Type 0 where
  T : Ty
  has : HasType Q anywhere context t T

typed_at : (Q : Program) (context : Context) {ts : List Term} {Ts : List Ty} → HaveTypes Q anywhere context [] ts Ts → (n : ℕ) (t : Term) →
    slice_get ts n ≡ Some t → IsTypedTerm Q context t
typed_at Q context typing.none n t at = absurd (none-some t at)
typed_at Q context (typing.more {t = s} {T = T} has have) zero t at =
    record { T = T; has = subst (λ (t : Term). HasType Q anywhere context t T) (same_Some s t at) has }
typed_at Q context (typing.more has have) (suc n) t at = typed_at Q context have n t at

child_typed : (Q : Program) (context : Context) {bound : List Ty} {y : Term-F Term} {T : Ty} → HasTypeLayer Q anywhere context bound y T → bound ≡ [] →
    (n : ℕ) (t : Term) → slice_get (children_of y) n ≡ Some t → IsTypedTerm Q context t
child_typed Q context (typing.free is met) e n t at = absurd (none-some t at)
child_typed Q context (typing.bound is met) e n t at = absurd (none-some t at)
child_typed Q context (typing.lit small is) e n t at = absurd (none-some t at)
child_typed Q context (typing.con {types = types} {fields = fields} {c = c} found is T_is met have) e n t at =
    typed_at Q context (subst (λ (bound : List Ty). HaveTypes Q anywhere context bound fields (tys_instance types c.fields)) e have) n t at
child_typed Q context (typing.call {args = args} {params = params} function may small met passed have) e n t at =
    typed_at Q context (subst (λ (bound : List Ty). HaveTypes Q anywhere context bound args params) e have) n t at
child_typed Q context (typing.choose {on = on} {U = U} scrutinee is found arms) e zero t at =
    let has : HasType Q anywhere context on U = subst (λ (bound : List Ty). HasTypeLayer Q anywhere context bound (out-Term on) U) e scrutinee in
    record { T = U; has = subst (λ (t : Term). HasType Q anywhere context t U) (same_Some on t at) has }
child_typed Q context (typing.choose scrutinee is found arms) e (suc n) t at = absurd (none-some t at)

-- what is found along a path is typed, where that of each child is
along_typed : (Q : Program) (context : Context) (s : Term) (n : ℕ) (path : List ℕ) (part : Term) → IsTypedTerm Q context s →
    ((child : Term) → IsTypedTerm Q context child → subterm child path ≡ Some part → IsTypedTerm Q context part) → (o : Option Term) →
    slice_get (children s) n ≡ o → option_and_then (λ child. subterm child path) o ≡ Some part → IsTypedTerm Q context part
along_typed Q context s n path part typed deeper None is at = absurd (none-some part at)
along_typed Q context s n path part typed deeper (Some child) is at = deeper child (child_typed Q context typed.has refl n child is) at

-- each part of a typed term is typed
part_typed : (Q : Program) (context : Context) (s : Term) (path : List ℕ) (part : Term) → IsTypedTerm Q context s → subterm s path ≡ Some part →
    IsTypedTerm Q context part
part_typed Q context s [] part typed at = subst (IsTypedTerm Q context) (same_Some s part at) typed
part_typed Q context s (n ∷ path) part typed at =
    along_typed Q context s n path part typed (λ child child_is found. part_typed Q context child path part child_is found) (slice_get (children s) n) refl at

-- The definition of this number takes so many types.
record IsDefined (Q : Program) (n : ℕ) (types : List Ty) : Type 0 where
  D : definition.Def
  found : slice_get Q.defs n ≡ Some D
  long : length types ≡ D.tparams

-- where a call is one of a definition, it is there
abbrev Defined : Program → Head → List Ty → Type 0
Defined Q (Def n) types = IsDefined Q n types
Defined Q Wle types = Unit {0}
Defined Q Weq types = Unit {0}
Defined Q (FnVar i) types = Unit {0}

defined_by : (Q : Program) (context : Context) {f : Fun} {takes : List FnType} {params : List Ty} {T : Ty} → IsFunction Q context f takes params T →
    Defined Q f.head f.types
defined_by Q context (typing.of_definition {D = D} found long are takes_are params_are result_is) = record { D = D; found = found; long = long }
defined_by Q context (typing.at_most is) = tt
defined_by Q context (typing.equal is) = tt
defined_by Q context (typing.of_variable found params_are result_is) = tt

-- What the typing of a match rests on.
record OfTypedMatch (Q : Program) (context : Context) (bound : List Ty) (on : Term) (d : ℕ) (types : List Ty) (arms : List Term) (T : Ty) : Type 0 where
  U : Ty
  D : DataDef
  scrutinee : HasTypeLayer Q anywhere context bound (out-Term on) U
  is : U ≡ type.Con d types
  found : slice_get Q.datatypes d ≡ Some D
  arms_typed : HaveTypesInArms Q anywhere context bound types D.cons arms T

-- what typing rests on, at a call and at a match
abbrev TypedBy : Program → Context → List Ty → Term-F Term → Ty → Type 0
TypedBy Q context bound (Term-F.Free n) T = Unit {0}
TypedBy Q context bound (Term-F.Bound n) T = Unit {0}
TypedBy Q context bound (Term-F.Lit w) T = Unit {0}
TypedBy Q context bound (Term-F.Con d k types fields) T = Unit {0}
TypedBy Q context bound (Term-F.Call f funs args) T = Defined Q f.head f.types
TypedBy Q context bound (Term-F.Match on d types arms) T = OfTypedMatch Q context bound on d types arms T

typed_by : (Q : Program) (context : Context) {bound : List Ty} {y : Term-F Term} {T : Ty} → HasTypeLayer Q anywhere context bound y T →
    TypedBy Q context bound y T
typed_by Q context (typing.free is met) = tt
typed_by Q context (typing.bound is met) = tt
typed_by Q context (typing.lit small is) = tt
typed_by Q context (typing.con found is T_is met have) = tt
typed_by Q context (typing.call function may small met passed have) = defined_by Q context function
typed_by Q context (typing.choose {U = U} {D = D} scrutinee is found arms) = record {
  U = U;
  D = D;
  scrutinee = scrutinee;
  is = is;
  found = found;
  arms_typed = arms;
}

-- the arm of a constructor has the match's type where the fields are bound
arm_typed : (Q : Program) (context : Context) {bound types : List Ty} {cs : List ConDef} {arms : List Term} {T : Ty} →
    HaveTypesInArms Q anywhere context bound types cs arms T → (i : ℕ) (c : ConDef) (arm : Term) → slice_get cs i ≡ Some c → slice_get arms i ≡ Some arm →
    HasTypeLayer Q anywhere context (reverse (tys_instance types c.fields) ++ bound) (out-Term arm) T
arm_typed Q context typing.no_arm i c arm at there = absurd (none-some c at)
arm_typed Q context (typing.arm {bound = bound} {types = types} {c = b} {body = body} {T = T} met has have) zero c arm at there =
    subst (λ (arm : Term). HasTypeLayer Q anywhere context (reverse (tys_instance types c.fields) ++ bound) (out-Term arm) T) (same_Some body arm there)
    (subst (λ (c : ConDef). HasTypeLayer Q anywhere context (reverse (tys_instance types c.fields) ++ bound) (out-Term body) T) (same_Some b c at) has)
arm_typed Q context (typing.arm met has have) (suc i) c arm at there = arm_typed Q context have i c arm at there

-- each of true equations is true
true_at : (Q : Program) (types : List Ty) (funs : List Fun) (rho : List Value) (facts : List Equation) (n : ℕ) (e : Equation) →
    AreTrueAt Q types funs rho facts → slice_get facts n ≡ Some e → IsTrueAt Q types funs rho e
true_at Q types funs rho [] n e are at = absurd (none-some e at)
true_at Q types funs rho (f ∷ facts) zero e are at = subst (IsTrueAt Q types funs rho) (same_Some f e at) are.0
true_at Q types funs rho (f ∷ facts) (suc n) e are at = true_at Q types funs rho facts n e are.1 at

pair_of : (all others rest : List Value) (v w : Value) → all ≡ v ∷ others → others ≡ w ∷ rest → rest ≡ [] → all ≡ v ∷ w ∷ []
pair_of all others rest v w one two empty = one ∙ ap (λ (vs : List Value). v ∷ vs) (two ∙ ap (λ (vs : List Value). w ∷ vs) empty)

slice_at : (ts : List Term) (i j : ℕ) (t : Term) → i ≡ j → slice_get ts i ≡ Some t → slice_get ts j ≡ Some t
slice_at ts i j t same at = ap (slice_get ts) (sym same) ∙ at

con_values : (e k d j : ℕ) (vs ws : List Value) (y : Value-F Value) → y ≡ Value-F.Con e k vs → y ≡ Value-F.Con d j ws → (k ≡ j) × (vs ≡ ws)
con_values e k d j vs ws y one two =
    let h : Value-F.Con e k vs ≡ Value-F.Con d j ws = sym one ∙ two in
    (cc, cc)

module _ (Q : Program) (founded : IsWellFounded Q) (context : Context) (is : IsTypedContext Q context) (types : List Ty) (funs : List Fun)
    (rho : List Value) (assigned : IsAssignment Q context types funs rho) where
  is_context : IsContext Q context
  is_context = record { vars = is.vars; results = is.results }

  totals : AreTotal Q types context.funs funs
  totals = fitting_are_total Q founded.typed founded.descends types context.funs funs (fit_types Q types assigned.functions)

  one_value : (t : Term) (T : Ty) → HasType Q anywhere context t T → ExactlyOne Q (ty_instance types T) (Means Q types funs rho t)
  one_value t T has =
      each_term Q founded anywhere context is_context t T has types assigned.count assigned.ground funs (fit_types Q types assigned.functions) rho
      assigned.values

  -- a call of a definition has the value of its body's instance
  unfolded : (part body : Term) (U : Ty) (n : ℕ) (ts : List Ty) (fs : List Fun) (args : List Term) → HasType Q anywhere context part U →
      out-Term part ≡ Term-F.Call (record { head = Def n; types = ts }) fs args → body_of Q n ≡ Some body → (v : Value) (c : ℕ) →
      Means Q types funs rho part v c → HasMeaning Q types funs rho [] (term_instance (record { types = ts; funs = fs; terms = args }) body) v
  unfolded part body U n ts fs args has call_is body_is v c means =
      let f : Fun = record { head = Def n; types = ts } in
      let g : Fun = record { head = Def n; types = tys_instance types ts } in
      let sigma : Sigma = record { types = ts; funs = fs; terms = args } in
      let called : IsDefined Q n ts = typed_by Q context (subst (λ (y : Term-F Term). HasTypeLayer Q anywhere context [] y U) call_is has) in
      let D : definition.Def = called.D in
      let def : IsTypedDef Q n D = founded.typed.defs n D called.found in
      let on : OfCall Q types funs rho [] f fs args v c =
      rests_on Q types funs rho [] (Term-F.Call f fs args) v c (subst (λ (y : Term-F Term). MeansOf Q types funs rho [] y v c) call_is means) in
      let gives : Gives Q g on.gs on.vs v on.b = subst (λ (g : Fun). Gives Q g on.gs on.vs v on.b) (sym (same_Some g on.g on.fun_means)) on.gives in
      let inside : OfDefined Q n (tys_instance types ts) on.gs on.vs v on.b = gift_rests_on Q g on.gs on.vs v on.b gives in
      let own : body_of Q n ≡ Some D.body = ap (option_map (λ (d : definition.Def). d.body)) called.found in
      let one : inside.body ≡ D.body = same_Some inside.body D.body (sym inside.found ∙ own) in
      let other : D.body ≡ body = same_Some D.body body (sym own ∙ body_is) in
      let body_means : MeansOf Q (tys_instance types ts) on.gs on.vs [] (out-Term D.body) v inside.b =
      subst (λ (t : Term). MeansOf Q (tys_instance types ts) on.gs on.vs [] (out-Term t) v inside.b) one inside.means in
      same_term Q types funs rho [] (term_instance sigma D.body) (term_instance sigma body) v (ap (term_instance sigma) other)
      (instance_keeps Q (in_body n) (own_context D) types funs rho sigma called.long on.gs on.funs_mean on.vs on.a on.all D.body D.result def.body v
      inside.b body_means)

  -- the chosen arm's meaning is that of the constructor's arm
  chosen_means : (arms : List Term) (chosen_arm arm : Term) (vs fields : List Value) (y : Value-F Value) (d k : ℕ) (v : Value) (c : ℕ) →
      chosen arms y ≡ Some (chosen_arm, vs) → y ≡ Value-F.Con d k fields → slice_get arms k ≡ Some arm →
      MeansOf Q types funs rho (bind vs []) (out-Term chosen_arm) v c → MeansOf Q types funs rho (bind fields []) (out-Term arm) v c
  chosen_means arms chosen_arm arm vs fields y d k v c chooses y_is arm_is means =
      let here : chosen arms y ≡ Some (arm, fields) = ap (chosen arms) y_is ∙ ap (option_map (λ (t : Term). (t, fields))) arm_is in
      let pair : (chosen_arm, vs) ≡ (arm, fields) = same_Some (chosen_arm, vs) (arm, fields) (sym chooses ∙ here) in
      let arm_same : chosen_arm ≡ arm = ap (λ (p : Term × List Value). p.0) pair in
      let vs_same : vs ≡ fields = ap (λ (p : Term × List Value). p.1) pair in
      subst (λ (vs : List Value). MeansOf Q types funs rho (bind vs []) (out-Term arm) v c) vs_same
      (subst (λ (t : Term). MeansOf Q types funs rho (bind vs []) (out-Term t) v c) arm_same means)

  -- the arm that a match chooses has the match's value with the fields put in, where these have the values of the constructor's fields
  arm_selected : (on arm : Term) (U : Ty) (d : ℕ) (ts : List Ty) (arms fields : List Term) (v : Value) (c : ℕ) →
      (typed : OfTypedMatch Q context [] on d ts arms U) (it : OfMatch Q types funs rho [] on arms v c) (b : IsBuilt Q it.u d (tys_instance types ts)) →
      MeanAll Q types funs rho [] fields b.fields it.a → slice_get arms b.k ≡ Some arm → HasMeaning Q types funs rho [] (with_fields Q fields arm) v
  arm_selected on arm U d ts arms fields v c typed it b fields_mean arm_is =
      let fit : FitVariables Q types context.vars rho = fit_variables Q types assigned.values in
      let U_type : IsType Q context.tparams typed.U = type_of Q founded.typed anywhere context is_context typed.scrutinee typing.none in
      let there =
      chosen_of Q founded anywhere context is_context types assigned.count assigned.ground funs totals rho fit fields b.fields it.a fields_mean d ts typed.U
      typed.D it.u b U_type typed.is typed.found in
      let arm_has : HasTypeLayer Q anywhere context (reverse (tys_instance ts there.c.fields) ++ []) (out-Term arm) U =
      arm_typed Q context typed.arms_typed b.k there.c arm there.at arm_is in
      let arm_means : MeansOf Q types funs rho (bind b.fields []) (out-Term arm) v it.b =
      chosen_means arms it.arm arm it.vs b.fields (out-Value it.u) d b.k v it.b it.chooses b.is arm_is it.arm_means in
      arm_keeps Q founded anywhere context is_context types assigned.count assigned.ground funs totals rho fit fields b.fields it.a fields_mean ts there.c
      arm U there.are there.field_types there.in_fields arm_has v it.b arm_means

  -- a match on a constructor has the value of that constructor's arm with the fields put in
  selected : (part on arm : Term) (U : Ty) (d e k : ℕ) (ts us : List Ty) (arms fields : List Term) → HasType Q anywhere context part U →
      out-Term part ≡ Term-F.Match on d ts arms → out-Term on ≡ Term-F.Con e k us fields → slice_get arms k ≡ Some arm → (v : Value) (c : ℕ) →
      Means Q types funs rho part v c → HasMeaning Q types funs rho [] (with_fields Q fields arm) v
  selected part on arm U d e k ts us arms fields has match_is on_is arm_is v c means =
      let typed : OfTypedMatch Q context [] on d ts arms U = typed_by Q context
      (subst (λ (y : Term-F Term). HasTypeLayer Q anywhere context [] y U) match_is has) in
      let it : OfMatch Q types funs rho [] on arms v c =
      rests_on Q types funs rho [] (Term-F.Match on d ts arms) v c (subst (λ (y : Term-F Term). MeansOf Q types funs rho [] y v c) match_is means) in
      let of_con : OfCon Q types funs rho [] e k fields it.u it.a =
      rests_on Q types funs rho [] (Term-F.Con e k us fields) it.u it.a
      (subst (λ (y : Term-F Term). MeansOf Q types funs rho [] y it.u it.a) on_is it.on_means) in
      let u_is : out-Value it.u ≡ Value-F.Con e k of_con.vs = ap out-Value of_con.is ∙ value.outs-Con e k of_con.vs in
      let one : ExactlyOne Q (ty_instance types typed.U) (Means Q types funs rho on) = one_value on typed.U typed.scrutinee in
      let in_type : IsIn Q (ty_instance types typed.U) it.u =
      subst (IsIn Q (ty_instance types typed.U)) (sym (one.no_other it.u it.a it.on_means).0) one.in_type in
      let b : IsBuilt Q it.u d (tys_instance types ts) =
      built Q it.u d (tys_instance types ts) (ty_instance types typed.U) (ap (ty_instance types) typed.is ∙ ty_instance-Con types d ts) in_type in
      let same : (k ≡ b.k) × (of_con.vs ≡ b.fields) = con_values e k d b.k of_con.vs b.fields (out-Value it.u) u_is b.is in
      let fields_mean : MeanAll Q types funs rho [] fields b.fields it.a =
      subst (λ (vs : List Value). MeanAll Q types funs rho [] fields vs it.a) same.1 of_con.all in
      arm_selected on arm U d ts arms fields v c typed it b fields_mean (slice_at arms k b.k arm same.0 arm_is)

  -- a truth value's term means it
  truth_means : (b : Bool) → HasMeaning Q types funs rho [] (truth_term b) (truth b)
  truth_means true =
      layer_means Q types funs rho [] (truth_term true) (Term-F.Con 0 1 [] []) (truth true) 0 (outs-Con 0 1 [] []) (con none refl)
  truth_means false =
      layer_means Q types funs rho [] (truth_term false) (Term-F.Con 0 0 [] []) (truth false) 0 (outs-Con 0 0 [] []) (con none refl)

  -- a literal means its word
  word_means : (t : Term) (x : ℕ) (v : Value) (c : ℕ) → out-Term t ≡ Term-F.Lit x → Means Q types funs rho t v c → out-Value v ≡ Value-F.Lit x
  word_means t x v c t_is means =
      let on = rests_on Q types funs rho [] (Term-F.Lit x) v c (subst (λ (y : Term-F Term). MeansOf Q types funs rho [] y v c) t_is means) in
      ap out-Value on.0 ∙ value.outs-Lit x

  -- What a call on two literals rests on.
  record OfTwoWords (f : Fun) (x y : ℕ) (v : Value) : Type 0 where
    left : Value
    right : Value
    g : Fun
    gs : List Fun
    count : ℕ
    fun_means : FunMeans types funs f g
    left_is : out-Value left ≡ Value-F.Lit x
    right_is : out-Value right ≡ Value-F.Lit y
    gives : Gives Q g gs (left ∷ right ∷ []) v count

  two_words : (part a b : Term) (f : Fun) (fs : List Fun) (x y : ℕ) (v : Value) (c : ℕ) → out-Term part ≡ Term-F.Call f fs (a ∷ b ∷ []) →
      out-Term a ≡ Term-F.Lit x → out-Term b ≡ Term-F.Lit y → Means Q types funs rho part v c → OfTwoWords f x y v
  two_words part a b f fs x y v c part_is a_is b_is means =
      let on : OfCall Q types funs rho [] f fs (a ∷ b ∷ []) v c =
      rests_on Q types funs rho [] (Term-F.Call f fs (a ∷ b ∷ [])) v c (subst (λ (y : Term-F Term). MeansOf Q types funs rho [] y v c) part_is means) in
      let first : OfMore Q types funs rho [] a (b ∷ []) on.vs on.a = all_rest_on Q types funs rho [] (a ∷ b ∷ []) on.vs on.a on.all in
      let second : OfMore Q types funs rho [] b [] first.vs first.b = all_rest_on Q types funs rho [] (b ∷ []) first.vs first.b first.mean in
      let third = all_rest_on Q types funs rho [] [] second.vs second.b second.mean in
      let are : on.vs ≡ first.v ∷ second.v ∷ [] =
      pair_of on.vs first.vs second.vs first.v second.v first.is second.is third.0 in
      record {
        left = first.v;
        right = second.v;
        g = on.g;
        gs = on.gs;
        count = on.b;
        fun_means = on.fun_means;
        left_is = word_means a x first.v first.a a_is first.means;
        right_is = word_means b y second.v second.a b_is second.means;
        gives = subst (λ (vs : List Value). Gives Q on.g on.gs vs v on.b) are on.gives;
      }

  ordered : (x y : ℕ) (ts : List Ty) (v : Value) → OfTwoWords (record { head = Wle; types = ts }) x y v →
      HasMeaning Q types funs rho [] (truth_term (nat_le x y)) v
  ordered x y ts v two =
      let g : Fun = record { head = Wle; types = tys_instance types ts } in
      let gives : Gives Q g two.gs (two.left ∷ two.right ∷ []) v two.count =
      subst (λ (g : Fun). Gives Q g two.gs (two.left ∷ two.right ∷ []) v two.count) (sym (same_Some g two.g two.fun_means)) two.gives in
      let same : truth (nat_le x y) ≡ v =
      (unique_gift Q g two.gs (two.left ∷ two.right ∷ []) (truth (nat_le x y)) v 0 two.count (at_most two.left_is two.right_is refl) gives).0 in
      subst (HasMeaning Q types funs rho [] (truth_term (nat_le x y))) same (truth_means (nat_le x y))

  equated : (x y : ℕ) (ts : List Ty) (v : Value) → OfTwoWords (record { head = Weq; types = ts }) x y v →
      HasMeaning Q types funs rho [] (truth_term (x == y)) v
  equated x y ts v two =
      let g : Fun = record { head = Weq; types = tys_instance types ts } in
      let gives : Gives Q g two.gs (two.left ∷ two.right ∷ []) v two.count =
      subst (λ (g : Fun). Gives Q g two.gs (two.left ∷ two.right ∷ []) v two.count) (sym (same_Some g two.g two.fun_means)) two.gives in
      let same : truth (x == y) ≡ v =
      (unique_gift Q g two.gs (two.left ∷ two.right ∷ []) (truth (x == y)) v 0 two.count (equal two.left_is two.right_is refl) gives).0 in
      subst (HasMeaning Q types funs rho [] (truth_term (x == y))) same (truth_means (x == y))

  -- what one of two terms of one value means, the other means
  other_means : (l r : Term) (w : Value) (a b : ℕ) → Means Q types funs rho l w a → Means Q types funs rho r w b → (v : Value) (c : ℕ) →
      Means Q types funs rho l v c → HasMeaning Q types funs rho [] r v
  other_means l r w a b left right v c means =
      (b, subst (λ (v : Value). Means Q types funs rho r v b) (unique Q types funs rho [] (out-Term l) w v a c left means).0 right)

  same_part : (part l : Term) (v : Value) (c : ℕ) → part ≡ l → Means Q types funs rho part v c → Means Q types funs rho l v c
  same_part part l v c same means = subst (λ (t : Term). Means Q types funs rho t v c) same means

  -- each turn keeps the value of a typed part
  turns_keep : (facts : List Equation) → AreTrueAt Q types funs rho facts → (kind : Kind) (part t : Term) (U : Ty) → Turns Q facts kind part t →
      HasType Q anywhere context part U → (v : Value) (c : ℕ) → Means Q types funs rho part v c → HasMeaning Q types funs rho [] t v
  turns_keep facts are _ part t U (unfolds {body = body} {n = n} {types = ts} {funs = fs} {args = args} part_is body_is t_is) has v c means =
      same_term Q types funs rho [] (term_instance (record { types = ts; funs = fs; terms = args }) body) t v (sym t_is)
      (unfolded part body U n ts fs args has part_is body_is v c means)
  turns_keep facts are _ part t U
      (selects {on = on} {arm = arm} {d = d} {e = e} {k = k} {types = ts} {us = us} {arms = arms} {fields = fields} part_is on_is arm_is t_is) has v c means =
      same_term Q types funs rho [] (with_fields Q fields arm) t v (sym t_is)
      (selected part on arm U d e k ts us arms fields has part_is on_is arm_is v c means)
  turns_keep facts are _ part t U (compares_order {a = a} {b = b} {types = ts} {funs = fs} {x = x} {y = y} part_is a_is b_is t_is) has v c means =
      same_term Q types funs rho [] (truth_term (nat_le x y)) t v (sym t_is)
      (ordered x y ts v (two_words part a b (record { head = Wle; types = ts }) fs x y v c part_is a_is b_is means))
  turns_keep facts are _ part t U (compares_equality {a = a} {b = b} {types = ts} {funs = fs} {x = x} {y = y} part_is a_is b_is t_is) has v c means =
      same_term Q types funs rho [] (truth_term (x == y)) t v (sym t_is)
      (equated x y ts v (two_words part a b (record { head = Weq; types = ts }) fs x y v c part_is a_is b_is means))
  turns_keep facts are _ part t U (rewrites {n = n} {e = e} at part_is t_is) has v c means =
      let true_one : IsTrueAt Q types funs rho e = true_at Q types funs rho facts n e are at in
      same_term Q types funs rho [] e.right t v (sym t_is)
      (other_means e.left e.right true_one.0 true_one.1 true_one.2 true_one.3 true_one.4 v c (same_part part e.left v c part_is means))
  turns_keep facts are _ part t U (rewrites_back {n = n} {e = e} at part_is t_is) has v c means =
      let true_one : IsTrueAt Q types funs rho e = true_at Q types funs rho facts n e are at in
      same_term Q types funs rho [] e.left t v (sym t_is)
      (other_means e.right e.left true_one.0 true_one.2 true_one.1 true_one.4 true_one.3 v c (same_part part e.right v c part_is means))

pub steps_keep_values : StepsKeepValues
steps_keep_values Q founded context is facts typed_facts s t T path kind has step types funs rho assigned are =
    let one : ExactlyOne Q (ty_instance types T) (Means Q types funs rho s) = one_value Q founded context is types funs rho assigned s T has in
    let part : IsTypedTerm Q context step.part = part_typed Q context s path step.part (record { T = T; has = has }) step.at in
    let kept =
    replaced_keeps Q types funs rho [] s path step.part step.becomes t step.at step.whole
    (turns_keep Q founded context is types funs rho assigned facts are kind step.part step.becomes part.T step.turns part.has) one.value one.count one.given
    in
    (one.value, one.count, kept.0, one.given, kept.1)
