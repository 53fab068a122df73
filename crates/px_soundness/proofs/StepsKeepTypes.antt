-- A step keeps the type of a term.
use Rattle.std.proofs.Common.{◌≡◌, ℕ, zero, suc, List, [], ◌∷◌, ◌++◌, map, reverse, length, Bool, true, false}
use Rattle.std.proofs.Common.{nat_le, ◌==◌, Some, slice_get, refl, sym, ap, ◌∙◌, subst}
use Rattle.std.specs.List.{All}
use Rattle.px_terms.specs.Head.{Head}
use Rattle.px_terms.specs.Head.TheVariants.{Def, Wle, Weq, FnVar}
use Rattle.px_terms.specs.declared.types.Ty.{Ty, out-Ty}
use Rattle.px_terms.specs.declared.types.Ty.TheVariants as type
use Rattle.px_terms.specs.declared.types.Ty.TheOpen.{Ty-F}
use Rattle.px_terms.specs.declared.types.FnType.{FnType}
use Rattle.px_terms.specs.declared.types.Fun.{Fun}
use Rattle.px_terms.specs.declared.term.Term.{Term, out-Term}
use Rattle.px_terms.specs.declared.term.Term.TheVariants as term
use Rattle.px_terms.specs.declared.term.Term.TheOpen.{Term-F}
use Rattle.px_terms.specs.declared.clause.Equation.{Equation}
use Rattle.px_terms.specs.declared.program.ConDef.{ConDef}
use Rattle.px_terms.specs.declared.program.DataDef.{DataDef}
use Rattle.px_terms.specs.declared.program.Def as definition
use Rattle.px_terms.specs.declared.program.Program.{Program}
use Rattle.px_terms.specs.declared.sequent.Context.{Context}
use Rattle.px_terms.specs.declared.row.Kind.{Kind}
use Rattle.px_terms.specs.Types.{ty_instance, tys_instance, fn_type_instance}
use Rattle.px_terms.specs.Terms.{term_instance}
use Rattle.px_terms.specs.Programs.{bool_type, bool_data, body_of, constructor_at}
use Rattle.px_terms.specs.Typing.{anywhere, in_body, IsType, AreTypes, IsFunction}
use Rattle.px_terms.specs.Typing.{AreArguments, HasTypeLayer, HaveTypes, HaveTypesInArms, HasType, live}
use Rattle.px_terms.specs.Typing as typing
use Rattle.px_terms.specs.TypedPrograms.{IsTyped, IsTypedDef, IsWrittenFnType, own_context}
use Rattle.px_terms.specs.TypedSequents.{IsTypedEquation}
use Rattle.px_terms.specs.Steps.{with_fields, truth_term, Turns, Step}
use Rattle.px_terms.specs.Steps as steps
use Rattle.px_totality.specs.Laws.{IsContext}
use Rattle.px_totality.proofs.Instances.{nothing_is_some, one_item, written_types, type_at}
use Rattle.px_totality.proofs.TypesOfTerms.{all_at, constructor_of, bool_is_type}
use Rattle.px_soundness.specs.Argument.{StepsKeepTypes}
use Rattle.px_soundness.proofs.TypesOfLists.{IsMapped, is_mapped, mapped_at, of_layer, TermOf, term_of}
use Rattle.px_soundness.proofs.TypesOfParts.{TypedPart, typed_part}
use Rattle.px_soundness.proofs.TypesAreOne.{one_type}
use Rattle.px_soundness.proofs.TypesOfInstances.{PutIn, instance_keeps}
use Rattle.px_soundness.proofs.TypesOfSelected.{with_fields_typed}

-- What a definition takes and gives at these types.
record OfDefinition (Q : Program) (context : Context) (n : ℕ) (types : List Ty) (takes : List FnType) (params : List Ty) (T : Ty) : Type 0 where
  D : definition.Def
  found : slice_get Q.defs n ≡ Some D
  many : length types ≡ D.tparams
  are : AreTypes Q context.tparams types
  takes_is : takes ≡ map (fn_type_instance types) D.funs
  params_is : params ≡ tys_instance types D.params
  result_is : T ≡ ty_instance types D.result

-- what is taken and given, by the head; of a function variable nothing is said
abbrev TakenBy : Program → Context → Head → List Ty → List FnType → List Ty → Ty → Type 0
TakenBy Q context (Def n) types takes params T = OfDefinition Q context n types takes params T
TakenBy Q context Wle types takes params T = T ≡ bool_type
TakenBy Q context Weq types takes params T = T ≡ bool_type
TakenBy Q context (FnVar i) types takes params T = Unit {0}

taken_by : (Q : Program) (context : Context) {f : Fun} {takes : List FnType} {params : List Ty} {T : Ty} → IsFunction Q context f takes params T →
    TakenBy Q context f.head f.types takes params T
taken_by Q context (typing.of_definition {D = D} found many are takes_is params_is result_is) = record {
  D = D;
  found = found;
  many = many;
  are = are;
  takes_is = takes_is;
  params_is = params_is;
  result_is = result_is;
}
taken_by Q context (typing.at_most is) = is
taken_by Q context (typing.equal is) = is
taken_by Q context (typing.of_variable found params_is result_is) = tt

-- What a typed construction rests on.
record ConTyped (Q : Program) (context : Context) (d k : ℕ) (types : List Ty) (fields : List Term) (T : Ty) : Type 0 where
  c : ConDef
  found : constructor_at Q d k ≡ Some c
  is : T ≡ type.Con d types
  have : HaveTypes Q anywhere context [] fields (tys_instance types c.fields)

-- What a typed call rests on.
record CallTyped (Q : Program) (context : Context) (f : Fun) (funs : List Fun) (args : List Term) (T : Ty) : Type 0 where
  takes : List FnType
  params : List Ty
  function : IsFunction Q context f takes params T
  arguments : AreArguments Q anywhere context funs takes
  have : HaveTypes Q anywhere context [] args params

-- What a typed match rests on.
record MatchTyped (Q : Program) (context : Context) (on : Term) (d : ℕ) (types : List Ty) (arms : List Term) (T : Ty) : Type 0 where
  U : Ty
  D : DataDef
  is : HasType Q anywhere context on U
  U_is : U ≡ type.Con d types
  found : slice_get Q.datatypes d ≡ Some D
  have : HaveTypesInArms Q anywhere context [] types D.cons arms T

-- what a typed layer rests on, where a step asks for it
abbrev RestsOn : Program → Context → Term-F Term → Ty → Type 0
RestsOn Q context (Term-F.Free n) T = Unit {0}
RestsOn Q context (Term-F.Bound n) T = Unit {0}
RestsOn Q context (Term-F.Lit w) T = Unit {0}
RestsOn Q context (Term-F.Con d k types fields) T = ConTyped Q context d k types fields T
RestsOn Q context (Term-F.Call f funs args) T = CallTyped Q context f funs args T
RestsOn Q context (Term-F.Match on d types arms) T = MatchTyped Q context on d types arms T

rests_on : (Q : Program) (context : Context) {bound : List Ty} {y : Term-F Term} {T : Ty} → HasTypeLayer Q anywhere context bound y T → bound ≡ [] →
    RestsOn Q context y T
rests_on Q context (typing.free found met) e = tt
rests_on Q context (typing.bound found met) e = tt
rests_on Q context (typing.lit small is) e = tt
rests_on Q context (typing.con {types = types} {fields = fields} {c = c} found is T_is met have) e = record {
  c = c;
  found = found;
  is = T_is;
  have = subst (λ (bound : List Ty). HaveTypes Q anywhere context bound fields (tys_instance types c.fields)) e have;
}
rests_on Q context (typing.call {args = args} {takes = takes} {params = params} function may types_met met arguments have) e = record {
  takes = takes;
  params = params;
  function = function;
  arguments = arguments;
  have = subst (λ (bound : List Ty). HaveTypes Q anywhere context bound args params) e have;
}
rests_on Q context (typing.choose {on = on} {types = types} {arms = arms} {T = T} {U = U} {D = D} is U_is found have) e = record {
  U = U;
  D = D;
  is = subst (λ (bound : List Ty). HasTypeLayer Q anywhere context bound (out-Term on) U) e is;
  U_is = U_is;
  found = found;
  have = subst (λ (bound : List Ty). HaveTypesInArms Q anywhere context bound types D.cons arms T) e have;
}

-- The arm of this number is that of a constructor, and typed under its fields.
record ArmTyped (Q : Program) (context : Context) (types : List Ty) (cs : List ConDef) (k : ℕ) (arm : Term) (T : Ty) : Type 0 where
  c : ConDef
  at : slice_get cs k ≡ Some c
  typed : HasTypeLayer Q anywhere context (reverse (tys_instance types c.fields) ++ []) (out-Term arm) T

arm_typed : (Q : Program) (context : Context) {bound types : List Ty} {cs : List ConDef} {arms : List Term} {T : Ty} →
    HaveTypesInArms Q anywhere context bound types cs arms T → bound ≡ [] → (k : ℕ) (arm : Term) → slice_get arms k ≡ Some arm →
    ArmTyped Q context types cs k arm T
arm_typed Q context typing.no_arm e k arm at = absurd (nothing_is_some arm at)
arm_typed Q context (typing.arm {types = types} {c = c} {body = body} {T = T} met is others) e zero arm at = record {
  c = c;
  at = refl;
  typed =
      subst (λ (t : Term). HasTypeLayer Q anywhere context (reverse (tys_instance types c.fields) ++ []) (out-Term t) T) (one_item body arm at)
      (subst (λ (bound : List Ty). HasTypeLayer Q anywhere context (reverse (tys_instance types c.fields) ++ bound) (out-Term body) T) e is);
}
arm_typed Q context (typing.arm {types = types} {cs = cs} {T = T} met is others) e (suc k) arm at =
    let there : ArmTyped Q context types cs k arm T = arm_typed Q context others e k arm at in
    record { c = there.c; at = there.at; typed = there.typed }

-- the type of a live variable
variable_type : (types : List Ty) (i : ℕ) (T : Ty) → slice_get (live types) i ≡ Some (Some T) → slice_get types i ≡ Some T
variable_type [] i T at = absurd (nothing_is_some (Some T) at)
variable_type (S ∷ types) zero T at = one_item (Some S) (Some T) at
variable_type (S ∷ types) (suc i) T at = variable_type types i T at

module _ (Q : Program) (typed : IsTyped Q) (context : Context) where
  -- the types of a definition's own variables are types
  own_is_context : (n : ℕ) (D : definition.Def) → IsTypedDef Q n D → IsContext Q (own_context D)
  own_is_context n D def = record {
    vars = λ i T at. type_at Q D.tparams D.params i T (written_types Q D.tparams D.params def.signature.params) (variable_type D.params i T at);
    results = λ i F at. (all_at (IsWrittenFnType Q D.tparams) D.funs i F def.signature.funs.types at).result.is_type;
  }

  -- a definition's body with types, functions and arguments put in has the type of the call
  unfolded : (n : ℕ) (types : List Ty) (funs : List Fun) (args : List Term) (body : Term) (T : Ty) →
      CallTyped Q context (record { head = Def n; types = types }) funs args T → body_of Q n ≡ Some body →
      HasType Q anywhere context (term_instance (record { types = types; funs = funs; terms = args }) body) T
  unfolded n types funs args body T call e =
      let taken : OfDefinition Q context n types call.takes call.params T = taken_by Q context call.function in
      let D : definition.Def = taken.D in
      let made : IsMapped (slice_get Q.defs n) (λ (D : definition.Def). D.body) body =
      is_mapped (slice_get Q.defs n) (λ (D : definition.Def). D.body) body e in
      let same : D.body ≡ body = ap (λ (D : definition.Def). D.body) (one_item D made.item (sym taken.found ∙ made.is)) ∙ made.gives in
      let def : IsTypedDef Q n D = typed.defs n D taken.found in
      let fit : AreArguments Q anywhere context funs (map (fn_type_instance types) D.funs) =
      subst (AreArguments Q anywhere context funs) taken.takes_is call.arguments in
      let have : HaveTypes Q anywhere context [] args (tys_instance types D.params) =
      subst (HaveTypes Q anywhere context [] args) taken.params_is call.have in
      let put_in : (i : ℕ) (S : Ty) → slice_get (live D.params) i ≡ Some (Some S) → PutIn Q context args i (ty_instance types S) =
      λ i S at.
      let there : TermOf Q anywhere context [] args i (ty_instance types S) =
      term_of Q anywhere context have i (ty_instance types S) (mapped_at (ty_instance types) D.params i S (variable_type D.params i S at)) in
      record { t = there.t; at = there.at; is = there.typed } in
      let kept = instance_keeps Q typed (in_body n) (own_context D) context (own_is_context n D def) types taken.many taken.are funs fit args put_in
      D.body D.result def.body in
      subst (λ (t : Term). HasType Q anywhere context (term_instance (record { types = types; funs = funs; terms = args }) t) T) same
      (subst (HasType Q anywhere context (term_instance (record { types = types; funs = funs; terms = args }) D.body)) (sym taken.result_is) kept)

  -- the arm of a match on a constructor, with its fields put in, has the type of the match
  selected : (on arm : Term) (d e k : ℕ) (types us : List Ty) (arms fields : List Term) (T : Ty) → MatchTyped Q context on d types arms T →
      out-Term on ≡ Term-F.Con e k us fields → slice_get arms k ≡ Some arm → HasType Q anywhere context (with_fields Q fields arm) T
  selected on arm d e k types us arms fields T match on_is at =
      let con : ConTyped Q context e k us fields match.U =
      subst (λ (y : Term-F Term). RestsOn Q context y match.U) on_is (rests_on Q context match.is refl) in
      let one : Ty-F.Con d types ≡ Ty-F.Con e us =
      sym (type.outs-Con d types) ∙ ap out-Ty (sym match.U_is ∙ con.is) ∙ type.outs-Con e us in
      let same_data : d ≡ e = cc in
      let same_types : types ≡ us = cc in
      let there : ArmTyped Q context types match.D.cons k arm T = arm_typed Q context match.have refl k arm at in
      let stands : constructor_at Q e k ≡ Some there.c =
      ap (λ (d : ℕ). constructor_at Q d k) (sym same_data) ∙ constructor_of Q d k match.D match.found ∙ there.at in
      let same : con.c ≡ there.c = one_item con.c there.c (sym con.found ∙ stands) in
      let wanted : tys_instance us con.c.fields ≡ tys_instance types there.c.fields =
      ap (λ (us : List Ty). tys_instance us con.c.fields) (sym same_types) ∙ ap (λ (c : ConDef). tys_instance types c.fields) same in
      let have : HaveTypes Q anywhere context [] fields (tys_instance types there.c.fields) =
      subst (HaveTypes Q anywhere context [] fields) wanted con.have in
      with_fields_typed Q context fields (tys_instance types there.c.fields) have arm T there.typed

  -- a truth value is one of `Bool`
  truth_typed : (b : Bool) → HasType Q anywhere context (truth_term b) bool_type
  truth_typed false =
      of_layer Q anywhere context (term.Con 0 0 [] []) (term.outs-Con 0 0 [] [])
      (typing.con {c = record { fields = [] }} (constructor_of Q 0 0 bool_data typed.bool) (bool_is_type Q typed context.tparams) refl tt typing.none)
  truth_typed true =
      of_layer Q anywhere context (term.Con 0 1 [] []) (term.outs-Con 0 1 [] [])
      (typing.con {c = record { fields = [] }} (constructor_of Q 0 1 bool_data typed.bool) (bool_is_type Q typed context.tparams) refl tt typing.none)

  -- what becomes of a call with a truth value as result
  compared : (b : Bool) (t : Term) (T : Ty) → T ≡ bool_type → t ≡ truth_term b → HasType Q anywhere context t T
  compared b t T T_is t_is =
      subst (λ (t : Term). HasType Q anywhere context t T) (sym t_is) (subst (HasType Q anywhere context (truth_term b)) (sym T_is) (truth_typed b))

  -- what a typed part rests on
  part_rests : (part : Term) {y : Term-F Term} {T : Ty} → HasType Q anywhere context part T → out-Term part ≡ y → RestsOn Q context y T
  part_rests part {y = y} {T = T} is e = subst (λ (y : Term-F Term). RestsOn Q context y T) e (rests_on Q context is refl)

  -- one side of a fact may stand for the other
  rewritten : (from to part t : Term) (S T : Ty) → HasType Q anywhere context from S → HasType Q anywhere context to S → part ≡ from → t ≡ to →
      HasType Q anywhere context part T → HasType Q anywhere context t T
  rewritten from to part t S T from_typed to_typed part_is t_is is =
      let here : HasType Q anywhere context from T = subst (λ (t : Term). HasType Q anywhere context t T) part_is is in
      let same : S ≡ T = one_type Q typed anywhere context from_typed here in
      subst (λ (t : Term). HasType Q anywhere context t T) (sym t_is) (subst (HasType Q anywhere context to) same to_typed)

  module _ (facts : List Equation) (typed_facts : All (IsTypedEquation Q context) facts) where
    -- what a part becomes has its type
    turned : {kind : Kind} {part t : Term} (T : Ty) → Turns Q facts kind part t → HasType Q anywhere context part T → HasType Q anywhere context t T
    turned T (steps.unfolds {part = part} {body = body} {n = n} {types = types} {funs = funs} {args = args} part_is found t_is) is =
        subst (λ (t : Term). HasType Q anywhere context t T) (sym t_is) (unfolded n types funs args body T (part_rests part is part_is) found)
    turned T (steps.selects {part = part} {on = on} {arm = arm} {d = d} {e = e} {k = k} {types = types} {us = us} {arms = arms} {fields = fields}
        part_is on_is at t_is) is =
        subst (λ (t : Term). HasType Q anywhere context t T) (sym t_is)
        (selected on arm d e k types us arms fields T (part_rests part is part_is) on_is at)
    turned T (steps.compares_order {part = part} {t = t} {a = a} {b = b} {types = types} {funs = funs} {x = x} {y = y} part_is a_is b_is t_is) is =
        let call : CallTyped Q context (record { head = Wle; types = types }) funs (a ∷ b ∷ []) T = part_rests part is part_is in
        compared (nat_le x y) t T (taken_by Q context call.function) t_is
    turned T (steps.compares_equality {part = part} {t = t} {a = a} {b = b} {types = types} {funs = funs} {x = x} {y = y} part_is a_is b_is t_is) is =
        let call : CallTyped Q context (record { head = Weq; types = types }) funs (a ∷ b ∷ []) T = part_rests part is part_is in
        compared (x == y) t T (taken_by Q context call.function) t_is
    turned T (steps.rewrites {part = part} {t = t} {n = n} {e = e} at part_is t_is) is =
        let fact : IsTypedEquation Q context e = all_at (IsTypedEquation Q context) facts n e typed_facts at in
        rewritten e.left e.right part t fact.T T fact.left fact.right part_is t_is is
    turned T (steps.rewrites_back {part = part} {t = t} {n = n} {e = e} at part_is t_is) is =
        let fact : IsTypedEquation Q context e = all_at (IsTypedEquation Q context) facts n e typed_facts at in
        rewritten e.right e.left part t fact.T T fact.right fact.left part_is t_is is

pub steps_keep_types : StepsKeepTypes
steps_keep_types Q founded context is_context facts typed_facts s t T path kind is step =
    let there : TypedPart Q anywhere context [] s path step.part T = typed_part Q anywhere context path s step.part T is step.at in
    there.whole step.becomes t (turned Q founded.typed context facts typed_facts there.U step.turns there.typed) step.whole
