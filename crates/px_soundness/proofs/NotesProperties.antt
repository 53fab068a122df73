-- The clause of a property that is known below an obligation is true, at types and functions that fit.
use Rattle.std.proofs.Common.{◌≡◌, ℕ, zero, suc, ◌+◌, List, [], ◌∷◌, ◌++◌, map, replicate, length, Some, slice_get, refl, sym, ap, ◌∙◌, subst, arith}
use Rattle.std.proofs.lemmas.List.{map-append, length-map, nil_from_length}
use Rattle.px_terms.specs.Head.TheVariants.{Def, FnVar}
use Rattle.px_terms.specs.Prop.{Prop}
use Rattle.px_terms.specs.Prop.TheVariants.{Comm, Assoc, Idem, Sel, Refl, Irrefl, Sym, Antisym, Asym, Trans, Conn}
use Rattle.px_terms.specs.declared.types.Ty.{Ty}
use Rattle.px_terms.specs.declared.types.FnType.{FnType}
use Rattle.px_terms.specs.declared.types.Fun.{Fun}
use Rattle.px_terms.specs.declared.clause.Clause.{Clause}
use Rattle.px_terms.specs.declared.program.Def as definition
use Rattle.px_terms.specs.declared.program.Declared.TheVariants as declared
use Rattle.px_terms.specs.declared.program.Program.{Program}
use Rattle.px_terms.specs.declared.row.Ref.TheVariants as reference
use Rattle.px_terms.specs.Types.{numbers_from, ty_instance, tys_instance, own_types, own_functions}
use Rattle.px_terms.specs.Values.{AreIn}
use Rattle.px_terms.specs.Meaning.{FunMeans, FunsMean}
use Rattle.px_terms.specs.Implied.{Closure}
use Rattle.px_terms.specs.Implied as implied
use Rattle.px_terms.specs.Typing.{behind, AreTypes, IsFunction, IsDeclaredBefore, IsKnown}
use Rattle.px_terms.specs.Typing as typing
use Rattle.px_terms.specs.Clauses.{Subject, IsSubject, HasResult, functions_alone, says, clause_for, of_definition}
use Rattle.px_terms.specs.Holding.{AreTrueAt}
use Rattle.px_terms.specs.Obligations.{IsObligation, of_property}
use Rattle.px_terms.specs.Noting.{property}
use Rattle.px_terms.specs.Extending.{IsWellFounded, FunctionsFit, IsTrueOfAll, HasInProgram, HoldsInProgram}
use Rattle.px_totality.proofs.Instances.{instances_are_types}
use Rattle.px_totality.proofs.Applied.{nothing_put_in}
use Rattle.px_totality.proofs.Closed.{means_itself, same_ends, one_type}
use Rattle.px_soundness.specs.Argument.{IsTypedClause, OpenClausesAreTyped}
use Rattle.px_soundness.proofs.NotesFunctions.{LowerHold, StandsFor, stands_for, many_fit}
use Rattle.px_soundness.proofs.NotesReadings.{around}
use Rattle.px_soundness.proofs.NotesMoves.{StandsAs, said_premises, said_alternatives}
use Rattle.px_soundness.proofs.NotesImplied.{sel_gives_idem, conn_gives_refl, asym_gives_irrefl, asym_gives_antisym, irrefl_and_trans_give_asym}

-- function variables from a number on stand for the functions from it on
own_mean_from : (types : List Ty) (funs rest : List Fun) (start : ℕ) → ((i : ℕ) → slice_get funs (start + i) ≡ slice_get rest i) →
    FunsMean types funs (map (λ (i : ℕ). record { head = FnVar i; types = [] }) (numbers_from start (length rest))) rest
own_mean_from types funs [] start same = tt
own_mean_from types funs (f ∷ rest) start same =
    let none : start + 0 ≡ start = omega arith in
    let here : slice_get funs start ≡ Some f = ap (slice_get funs) (sym none) ∙ same 0 in (
      here,
      own_mean_from types funs rest (start + 1)
          (λ i. let one : (start + 1) + i ≡ start + suc i = omega arith in ap (slice_get funs) one ∙ same (suc i)),
    )

-- own function variables stand for the functions
pub own_mean : (types : List Ty) (funs : List Fun) → FunsMean types funs (own_functions (length funs)) funs
own_mean types funs = own_mean_from types funs funs 0 (λ i. let same : 0 + i ≡ i = omega arith in ap (slice_get funs) same)

map_replicated : (f : Ty → Ty) (count : ℕ) (T : Ty) → map f (replicate count T) ≡ replicate count (f T)
map_replicated f zero T = refl
map_replicated f (suc count) T = ap (λ (types : List Ty). f T ∷ types) (map_replicated f count T)

-- how many variables a property names does not depend on the subject
same_named : (s t : Subject) (p : Prop) → (says s p).named ≡ (says t p).named
same_named s t Comm = refl
same_named s t Assoc = refl
same_named s t Idem = refl
same_named s t Sel = refl
same_named s t Refl = refl
same_named s t Irrefl = refl
same_named s t Sym = refl
same_named s t Antisym = refl
same_named s t Asym = refl
same_named s t Trans = refl
same_named s t Conn = refl

-- a function in a context without types is one in a context with some
wider : (Q : Program) (funs : List FnType) (k : ℕ) {f : Fun} {takes : List FnType} {params : List Ty} {T : Ty} →
    IsFunction Q (functions_alone 0 funs) f takes params T → IsFunction Q (functions_alone k funs) f takes params T
wider Q funs k (typing.of_definition {types = types} {D = D} found count are takes_are params_are result_is) =
    let over : AreTypes Q k types = subst (AreTypes Q k) (nothing_put_in types) (instances_are_types Q k [] typing.none are) in
    typing.of_definition {D = D} found count over takes_are params_are result_is
wider Q funs k (typing.at_most is) = typing.at_most is
wider Q funs k (typing.equal is) = typing.equal is
wider Q funs k (typing.of_variable {F = F} found params_are result_is) = typing.of_variable {F = F} found params_are result_is

module _ (typed : OpenClausesAreTyped) (Q : Program) (founded : IsWellFounded Q) (n : ℕ) (own : Clause) (obligation : IsObligation Q n own)
    (lower : LowerHold Q n) where
  module _ (m : ℕ) (D : definition.Def) (found : slice_get Q.defs m ≡ Some D) (s : Subject)
      (subject : IsSubject Q (functions_alone D.tparams D.funs) (record { head = Def m; types = own_types D.tparams }) (own_functions (length D.funs)) s)
      (ts : List Ty) (count : length ts ≡ D.tparams) (ground : AreTypes Q 0 ts) (gs : List Fun) (fit : FunctionsFit Q ts D.funs gs) where
    abbrev C : Prop → Clause
    C p = clause_for s p D.tparams D.funs

    abbrev Known : Prop → Type 0
    Known p = Closure (IsDeclaredBefore Q (behind n) m) p

    abbrev f : Fun
    f = record { head = Def m; types = tys_instance ts (own_types D.tparams) }

    stand : StandsAs ts gs s f gs
    stand =
        let means : FunMeans ts gs (record { head = Def m; types = own_types D.tparams }) f = refl in
        let given : FunsMean ts gs (own_functions (length D.funs)) gs =
        subst (λ (k : ℕ). FunsMean ts gs (own_functions k) gs) (many_fit Q ts fit) (own_mean ts gs) in
        record {
          function = subst (λ (g : Fun). FunMeans ts gs g f) (sym subject.is_function) means;
          given = subst (λ (given : List Fun). FunsMean ts gs given gs) (sym subject.is_given) given;
        }

    -- the clause of what is known is typed
    clause_typed : (p : Prop) → Known p → HasResult s p → IsTypedClause Q (around D.tparams D.funs (C p)) (C p)
    clause_typed p is_known result =
        typed Q founded n own obligation (reference.Property (Def m) p) (C p) (property is_known (of_definition {D = D} found s subject result refl))

    -- a property that is known of a definition is true of it
    pub definition_is_true : {p : Prop} → Known p → HasResult s p → IsTrueOfAll Q ts gs (C p)
    definition_is_true (implied.known {p = p} d) result =
        let is : IsObligation Q d.number (C p) = record {
          declared = declared.Property m p;
          number = d.stands;
          says = of_property (of_definition {D = D} found s subject result refl);
        } in
        let holds : HoldsInProgram Q (C p) = lower d.number (C p) d.earlier is in
        holds.at ts count ground gs fit
    definition_is_true (implied.sel_gives_idem k) result =
        sel_gives_idem Q founded ts ground gs s f gs stand D.tparams D.funs count fit (definition_is_true k result)
    definition_is_true (implied.conn_gives_refl k) result =
        conn_gives_refl Q founded ts ground gs s f gs stand D.tparams D.funs count fit (clause_typed Refl (implied.conn_gives_refl k) result)
        (definition_is_true k result)
    definition_is_true (implied.asym_gives_irrefl k) result =
        asym_gives_irrefl Q founded ts ground gs s f gs stand D.tparams D.funs count fit (clause_typed Irrefl (implied.asym_gives_irrefl k) result)
        (definition_is_true k result)
    definition_is_true (implied.asym_gives_antisym k) result =
        asym_gives_antisym Q founded ts ground gs s f gs stand D.tparams D.funs count fit (definition_is_true k result)
    definition_is_true (implied.irrefl_and_trans_give_asym k l) result =
        irrefl_and_trans_give_asym Q founded ts ground gs s f gs stand D.tparams D.funs count fit
        (clause_typed Asym (implied.irrefl_and_trans_give_asym k l) result) (definition_is_true k result) (definition_is_true l result)

  -- a property that is known of a comparison or a function variable is true of it
  pub function_is_true : (types : List Ty) → length types ≡ own.tparams → AreTypes Q 0 types → (funs : List Fun) → FunctionsFit Q types own.funs funs →
      (f : Fun) (s : Subject) → IsSubject Q (functions_alone 0 own.funs) f [] s → (p : Prop) →
      IsKnown Q (behind n) (functions_alone own.tparams own.funs) f.head p → IsTrueOfAll Q types funs (clause_for s p 0 [])
  function_is_true types count ground funs fit f s subject p is_known =
      let none : subject.takes ≡ [] = nil_from_length subject.takes (sym subject.taken) in
      let it : StandsFor Q n (functions_alone own.tparams own.funs) types funs f subject.params s.result =
      stands_for Q founded n (functions_alone own.tparams own.funs) lower types count ground funs fit (wider Q own.funs own.tparams subject.function) none in
      let h : HasInProgram Q it.g p = it.has p is_known in
      let t : Subject = h.subject in
      let params : h.is_subject.params ≡ tys_instance types subject.params =
      (one_type Q it.g h.is_subject.takes [] h.is_subject.params (tys_instance types subject.params) t.result (ty_instance types s.result)
      h.is_subject.function it.function).0 in
      let shape : t.leading ++ t.last ∷ t.last ∷ [] ≡ tys_instance types s.leading ++ ty_instance types s.last ∷ ty_instance types s.last ∷ [] =
      sym h.is_subject.shape ∙ params ∙ ap (tys_instance types) subject.shape ∙ map-append (ty_instance types) s.leading (s.last ∷ s.last ∷ []) in
      let ends : (t.leading ≡ tys_instance types s.leading) × (t.last ≡ ty_instance types s.last) =
      same_ends t.leading (tys_instance types s.leading) t.last (ty_instance types s.last) shape in
      let one : StandsAs types funs s it.g [] = record {
        function = subst (λ (g : Fun). FunMeans types funs g it.g) (sym subject.is_function) it.means;
        given = subst (λ (given : List Fun). FunsMean types funs given []) (sym subject.is_given) tt;
      } in
      let other : StandsAs [] [] t it.g [] = record {
        function = subst (λ (g : Fun). FunMeans [] [] g it.g) (sym h.is_subject.is_function) (means_itself Q [] [] h.is_subject.function);
        given = subst (λ (given : List Fun). FunsMean [] [] given []) (sym h.is_subject.is_given) tt;
      } in
      let long : length s.leading ≡ length t.leading = sym (length-map s.leading (ty_instance types)) ∙ ap length (sym ends.0) in
      let named : ℕ = (says s p).named in
      let vars : tys_instance types (s.leading ++ replicate named s.last) ≡ tys_instance [] (t.leading ++ replicate (says t p).named t.last) =
      map-append (ty_instance types) s.leading (replicate named s.last)
      ∙ ap (λ (Ts : List Ty). tys_instance types s.leading ++ Ts) (map_replicated (ty_instance types) named s.last)
      ∙ ap (λ (T : Ty). tys_instance types s.leading ++ replicate named T) (sym ends.1)
      ∙ ap (λ (Ts : List Ty). Ts ++ replicate named t.last) (sym ends.0)
      ∙ ap (λ (k : ℕ). t.leading ++ replicate k t.last) (same_named s t p)
      ∙ sym (nothing_put_in (t.leading ++ replicate (says t p).named t.last)) in
      record {
        at = λ rho are premises.
            let there : AreIn Q (tys_instance [] (t.leading ++ replicate (says t p).named t.last)) rho =
            subst (λ (Ts : List Ty). AreIn Q Ts rho) vars are in
            let before : AreTrueAt Q [] [] rho (says t p).premises = said_premises Q rho types funs [] [] s t it.g [] one other long p premises in
            said_alternatives Q rho [] [] types funs t s it.g [] other one (sym long) p (h.is_true.at rho there before);
      }
