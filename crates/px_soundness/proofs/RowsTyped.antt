-- What a row leaves of a typed sequent is typed.
use Rattle.std.proofs.Common.{◌≡◌, ℕ, suc, ◌+◌, ◌<◌, List, [], ◌∷◌, ◌++◌, map, length, Option, Some, None, slice_get}
use Rattle.std.proofs.Common.{refl, sym, ap, ◌∙◌, subst, arith}
use Rattle.std.specs.List.{All}
use Rattle.std.specs.Prelude.{slice_set}
use Rattle.std.proofs.lemmas.List.{length-append, length-map, length-set}
use Rattle.std.proofs.lemmas.List.Elements.{All-head, All-tail, All-nil, All-cons, All-append, All-map, All-weaker, All-set}
use Rattle.px_terms.specs.declared.types.Ty.{Ty}
use Rattle.px_terms.specs.declared.types.Ty.TheVariants as type
use Rattle.px_terms.specs.declared.types.Fun.{Fun}
use Rattle.px_terms.specs.declared.term.Term.{Term}
use Rattle.px_terms.specs.declared.clause.Equation.{Equation}
use Rattle.px_terms.specs.declared.clause.Clause.{Clause}
use Rattle.px_terms.specs.declared.clause.Sigma.{Sigma}
use Rattle.px_terms.specs.declared.program.ConDef.{ConDef}
use Rattle.px_terms.specs.declared.program.DataDef.{DataDef}
use Rattle.px_terms.specs.declared.program.Program.{Program}
use Rattle.px_terms.specs.declared.sequent.Context.{Context}
use Rattle.px_terms.specs.declared.sequent.Present.{Present}
use Rattle.px_terms.specs.declared.sequent.Sequent.{Sequent}
use Rattle.px_terms.specs.declared.row.Side.{Side}
use Rattle.px_terms.specs.declared.row.Side.TheVariants.{Left, Right}
use Rattle.px_terms.specs.declared.row.Kind.{Kind}
use Rattle.px_terms.specs.declared.row.Ref.{Ref}
use Rattle.px_terms.specs.declared.row.Row.{Row}
use Rattle.px_terms.specs.Types.{ty_instance, tys_instance}
use Rattle.px_terms.specs.Head.{Head}
use Rattle.px_terms.specs.Prop.{Prop}
use Rattle.px_terms.specs.Terms.{term_put, term_instance}
use Rattle.px_terms.specs.TreeEdits.{equation_put, equations_put, with_side}
use Rattle.px_terms.specs.Programs.{constructor_at}
use Rattle.px_terms.specs.Typing.{anywhere, IsType, AreTypes, HasType, live}
use Rattle.px_terms.specs.Typing as typing
use Rattle.px_terms.specs.TypedPrograms.{IsTypedData, IsTypedCon}
use Rattle.px_terms.specs.TypedSequents.{IsTypedEquation, IsTypedPresent}
use Rattle.px_terms.specs.Clauses.{IsClauseOf, equals}
use Rattle.px_terms.specs.Clauses as clauses
use Rattle.px_terms.specs.Obligations.{IsObligation}
use Rattle.px_terms.specs.Extending.{IsWellFounded}
use Rattle.px_terms.specs.Sequents.{side_of}
use Rattle.px_terms.specs.Steps.{Step}
use Rattle.px_terms.specs.Noting.{IsOpen, FitsClause, equation_instance, equations_instance, own_sigma}
use Rattle.px_terms.specs.Noting as noting
use Rattle.px_terms.specs.Rows.{Opens, fresh_constructor, case_of, cases_from, AreCases, split_of, splits_from, AreTermCases, IsInjected}
use Rattle.px_terms.specs.Rows.{pairs_equal, with_facts, to_show, noted}
use Rattle.px_terms.specs.Rows as rows
use Rattle.px_totality.specs.Laws.{IsContext}
use Rattle.px_totality.proofs.Instances.{instances_are_types}
use Rattle.px_totality.proofs.TypesOfTerms.{all_at, DataType, data_type, data_is_typed, type_of, constructor_of, fields_are_types}
use Rattle.px_soundness.specs.Argument.{StepsKeepTypes, RowsKeepTyping, IsTypedClause, clause_context, property_context}
use Rattle.px_soundness.specs.Validity.{IsSequentOf}
use Rattle.px_soundness.proofs.ClausesTyped.{own_typed, open_clauses_are_typed}
use Rattle.px_soundness.proofs.RowsChanges.{in_front, PutsIn}
use Rattle.px_soundness.proofs.RowsInstances.{weakened, put_keeps, clause_alone, puts_own, puts_nothing, equation_put_in}
use Rattle.px_soundness.proofs.RowsScopes.{HasScope, same_scope, fresh_context, fresh_constructor_has, still_live, others_live, fields_typed}

-- What is put in by a note: something fits between the contexts.
record Puts (Q : Program) (old new : Context) (sigma : Sigma) : Type 0 where
  types : List Ty
  funs : List Fun
  puts : PutsIn Q old new types funs (term_instance sigma)

-- what is put in fits a clause that is open
puts_of : (Q : Program) (n : ℕ) (own : Clause) (context : Context) (sigma : Sigma) → context.tparams ≡ own.tparams → context.funs ≡ own.funs → {about : Ref}
    {clause : Clause} → IsOpen Q n own about clause → FitsClause Q n context clause sigma → Puts Q (clause_context own about clause) context sigma
puts_of Q n own context sigma tparams funs is_open fits = go is_open fits
  where
    alone : (clause : Clause) → FitsClause Q n context clause sigma → Puts Q (clause_alone clause) context sigma
    alone clause fits = record { types = sigma.types; funs = sigma.funs; puts = puts_own Q n context clause sigma fits }

    scoped : (clause : Clause) → clause.tparams ≡ 0 → clause.funs ≡ [] → FitsClause Q n context clause sigma →
        Puts Q (record { tparams = own.tparams; funs = own.funs; vars = live clause.vars }) context sigma
    scoped clause no_types no_funs fits = record {
      types = [];
      funs = [];
      puts =
          puts_nothing Q n context clause sigma fits no_types no_funs (record { tparams = own.tparams; funs = own.funs; vars = live clause.vars }) tparams funs
          refl;
    }

    of_property : {h : Head} {p : Prop} {clause : Clause} → IsClauseOf Q own.funs h p clause → FitsClause Q n context clause sigma →
        Puts Q (property_context own h clause) context sigma
    of_property (clauses.of_definition {clause = clause} found s subject result is) fits = alone clause fits
    of_property (clauses.of_at_most {clause = clause} s subject result is) fits =
        scoped clause (ap (λ (c : Clause). c.tparams) is) (ap (λ (c : Clause). c.funs) is) fits
    of_property (clauses.of_equal {clause = clause} s subject result is) fits =
        scoped clause (ap (λ (c : Clause). c.tparams) is) (ap (λ (c : Clause). c.funs) is) fits
    of_property (clauses.of_variable {clause = clause} s subject result is) fits =
        scoped clause (ap (λ (c : Clause). c.tparams) is) (ap (λ (c : Clause). c.funs) is) fits

    go : {about : Ref} {clause : Clause} → IsOpen Q n own about clause → FitsClause Q n context clause sigma →
        Puts Q (clause_context own about clause) context sigma
    go (noting.property is_known is) fits = of_property is fits
    go (noting.lemma_below {clause = clause} at below found is) fits = alone clause fits
    go (noting.hypothesis {clause = clause} is) fits = alone clause fits

-- A sequent of an obligation.
module _ (Q : Program) (founded : IsWellFounded Q) (own : Clause) (on : List ℕ) (s : Sequent) (is : IsSequentOf Q own on s) where
  abbrev E : Equation → Type 0
  E e = IsTypedEquation Q s.context e

  -- more facts
  facts_added : (added : List Equation) → All E added → IsSequentOf Q own on (with_facts s added)
  facts_added added all = record {
    typed = record {
      next = is.typed.next;
      context = is.typed.context;
      below = is.typed.below;
      alternatives = is.typed.alternatives;
      facts = All-append E s.facts added is.typed.facts all;
      present = is.typed.present;
    };
    tparams = is.tparams;
    funs = is.funs;
    frame = is.frame;
  }

  -- other alternatives
  alternatives_there : (others : List Equation) → All E others → IsSequentOf Q own on (record s { alternatives = others })
  alternatives_there others all = record {
    typed = record {
      next = is.typed.next;
      context = is.typed.context;
      below = is.typed.below;
      alternatives = all;
      facts = is.typed.facts;
      present = is.typed.present;
    };
    tparams = is.tparams;
    funs = is.funs;
    frame = is.frame;
  }

  -- other facts
  facts_there : (others : List Equation) → All E others → IsSequentOf Q own on (record s { facts = others })
  facts_there others all = record {
    typed = record {
      next = is.typed.next;
      context = is.typed.context;
      below = is.typed.below;
      alternatives = is.typed.alternatives;
      facts = all;
      present = is.typed.present;
    };
    tparams = is.tparams;
    funs = is.funs;
    frame = is.frame;
  }

  -- a note of an open clause
  noted_typed : (old : Context) (clause : Clause) (sigma : Sigma) → IsTypedClause Q old clause → Puts Q old s.context sigma →
      All (IsSequentOf Q own on) (noted s clause sigma)
  noted_typed old clause sigma typed put =
      All-append (IsSequentOf Q own on) (map (to_show s) (equations_instance sigma clause.premises))
      (map (λ (e : Equation). with_facts s (e ∷ [])) (equations_instance sigma clause.alternatives))
      (All-map (IsSequentOf Q own on) (to_show s) (equations_instance sigma clause.premises)
      (All-weaker E (λ (e : Equation). IsSequentOf Q own on (to_show s e)) (λ e has. alternatives_there (e ∷ []) (single e has))
      (equations_instance sigma clause.premises) (instances clause.premises typed.premises)))
      (All-map (IsSequentOf Q own on) (λ (e : Equation). with_facts s (e ∷ [])) (equations_instance sigma clause.alternatives)
      (All-weaker E (λ (e : Equation). IsSequentOf Q own on (with_facts s (e ∷ []))) (λ e has. facts_added (e ∷ []) (single e has))
      (equations_instance sigma clause.alternatives) (instances clause.alternatives typed.alternatives)))
    where
      single : (e : Equation) → E e → All E (e ∷ [])
      single e has = All-cons E e [] has (All-nil E)

      instances : (es : List Equation) → All (IsTypedEquation Q old) es → All E (equations_instance sigma es)
      instances es all =
          All-map E (equation_instance sigma) es
          (All-weaker (IsTypedEquation Q old) (λ (e : Equation). E (equation_instance sigma e))
          (equation_put_in Q founded.typed old s.context typed.types put.types put.funs sigma put.puts) es all)

  -- fresh variables for the fields of constructor k
  module _ (d : ℕ) (args : List Ty) (D : DataDef) (found : slice_get Q.datatypes d ≡ Some D) (data_is_type : IsType Q s.context.tparams (type.Con d args)) where
    of_data : DataType Q s.context.tparams D args
    of_data = data_type Q s.context.tparams d D args (type.Con d args) data_is_type refl found

    constructors_typed : IsTypedData Q D
    constructors_typed = data_is_typed Q founded.typed d D found

    fields_are : (c : ConDef) → IsTypedCon Q D.tparams c → AreTypes Q s.context.tparams (tys_instance args c.fields)
    fields_are c typed = instances_are_types Q s.context.tparams args of_data.are (fields_are_types Q D args c of_data.long typed)

    -- One case: constructor k.
    module _ (k : ℕ) (c : ConDef) (con_typed : IsTypedCon Q D.tparams c) (con_found : constructor_at Q d k ≡ Some c) where
      grown_long : (front : List (Option Ty)) → length front ≡ s.next → s.next + length c.fields ≡ length (front ++ live (tys_instance args c.fields))
      grown_long front long =
          let fields_long : length (live (tys_instance args c.fields)) ≡ length c.fields =
          length-map (tys_instance args c.fields) (λ (T : Ty). Some T) ∙ length-map c.fields (ty_instance args) in
          let whole : length (front ++ live (tys_instance args c.fields)) ≡ length front + length (live (tys_instance args c.fields)) =
          length-append front (live (tys_instance args c.fields)) in
          omega (arith, long, fields_long, whole)

      below_grown : (p : Present) → p.variable < s.next → p.variable < s.next + length c.fields
      below_grown p below = omega (arith, below)

      -- a variable that is that constructor
      module _ (v : ℕ) (live_at : slice_get s.context.vars v ≡ Some (Some (type.Con d args))) where
        abbrev front : List (Option Ty)
        front = slice_set s.context.vars v None

        abbrev by : Term
        by = fresh_constructor s d args k c

        abbrev new : Context
        new = (case_of s v d args k c).context

        by_has : HasType Q anywhere new by (type.Con d args)
        by_has =
            fresh_constructor_has Q s.context is.typed.context front (still_live s.context.vars v) s.next d k args c
            (length-set s.context.vars v None ∙ sym is.typed.next) (fields_are c con_typed) data_is_type con_found

        has_put : (t : Term) (T : Ty) → HasType Q anywhere s.context t T → HasType Q anywhere new (term_put v by t) T
        has_put t T has =
            put_keeps Q founded.typed s.context new is.typed.context refl refl v by variable
            (λ n S other at. in_front front (live (tys_instance args c.fields)) n (Some S) (others_live s.context.vars v n S other at)) t T has
          where
            variable : (S : Ty) → slice_get s.context.vars v ≡ Some (Some S) → HasType Q anywhere new by S
            variable S at =
                let e : Some (Some (type.Con d args)) ≡ Some (Some S) = sym live_at ∙ at in
                let same : type.Con d args ≡ S = cc in
                subst (HasType Q anywhere new by) same by_has

        equation_has : (e : Equation) → E e → IsTypedEquation Q new (equation_put v by e)
        equation_has e has = record { T = has.T; left = has_put e.left has.T has.left; right = has_put e.right has.T has.right }

        equations_have : (es : List Equation) → All E es → All (IsTypedEquation Q new) (equations_put v by es)
        equations_have es all =
            All-map (IsTypedEquation Q new) (equation_put v by) es
            (All-weaker E (λ (e : Equation). IsTypedEquation Q new (equation_put v by e)) equation_has es all)

        abbrev present_put : Present → Present
        present_put p = record { variable = p.variable; term = term_put v by p.term }

        same_variables : (ps : List Present) → map (λ (p : Present). p.variable) (map present_put ps) ≡ map (λ (p : Present). p.variable) ps
        same_variables [] = refl
        same_variables (p ∷ ps) = ap (λ (vs : List ℕ). p.variable ∷ vs) (same_variables ps)

        case_typed : IsSequentOf Q own on (case_of s v d args k c)
        case_typed = record {
          typed = record {
            next = grown_long front (length-set s.context.vars v None ∙ sym is.typed.next);
            context = fresh_context Q s.context is.typed.context front (tys_instance args c.fields) (still_live s.context.vars v) (fields_are c con_typed);
            below =
                All-map (λ (p : Present). p.variable < s.next + length c.fields) present_put s.frame.entries
                (All-weaker (λ (p : Present). p.variable < s.next) (λ (p : Present). p.variable < s.next + length c.fields) below_grown
                s.frame.entries is.typed.below);
            alternatives = equations_have s.alternatives is.typed.alternatives;
            facts = equations_have s.facts is.typed.facts;
            present =
                All-map (IsTypedPresent Q new) present_put s.frame.entries
                (All-weaker (IsTypedPresent Q s.context) (λ (p : Present). IsTypedPresent Q new (present_put p))
                (λ p has. record { T = has.T; term = has_put p.term has.T has.term }) s.frame.entries is.typed.present);
          };
          tparams = is.tparams;
          funs = is.funs;
          frame = same_variables s.frame.entries ∙ is.frame;
        }

      -- a term that is that constructor
      module _ (t : Term) (t_has : HasType Q anywhere s.context t (type.Con d args)) where
        abbrev more : List (Option Ty)
        more = live (tys_instance args c.fields)

        abbrev grown : Context
        grown = (split_of s t d args k c).context

        has_still : (u : Term) (T : Ty) → HasType Q anywhere s.context u T → HasType Q anywhere grown u T
        has_still u T has = weakened Q founded.typed s.context is.typed.context more u T has

        equations_still : (es : List Equation) → All E es → All (IsTypedEquation Q grown) es
        equations_still es all =
            All-weaker E (IsTypedEquation Q grown)
            (λ e has. record { T = has.T; left = has_still e.left has.T has.left; right = has_still e.right has.T has.right }) es all

        fact_has : IsTypedEquation Q grown (equals t (fresh_constructor s d args k c))
        fact_has = record {
          T = type.Con d args;
          left = has_still t (type.Con d args) t_has;
          right =
              fresh_constructor_has Q s.context is.typed.context s.context.vars (λ n T at. at) s.next d k args c (sym is.typed.next)
              (fields_are c con_typed) data_is_type con_found;
        }

        split_typed : IsSequentOf Q own on (split_of s t d args k c)
        split_typed = record {
          typed = record {
            next = grown_long s.context.vars (sym is.typed.next);
            context = fresh_context Q s.context is.typed.context s.context.vars (tys_instance args c.fields) (λ n T at. at) (fields_are c con_typed);
            below =
                All-weaker (λ (p : Present). p.variable < s.next) (λ (p : Present). p.variable < s.next + length c.fields) below_grown
                s.frame.entries is.typed.below;
            alternatives = equations_still s.alternatives is.typed.alternatives;
            facts =
                All-append (IsTypedEquation Q grown) s.facts (equals t (fresh_constructor s d args k c) ∷ []) (equations_still s.facts is.typed.facts)
                (All-cons (IsTypedEquation Q grown) (equals t (fresh_constructor s d args k c)) [] fact_has (All-nil (IsTypedEquation Q grown)));
            present =
                All-weaker (IsTypedPresent Q s.context) (IsTypedPresent Q grown)
                (λ p has. record { T = has.T; term = has_still p.term has.T has.term }) s.frame.entries is.typed.present;
          };
          tparams = is.tparams;
          funs = is.funs;
          frame = is.frame;
        }

    -- the constructors from number k on
    abbrev StandFrom : ℕ → List ConDef → Type 0
    StandFrom k cs = (i : ℕ) (c : ConDef) → slice_get cs i ≡ Some c → constructor_at Q d (k + i) ≡ Some c

    first_stands : (k : ℕ) (c : ConDef) (cs : List ConDef) → StandFrom k (c ∷ cs) → constructor_at Q d k ≡ Some c
    first_stands k c cs stand = let none : k ≡ k + 0 = omega arith in ap (constructor_at Q d) none ∙ stand 0 c refl

    others_stand : (k : ℕ) (c : ConDef) (cs : List ConDef) → StandFrom k (c ∷ cs) → StandFrom (k + 1) cs
    others_stand k c cs stand i b at = let one : (k + 1) + i ≡ k + suc i = omega arith in ap (constructor_at Q d) one ∙ stand (suc i) b at

    all_stand : StandFrom 0 D.cons
    all_stand i c at =
        let none : 0 + i ≡ i = omega arith in
        ap (constructor_at Q d) none ∙ constructor_of Q d i D found ∙ at

    cases_typed : (v : ℕ) → slice_get s.context.vars v ≡ Some (Some (type.Con d args)) → (k : ℕ) (cs : List ConDef) → All (IsTypedCon Q D.tparams) cs →
        StandFrom k cs → All (IsSequentOf Q own on) (cases_from s v d args k cs)
    cases_typed v live_at k [] all stand = All-nil (IsSequentOf Q own on)
    cases_typed v live_at k (c ∷ cs) all stand =
        All-cons (IsSequentOf Q own on) (case_of s v d args k c) (cases_from s v d args (k + 1) cs)
        (case_typed k c (All-head (IsTypedCon Q D.tparams) c cs all) (first_stands k c cs stand) v live_at)
        (cases_typed v live_at (k + 1) cs (All-tail (IsTypedCon Q D.tparams) c cs all) (others_stand k c cs stand))

    splits_typed : (t : Term) → HasType Q anywhere s.context t (type.Con d args) → (k : ℕ) (cs : List ConDef) → All (IsTypedCon Q D.tparams) cs →
        StandFrom k cs → All (IsSequentOf Q own on) (splits_from s t d args k cs)
    splits_typed t has k [] all stand = All-nil (IsSequentOf Q own on)
    splits_typed t has k (c ∷ cs) all stand =
        All-cons (IsSequentOf Q own on) (split_of s t d args k c) (splits_from s t d args (k + 1) cs)
        (split_typed k c (All-head (IsTypedCon Q D.tparams) c cs all) (first_stands k c cs stand) t has)
        (splits_typed t has (k + 1) cs (All-tail (IsTypedCon Q D.tparams) c cs all) (others_stand k c cs stand))

  -- the cases of a variable
  variable_cases : (v : ℕ) (children : List Sequent) → AreCases Q s v children → All (IsSequentOf Q own on) children
  variable_cases v children cases =
      let is_type : IsType Q s.context.tparams (type.Con cases.datatype cases.args) =
      is.typed.context.vars v (type.Con cases.datatype cases.args) cases.live_at in
      subst (All (IsSequentOf Q own on)) (sym cases.are)
      (cases_typed cases.datatype cases.args cases.declared cases.stands is_type v cases.live_at 0 cases.declared.cons
      (constructors_typed cases.datatype cases.args cases.declared cases.stands is_type).cons
      (all_stand cases.datatype cases.args cases.declared cases.stands is_type))

  -- the cases of a term
  term_cases : (t : Term) (children : List Sequent) → AreTermCases Q s t children → All (IsSequentOf Q own on) children
  term_cases t children cases =
      let context : IsContext Q s.context = record { vars = is.typed.context.vars; results = is.typed.context.results } in
      let is_type : IsType Q s.context.tparams (type.Con cases.datatype cases.args) =
      type_of Q founded.typed anywhere s.context context cases.typed typing.none in
      subst (All (IsSequentOf Q own on)) (sym cases.are)
      (splits_typed cases.datatype cases.args cases.declared cases.stands is_type t cases.typed 0 cases.declared.cons
      (constructors_typed cases.datatype cases.args cases.declared cases.stands is_type).cons
      (all_stand cases.datatype cases.args cases.declared cases.stands is_type))

  -- the fields of one constructor in pairs
  injected_typed : (j : ℕ) (child : Sequent) → IsInjected s j child → IsSequentOf Q own on child
  injected_typed j child it =
      let has : E it.e = all_at E s.facts j it.e is.typed.facts it.stands in
      subst (IsSequentOf Q own on) (sym it.is)
      (facts_added (pairs_equal it.fields it.parts)
      (fields_typed Q s.context it.e.left it.e.right has.T it.one_head.datatype it.one_head.con it.one_head.types it.one_head.us it.fields it.parts
      has.left has.right it.one_head.left it.one_head.right))

  one_child : (child : Sequent) → IsSequentOf Q own on child → All (IsSequentOf Q own on) (child ∷ [])
  one_child child has = All-cons (IsSequentOf Q own on) child [] has (All-nil (IsSequentOf Q own on))

  no_child : All (IsSequentOf Q own on) []
  no_child = All-nil (IsSequentOf Q own on)

side_has : (Q : Program) (context : Context) (e : Equation) (side : Side) (has : IsTypedEquation Q context e) →
    HasType Q anywhere context (side_of e side) has.T
side_has Q context e Left has = has.left
side_has Q context e Right has = has.right

other_side : (Q : Program) (context : Context) (e : Equation) (side : Side) (t : Term) (has : IsTypedEquation Q context e) →
    HasType Q anywhere context t has.T → IsTypedEquation Q context (with_side side e t)
other_side Q context e Left t has t_has = record { T = has.T; left = t_has; right = has.right }
other_side Q context e Right t has t_has = record { T = has.T; left = has.left; right = t_has }

-- A step keeps types, so each row keeps typing.
module _ (steps_keep_types : StepsKeepTypes) where
  stepped : (Q : Program) → IsWellFounded Q → (own : Clause) (on : List ℕ) (s : Sequent) → IsSequentOf Q own on s → (e : Equation) (side : Side)
      (path : List ℕ) (kind : Kind) (t : Term) → IsTypedEquation Q s.context e → Step Q s.facts (side_of e side) path kind t →
      IsTypedEquation Q s.context (with_side side e t)
  stepped Q founded own on s is e side path kind t has step =
      other_side Q s.context e side t has
      (steps_keep_types Q founded s.context is.typed.context s.facts is.typed.facts (side_of e side) t has.T path kind (side_has Q s.context e side has) step)

  opened : (Q : Program) → IsWellFounded Q → (n : ℕ) (own : Clause) → IsObligation Q n own → (on : List ℕ) {s : Sequent} {r : Row} {children : List Sequent} →
      IsSequentOf Q own on s → Opens Q n s r children → All (IsSequentOf Q own on) children
  opened Q founded n own obligation on {s} is (rows.same stands equal) = no_child Q founded own on s is
  opened Q founded n own obligation on {s} is
      (rows.step {child = child} {j = j} {side = side} {path = path} {kind = kind} {e = e} {t = t} stands step child_is small) =
      let has : IsTypedEquation Q s.context e = all_at (IsTypedEquation Q s.context) s.alternatives j e is.typed.alternatives stands in
      let others : List Equation = slice_set s.alternatives j (with_side side e t) in
      one_child Q founded own on s is child
      (subst (IsSequentOf Q own on) (sym child_is)
      (alternatives_there Q founded own on s is others
      (All-set (IsTypedEquation Q s.context) s.alternatives j (with_side side e t) (stepped Q founded own on s is e side path kind t has step)
      is.typed.alternatives)))
  opened Q founded n own obligation on {s} is
      (rows.step_in_fact {child = child} {j = j} {side = side} {path = path} {kind = kind} {e = e} {t = t} stands step child_is small) =
      let has : IsTypedEquation Q s.context e = all_at (IsTypedEquation Q s.context) s.facts j e is.typed.facts stands in
      let others : List Equation = slice_set s.facts j (with_side side e t) in
      one_child Q founded own on s is child
      (subst (IsSequentOf Q own on) (sym child_is)
      (facts_there Q founded own on s is others
      (All-set (IsTypedEquation Q s.context) s.facts j (with_side side e t) (stepped Q founded own on s is e side path kind t has step) is.typed.facts)))
  opened Q founded n own obligation on {s} is
      (rows.note {about = about} {sigma = sigma} {own = other} {clause = clause} not_own also is_open may fits are small) =
      let scope : HasScope own other.tparams other.funs = same_scope Q n own other obligation also in
      let old : Context = clause_context other about clause in
      let put : Puts Q old s.context sigma = puts_of Q n other s.context sigma (is.tparams ∙ scope.tparams) (is.funs ∙ scope.funs) is_open fits in
      subst (All (IsSequentOf Q own on)) (sym are)
      (noted_typed Q founded own on s is old clause sigma (open_clauses_are_typed Q founded n other also about clause is_open) put)
  opened Q founded n own obligation on {s} is (rows.hypothesis {sigma = sigma} {own = other} no_types no_funs also may fits guard are small) =
      let sigma_is : Sigma = own_sigma other sigma.terms in
      let put : Puts Q (clause_alone other) s.context sigma_is =
      record { types = sigma_is.types; funs = sigma_is.funs; puts = puts_own Q n s.context other sigma_is fits } in
      subst (All (IsSequentOf Q own on)) (sym are)
      (noted_typed Q founded own on s is (clause_alone other) other sigma_is (own_typed Q founded.typed n other also) put)
  opened Q founded n own obligation on {s} is (rows.case {v = v} {children = children} cases small) = variable_cases Q founded own on s is v children cases
  opened Q founded n own obligation on {s} is (rows.split {t = t} {children = children} may cases small) = term_cases Q founded own on s is t children cases
  opened Q founded n own obligation on {s} is (rows.clash stands clash) = no_child Q founded own on s is
  opened Q founded n own obligation on {s} is (rows.inject {child = child} {j = j} it small) =
      one_child Q founded own on s is child (injected_typed Q founded own on s is j child it)

  pub rows_keep_typing : RowsKeepTyping
  rows_keep_typing Q founded n own obligation on s r children is opens = opened Q founded n own obligation on is opens
