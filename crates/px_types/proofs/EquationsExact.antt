-- Equations and lemmas are found exactly as the rules say.
use Rattle.std.proofs.Common.{◌≡◌, ◌⊎◌, inl, inr, ℕ, suc, ◌+◌, ◌≤◌, List, [], ◌∷◌, ◌++◌, length, refl, sym, ◌∙◌, ap, subst, Decides, arith}
use Rattle.std.specs.List.{All}
use Rattle.std.proofs.lemmas.Bool.{leb-true, le-leb}
use Rattle.std.proofs.lemmas.Bool.Decides.{Decides-and, Decides-like}
use Rattle.std.proofs.lemmas.List.Elements.{All-nil, All-cons, All-head, All-tail}
use Rattle.px_base.specs.declared.limits.TheConstants.{CLAUSE_VARIABLES, PREMISES}
use Rattle.px_base.specs.declared.head.Head.TheVariants.{FnVar}
use Rattle.px_base.specs.declared.raw.RawKind.{out-RawKind}
use Rattle.px_base.specs.declared.raw.RawEquation.{RawEquation}
use Rattle.px_base.specs.declared.raw.RawLemma.{RawLemma}
use Rattle.px_terms.specs.declared.types.Ty.{Ty}
use Rattle.px_terms.specs.declared.types.FnType.{FnType}
use Rattle.px_terms.specs.declared.term.Term.{Term}
use Rattle.px_terms.specs.declared.term.Term.TheVariants as term
use Rattle.px_terms.specs.declared.clause.Equation.{Equation}
use Rattle.px_terms.specs.declared.program.Lemma as proposition
use Rattle.px_terms.specs.declared.program.Program.{Program}
use Rattle.px_terms.specs.Typing.{behind, live}
use Rattle.px_terms.specs.TypedPrograms.{Fits, AreWrittenFnTypes, AreSidesTyped, IsTypedLemma}
use Rattle.px_types.specs.declared.ends.TypeKind.TheVariants.{Oversize}
use Rattle.px_types.specs.declared.typed.Typed.{Typed}
use Rattle.px_types.specs.Written.{AreFnTys}
use Rattle.px_types.specs.Faults.{Broken, breaks, Env, IsTyped, Breaks, BreaksTys, BreaksParts}
use Rattle.px_types.specs.Declarations.{IsEquation, AreEquations, IsLemma, with_lemma, HasWritten, IsEven, BreaksEquation, BreaksEquations, IsFew, IsLemmaHead, BreaksAssumed, BreaksLemma, fn_types_written}
use Rattle.px_types.specs.Outcomes.{onward, each}
use Rattle.px_types.specs.Laws.{IsDeclaring}
use Rattle.px_types.specs.NextOutcome.{Heading, is_few, variables_found, equation_found, heading_env, equations_found}
use Rattle.px_types.proofs.Exact.{Exact, Both, Either, first, later, exact_as, exact_ok, exact_needs, exact_then, Every, AllAre, OneBreaks, exact_each, one_ok}
use Rattle.px_types.proofs.Exact as exact
use Rattle.px_types.proofs.TypesExact.{same_length}
use Rattle.px_types.proofs.PropsExact.{exact_assumed, AllAssumed, assumed_to, assumed_from}
use Rattle.px_types.proofs.HeadingsExact.{fn_tys_of, fn_types_of, right_fn_types, all_written, these_fn_types, these_written, written_both, written_front, written_behind, IsLemmaHeading, variables_written, exact_lemma_heading}
use Rattle.px_types.proofs.DefinitionsExact.{HaveConstructors}
use Rattle.px_types.proofs.PartsExact.{exact_one_part}
use Rattle.px_types.proofs.AllExact.{exact_term}

module _ (E : Env) (declaring : IsDeclaring E) where
  -- The written equation is this one, and both sides have one type.
  pub record IsRightEquation (raw : RawEquation) (e : Equation) : Type 0 where
    pub T : Ty
    pub left : IsTyped E [] (out-RawKind raw.left.kind) e.left T
    pub right : IsTyped E [] (out-RawKind raw.right.kind) e.right T

  pub exact_equation : (raw : RawEquation) → Exact (equation_found E raw) (IsRightEquation raw) (BreaksEquation E raw)
  unfolding equation_found
  exact_equation raw = exact_as
      (exact_then (exact_term E declaring raw.left []) (λ found typed.
      exact_then (exact_one_part E declaring raw.right found.ty) (λ side is.
      exact_ok (record { left = found.term; right = side }))))
      (λ e both. subst (IsRightEquation raw) (sym both.after.after) (record { T = both.x.ty; left = both.is; right = both.after.is }))
      (λ e is. record { x = record { term = e.left; ty = is.T }; is = is.left; after = record { x = e.right; is = is.right; after = refl } })
      (λ b br. elim br [
        | first wrong ↦ BreaksEquation.left wrong
        | later found typed h ↦ elim h [ first wrong ↦ BreaksEquation.right typed wrong | later side is nothing ↦ absurd nothing ]
      ])
      (λ b br. back br)
    where
      back : {b : Broken} → BreaksEquation E raw b →
          Either (λ (found : Typed). IsTyped E [] (out-RawKind raw.left.kind) found.term found.ty) (Breaks E [] raw.left.at (out-RawKind raw.left.kind))
          (λ (found : Typed). Either (λ (side : Term). IsTyped E [] (out-RawKind raw.right.kind) side found.ty)
          (BreaksParts E [] (raw.right ∷ []) (found.ty ∷ [])) (λ _ _. ⊥)) b
      back (BreaksEquation.left wrong) = first wrong
      back (BreaksEquation.right {t = t} {T = T} typed wrong) = later (record { term = t; ty = T }) typed (first wrong)

  every_equation : (raws : List RawEquation) → Every (λ (raw : RawEquation). Exact (equation_found E raw) (IsRightEquation raw) (BreaksEquation E raw)) raws
  every_equation [] = tt
  every_equation (raw ∷ raws) = (exact_equation raw, every_equation raws)

  pub exact_premises : (raws : List RawEquation) →
      Exact (each (equation_found E) raws) (AllAre IsRightEquation raws) (OneBreaks IsRightEquation (BreaksEquation E) raws)
  exact_premises raws = exact_each (equation_found E) IsRightEquation (BreaksEquation E) raws (every_equation raws)

  even_of : {raw : RawEquation} {e : Equation} → IsRightEquation raw e → IsEven E raw
  even_of {raw} {e} is = record { left = e.left; right = e.right; T = is.T; left_typed = is.left; right_typed = is.right }

  right_of : {raw : RawEquation} (even : IsEven E raw) → IsRightEquation raw (record { left = even.left; right = even.right })
  right_of even = record { T = even.T; left = even.left_typed; right = even.right_typed }

  -- the first fault of equations: of the premises, or of the conclusion behind them
  pub in_premises : {raws : List RawEquation} {b : Broken} → OneBreaks IsRightEquation (BreaksEquation E) raws b → (rest : List RawEquation) →
      BreaksEquations E (raws ++ rest) b
  in_premises (exact.here br) rest = BreaksEquations.here br
  in_premises (exact.behind is br) rest = BreaksEquations.later (even_of is) (in_premises br rest)

  pub in_conclusion : {raws : List RawEquation} {es : List Equation} {c : RawEquation} {b : Broken} → AllAre IsRightEquation raws es → BreaksEquation E c b →
      BreaksEquations E (raws ++ c ∷ []) b
  in_conclusion exact.none br = BreaksEquations.here br
  in_conclusion (exact.more is all) br = BreaksEquations.later (even_of is) (in_conclusion all br)

  -- The premises are right, and the conclusion breaks a rule.
  pub record BreaksLast (raws : List RawEquation) (c : RawEquation) (b : Broken) : Type 0 where
    pub es : List Equation
    pub all : AllAre IsRightEquation raws es
    pub wrong : BreaksEquation E c b

  pub equations_split : (raws : List RawEquation) (c : RawEquation) {b : Broken} → BreaksEquations E (raws ++ c ∷ []) b →
      OneBreaks IsRightEquation (BreaksEquation E) raws b ⊎ BreaksLast raws c b
  equations_split [] c (BreaksEquations.here br) = inr (record { es = []; all = exact.none; wrong = br })
  equations_split [] c (BreaksEquations.later even br) = elim br [ ]
  equations_split (raw ∷ raws) c (BreaksEquations.here br) = inl (exact.here br)
  equations_split (raw ∷ raws) c (BreaksEquations.later even br) = elim (equations_split raws c br) [
    | inl wrong ↦ inl (exact.behind (right_of even) wrong)
    | inr last ↦ inr (record { es = record { left = even.left; right = even.right } ∷ last.es; all = exact.more (right_of even) last.all; wrong = last.wrong })
  ]

  pub are_equations : {raws : List RawEquation} {es : List Equation} → AllAre IsRightEquation raws es → AreEquations E.program raws es
  are_equations exact.none = AreEquations.none
  are_equations (exact.more is all) = AreEquations.more (record { left = is.left.is; right = is.right.is }) (are_equations all)

  sides_typed : {raw : RawEquation} {e : Equation} → IsRightEquation raw e → AreSidesTyped E.program E.place E.context e
  sides_typed is = record { T = is.T; left = is.left.has; right = is.right.has }

  pub all_sides_typed : {raws : List RawEquation} {es : List Equation} → AllAre IsRightEquation raws es → All (AreSidesTyped E.program E.place E.context) es
  all_sides_typed exact.none = All-nil (AreSidesTyped E.program E.place E.context)
  all_sides_typed (exact.more {y = e} {ys = es} is all) = All-cons (AreSidesTyped E.program E.place E.context) e es (sides_typed is) (all_sides_typed all)

  right_equation : {raw : RawEquation} {e : Equation} → IsEquation E.program raw e → AreSidesTyped E.program E.place E.context e → IsRightEquation raw e
  right_equation is typed = record { T = typed.T; left = record { is = is.left; has = typed.left }; right = record { is = is.right; has = typed.right } }

  pub right_equations : {raws : List RawEquation} {es : List Equation} → AreEquations E.program raws es → All (AreSidesTyped E.program E.place E.context) es →
      AllAre IsRightEquation raws es
  right_equations AreEquations.none all = exact.none
  right_equations (AreEquations.more {e = e} {es = es} is are) all =
      exact.more (right_equation is (All-head (AreSidesTyped E.program E.place E.context) e es all))
      (right_equations are (All-tail (AreSidesTyped E.program E.place E.context) e es all))

equations_length : {P : Program} {raws : List RawEquation} {es : List Equation} → AreEquations P raws es → length raws ≡ length es
equations_length AreEquations.none = refl
equations_length (AreEquations.more is are) = ap (λ n. suc n) (equations_length are)

decides_few : (l : RawLemma) → Decides (is_few l) (IsFew l)
unfolding is_few
decides_few l = Decides-like _ (λ h. record { vars = h.0; premises = h.1 }) (λ few. (few.vars, few.premises))
    (Decides-and _ _ (leb-true (length l.vars) CLAUSE_VARIABLES, le-leb (length l.vars) CLAUSE_VARIABLES)
    (leb-true (length l.premises) PREMISES, le-leb (length l.premises) PREMISES))

-- What stands before a lemma's equations is right.
record Headed (P : Program) (l : RawLemma) : Type 0 where
  few : IsFew l
  H : Heading
  heading : IsLemmaHeading P l H
  assumed : AllAssumed P H.funs 0 l.funs

-- The first fault before a lemma's equations.
data BreaksHeaded (P : Program) (l : RawLemma) (b : Broken) : Type 0 where
  of_many : (IsFew l → ⊥) → b ≡ breaks Oversize l.at → BreaksHeaded P l b
  of_types : IsFew l → BreaksTys P l.tparams (variables_written l) b → BreaksHeaded P l b
  of_assumed : {H : Heading} → IsFew l → IsLemmaHeading P l H → BreaksAssumed P H.funs 0 l.funs b → BreaksHeaded P l b

-- The lemma is this one.
pub record LemmaStep (P : Program) (l : RawLemma) (Q : Program) : Type 0 where
  pub L : proposition.Lemma
  pub is : IsLemma P l L
  pub typed : IsTypedLemma P (length P.declared) L
  pub same : Q ≡ with_lemma P L

module _ (P : Program) (l : RawLemma) (some : HaveConstructors P) where
  -- where the equations stand
  abbrev env : Heading → Env
  env H = heading_env P l.tparams H

  declaring_env : (H : Heading) → IsDeclaring (env H)
  declaring_env H = record { placed = tt; some = some }

  exact_headed : Exact (variables_found P l) (λ _. Headed P l) (BreaksHeaded P l)
  unfolding variables_found
  exact_headed = exact_as
      (exact_then (exact_needs _ Oversize l.at (decides_few l)) (λ _ few.
      exact_then (exact_lemma_heading P l) (λ H heading.
      exact_assumed P H.funs 0 l.funs)))
      (λ x both. record { few = both.is; H = both.after.x; heading = both.after.is; assumed = both.after.after })
      (λ x headed. record { x = tt; is = headed.few; after = record { x = headed.H; is = headed.heading; after = headed.assumed } })
      (λ b br. elim br [
        | first many ↦ BreaksHeaded.of_many many.0 many.1
        | later _ few h ↦ elim h [ first wrong ↦ BreaksHeaded.of_types few wrong | later H heading wrong ↦ BreaksHeaded.of_assumed few heading wrong ]
      ])
      (λ b br. elim br [
        | BreaksHeaded.of_many many e ↦ first (many, e)
        | BreaksHeaded.of_types few wrong ↦ later tt few (first wrong)
        | BreaksHeaded.of_assumed {H = H} few heading wrong ↦ later tt few (later H heading wrong)
      ])

  -- A lemma whose heading is right, with its equations.
  record IsFound (Q : Program) : Type 0 where
    headed : Headed P l
    H : Heading
    heading : IsLemmaHeading P l H
    premises : List Equation
    are : AllAre (IsRightEquation (env H) (declaring_env H)) l.premises premises
    conclusion : Equation
    is : IsRightEquation (env H) (declaring_env H) l.conclusion conclusion
    same : Q ≡ with_lemma P (record { tparams = l.tparams; funs = H.funs; vars = H.vars; premises = premises; conclusion = conclusion })

  -- The first fault of a lemma, stage by stage.
  data BreaksFound (b : Broken) : Type 0 where
    at_variables : BreaksHeaded P l b → BreaksFound b
    at_heading : Headed P l → BreaksTys P l.tparams (variables_written l) b → BreaksFound b
    at_premises : {H : Heading} → Headed P l → IsLemmaHeading P l H →
        OneBreaks (IsRightEquation (env H) (declaring_env H)) (BreaksEquation (env H)) l.premises b → BreaksFound b
    at_conclusion : {H : Heading} {es : List Equation} → Headed P l → IsLemmaHeading P l H → AllAre (IsRightEquation (env H) (declaring_env H)) l.premises es →
        BreaksEquation (env H) l.conclusion b → BreaksFound b

  exact_found : Exact (onward (variables_found P l) (λ _. equations_found P l)) IsFound BreaksFound
  unfolding equations_found
  exact_found = exact_as
      (exact_then exact_headed (λ _ headed.
      exact_then (exact_lemma_heading P l) (λ H heading.
      exact_then (exact_premises (env H) (declaring_env H) l.premises) (λ premises are.
      exact_then (exact_equation (env H) (declaring_env H) l.conclusion) (λ conclusion is.
      exact_ok (with_lemma P (record { tparams = l.tparams; funs = H.funs; vars = H.vars; premises = premises; conclusion = conclusion })))))))
      (λ Q both. let rest = both.after in let last = rest.after in record {
        headed = both.is;
        H = rest.x;
        heading = rest.is;
        premises = last.x;
        are = last.is;
        conclusion = last.after.x;
        is = last.after.is;
        same = last.after.after;
      })
      (λ Q found. record {
        x = tt;
        is = found.headed;
        after = record {
          x = found.H;
          is = found.heading;
          after = record { x = found.premises; is = found.are; after = record { x = found.conclusion; is = found.is; after = found.same } };
        };
      })
      (λ b br. elim br [
        | first wrong ↦ BreaksFound.at_variables wrong
        | later _ headed h ↦ elim h [
          | first wrong ↦ BreaksFound.at_heading headed wrong
          | later H heading h2 ↦ elim h2 [
            | first wrong ↦ BreaksFound.at_premises {H = H} headed heading wrong
            | later premises are h3 ↦ elim h3 [
              | first wrong ↦ BreaksFound.at_conclusion {H = H} headed heading are wrong
              | later conclusion is nothing ↦ absurd
                  nothing
            ]
          ]
        ]
      ])
      (λ b br. elim br [
        | BreaksFound.at_variables wrong ↦ first wrong
        | BreaksFound.at_heading headed wrong ↦ later tt headed (first wrong)
        | BreaksFound.at_premises {H = H} headed heading wrong ↦ later tt headed (later H heading (first wrong))
        | BreaksFound.at_conclusion {H = H} {es = es} headed heading are wrong ↦ later tt headed (later H heading (later es are (first wrong)))
      ])

  -- two headings of a lemma are one
  one_heading : {H K : Heading} → IsLemmaHeading P l H → IsLemmaHeading P l K → H ≡ K
  one_heading {H} {K} a b = one_ok H K (sym ((exact_lemma_heading P l).ok H a) ∙ (exact_lemma_heading P l).ok K b)

  -- what a heading gives
  fn_types_written_of : {H : Heading} → IsLemmaHeading P l H → AllAssumed P H.funs 0 l.funs → AreWrittenFnTypes P l.tparams H.funs
  fn_types_written_of {H} h all = record {
    types = fn_types_of P l.tparams h.funs;
    assumed =
        λ i F p stands has. assumed_to P H.funs 0 (fn_tys_of P l.tparams h.funs) all i i F p (omega arith) stands has;
  }

  assumed_of : {funs : List FnType} → AreFnTys l.funs funs → AreWrittenFnTypes P l.tparams funs → AllAssumed P funs 0 l.funs
  assumed_of {funs} are written = assumed_from P funs 0 are
      (λ i j F p at stands wants. subst (λ (n : ℕ). Fits P funs (FnVar n) p) (number i j at) (written.assumed i F p stands wants))
    where
      number : (i j : ℕ) → j ≡ 0 + i → i ≡ j
      number i j e = omega arith

  heading_written : {H : Heading} → IsLemmaHeading P l H → HasWritten P l.tparams (variables_written l)
  heading_written {H} h = written_both P l.tparams (fn_types_written l.funs) (all_written P l.tparams h.funs) (record { types = H.vars; right = h.vars })

  -- a heading, by what the rules say
  heading_by : {L : proposition.Lemma} → IsLemmaHead l L → HasWritten P l.tparams (variables_written l) →
      IsLemmaHeading P l (record { funs = L.funs; vars = L.vars })
  heading_by head w = record {
    funs = these_fn_types P l.tparams head.funs (written_front P l.tparams (fn_types_written l.funs) l.vars w);
    vars = record { are = head.vars; written = these_written P l.tparams head.vars (written_behind P l.tparams (fn_types_written l.funs) l.vars w) };
  }

  -- the same heading with all that stands before the equations
  headed_at : {H : Heading} → Headed P l → IsLemmaHeading P l H → AllAssumed P H.funs 0 l.funs
  headed_at headed h = subst (λ (K : Heading). AllAssumed P K.funs 0 l.funs) (one_heading headed.heading h) headed.assumed

  step_of : {Q : Program} → IsFound Q → LemmaStep P l Q
  step_of found =
      let H = found.H in
      let h = found.heading in
      let are = are_equations (env H) (declaring_env H) found.are in
      record {
        L = record { tparams = l.tparams; funs = H.funs; vars = H.vars; premises = found.premises; conclusion = found.conclusion };
        is = record {
          tparams = refl;
          funs = fn_tys_of P l.tparams h.funs;
          vars = h.vars.are;
          premises = are;
          conclusion = record { left = found.is.left.is; right = found.is.right.is };
        };
        typed = record {
          few_vars = subst (λ (n : ℕ). n ≤ CLAUSE_VARIABLES) (same_length h.vars.are) found.headed.few.vars;
          few_premises = subst (λ (n : ℕ). n ≤ PREMISES) (equations_length are) found.headed.few.premises;
          funs = fn_types_written_of h (headed_at found.headed h);
          vars = h.vars.written;
          premises = all_sides_typed (env H) (declaring_env H) found.are;
          conclusion = record { T = found.is.T; left = found.is.left.has; right = found.is.right.has };
        };
        same = found.same;
      }

  -- a lemma with as many type parameters as are written
  record Fitted (Q : Program) : Type 0 where
    funs : List FnType
    vars : List Ty
    premises : List Equation
    conclusion : Equation
    is : IsLemma P l (record { tparams = l.tparams; funs = funs; vars = vars; premises = premises; conclusion = conclusion })
    typed : IsTypedLemma P (length P.declared) (record { tparams = l.tparams; funs = funs; vars = vars; premises = premises; conclusion = conclusion })
    same : Q ≡ with_lemma P (record { tparams = l.tparams; funs = funs; vars = vars; premises = premises; conclusion = conclusion })

  fitted : {Q : Program} → LemmaStep P l Q → Fitted Q
  fitted {Q} step =
      let L = step.L in
      let e : L ≡ record { tparams = l.tparams; funs = L.funs; vars = L.vars; premises = L.premises; conclusion = L.conclusion } =
      λ i. record { tparams = step.is.tparams i; funs = L.funs; vars = L.vars; premises = L.premises; conclusion = L.conclusion } in
      record {
        funs = L.funs;
        vars = L.vars;
        premises = L.premises;
        conclusion = L.conclusion;
        is = subst (IsLemma P l) e step.is;
        typed = subst (IsTypedLemma P (length P.declared)) e step.typed;
        same = step.same ∙ ap (with_lemma P) e;
      }

  found_of : {Q : Program} → LemmaStep P l Q → IsFound Q
  found_of step =
      let f = fitted step in
      let H : Heading = record { funs = f.funs; vars = f.vars } in
      let h : IsLemmaHeading P l H = record {
        funs = right_fn_types P l.tparams f.is.funs f.typed.funs.types;
        vars = record { are = f.is.vars; written = f.typed.vars };
      } in
      record {
        headed = record {
          few = record {
            vars = subst (λ (n : ℕ). n ≤ CLAUSE_VARIABLES) (sym (same_length f.is.vars)) f.typed.few_vars;
            premises = subst (λ (n : ℕ). n ≤ PREMISES) (sym (equations_length f.is.premises)) f.typed.few_premises;
          };
          H = H;
          heading = h;
          assumed = assumed_of f.is.funs f.typed.funs;
        };
        H = H;
        heading = h;
        premises = f.premises;
        are = right_equations (env H) (declaring_env H) f.is.premises f.typed.premises;
        conclusion = f.conclusion;
        is = record {
          T = f.typed.conclusion.T;
          left = record { is = f.is.conclusion.left; has = f.typed.conclusion.left };
          right = record { is = f.is.conclusion.right; has = f.typed.conclusion.right };
        };
        same = f.same;
      }

  -- some lemma with this heading
  abbrev lemma_of : Heading → proposition.Lemma
  lemma_of H = record { tparams = l.tparams; funs = H.funs; vars = H.vars; premises = []; conclusion = record { left = term.Lit 0; right = term.Lit 0 } }

  head_of : {H : Heading} → IsLemmaHeading P l H → IsLemmaHead l (lemma_of H)
  head_of h = record { tparams = refl; funs = fn_tys_of P l.tparams h.funs; vars = h.vars.are }

  headed_breaks : {b : Broken} → BreaksHeaded P l b → BreaksLemma P l b
  headed_breaks (BreaksHeaded.of_many many e) = BreaksLemma.many many e
  headed_breaks (BreaksHeaded.of_types few wrong) = BreaksLemma.types few wrong
  headed_breaks (BreaksHeaded.of_assumed {H = H} few h wrong) = BreaksLemma.assumed {L = lemma_of H} few (head_of h) (heading_written h) wrong

  lemma_breaks : {b : Broken} → BreaksFound b → BreaksLemma P l b
  lemma_breaks (BreaksFound.at_variables wrong) = headed_breaks wrong
  lemma_breaks (BreaksFound.at_heading headed wrong) = BreaksLemma.types headed.few wrong
  lemma_breaks (BreaksFound.at_premises {H = H} headed h wrong) =
      BreaksLemma.equations {L = lemma_of H} headed.few (head_of h) (heading_written h) (fn_types_written_of h (headed_at headed h))
      (in_premises (env H) (declaring_env H) wrong (l.conclusion ∷ []))
  lemma_breaks (BreaksFound.at_conclusion {H = H} headed h are wrong) =
      BreaksLemma.equations {L = lemma_of H} headed.few (head_of h) (heading_written h) (fn_types_written_of h (headed_at headed h))
      (in_conclusion (env H) (declaring_env H) are wrong)

  -- equations behind a heading break a rule
  equations_break : {b : Broken} (H : Heading) → Headed P l → IsLemmaHeading P l H → BreaksEquations (env H) (l.premises ++ l.conclusion ∷ []) b → BreaksFound b
  equations_break H headed h wrong = elim (equations_split (env H) (declaring_env H) l.premises l.conclusion wrong) [
    | inl first_ ↦ BreaksFound.at_premises {H = H} headed h first_
    | inr last ↦ BreaksFound.at_conclusion {H = H} headed h last.all last.wrong
  ]

  breaks_lemma : {b : Broken} → BreaksLemma P l b → BreaksFound b
  breaks_lemma (BreaksLemma.many many_ e) = BreaksFound.at_variables (BreaksHeaded.of_many many_ e)
  breaks_lemma (BreaksLemma.types few wrong) = BreaksFound.at_variables (BreaksHeaded.of_types few wrong)
  breaks_lemma (BreaksLemma.assumed {L = L} few head w wrong) =
      BreaksFound.at_variables (BreaksHeaded.of_assumed {H = record { funs = L.funs; vars = L.vars }} few (heading_by head w) wrong)
  breaks_lemma {b} (BreaksLemma.equations {L = L} few head w funs wrong) =
      let H : Heading = record { funs = L.funs; vars = L.vars } in
      let h : IsLemmaHeading P l H = heading_by head w in
      let all : AllAssumed P L.funs 0 l.funs = assumed_of head.funs funs in
      let here : BreaksEquations (env H) (l.premises ++ l.conclusion ∷ []) b =
      subst (λ (n : ℕ). BreaksEquations (record {
        program = P;
        place = behind (length P.declared);
        context = record { tparams = n; funs = L.funs; vars = live L.vars };
      }) (l.premises ++ l.conclusion ∷ []) b) head.tparams wrong in
      equations_break H (record { few = few; H = H; heading = h; assumed = all }) h here

  pub exact_lemma : Exact (onward (variables_found P l) (λ _. equations_found P l)) (LemmaStep P l) (BreaksLemma P l)
  exact_lemma = exact_as exact_found (λ Q found. step_of found) (λ Q step. found_of step) (λ b br. lemma_breaks br) (λ b br. breaks_lemma br)
