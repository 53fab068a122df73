-- The cases of a variable: what each needs, and what it is made of.
use Rattle.std.proofs.Common.{◌≡◌, ◌+◌, ◌≤◌, ℕ, List, ◌∷◌, ◌++◌, length, map, slice_get, slice_set, Option, Some, None, IfSome, All, refl, sym, subst, ap, ◌∙◌, arith}
use Rattle.std.proofs.lemmas.List.{length-map}
use Rattle.std.proofs.lemmas.List.Elements.{All-map}
use Rattle.px_terms.specs.declared.types.Ty.{Ty, out-Ty}
use Rattle.px_terms.specs.declared.types.Ty.TheVariants as type
use Rattle.px_terms.specs.declared.types.Ty.TheOpen.{Ty-F}
use Rattle.px_terms.specs.declared.types.FnType.{FnType}
use Rattle.px_terms.specs.declared.term.Term.{Term}
use Rattle.px_terms.specs.declared.term.Term.TheVariants as term
use Rattle.px_terms.specs.declared.clause.Equation.{Equation}
use Rattle.px_terms.specs.declared.program.ConDef.{ConDef}
use Rattle.px_terms.specs.declared.program.DataDef.{DataDef}
use Rattle.px_terms.specs.declared.program.Program.{Program}
use Rattle.px_terms.specs.declared.sequent.Present.{Present}
use Rattle.px_terms.specs.declared.sequent.Frame.{Frame}
use Rattle.px_terms.specs.declared.sequent.Sequent.{Sequent}
use Rattle.px_terms.specs.limits.TheConstants.{FACTS}
use Rattle.px_terms.specs.Types.{numbers_from, tys_instance}
use Rattle.px_terms.specs.Terms.{term_put}
use Rattle.px_terms.specs.Typing.{live}
use Rattle.px_terms.specs.TreeEdits.{equation_put, equations_put}
use Rattle.px_terms.specs.Sequents.{IsSmall, IsSmallEquation, IsSmallType, IsWithinLimits, frame_put}
use Rattle.px_terms.specs.Rows.{AreCases, case_of, cases_from, fresh_constructor}
use Rattle.px_cases.specs.Ends.{HasRoom, IsSmallPut}
use Rattle.px_cases.proofs.Lists.{all_behind, all_unmapped, found_one}

-- the constructor on as many fresh variables as it has fields
pub by_made : (s : Sequent) (d : ℕ) (args : List Ty) (k : ℕ) (c : ConDef) (fresh : ℕ) (by : Term) → fresh ≡ length c.fields → by ≡ term.Con d k args (map (λ (i : ℕ). term.Free i) (numbers_from s.next fresh)) → by ≡ fresh_constructor s d args k c
by_made s d args k c fresh by count is = is ∙ ap (λ (n : ℕ). term.Con d k args (map (λ (i : ℕ). term.Free i) (numbers_from s.next n))) count

module _ (s : Sequent) (v d : ℕ) (args : List Ty) (k : ℕ) (c : ConDef) where
  -- there is room for the fields of a case within the limits
  pub room_needed : IsWithinLimits (case_of s v d args k c) → HasRoom s.next args c.fields
  room_needed within = record {
    few = within.few_variables;
    small = all_unmapped (λ (x : Option Ty). IfSome x IsSmallType) (λ (T : Ty). Some T) (tys_instance args c.fields) (all_behind (λ (x : Option Ty). IfSome x IsSmallType) (slice_set s.context.vars v None) (live (tys_instance args c.fields)) within.vars);
  }

  -- the variables' types of a case within the limits are small
  pub vars_needed : (vars : List (Option Ty)) → vars ≡ slice_set s.context.vars v None ++ live (tys_instance args c.fields) → IsWithinLimits (case_of s v d args k c) → All (λ (x : Option Ty). IfSome x IsSmallType) vars
  vars_needed vars is within = subst (All (λ (x : Option Ty). IfSome x IsSmallType)) (sym is) within.vars

  -- the terms of a case within the limits are small
  pub put_needed : (by : Term) → by ≡ fresh_constructor s d args k c → IsWithinLimits (case_of s v d args k c) → IsSmallPut s v by
  put_needed by is within =
      let put = fresh_constructor s d args k c in
      let count : length (map (equation_put v put) s.facts) ≡ length s.facts = length-map s.facts (equation_put v put) in
      let small : IsSmallPut s v put = record {
        present = all_unmapped (λ (p : Present). IsSmall p.term) (λ (p : Present). record { variable = p.variable; term = term_put v put p.term }) s.frame.entries within.present;
        facts = all_unmapped IsSmallEquation (equation_put v put) s.facts within.facts;
        alternatives = all_unmapped IsSmallEquation (equation_put v put) s.alternatives within.alternatives;
        few_facts = subst (λ (n : ℕ). n ≤ FACTS) count within.few_facts;
      } in
      subst (IsSmallPut s v) (sym is) small

  -- the case is within the limits
  pub case_fits : (vars : List (Option Ty)) (by : Term) → vars ≡ slice_set s.context.vars v None ++ live (tys_instance args c.fields) → by ≡ fresh_constructor s d args k c → HasRoom s.next args c.fields → All (λ (x : Option Ty). IfSome x IsSmallType) vars → IsSmallPut s v by → IsWithinLimits (case_of s v d args k c)
  case_fits vars by vars_are is room small puts =
      let put = fresh_constructor s d args k c in
      let all : IsSmallPut s v put = subst (IsSmallPut s v) is puts in
      let count : length (map (equation_put v put) s.facts) ≡ length s.facts = length-map s.facts (equation_put v put) in
      record {
        vars = subst (All (λ (x : Option Ty). IfSome x IsSmallType)) vars_are small;
        present = All-map (λ (p : Present). IsSmall p.term) (λ (p : Present). record { variable = p.variable; term = term_put v put p.term }) s.frame.entries all.present;
        facts = All-map IsSmallEquation (equation_put v put) s.facts all.facts;
        alternatives = All-map IsSmallEquation (equation_put v put) s.alternatives all.alternatives;
        few_facts = subst (λ (n : ℕ). n ≤ FACTS) (sym count) all.few_facts;
        few_variables = room.few;
      }

  -- the case that is made of these parts
  pub case_made : (fresh : ℕ) (by : Term) (funs : List FnType) (vars : List (Option Ty)) (frame : Frame) (facts alternatives : List Equation) → fresh ≡ length c.fields → by ≡ fresh_constructor s d args k c → funs ≡ s.context.funs → vars ≡ slice_set s.context.vars v None ++ live (tys_instance args c.fields) → frame ≡ frame_put v by s.frame → facts ≡ equations_put v by s.facts → alternatives ≡ equations_put v by s.alternatives → ◌≡◌ {A = Sequent} (record { context = record { tparams = s.context.tparams; funs = funs; vars = vars }; frame = frame; facts = facts; alternatives = alternatives; next = s.next + fresh }) (case_of s v d args k c)
  case_made fresh by funs vars frame facts alternatives count is funs_are vars_are frame_is facts_are alternatives_are =
      let frame_made : frame ≡ frame_put v (fresh_constructor s d args k c) s.frame = frame_is ∙ ap (λ (t : Term). frame_put v t s.frame) is in
      let facts_made : facts ≡ equations_put v (fresh_constructor s d args k c) s.facts = facts_are ∙ ap (λ (t : Term). equations_put v t s.facts) is in
      let alternatives_made : alternatives ≡ equations_put v (fresh_constructor s d args k c) s.alternatives = alternatives_are ∙ ap (λ (t : Term). equations_put v t s.alternatives) is in
      λ i. record { context = record { tparams = s.context.tparams; funs = funs_are i; vars = vars_are i }; frame = frame_made i; facts = facts_made i; alternatives = alternatives_made i; next = s.next + count i }

-- the cases are those of the type that was found
pub cases_are : (P : Program) (s : Sequent) (v d : ℕ) (args : List Ty) (D : DataDef) → slice_get s.context.vars v ≡ Some (Some (type.Con d args)) → slice_get P.datatypes d ≡ Some D → (children : List Sequent) → AreCases P s v children → children ≡ cases_from s v d args 0 D.cons
cases_are P s v d args D typed declared children cases =
    let both : Some (type.Con cases.datatype cases.args) ≡ Some (type.Con d args) = found_one s.context.vars v (Some (type.Con cases.datatype cases.args)) (Some (type.Con d args)) cases.live_at typed in
    let one : type.Con cases.datatype cases.args ≡ type.Con d args = cc in
    let layer : Ty-F.Con cases.datatype cases.args ≡ Ty-F.Con d args = sym (type.outs-Con cases.datatype cases.args) ∙ ap out-Ty one ∙ type.outs-Con d args in
    let d_is : cases.datatype ≡ d = cc in
    let args_are : cases.args ≡ args = cc in
    let D_is : cases.declared ≡ D = found_one P.datatypes d cases.declared D (subst (λ (k : ℕ). slice_get P.datatypes k ≡ Some cases.declared) d_is cases.stands) declared in
    cases.are ∙ (ap (λ (k : ℕ). cases_from s v k cases.args 0 cases.declared.cons) d_is ∙ ap (λ (ts : List Ty). cases_from s v d ts 0 cases.declared.cons) args_are ∙ ap (λ (x : DataDef). cases_from s v d args 0 x.cons) D_is)

-- a variable whose type is no datatype of the program has no cases
pub no_cases : (P : Program) (s : Sequent) (v : ℕ) (T : Ty) → slice_get s.context.vars v ≡ Some (Some T) → ((d : ℕ) (args : List Ty) (D : DataDef) → T ≡ type.Con d args → ¬ (slice_get P.datatypes d ≡ Some D)) → (children : List Sequent) → ¬ AreCases P s v children
no_cases P s v T typed other children cases =
    let both : Some T ≡ Some (type.Con cases.datatype cases.args) = found_one s.context.vars v (Some T) (Some (type.Con cases.datatype cases.args)) typed cases.live_at in
    let one : T ≡ type.Con cases.datatype cases.args = cc in
    other cases.datatype cases.args cases.declared one cases.stands
