-- The cases of a term: what each needs, and what it is made of.
use Rattle.std.proofs.Common.{◌≡◌, ◌+◌, ℕ, List, [], ◌∷◌, ◌++◌, length, map, Option, Some, IfSome, slice_get, refl, sym, subst, ap, ◌∙◌}
use Rattle.px_terms.specs.declared.types.Ty.{Ty, out-Ty}
use Rattle.px_terms.specs.declared.types.Ty.TheVariants as type
use Rattle.px_terms.specs.declared.types.Ty.TheOpen.{Ty-F}
use Rattle.px_terms.specs.declared.term.Term.{Term, out-Term}
use Rattle.px_terms.specs.declared.clause.Equation.{Equation}
use Rattle.px_terms.specs.declared.program.ConDef.{ConDef}
use Rattle.px_terms.specs.declared.program.DataDef.{DataDef}
use Rattle.px_terms.specs.declared.program.Program.{Program}
use Rattle.px_terms.specs.declared.sequent.Sequent.{Sequent}
use Rattle.px_terms.specs.Types.{tys_instance}
use Rattle.px_terms.specs.Typing.{HasType, anywhere, live}
use Rattle.px_terms.specs.Sequents.{IsSmallType, IsWithinLimits}
use Rattle.px_terms.specs.Rows.{AreTermCases, IsMatchFree, fresh_constructor, split_of, splits_from}
use Rattle.px_cases.specs.Ends.{HasRoom}
use Rattle.px_cases.proofs.Lists.{all_behind, all_unmapped, found_one}

module _ (s : Sequent) (t : Term) (d : ℕ) (args : List Ty) (k : ℕ) (c : ConDef) where
  -- there is room for the fields of a case within the limits
  pub split_room : IsWithinLimits (split_of s t d args k c) → HasRoom s.next args c.fields
  split_room within = record {
    few = within.few_variables;
    small = all_unmapped (λ (x : Option Ty). IfSome x IsSmallType) (λ (T : Ty). Some T) (tys_instance args c.fields) (all_behind (λ (x : Option Ty). IfSome x IsSmallType) s.context.vars (live (tys_instance args c.fields)) within.vars);
  }

  -- the case that is made of these parts
  pub split_made : (fresh : ℕ) (left right : Term) (child : Sequent) → fresh ≡ length c.fields → left ≡ t → right ≡ fresh_constructor s d args k c → child ≡ record { context = record { tparams = s.context.tparams; funs = s.context.funs; vars = s.context.vars ++ live (tys_instance args c.fields) }; frame = s.frame; facts = s.facts ++ record { left = left; right = right } ∷ []; alternatives = s.alternatives; next = s.next + fresh } → child ≡ split_of s t d args k c
  split_made fresh left right child count left_is right_is is =
      is ∙ (λ i. record { context = record { tparams = s.context.tparams; funs = s.context.funs; vars = s.context.vars ++ live (tys_instance args c.fields) }; frame = s.frame; facts = s.facts ++ record { left = left_is i; right = right_is i } ∷ []; alternatives = s.alternatives; next = s.next + count i })

-- the cases are those of the type that was found
pub splits_are : (P : Program) (s : Sequent) (t : Term) (T : Ty) (d : ℕ) (args : List Ty) (D : DataDef) → ((U : Ty) → HasType P anywhere s.context t U → T ≡ U) → T ≡ type.Con d args → slice_get P.datatypes d ≡ Some D → (children : List Sequent) → AreTermCases P s t children → children ≡ splits_from s t d args 0 D.cons
splits_are P s t T d args D one is declared children cases =
    let same : type.Con cases.datatype cases.args ≡ type.Con d args = sym (one (type.Con cases.datatype cases.args) cases.typed) ∙ is in
    let layer : Ty-F.Con cases.datatype cases.args ≡ Ty-F.Con d args = sym (type.outs-Con cases.datatype cases.args) ∙ ap out-Ty same ∙ type.outs-Con d args in
    let d_is : cases.datatype ≡ d = cc in
    let args_are : cases.args ≡ args = cc in
    let D_is : cases.declared ≡ D = found_one P.datatypes d cases.declared D (subst (λ (k : ℕ). slice_get P.datatypes k ≡ Some cases.declared) d_is cases.stands) declared in
    cases.are ∙ (ap (λ (k : ℕ). splits_from s t k cases.args 0 cases.declared.cons) d_is ∙ ap (λ (ts : List Ty). splits_from s t d ts 0 cases.declared.cons) args_are ∙ ap (λ (x : DataDef). splits_from s t d args 0 x.cons) D_is)

-- the cases of the type that was found are cases
pub are_splits : (P : Program) (s : Sequent) (t : Term) (T : Ty) (d : ℕ) (args : List Ty) (D : DataDef) → IsMatchFree (out-Term t) → HasType P anywhere s.context t T → T ≡ type.Con d args → slice_get P.datatypes d ≡ Some D → AreTermCases P s t (splits_from s t d args 0 D.cons)
are_splits P s t T d args D match_free typed is declared = record { datatype = d; args = args; declared = D; match_free = match_free; typed = subst (λ (U : Ty). HasType P anywhere s.context t U) is typed; stands = declared; are = refl }
