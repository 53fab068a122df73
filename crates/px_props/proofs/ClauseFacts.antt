-- The clause of a property by the signature of what is called: there is one where the signature fits, and no other.
use Rattle.std.proofs.Common.{◌≡◌, ℕ, suc, List, [], ◌∷◌, ◌++◌, length, map, Option, Some, None, slice_get, refl, sym, ap, ◌∙◌, subst, arith, length-append}
use Rattle.std.specs.Option.{option_map}
use Rattle.std.proofs.lemmas.Option.{none-some, same_Some}
use Rattle.std.proofs.lemmas.List.{length-map}
use Rattle.px_terms.specs.Head.{Head}
use Rattle.px_terms.specs.Head.TheVariants.{Def, Wle, Weq, FnVar}
use Rattle.px_terms.specs.Prop.{Prop}
use Rattle.px_terms.specs.declared.types.Ty.{Ty}
use Rattle.px_terms.specs.declared.types.Ty.TheVariants as type
use Rattle.px_terms.specs.declared.types.FnType.{FnType}
use Rattle.px_terms.specs.declared.types.Fun.{Fun}
use Rattle.px_terms.specs.declared.clause.Clause.{Clause}
use Rattle.px_terms.specs.declared.program.Def as definition
use Rattle.px_terms.specs.declared.program.Program.{Program}
use Rattle.px_terms.specs.declared.sequent.Context.{Context}
use Rattle.px_terms.specs.Types.{own_types, own_functions, ty_instance, tys_instance, fn_type_instance}
use Rattle.px_terms.specs.Programs.{bool_type}
use Rattle.px_terms.specs.Typing.{IsFunction}
use Rattle.px_terms.specs.Typing as typing
use Rattle.px_terms.specs.Clauses.{Subject, HasResult, clause_for, IsSubject, IsClauseOf, functions_alone}
use Rattle.px_terms.specs.Clauses as clauses
use Rattle.px_props.specs.Signatures.{Signature, comparison, signature_at}
use Rattle.px_props.specs.Signatures as signatures
use Rattle.px_props.proofs.Own.{length-numbered, stays, list_stays, are_types}

-- two lists that are equal have the same last two elements
same_ends : {A : Type 0} (xs ys : List A) (a b c d : A) → xs ++ a ∷ b ∷ [] ≡ ys ++ c ∷ d ∷ [] → (xs ≡ ys) × (a ≡ c) × (b ≡ d)
same_ends [] [] a b c d e = (refl, cc, cc)
same_ends {A} [] (y ∷ ys) a b c d e =
    let h : length (a ∷ b ∷ []) ≡ suc (length (ys ++ c ∷ d ∷ [])) = ap (λ (zs : List A). length zs) e in
    absurd (omega (arith, h, length-append ys (c ∷ d ∷ [])))
same_ends {A} (x ∷ xs) [] a b c d e =
    let h : suc (length (xs ++ a ∷ b ∷ [])) ≡ length (c ∷ d ∷ []) = ap (λ (zs : List A). length zs) e in
    absurd (omega (arith, h, length-append xs (a ∷ b ∷ [])))
same_ends (x ∷ xs) (y ∷ ys) a b c d e =
    let first : x ≡ y = cc in
    let rest : xs ++ a ∷ b ∷ [] ≡ ys ++ c ∷ d ∷ [] = cc in
    let same = same_ends xs ys a b c d rest in
    let others : xs ≡ ys = same.0 in
    (cc, same.1, same.2)

-- what a function gives of what may be there is there
pub mapped_some : {A B : Type 0} (f : A → B) (o : Option A) (b : B) → option_map f o ≡ Some b → (a : A) × (o ≡ Some a) × (f a ≡ b)
mapped_some f None b e = absurd (none-some b e)
mapped_some f (Some a) b e = (a, refl, same_Some (f a) b e)

-- the function with its own variables put in, by its signature and the types of its parameters
abbrev pub subject : Head → Signature → List Ty → Ty → Subject
subject h signature leading last = record {
  function = record { head = h; types = own_types signature.tparams };
  given = own_functions (length signature.funs);
  leading = leading;
  last = last;
  result = signature.result;
}

-- A clause of a property by the signature.
pub record Spoken (P : Program) (funs : List FnType) (h : Head) (p : Prop) (clause : Clause) : Type 0 where
  pub signature : Signature
  pub leading : List Ty
  pub last : Ty
  pub stands : signature_at P funs h ≡ Some signature
  pub pair : signature.params ≡ leading ++ last ∷ last ∷ []
  pub asked : HasResult (subject h signature leading last) p
  pub is : clause ≡ clause_for (subject h signature leading last) p signature.tparams signature.funs

-- what the head takes and gives, where these types are put in
abbrev Takes : Program → List FnType → Head → List Ty → List Ty → Ty → Type 0
Takes P funs (Def n) types params T = (D : definition.Def) × (slice_get P.defs n ≡ Some D) × (params ≡ tys_instance types D.params) × (T ≡ ty_instance types D.result)
Takes P funs Wle types params T = (params ≡ type.Word ∷ type.Word ∷ []) × (T ≡ bool_type)
Takes P funs Weq types params T = (params ≡ type.Word ∷ type.Word ∷ []) × (T ≡ bool_type)
Takes P funs (FnVar i) types params T = (F : FnType) × (slice_get funs i ≡ Some F) × (params ≡ F.params) × (T ≡ F.result)

takes_of : (P : Program) (context : Context) (f : Fun) (takes : List FnType) (params : List Ty) (T : Ty) → IsFunction P context f takes params T → Takes P context.funs f.head f.types params T
takes_of P context _ takes params T (typing.of_definition {D = D} found few types takes_is params_is result_is) = (D, found, params_is, result_is)
takes_of P context _ takes params T (typing.at_most is) = (refl, is)
takes_of P context _ takes params T (typing.equal is) = (refl, is)
takes_of P context _ takes params T (typing.of_variable {F = F} found params_is result_is) = (F, found, params_is, result_is)

-- a subject is the one of its signature
is_subject : (h : Head) (signature : Signature) (s : Subject) → s.function ≡ record { head = h; types = own_types signature.tparams } →
    s.given ≡ own_functions (length signature.funs) → s.result ≡ signature.result → s ≡ subject h signature s.leading s.last
is_subject h signature s function given result = λ i. record { function = function i; given = given i; leading = s.leading; last = s.last; result = result i }

module _ (P : Program) (funs : List FnType) where
  spoken_by : (h : Head) (p : Prop) (clause : Clause) (context : Context) (signature : Signature) (s : Subject) (params : List Ty) →
      signature_at P funs h ≡ Some signature → signature.params ≡ params → signature.result ≡ s.result →
      IsSubject P context (record { head = h; types = own_types signature.tparams }) (own_functions (length signature.funs)) s →
      params ≡ s.leading ++ s.last ∷ s.last ∷ [] → HasResult s p → clause ≡ clause_for s p signature.tparams signature.funs →
      Spoken P funs h p clause
  spoken_by h p clause context signature s params stands params_are result_is is shape asked clause_is =
      let same = is_subject h signature s is.is_function is.is_given (sym result_is) in
      record {
        signature = signature;
        leading = s.leading;
        last = s.last;
        stands = stands;
        pair = params_are ∙ shape;
        asked = subst (λ (x : Subject). HasResult x p) same asked;
        is = clause_is ∙ ap (λ (x : Subject). clause_for x p signature.tparams signature.funs) same;
      }

  pub spoken : (h : Head) (p : Prop) (clause : Clause) → IsClauseOf P funs h p clause → Spoken P funs h p clause
  spoken _ p clause (clauses.of_definition {n = n} {D = D} found s is asked clause_is) =
      let context = functions_alone D.tparams D.funs in
      let takes = takes_of P context (record { head = Def n; types = own_types D.tparams }) is.takes is.params s.result is.function in
      let same : D ≡ takes.0 = same_Some D takes.0 (sym found ∙ takes.1) in
      let params : D.params ≡ is.params = ap (λ (d : definition.Def). d.params) same ∙ (sym (list_stays D.tparams takes.0.params) ∙ sym takes.2) in
      let result : D.result ≡ s.result = ap (λ (d : definition.Def). d.result) same ∙ (sym (stays D.tparams takes.0.result) ∙ sym takes.3) in
      spoken_by (Def n) p clause context (signatures.of_definition D) s is.params (ap (option_map signatures.of_definition) found) params result is is.shape asked clause_is
  spoken _ p clause (clauses.of_at_most s is asked clause_is) =
      let takes = takes_of P (functions_alone 0 funs) (record { head = Wle; types = [] }) is.takes is.params s.result is.function in
      spoken_by Wle p clause (functions_alone 0 funs) comparison s is.params refl (sym takes.0) (sym takes.1) is is.shape asked clause_is
  spoken _ p clause (clauses.of_equal s is asked clause_is) =
      let takes = takes_of P (functions_alone 0 funs) (record { head = Weq; types = [] }) is.takes is.params s.result is.function in
      spoken_by Weq p clause (functions_alone 0 funs) comparison s is.params refl (sym takes.0) (sym takes.1) is is.shape asked clause_is
  spoken _ p clause (clauses.of_variable {i = i} s is asked clause_is) =
      let takes = takes_of P (functions_alone 0 funs) (record { head = FnVar i; types = [] }) is.takes is.params s.result is.function in
      spoken_by (FnVar i) p clause (functions_alone 0 funs) (signatures.of_variable takes.0) s is.params (ap (option_map signatures.of_variable) takes.1) (sym takes.2) (sym takes.3) is is.shape asked clause_is

  module _ (p : Prop) (clause : Clause) (leading : List Ty) (last : Ty) where
    -- by this signature, the clause is the property's
    abbrev States : Head → Signature → Type 0
    States h signature =
        let s = subject h signature leading last in
        signature.params ≡ leading ++ last ∷ last ∷ [] → HasResult s p → clause ≡ clause_for s p signature.tparams signature.funs → IsClauseOf P funs h p clause

    of_definition : (n : ℕ) (D : definition.Def) → slice_get P.defs n ≡ Some D → States (Def n) (signatures.of_definition D)
    of_definition n D found pair asked is =
        let function = typing.of_definition found (length-numbered (λ (i : ℕ). type.Var i) 0 D.tparams) (are_types P D.tparams) refl (sym (list_stays D.tparams D.params)) (sym (stays D.tparams D.result)) in
        let taken = length-numbered {A = Fun} (λ (i : ℕ). record { head = FnVar i; types = [] }) 0 (length D.funs) ∙ sym (length-map D.funs (fn_type_instance (own_types D.tparams))) in
        clauses.of_definition found (subject (Def n) (signatures.of_definition D) leading last) (record {
          takes = map (fn_type_instance (own_types D.tparams)) D.funs;
          params = D.params;
          function = function;
          taken = taken;
          shape = pair;
          is_function = refl;
          is_given = refl;
        }) asked is

    of_comparison : (h : Head) → IsFunction P (functions_alone 0 funs) (record { head = h; types = [] }) [] comparison.params bool_type →
        comparison.params ≡ leading ++ last ∷ last ∷ [] → IsSubject P (functions_alone 0 funs) (record { head = h; types = [] }) [] (subject h comparison leading last)
    of_comparison h function pair = record { takes = []; params = comparison.params; function = function; taken = refl; shape = pair; is_function = refl; is_given = refl }

    of_variable : (i : ℕ) (F : FnType) → slice_get funs i ≡ Some F → States (FnVar i) (signatures.of_variable F)
    of_variable i F found pair asked is =
        clauses.of_variable (subject (FnVar i) (signatures.of_variable F) leading last) (record {
          takes = [];
          params = F.params;
          function = typing.of_variable found refl refl;
          taken = refl;
          shape = pair;
          is_function = refl;
          is_given = refl;
        }) asked is

    of_signature : (h : Head) (signature : Signature) → signature_at P funs h ≡ Some signature → States h signature
    of_signature (Def n) signature stands =
        let found = mapped_some signatures.of_definition (slice_get P.defs n) signature stands in
        subst (States (Def n)) found.2 (of_definition n found.0 found.1)
    of_signature Wle signature stands =
        subst (States Wle) (same_Some comparison signature stands) (λ pair asked is. clauses.of_at_most (subject Wle comparison leading last) (of_comparison Wle (typing.at_most refl) pair) asked is)
    of_signature Weq signature stands =
        subst (States Weq) (same_Some comparison signature stands) (λ pair asked is. clauses.of_equal (subject Weq comparison leading last) (of_comparison Weq (typing.equal refl) pair) asked is)
    of_signature (FnVar i) signature stands =
        let found = mapped_some signatures.of_variable (slice_get funs i) signature stands in
        subst (States (FnVar i)) found.2 (of_variable i found.0 found.1)

  pub states : (h : Head) (p : Prop) (clause : Clause) → Spoken P funs h p clause → IsClauseOf P funs h p clause
  states h p clause said = of_signature p clause said.leading said.last h said.signature said.stands said.pair said.asked said.is

  -- what is called is spoken of in one way
  module _ (h : Head) (a b : Signature) (xs ys : List Ty) (x y : Ty) (at_a : signature_at P funs h ≡ Some a) (at_b : signature_at P funs h ≡ Some b)
      (pair_a : a.params ≡ xs ++ x ∷ x ∷ []) (pair_b : b.params ≡ ys ++ y ∷ y ∷ []) where
    same_signature : a ≡ b
    same_signature = same_Some a b (sym at_a ∙ at_b)

    pub same_subject : subject h a xs x ≡ subject h b ys y
    same_subject =
        let ends = same_ends xs ys x x y y (sym pair_a ∙ (ap (λ (signature : Signature). signature.params) same_signature ∙ pair_b)) in
        λ i. subject h (same_signature i) (ends.0 i) (ends.1 i)

    pub same_clause : (p : Prop) → clause_for (subject h a xs x) p a.tparams a.funs ≡ clause_for (subject h b ys y) p b.tparams b.funs
    same_clause p = λ i. clause_for (same_subject i) p (same_signature i).tparams (same_signature i).funs
