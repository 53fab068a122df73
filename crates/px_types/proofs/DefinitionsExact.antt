-- Definitions and claims are found exactly as the rules say.
use Rattle.std.proofs.Common.{◌≡◌, ℕ, ◌+◌, ◌<◌, List, [], ◌∷◌, length, Some, Ok, refl, sym, ◌∙◌, ap, subst, arith}
use Rattle.std.specs.Prelude.{slice_get}
use Rattle.std.specs.List.{All}
use Rattle.std.specs.Option.{option_map}
use Rattle.std.proofs.lemmas.List.Elements.{All-weaker}
use Rattle.px_base.specs.declared.head.Head.TheVariants.{Def, FnVar}
use Rattle.px_base.specs.declared.raw.RawProp.{RawProp}
use Rattle.px_base.specs.declared.raw.RawDef.{RawDef}
use Rattle.px_base.specs.declared.raw.RawClaim.{RawClaim}
use Rattle.px_base.specs.declared.raw.RawKind.{out-RawKind}
use Rattle.px_terms.specs.declared.term.Term.{Term}
use Rattle.px_terms.specs.declared.term.Term.TheVariants as term
use Rattle.px_terms.specs.declared.program.DataDef.{DataDef}
use Rattle.px_terms.specs.declared.program.Def as definition
use Rattle.px_terms.specs.declared.program.Program.{Program}
use Rattle.px_terms.specs.TypedPrograms.{Fits, AreWritten, IsWritten, IsWrittenFnType, HasSignature, IsTypedDef}
use Rattle.px_types.specs.Written.{IsTerm}
use Rattle.px_types.specs.Faults.{Broken, IsTyped, BreaksTys, BreaksParts}
use Rattle.px_types.specs.Declarations.{IsSignature, AllFit, with_definition, with_obligations, obligations_of, without_body, signature_written, body_env, BreaksProps, BreaksAssumed, BreaksDef}
use Rattle.px_types.specs.Outcomes.{onward}
use Rattle.px_types.specs.Laws.{IsDeclaring}
use Rattle.px_types.specs.NextOutcome.{shape_of, signature_found, body_found, claim_found}
use Rattle.px_types.proofs.Exact.{Exact, Either, first, later, exact_as, exact_ok, exact_then, one_ok}
use Rattle.px_types.proofs.FitsExact.{fits_again}
use Rattle.px_types.proofs.PropsExact.{exact_props, exact_assumed, AllAssumed, assumed_to, assumed_from}
use Rattle.px_types.proofs.HeadingsExact.{fn_types_of, right_fn_types, IsHeading, exact_heading, heading_of, heading_written}
use Rattle.px_types.proofs.PartsExact.{exact_one_part}
use Rattle.px_types.proofs.Appending.{get_last, some_and}
use Rattle.px_types.proofs.Agreement.{AgreeOnTypes, Agrees, written_agrees, all_written_agree, all_fn_types_agree}
use Rattle.px_types.proofs.TermsAgree.{term_agrees, raw_term_agrees}
use Rattle.px_types.proofs.ProgramsAgree.{agrees_with_body}

-- each datatype so far has a constructor
abbrev pub HaveConstructors : Program → Type 0
HaveConstructors P = (d : ℕ) (D : DataDef) → slice_get P.datatypes d ≡ Some D → 0 < length D.cons

-- the properties that fit a definition see its type alone
fit_another : (P : Program) (D E : definition.Def) → D.params ≡ E.params → D.result ≡ E.result → (props : List RawProp) →
    AllFit (with_definition P D) (length P.defs) props → AllFit (with_definition P E) (length P.defs) props
fit_another P D E params result props all = All-weaker (λ (raw : RawProp). Fits (with_definition P D) [] (Def (length P.defs)) raw.prop)
    (λ (raw : RawProp). Fits (with_definition P E) [] (Def (length P.defs)) raw.prop) (λ raw fit. fits_again shapes fit) props all
  where
    shape_at : (F : definition.Def) → shape_of (with_definition P F) [] (Def (length P.defs)) ≡ Some (F.params, F.result)
    shape_at F = ap (option_map (λ (d : definition.Def). (d.params, d.result))) (get_last P.defs F)

    shapes : shape_of (with_definition P D) [] (Def (length P.defs)) ≡ shape_of (with_definition P E) [] (Def (length P.defs))
    shapes = shape_at D ∙ (λ i. Some (params i, result i)) ∙ sym (shape_at E)

-- a definition that isn't looked into is one with a literal as its body
plain_is : (D : definition.Def) → D.body ≡ term.Lit 0 → D ≡ without_body D
plain_is D e = λ i. record D { body = e i }

-- what a heading gives of a signature, and the other way round
module _ (P : Program) (d : RawDef) where
  has_signature : {D : definition.Def} → IsHeading P d D → AllAssumed P D.funs 0 d.funs → HasSignature P D
  has_signature {D} h all =
      let tparams = sym h.signature.tparams in
      record {
        funs = record {
          types = subst (λ (n : ℕ). All (IsWrittenFnType P n) D.funs) tparams (fn_types_of P d.tparams h.funs);
          assumed = λ i F p stands has. assumed_to P D.funs 0 h.signature.funs all i i F p (omega arith) stands has;
        };
        params = subst (λ (n : ℕ). AreWritten P n D.params) tparams h.params;
        result = subst (λ (n : ℕ). IsWritten P n D.result) tparams h.result;
      }

  assumed_of : {D : definition.Def} → IsSignature (length P.declared) d D → HasSignature P D → AllAssumed P D.funs 0 d.funs
  assumed_of {D} s has = assumed_from P D.funs 0 s.funs
      (λ i j F p at stands wants. subst (λ (n : ℕ). Fits P D.funs (FnVar n) p) (number i j at) (has.funs.assumed i F p stands wants))
    where
      number : (i j : ℕ) → j ≡ 0 + i → i ≡ j
      number i j e = omega arith

  heading_from : {D : definition.Def} → IsSignature (length P.declared) d D → HasSignature P D → IsHeading P d (without_body D)
  heading_from {D} s has = record {
    signature = record { tparams = s.tparams; funs = s.funs; params = s.params; result = s.result; stands = s.stands };
    funs = right_fn_types P d.tparams s.funs (subst (λ (n : ℕ). All (IsWrittenFnType P n) D.funs) s.tparams has.funs.types);
    params = subst (λ (n : ℕ). AreWritten P n D.params) s.tparams has.params;
    result = subst (λ (n : ℕ). IsWritten P n D.result) s.tparams has.result;
    body = refl;
  }

  -- two headings of a definition are one
  one_heading : {D E : definition.Def} → IsHeading P d D → IsHeading P d E → D ≡ E
  one_heading {D} {E} a b = one_ok D E (sym ((exact_heading P d).ok D a) ∙ (exact_heading P d).ok E b)

-- where the datatypes are the same, the types are
same_datatypes : (P Q : Program) → P.datatypes ≡ Q.datatypes → AgreeOnTypes P Q
same_datatypes P Q e = record {
  datatypes = λ d D stands. some_and (slice_get Q.datatypes d) (λ (E : DataDef). E.tparams ≡ D.tparams) D
      (sym (ap (λ (xs : List DataDef). slice_get xs d) e) ∙ stands) refl;
}

-- programs agree that differ by the body of the last definition
other_body : (P : Program) (D : definition.Def) (b : Term) → Agrees (with_definition P D) (with_definition P (record D { body = b }))
other_body P D b = agrees_with_body P D (record D { body = b }) (record { tparams = refl; funs = refl; params = refl; result = refl; seen = refl })

-- signatures see the datatypes of a program alone
signature_stands : (P Q : Program) → P.datatypes ≡ Q.datatypes → (D : definition.Def) → HasSignature P D → HasSignature Q D
signature_stands P Q e D s =
    let stand = same_datatypes P Q e in
    record {
      funs = record {
        types = all_fn_types_agree stand D.tparams D.funs s.funs.types;
        assumed = λ i F p stands has. fits_again refl (s.funs.assumed i F p stands has);
      };
      params = all_written_agree stand D.tparams D.params s.params;
      result = written_agrees stand s.result;
    }

-- The signature of a definition is right.
pub record Signed (P : Program) (d : RawDef) : Type 0 where
  pub D : definition.Def
  pub heading : IsHeading P d D
  pub assumed : AllAssumed P D.funs 0 d.funs
  pub fit : AllFit (with_definition P D) (length P.defs) d.props

-- The first fault of a signature.
data BreaksSignature (P : Program) (d : RawDef) (b : Broken) : Type 0 where
  of_types : BreaksTys P d.tparams (signature_written d) b → BreaksSignature P d b
  of_assumed : {D : definition.Def} → IsHeading P d D → BreaksAssumed P D.funs 0 d.funs b → BreaksSignature P d b
  of_properties : {D : definition.Def} → IsHeading P d D → AllAssumed P D.funs 0 d.funs → BreaksProps (with_definition P D) [] (Def (length P.defs)) d.props b →
      BreaksSignature P d b

module _ (P : Program) (d : RawDef) where
  exact_signature : Exact (signature_found P d) (λ _. Signed P d) (BreaksSignature P d)
  unfolding signature_found
  exact_signature = exact_as
      (exact_then (exact_heading P d) (λ D heading.
      exact_then (exact_assumed P D.funs 0 d.funs) (λ _ all.
      exact_props (with_definition P D) [] (Def (length P.defs)) d.props)))
      (λ x both. record { D = both.x; heading = both.is; assumed = both.after.is; fit = both.after.after })
      (λ x signed. record { x = signed.D; is = signed.heading; after = record { x = tt; is = signed.assumed; after = signed.fit } })
      (λ b br. elim br [
        | first wrong ↦ BreaksSignature.of_types wrong
        | later D heading h ↦ elim h [
          | first wrong ↦ BreaksSignature.of_assumed heading wrong
          | later _ all wrong ↦ BreaksSignature.of_properties heading all
              wrong
        ]
      ])
      (λ b br. elim br [
        | BreaksSignature.of_types wrong ↦ first wrong
        | BreaksSignature.of_assumed {D = D} heading wrong ↦ later D heading (first wrong)
        | BreaksSignature.of_properties {D = D} heading all wrong ↦ later D heading (later tt all wrong)
      ])

-- The definition is this one, which stands behind the others.
pub record DefinitionStep (P : Program) (d : RawDef) (n : ℕ) (Q : Program) : Type 0 where
  pub D : definition.Def
  pub signature : IsSignature (length P.declared) d D
  pub is : IsTerm (with_definition P D) d.body D.body
  pub typed : IsTypedDef (with_definition P D) n D
  pub fit : AllFit (with_definition P D) n d.props
  pub same : Q ≡ with_obligations (with_definition P D) (obligations_of n d.props)

module _ (P : Program) (d : RawDef) (some : HaveConstructors P) where
  declaring : (D : definition.Def) → IsDeclaring (body_env P D)
  declaring D = record { placed = tt; some = some }

  -- A definition whose signature is right, with its body.
  record IsDefined (Q : Program) : Type 0 where
    D : definition.Def
    signed : Signed P d
    heading : IsHeading P d D
    body : Term
    is : IsTyped (body_env P D) [] (out-RawKind d.body.kind) body D.result
    same : Q ≡ with_obligations (with_definition P (record D { body = body })) (obligations_of (length P.defs) d.props)

  -- The first fault of a definition, stage by stage.
  data BreaksDefined (b : Broken) : Type 0 where
    at_signature : BreaksSignature P d b → BreaksDefined b
    at_heading : BreaksTys P d.tparams (signature_written d) b → BreaksDefined b
    at_body : {D : definition.Def} → Signed P d → IsHeading P d D → BreaksParts (body_env P D) [] (d.body ∷ []) (D.result ∷ []) b → BreaksDefined b

  exact_defined : Exact (onward (signature_found P d) (λ _. body_found P d)) IsDefined BreaksDefined
  unfolding body_found
  exact_defined = exact_as
      (exact_then (exact_signature P d) (λ _ signed.
      exact_then (exact_heading P d) (λ D heading.
      exact_then (exact_one_part (body_env P D) (declaring D) d.body D.result) (λ body is.
      exact_ok (with_obligations (with_definition P (record D { body = body })) (obligations_of (length P.defs) d.props))))))
      (λ Q both. let rest = both.after in record {
        D = rest.x;
        signed = both.is;
        heading = rest.is;
        body = rest.after.x;
        is = rest.after.is;
        same = rest.after.after;
      })
      (λ Q defined. record {
        x = tt;
        is = defined.signed;
        after = record { x = defined.D; is = defined.heading; after = record { x = defined.body; is = defined.is; after = defined.same } };
      })
      (λ b br. elim br [
        | first wrong ↦ BreaksDefined.at_signature wrong
        | later _ signed h ↦ elim h [
          | first wrong ↦ BreaksDefined.at_heading wrong
          | later D heading h2 ↦ elim h2 [ first wrong ↦ BreaksDefined.at_body {D = D} signed heading wrong | later body is nothing ↦ absurd nothing ]
        ]
      ])
      (λ b br. defined_breaks br)
    where
      defined_breaks : {b : Broken} → BreaksDefined b →
          Either {S = Unit {0}} (λ _. Signed P d) (BreaksSignature P d)
          (λ _. Either (IsHeading P d) (BreaksTys P d.tparams (signature_written d))
          (λ (D : definition.Def). Either (λ (t : Term). IsTyped (body_env P D) [] (out-RawKind d.body.kind) t D.result)
          (BreaksParts (body_env P D) [] (d.body ∷ []) (D.result ∷ [])) (λ _ _. ⊥))) b
      defined_breaks (BreaksDefined.at_signature wrong) = first wrong
      defined_breaks (BreaksDefined.at_heading wrong) = first (BreaksSignature.of_types wrong)
      defined_breaks (BreaksDefined.at_body {D = D} signed heading wrong) = later tt signed (later D heading (first wrong))

  -- in the words of the rules
  step_of : {Q : Program} (n : ℕ) → n ≡ length P.defs → IsDefined Q → DefinitionStep P d n Q
  step_of {Q} n e defined = subst (λ (m : ℕ). DefinitionStep P d m Q) (sym e) (go defined.D defined.signed defined.heading defined.body defined.is defined.same)
    where
      go : (D : definition.Def) → Signed P d → IsHeading P d D → (b : Term) → IsTyped (body_env P D) [] (out-RawKind d.body.kind) b D.result →
          Q ≡ with_obligations (with_definition P (record D { body = b })) (obligations_of (length P.defs) d.props) → DefinitionStep P d (length P.defs) Q
      go D signed heading b is same =
          let one : signed.D ≡ D = one_heading P d signed.heading heading in
          let assumed : AllAssumed P D.funs 0 d.funs = subst (λ (E : definition.Def). AllAssumed P E.funs 0 d.funs) one signed.assumed in
          let s = has_signature P d heading assumed in
          record {
            D = record D { body = b };
            signature = record {
              tparams = heading.signature.tparams;
              funs = heading.signature.funs;
              params = heading.signature.params;
              result = heading.signature.result;
              stands = heading.signature.stands;
            };
            is = raw_term_agrees (other_body P (without_body D) b) is.is;
            typed = record {
              signature = signature_stands P (with_definition P (record D { body = b })) refl (record D { body = b })
                  (record { funs = s.funs; params = s.params; result = s.result });
              body = term_agrees (other_body P (without_body D) b) is.has;
            };
            fit = fit_another P signed.D (record D { body = b }) (ap (λ (E : definition.Def). E.params) one)
                (ap (λ (E : definition.Def). E.result) one) d.props signed.fit;
            same = same;
          }

  defined_of : {Q : Program} → DefinitionStep P d (length P.defs) Q → IsDefined Q
  defined_of {Q} step =
      let D = step.D in
      let before : HasSignature P D = signature_stands (with_definition P D) P refl D step.typed.signature in
      let heading : IsHeading P d (without_body D) = heading_from P d step.signature before in
      record {
        D = without_body D;
        signed = record {
          D = without_body D;
          heading = heading;
          assumed = assumed_of P d step.signature before;
          fit = fit_another P D (without_body D) refl refl d.props step.fit;
        };
        heading = heading;
        body = D.body;
        is = record {
          is = raw_term_agrees (other_body P D (term.Lit 0)) step.is;
          has = term_agrees (other_body P D (term.Lit 0)) step.typed.body;
        };
        same = step.same;
      }

  def_breaks : {b : Broken} → BreaksDefined b → BreaksDef P d b
  def_breaks (BreaksDefined.at_heading wrong) = BreaksDef.types wrong
  def_breaks (BreaksDefined.at_signature (BreaksSignature.of_types wrong)) = BreaksDef.types wrong
  def_breaks (BreaksDefined.at_signature (BreaksSignature.of_assumed {D = D} heading wrong)) =
      BreaksDef.assumed {D = D} heading.signature (heading_written P d heading) wrong
  def_breaks {b} (BreaksDefined.at_signature (BreaksSignature.of_properties {D = D} heading all wrong)) =
      BreaksDef.properties {D = D} heading.signature (has_signature P d heading all)
      (subst (λ (E : definition.Def). BreaksProps (with_definition P E) [] (Def (length P.defs)) d.props b) (plain_is D heading.body) wrong)
  def_breaks (BreaksDefined.at_body {D = D} signed heading wrong) =
      let one : signed.D ≡ D = one_heading P d signed.heading heading in
      let all : AllAssumed P D.funs 0 d.funs = subst (λ (E : definition.Def). AllAssumed P E.funs 0 d.funs) one signed.assumed in
      let fit = fit_another P signed.D (without_body D) (ap (λ (E : definition.Def). E.params) one)
      (ap (λ (E : definition.Def). E.result) one) d.props signed.fit in
      BreaksDef.body {D = D} heading.signature (has_signature P d heading all) fit wrong

  breaks_def : {b : Broken} → BreaksDef P d b → BreaksDefined b
  breaks_def (BreaksDef.types wrong) = BreaksDefined.at_heading wrong
  breaks_def (BreaksDef.assumed {D = D} signature written wrong) = BreaksDefined.at_signature
      (BreaksSignature.of_assumed {D = without_body D} (heading_of P d signature written) wrong)
  breaks_def (BreaksDef.properties {D = D} signature has wrong) = BreaksDefined.at_signature
      (BreaksSignature.of_properties {D = without_body D} (heading_from P d signature has) (assumed_of P d signature has) wrong)
  breaks_def (BreaksDef.body {D = D} signature has fit wrong) =
      let heading : IsHeading P d (without_body D) = heading_from P d signature has in
      BreaksDefined.at_body {D = without_body D} (record { D = without_body D; heading = heading; assumed = assumed_of P d signature has; fit = fit }) heading
      wrong

  pub exact_definition : (n : ℕ) → n ≡ length P.defs → Exact (onward (signature_found P d) (λ _. body_found P d)) (DefinitionStep P d n) (BreaksDef P d)
  exact_definition n e = exact_as exact_defined (λ Q defined. step_of n e defined) (λ Q step. defined_of (subst (λ (m : ℕ). DefinitionStep P d m Q) e step))
      (λ b br. def_breaks br) (λ b br. breaks_def br)

-- a claim adds obligations where its properties fit
pub record ClaimStep (P : Program) (c : RawClaim) (Q : Program) : Type 0 where
  pub fit : AllFit P c.def c.props
  pub same : Q ≡ with_obligations P (obligations_of c.def c.props)

pub exact_claim : (P : Program) (c : RawClaim) →
    Exact (onward (claim_found P c) (λ _. Ok (with_obligations P (obligations_of c.def c.props)))) (ClaimStep P c) (BreaksProps P [] (Def c.def) c.props)
unfolding claim_found
exact_claim P c = exact_as
    (exact_then (exact_props P [] (Def c.def) c.props) (λ _ fit. exact_ok (with_obligations P (obligations_of c.def c.props))))
    (λ Q both. record { fit = both.is; same = both.after })
    (λ Q step. record { x = tt; is = step.fit; after = step.same })
    (λ b br. elim br [ first wrong ↦ wrong | later _ fit nothing ↦ absurd nothing ])
    (λ b br. first br)
