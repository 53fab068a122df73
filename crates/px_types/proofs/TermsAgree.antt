-- Typing is carried along between programs that agree: terms, written ones too.
use Rattle.std.proofs.Common.{◌≡◌, ℕ, List, length}
use Rattle.px_base.specs.declared.raw.RawKind.{RawKind}
use Rattle.px_base.specs.declared.raw.RawKind.TheOpen.{RawKind-F}
use Rattle.px_base.specs.declared.raw.RawTerm.{RawTerm}
use Rattle.px_base.specs.declared.raw.RawArm.{RawArm}
use Rattle.px_base.specs.declared.raw.RawEquation.{RawEquation}
use Rattle.px_base.specs.declared.raw.RawLemma.{RawLemma}
use Rattle.px_base.specs.declared.raw.RawReplica.{RawReplica}
use Rattle.px_terms.specs.declared.types.Ty.{Ty}
use Rattle.px_terms.specs.declared.term.Term.{Term}
use Rattle.px_terms.specs.declared.term.Term.TheOpen.{Term-F}
use Rattle.px_terms.specs.declared.clause.Equation.{Equation}
use Rattle.px_terms.specs.declared.program.ConDef.{ConDef}
use Rattle.px_terms.specs.declared.program.Lemma.{Lemma}
use Rattle.px_terms.specs.declared.program.ReplicaDef.{ReplicaDef}
use Rattle.px_terms.specs.declared.program.Program.{Program}
use Rattle.px_terms.specs.declared.sequent.Context.{Context}
use Rattle.px_terms.specs.Programs.{constructor_at}
use Rattle.px_terms.specs.Typing.{Place, HasTypeLayer, HaveTypes, HaveTypesInArms}
use Rattle.px_terms.specs.Typing as typing
use Rattle.px_types.specs.Written.{HasPattern, IsTermLayer, AreTerms, AreArms}
use Rattle.px_types.specs.Written as written
use Rattle.px_types.specs.Faults.{Env, IsTyped, AreTyped}
use Rattle.px_types.specs.Faults as faults
use Rattle.px_types.specs.Declarations.{IsEquation, AreEquations, IsLemma, IsReplica}
use Rattle.px_types.specs.Declarations as declarations
use Rattle.px_types.proofs.Appending.{there_of, some_and}
use Rattle.px_types.proofs.Agreement.{Agrees, type_agrees, on_types, constructor_agrees, function_agrees, may_call_agrees, arguments_agree}

-- Typed terms.
module _ {P Q : Program} (agree : Agrees P Q) where
  mutual
    pub term_agrees : {place : Place} {context : Context} {bound : List Ty} {layer : Term-F Term} {T : Ty} →
        HasTypeLayer P place context bound layer T → HasTypeLayer Q place context bound layer T
    term_agrees (typing.free stands met) = typing.free stands met
    term_agrees (typing.bound stands met) = typing.bound stands met
    term_agrees (typing.lit small e) = typing.lit small e
    term_agrees (typing.con {d = d} {k = k} {c = c} stands is_type e met have) =
        typing.con (constructor_agrees agree d k c stands) (type_agrees (on_types agree) is_type) e met (terms_agree have)
    term_agrees {place} (typing.call {f = f} function may types_met met arguments have) =
        let callable = may_call_agrees agree place f.head f.types may in
        typing.call (function_agrees agree function) callable types_met met (arguments_agree agree arguments) (terms_agree have)
    term_agrees (typing.choose {d = d} {D = D} on e stands arms) = typing.choose (term_agrees on) e (agree.datatypes d D stands) (arms_agree arms)

    pub terms_agree : {place : Place} {context : Context} {bound : List Ty} {ts : List Term} {types : List Ty} →
        HaveTypes P place context bound ts types → HaveTypes Q place context bound ts types
    terms_agree typing.none = typing.none
    terms_agree (typing.more has have) = typing.more (term_agrees has) (terms_agree have)

    pub arms_agree : {place : Place} {context : Context} {bound types : List Ty} {cs : List ConDef} {arms : List Term} {T : Ty} →
        HaveTypesInArms P place context bound types cs arms T → HaveTypesInArms Q place context bound types cs arms T
    arms_agree typing.no_arm = typing.no_arm
    arms_agree (typing.arm fields has arms) = typing.arm fields (term_agrees has) (arms_agree arms)

-- Written terms.
module _ {P Q : Program} (agree : Agrees P Q) where
  pub pattern_agrees : (arm : RawArm) → HasPattern P arm → HasPattern Q arm
  pattern_agrees arm h =
      let here = there_of (constructor_at P arm.datatype arm.con) (λ (c : ConDef). length arm.vars ≡ length c.fields) h in
      some_and (constructor_at Q arm.datatype arm.con) (λ (c : ConDef). length arm.vars ≡ length c.fields) here.item
      (constructor_agrees agree arm.datatype arm.con here.item here.is) here.holds

  mutual
    pub raw_term_agrees : {layer : RawKind-F RawKind RawArm RawTerm} {t : Term} → IsTermLayer P layer t → IsTermLayer Q layer t
    raw_term_agrees (written.free e) = written.free e
    raw_term_agrees (written.bound e) = written.bound e
    raw_term_agrees (written.literal e) = written.literal e
    raw_term_agrees (written.construction types fields e) = written.construction types (raw_terms_agree fields) e
    raw_term_agrees (written.call f funs args e) = written.call f funs (raw_terms_agree args) e
    raw_term_agrees (written.choice on arms distinct count e) = written.choice (raw_term_agrees on) (raw_arms_agree arms) distinct count e

    pub raw_terms_agree : {raws : List RawTerm} {ts : List Term} → AreTerms P raws ts → AreTerms Q raws ts
    raw_terms_agree written.none = written.none
    raw_terms_agree (written.more is are) = written.more (raw_term_agrees is) (raw_terms_agree are)

    pub raw_arms_agree : {d : ℕ} {bodies : List Term} {arms : List RawArm} → AreArms P d bodies arms → AreArms Q d bodies arms
    raw_arms_agree written.no_arm = written.no_arm
    raw_arms_agree (written.arm {raw = raw} of pattern stands body arms) =
        written.arm of (pattern_agrees raw pattern) stands (raw_term_agrees body) (raw_arms_agree arms)

  pub equation_agrees : {raw : RawEquation} {e : Equation} → IsEquation P raw e → IsEquation Q raw e
  equation_agrees is = record { left = raw_term_agrees is.left; right = raw_term_agrees is.right }

  pub equations_agree : {raws : List RawEquation} {es : List Equation} → AreEquations P raws es → AreEquations Q raws es
  equations_agree declarations.none = declarations.none
  equations_agree (declarations.more is are) = declarations.more (equation_agrees is) (equations_agree are)

  pub raw_lemma_agrees : {raw : RawLemma} {l : Lemma} → IsLemma P raw l → IsLemma Q raw l
  raw_lemma_agrees is = record {
    tparams = is.tparams;
    funs = is.funs;
    vars = is.vars;
    premises = equations_agree is.premises;
    conclusion = equation_agrees is.conclusion;
  }

  pub raw_replica_agrees : {seen : ℕ} {raw : RawReplica} {r : ReplicaDef} → IsReplica P seen raw r → IsReplica Q seen raw r
  raw_replica_agrees is = record { state = is.state; from = raw_term_agrees is.from; merge = is.merge; funs = is.funs; stands = is.stands }

-- Written terms with their types.
module _ {P Q : Program} (agree : Agrees P Q) (place : Place) (context : Context) where
  -- what is in scope at the place in a program
  abbrev pub scope_in : Program → Env
  scope_in R = record { program = R; place = place; context = context }

  pub typed_agrees : {bound : List Ty} {layer : RawKind-F RawKind RawArm RawTerm} {t : Term} {T : Ty} → IsTyped (scope_in P) bound layer t T →
      IsTyped (scope_in Q) bound layer t T
  typed_agrees typed = record { is = raw_term_agrees agree typed.is; has = term_agrees agree typed.has }

  pub all_typed_agree : {bound : List Ty} {raws : List RawTerm} {types : List Ty} → AreTyped (scope_in P) bound raws types →
      AreTyped (scope_in Q) bound raws types
  all_typed_agree faults.none = faults.none
  all_typed_agree (faults.more is are) = faults.more (typed_agrees is) (all_typed_agree are)
