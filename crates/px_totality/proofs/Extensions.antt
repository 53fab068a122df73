-- Extensions of extensions; and a definition that gives its first value is not commutative.
use Rattle.std.proofs.Common.{◌≡◌, List, [], ◌∷◌, ◌++◌, Some, append_assoc, append-nil, refl, sym, ap, ◌∙◌, subst}
use Rattle.std.specs.Option.{option_map}
use Rattle.px_terms.specs.Head.TheVariants.{Def}
use Rattle.px_terms.specs.Prop.TheVariants.{Comm}
use Rattle.px_terms.specs.declared.types.Ty.{Ty}
use Rattle.px_terms.specs.declared.types.Fun.{Fun}
use Rattle.px_terms.specs.declared.term.Term.TheVariants as term
use Rattle.px_terms.specs.declared.program.Def as definition
use Rattle.px_terms.specs.declared.program.Program.{Program}
use Rattle.px_terms.specs.Programs.{body_of}
use Rattle.px_terms.specs.Types.{tys_instance}
use Rattle.px_terms.specs.Values.{IsIn, AreIn}
use Rattle.px_terms.specs.Values as values
use Rattle.px_terms.specs.Meaning.{defined}
use Rattle.px_terms.specs.Typing as typing
use Rattle.px_terms.specs.Clauses.{Subject}
use Rattle.px_terms.specs.Extending.{BeginsWith, IsWellFounded, IsExtension, HasInProgram}
use Rattle.px_totality.specs.Laws.{ExtensionsCompose}
use Rattle.px_totality.specs.ExampleLaws.{FirstIsNotCommutative}
use Rattle.px_totality.proofs.Closed.{same_ends, one_type}
use Rattle.px_totality.proofs.Examples.{variable_means}
use Rattle.px_totality.proofs.Applied.{nothing_put_in, Ap}
use Rattle.px_totality.proofs.Properties.{comm_says}
use Rattle.px_totality.proofs.Declared.{declared_is_had}

begins_itself : {A : Type 0} (xs : List A) → BeginsWith xs xs
begins_itself xs = record { more = []; is = sym (append-nil xs) }

begins_further : {A : Type 0} (xs ys zs : List A) → BeginsWith zs ys → BeginsWith ys xs → BeginsWith zs xs
begins_further {A} xs ys zs late early = record {
  more = early.more ++ late.more;
  is = late.is ∙ ap (λ (front : List A). front ++ late.more) early.is ∙ append_assoc xs early.more late.more;
}

extends_itself : (P : Program) → IsWellFounded P → IsExtension P P
extends_itself P founded = record {
  datatypes = begins_itself P.datatypes;
  defs = begins_itself P.defs;
  lemmas = begins_itself P.lemmas;
  declared = begins_itself P.declared;
  replicas = begins_itself P.replicas;
  founded = founded;
}

pub extends_further : (P Q R : Program) → IsExtension R Q → IsExtension Q P → IsExtension R P
extends_further P Q R late early = record {
  datatypes = begins_further P.datatypes Q.datatypes R.datatypes late.datatypes early.datatypes;
  defs = begins_further P.defs Q.defs R.defs late.defs early.defs;
  lemmas = begins_further P.lemmas Q.lemmas R.lemmas late.lemmas early.lemmas;
  declared = begins_further P.declared Q.declared R.declared late.declared early.declared;
  replicas = begins_further P.replicas Q.replicas R.replicas late.replicas early.replicas;
  founded = late.founded;
}

pub extensions_compose : ExtensionsCompose
extensions_compose = record { itself = extends_itself; further = extends_further }

pub first_is_not_commutative : FirstIsNotCommutative
first_is_not_commutative P founded n D T found no_types no_funs params body v w in_v in_w differ clause says_it holds =
    let f : Fun = record { head = Def n; types = [] } in
    let h : HasInProgram P f Comm =
    declared_is_had P founded n D found no_funs Comm clause says_it (holds.in_each P (extends_itself P founded)) [] (sym no_types) typing.none in
    let s : Subject = h.subject in
    let one : (h.is_subject.params ≡ tys_instance [] D.params) × (s.result ≡ _) =
    one_type P f h.is_subject.takes _ h.is_subject.params (tys_instance [] D.params) s.result _ h.is_subject.function
    (typing.of_definition {D = D} found (sym no_types) typing.none refl refl refl) in
    let ends : (s.leading ≡ []) × (s.last ≡ T) = same_ends s.leading [] s.last T (sym h.is_subject.shape ∙ one.0 ∙ nothing_put_in D.params ∙ params) in
    let no_leading : AreIn P s.leading [] = subst (λ (types : List Ty). AreIn P types []) (sym ends.0) values.none in
    let last_v : IsIn P s.last v = subst (λ (T : Ty). IsIn P T v) (sym ends.1) in_v in
    let last_w : IsIn P s.last w = subst (λ (T : Ty). IsIn P T w) (sym ends.1) in_w in
    let the_body : body_of P n ≡ Some (term.Free 0) = ap (option_map (λ (d : definition.Def). d.body)) found ∙ ap Some body in
    let up : Ap P founded f s h.is_subject [] v w v = record { count = 1; gives = defined the_body (variable_means P [] [] (v ∷ w ∷ []) 0 v refl) refl } in
    let down : Ap P founded f s h.is_subject [] w v w = record { count = 1; gives = defined the_body (variable_means P [] [] (w ∷ v ∷ []) 0 w refl) refl } in
    differ (comm_says P founded f s h.is_subject h.is_true [] v w v w no_leading last_v last_w up down)
