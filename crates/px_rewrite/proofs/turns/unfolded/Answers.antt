use Rattle.std.proofs.Common.{◌≡◌, arith, refl, sym, ap, ◌∙◌, slice_get, List}
use Rattle.px_terms.specs.declared.row.Kind.TheVariants as kind
use Rattle.px_terms.specs.Terms.{term_instance, term_size}
use Rattle.px_terms.specs.declared.program.Def.{Def}
use Rattle.px_rewrite.proofs.TurnLemmas.{unfolded_turns, one_turn}
use Rattle.px_rewrite.proofs.turns.unfolded.Goals as goal

pub returns-clause-turns : goal.returns-clause-turns
returns-clause-turns c = λ facts.
    let types : c.in_ok-copy_tys.field-0 ≡ c.in-Call.fun.types = c.in_ok-copy_tys.ensures ∙ c.as_slice-2.ensures in
    let funs : c.in_ok-copy_funs.field-0 ≡ c.in-Call.funs = c.in_ok-copy_funs.ensures ∙ c.as_slice-3.ensures in
    let terms : c.in_ok-copy_terms.field-0 ≡ c.in-Call.args = c.in_ok-copy_terms.ensures ∙ c.as_slice-4.ensures in
    unfolded_turns c.args.program.now facts c.args.part.now c.in-Call.fun c.in-Call.funs c.in-Call.args c.in-Def.number c.in-Some.def.now c.in_ok-instance.field-0 c.in-Call.is c.in-Def.is (ap (λ (ds : List Def). slice_get ds c.in-Def.number) (sym c.as_slice.ensures) ∙ sym c.in-Some.ensures) (c.in_ok-instance.ensures ∙ rw (types, funs, terms) refl)

pub returns-then-size_of_instance-room-clause-only : goal.returns-then-size_of_instance-room-clause-only
returns-then-size_of_instance-room-clause-only c = λ facts t turns nodes.
    let types : c.in_ok-copy_tys.field-0 ≡ c.in-Call.fun.types = c.in_ok-copy_tys.ensures ∙ c.as_slice-2.ensures in
    let funs : c.in_ok-copy_funs.field-0 ≡ c.in-Call.funs = c.in_ok-copy_funs.ensures ∙ c.as_slice-3.ensures in
    let terms : c.in_ok-copy_terms.field-0 ≡ c.in-Call.args = c.in_ok-copy_terms.ensures ∙ c.as_slice-4.ensures in
    let body = term_instance (record { types = c.in_ok-copy_tys.field-0; funs = c.in_ok-copy_funs.field-0; terms = c.in_ok-copy_terms.field-0 }) c.in-Some.def.now.body in
    let made = unfolded_turns c.args.program.now facts c.args.part.now c.in-Call.fun c.in-Call.funs c.in-Call.args c.in-Def.number c.in-Some.def.now body c.in-Call.is c.in-Def.is (ap (λ (ds : List Def). slice_get ds c.in-Def.number) (sym c.as_slice.ensures) ∙ sym c.in-Some.ensures) (rw (types, funs, terms) refl) in
    let same = one_turn c.args.program.now facts kind.Unfold c.args.part.now body t made turns in
    let nodes_are : term_size body ≡ term_size t = ap term_size same in
    absurd (omega (arith, nodes, nodes_are, c.size_of_instance.ensures, c.if-size_of_instance-room.true))
