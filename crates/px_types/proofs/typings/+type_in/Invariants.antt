use Rattle.px_terms.specs.Types.{tys_instance}
use Rattle.px_types.specs.Bounds.{bound_of, here}
use Rattle.px_types.specs.TypeOf.{type_found}
use Rattle.px_types.proofs.TypeOfSteps.{HaveSo, ArmsSo}
use Rattle.px_types.proofs.typings.+type_in.Given as goal

abbrev pub invariant-have_types-loop-index : goal.invariant-have_types-loop-index
invariant-have_types-loop-index l = HaveSo (type_found (here l.scope)) (bound_of l.around) l.parts (tys_instance l.wanted.types.now l.wanted.tys.now) l.index

abbrev pub invariant-arms_type-loop-index : goal.invariant-arms_type-loop-index
invariant-arms_type-loop-index l = ArmsSo (type_found (here l.scope)) (bound_of l.around) l.matched.types.now l.arms l.matched.cons.now l.index l.agreed
