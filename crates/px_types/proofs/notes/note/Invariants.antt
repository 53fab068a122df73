use Rattle.std.proofs.Common.{◌≡◌, ◌||◌}
use Rattle.px_base.specs.PropSets.{has_prop}
use Rattle.px_base.specs.declared.prop.Prop.{Prop}
use Rattle.px_types.proofs.NoteLemmas.{among_first}
use Rattle.px_types.proofs.notes.note.Given as goal

abbrev pub invariant-loop-written : goal.invariant-loop-written
invariant-loop-written l = (p : Prop) → has_prop l.set p ≡ (has_prop l.initial.set p || among_first l.written-index l.props p)
