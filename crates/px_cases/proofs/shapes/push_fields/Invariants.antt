use Rattle.std.proofs.Common.{◌≡◌, ◌++◌, take}
use Rattle.px_terms.specs.Types.{tys_instance}
use Rattle.px_terms.specs.Typing.{live}
use Rattle.px_cases.proofs.shapes.push_fields.Given as goal

abbrev pub invariant-loop-field : goal.invariant-loop-field
invariant-loop-field l = l.vars ≡ l.initial.vars ++ live (tys_instance l.shape.args.now (take l.field-index l.shape.constructor.now.fields))
