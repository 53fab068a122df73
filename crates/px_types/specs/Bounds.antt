-- What the code's own words for what is in scope at a term say.
use Rattle.std.specs.Prelude.{List, [], ◌++◌, reverse}
use Rattle.px_terms.specs.declared.types.Ty.{Ty}
use Rattle.px_terms.specs.Types.{tys_instance}
use Rattle.px_types.specs.declared.scope.Scope.{Scope}
use Rattle.px_types.specs.declared.bounds.Around.{Around}
use Rattle.px_types.specs.declared.bounds.Around.TheOpen.{Around-F}
use Rattle.px_types.specs.declared.bounds.Around.TheFolds.{fold-Around}
use Rattle.px_types.specs.Faults.{Env}
use Rattle.px_types.specs.TypeOf.{at_no_place}

-- the program and the variables, at no place of the text
abbrev pub here : Scope → Env
here scope = at_no_place scope.program.now scope.context.now

-- in an arm the pattern's variables come first, the last one in front, and then those around the match
abbrev pub bound_step : Around-F (List Ty) → List Ty
bound_step Around-F.Outside = []
bound_step (Around-F.Arm fields types outer) = reverse (tys_instance types.now fields.now) ++ outer.now

-- the types of the pattern variables around a term, the innermost first
abbrev pub bound_of : Around → List Ty
bound_of = fold-Around (List Ty) bound_step
