-- What the code's own words for standings and for the pattern variables around a term say.
use Rattle.std.specs.Prelude.{List, [], ◌++◌, replicate}
use Rattle.px_terms.specs.Descent as descent
use Rattle.px_descent.specs.declared.standing.Standing.{Standing}
use Rattle.px_descent.specs.declared.standing.Standing.TheVariants.{Itself, Below, Elsewhere}
use Rattle.px_descent.specs.declared.around.Around.{Around}
use Rattle.px_descent.specs.declared.around.Around.TheOpen.{Around-F}
use Rattle.px_descent.specs.declared.around.Around.TheFolds.{fold-Around}

-- the standing that the code's word says
abbrev pub standing_of : Standing → descent.Standing
standing_of (Itself p) = descent.itself p
standing_of (Below p) = descent.below p
standing_of Elsewhere = descent.elsewhere

-- in an arm the pattern's variables come first, and then those around the match
abbrev pub bound_step : Around-F (List descent.Standing) → List descent.Standing
bound_step Around-F.Body = []
bound_step (Around-F.Arm fields stands outer) = replicate fields (standing_of stands) ++ outer.now

-- what the pattern variables around a term are, from the inside
abbrev pub bound_of : Around → List descent.Standing
bound_of = fold-Around (List descent.Standing) bound_step
