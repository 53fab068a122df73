-- An arm with the fields of a constructor put in, part by part.
use Rattle.std.specs.Prelude.{◌≡◌, ℕ, ◌-◌, ◌^◌, min, List, map}
use Rattle.px_terms.specs.declared.term.Term.{Term}
use Rattle.px_terms.specs.declared.term.Term.TheFolds.{fold-Term}
use Rattle.px_terms.specs.declared.program.Program.{Program}
use Rattle.px_terms.specs.Steps.{fields_step, arms_with}
use Rattle.px_rewrite.specs.declared.opening.Opening.{Opening}

-- a part of an arm with these fields put in, by how many pattern variables of inner arms are around it
abbrev pub opened : Program → List Term → Term → ℕ → Term
opened P fields = fold-Term (ℕ → Term) (fields_step P fields)

-- the parts with these fields put in, all under so many pattern variables of inner arms
abbrev pub opened_parts : Program → List Term → List Term → ℕ → List Term
opened_parts P fields parts inner = map (λ (part : Term). opened P fields part inner) parts

-- the arms of an inner match with these fields put in
abbrev pub opened_arms : Program → List Term → ℕ → List Term → ℕ → List Term
opened_arms P fields d arms inner = arms_with P d 0 (map (opened P fields) arms) inner

-- so many pattern variables of inner arms are around the part at hand, as the code counts them
abbrev pub AreAround : Opening → ℕ → Type 0
AreAround opening inner = opening.inner ≡ min inner (2 ^ 64 - 1)

-- a part of an arm with the fields put in
abbrev pub opened_in : Opening → Term → ℕ → Term
opened_in opening = opened opening.program.now opening.fields.now

-- parts of an arm with the fields put in
abbrev pub opened_parts_in : Opening → List Term → ℕ → List Term
opened_parts_in opening = opened_parts opening.program.now opening.fields.now

-- the arms of an inner match on this datatype with the fields put in
abbrev pub opened_arms_in : Opening → ℕ → List Term → ℕ → List Term
opened_arms_in opening = opened_arms opening.program.now opening.fields.now
