-- The first sequent of an obligation is typed.
use Rattle.std.proofs.Common.{◌≡◌, ℕ, ◌<◌, List, [], ◌∷◌, map, length, Some, get_or, refl, sym, ap}
use Rattle.std.proofs.lemmas.List.{length-map}
use Rattle.std.proofs.lemmas.List.Elements.{All-map, All-weaker}
use Rattle.std.proofs.lemmas.Option.{slice_get-get_or}
use Rattle.px_terms.specs.declared.types.Ty.{Ty}
use Rattle.px_terms.specs.declared.types.Ty.TheVariants as type
use Rattle.px_terms.specs.declared.term.Term.TheVariants as term
use Rattle.px_terms.specs.declared.sequent.Present.{Present}
use Rattle.px_terms.specs.TypedSequents.{IsTypedPresent}
use Rattle.px_soundness.specs.Argument.{FirstSequentsAreTyped, IsTypedClause}
use Rattle.px_soundness.proofs.ClausesTyped.{own_typed}
use Rattle.px_soundness.proofs.RowsInstances.{live_there, free_has, clause_alone}

-- a variable as its own present term
abbrev itself : ℕ → Present
itself v = record { variable = v; term = term.Free v }

own_variables : (on : List ℕ) → map (λ (p : Present). p.variable) (map itself on) ≡ on
own_variables [] = refl
own_variables (v ∷ on) = ap (λ (vs : List ℕ). v ∷ vs) (own_variables on)

pub first_sequents_are_typed : FirstSequentsAreTyped
first_sequents_are_typed Q founded n own obligation on are = record {
  typed = record {
    next = sym (length-map own.vars (λ (T : Ty). Some T));
    context = is.types;
    below = All-map (λ (p : Present). p.variable < length own.vars) itself on are.within;
    alternatives = is.alternatives;
    facts = is.premises;
    present =
        All-map (IsTypedPresent Q (clause_alone own)) itself on
        (All-weaker (λ (v : ℕ). v < length own.vars) (λ (v : ℕ). IsTypedPresent Q (clause_alone own) (itself v)) present on are.within);
  };
  tparams = refl;
  funs = refl;
  frame = own_variables on;
}
  where
    is : IsTypedClause Q (clause_alone own) own
    is = own_typed Q founded.typed n own obligation

    present : (v : ℕ) → v < length own.vars → IsTypedPresent Q (clause_alone own) (itself v)
    present v within =
        let T : Ty = get_or own.vars v type.Word in
        record { T = T; term = free_has Q (clause_alone own) v T (live_there own.vars v T (slice_get-get_or own.vars v type.Word within)) }
