-- What is found of a term, as the type that it has.
use Rattle.std.proofs.Common.{◌≡◌, [], Option, Some, None, Result, Ok, Err, refl, sym, ◌∙◌}
use Rattle.std.specs.Prelude.{IfOk, MatchResult}
use Rattle.px_terms.specs.declared.types.Ty.{Ty}
use Rattle.px_terms.specs.declared.term.Term.{Term}
use Rattle.px_terms.specs.declared.program.Program.{Program}
use Rattle.px_terms.specs.declared.sequent.Context.{Context}
use Rattle.px_terms.specs.Typing.{anywhere, HasType}
use Rattle.px_types.specs.declared.typings.NotTyped.{NotTyped}
use Rattle.px_types.specs.declared.typings.NotTyped.TheVariants.{IllTyped, NoMemory}
use Rattle.px_types.specs.TypeOf.{HasConstructors, at_no_place, Finds, type_found}
use Rattle.px_types.proofs.TypeOfExact.{types_exact}

module _ (P : Program) (context : Context) (t : Term) (some : HasConstructors P) where
  abbrev Has : Ty → Type 0
  Has T = HasType P anywhere context t T

  abbrev pub TypeFound : Option Ty
  TypeFound = type_found (at_no_place P context) t []

  pub answers_ok : (r : Result Ty NotTyped) → Finds TypeFound r → IfOk r Has
  answers_ok (Ok T) e = (types_exact P context t [] T some).0 e
  answers_ok (Err end) e = tt

  pub answers_only : (r : Result Ty NotTyped) → Finds TypeFound r → (T : Ty) → Has T → MatchResult r (λ found. found ≡ T) (λ end. end ≡ NoMemory)
  answers_only (Ok U) e T has = one U T (sym e ∙ (types_exact P context t [] T some).1 has)
    where
      one : (U T : Ty) → ◌≡◌ {A = Option Ty} (Some U) (Some T) → U ≡ T
      one U T e = cc
  answers_only (Err IllTyped) e T has = absurd (no_some T (sym e ∙ (types_exact P context t [] T some).1 has))
    where
      no_some : (T : Ty) → ◌≡◌ {A = Option Ty} None (Some T) → ⊥
      no_some T e = cc
  answers_only (Err NoMemory) e T has = refl

  pub answers_ill : (r : Result Ty NotTyped) → Finds TypeFound r → r ≡ Err IllTyped → (T : Ty) → ¬ Has T
  answers_ill (Ok U) e ill T has = no_ok U ill
    where
      no_ok : (U : Ty) → ◌≡◌ {A = Result Ty NotTyped} (Ok U) (Err IllTyped) → ⊥
      no_ok U e = cc
  answers_ill (Err IllTyped) e ill T has = no_some T (sym e ∙ (types_exact P context t [] T some).1 has)
    where
      no_some : (T : Ty) → ◌≡◌ {A = Option Ty} None (Some T) → ⊥
      no_some T e = cc
  answers_ill (Err NoMemory) e ill T has = other ill
    where
      other : ◌≡◌ {A = Result Ty NotTyped} (Err NoMemory) (Err IllTyped) → ⊥
      other e = cc
