-- What is known of a replica declaration of a checked program: it is typed, and its first value is of the state's type.
use Rattle.std.proofs.Common.{◌≡◌, ℕ, [], Some, slice_get, sym, subst}
use Rattle.px_terms.specs.declared.term.Value.{Value}
use Rattle.px_terms.specs.declared.program.ReplicaDef.{ReplicaDef}
use Rattle.px_terms.specs.declared.program.Program.{Program}
use Rattle.px_terms.specs.Values.{IsIn}
use Rattle.px_terms.specs.Meaning.{Means}
use Rattle.px_terms.specs.TypedPrograms.{IsTypedReplica}
use Rattle.px_terms.specs.Extending.{IsWellFounded}
use Rattle.px_totality.specs.Laws.{ExactlyOne}
use Rattle.px_totality.proofs.TypesOfTerms.{all_at}
use Rattle.px_totality.proofs.EachHasValue.{each_term}
use Rattle.px_descent.specs.Checked.{IsChecked}
use Rattle.px_replicas.proofs.MergeTyping.{first_gives}

-- a checked program is well-founded
pub founded_of : {P : Program} → IsChecked P → IsWellFounded P
founded_of checked = record { typed = checked.typed; descends = checked.descends }

-- each of its replica declarations is typed
pub typed_of : {P : Program} {R : ReplicaDef} (declaration : ℕ) → IsChecked P → slice_get P.replicas declaration ≡ Some R → IsTypedReplica P R
typed_of {P} {R} declaration checked at = all_at (IsTypedReplica P) P.replicas declaration R checked.typed.replicas at

-- the first value of a typed declaration is of the state's type
pub first_is_state : (P : Program) (R : ReplicaDef) → IsWellFounded P → IsTypedReplica P R → (v : Value) (calls : ℕ) → Means P [] [] [] R.from v calls →
    IsIn P R.state v
first_is_state P R founded typed v calls means =
    let one : ExactlyOne P R.state (Means P [] [] [] R.from) = first_gives P R (each_term P founded) typed in
    subst (IsIn P R.state) (sym (one.no_other v calls means).0) one.in_type
