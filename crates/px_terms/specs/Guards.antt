-- The guard of the hypothesis: what is put in for the variables of the frame is part of what they stand for now, and less for one.
use Rattle.std.specs.Prelude.{◌≡◌, ◌≢◌, ℕ, List, ◌∷◌, Some, slice_get, All}
use Rattle.px_terms.specs.declared.types.Ty.{Ty}
use Rattle.px_terms.specs.declared.term.Term.{Term, out-Term}
use Rattle.px_terms.specs.declared.term.Term.TheOpen.{Term-F}
use Rattle.px_terms.specs.declared.sequent.Present.{Present}
use Rattle.px_terms.specs.declared.sequent.Frame.{Frame}

mutual
  -- the part is the whole, or stands in it below constructor fields alone
  pub data IsConSubterm (part : Term) : Term → Type 0 where
    itself : IsConSubterm part part
    inside : {whole : Term} {d k : ℕ} {types : List Ty} {fields : List Term} → out-Term whole ≡ Term-F.Con d k types fields →
        IsInField part fields → IsConSubterm part whole

  -- the part is one of the fields, or stands in it below constructor fields alone
  pub data IsInField (part : Term) : List Term → Type 0 where
    here : {field : Term} {fields : List Term} → IsConSubterm part field → IsInField part (field ∷ fields)
    later : {field : Term} {fields : List Term} → IsInField part fields → IsInField part (field ∷ fields)

-- What is put in for the variable is a constructor-subterm of its present term.
pub record PutsPart (terms : List Term) (p : Present) : Type 0 where
  pub by : Term
  pub put : slice_get terms p.variable ≡ Some by
  pub part : IsConSubterm by p.term

-- What is put in for the variable is not its present term.
pub record PutsOther (terms : List Term) (p : Present) : Type 0 where
  pub by : Term
  pub put : slice_get terms p.variable ≡ Some by
  pub other : by ≢ p.term

-- The guard: each variable of the frame gets a constructor-subterm of its present term, and at least one a proper one.
pub record Guard (frame : Frame) (terms : List Term) : Type 0 where
  pub parts : All (PutsPart terms) frame.entries
  pub number : ℕ
  pub entry : Present
  pub stands : slice_get frame.entries number ≡ Some entry
  pub proper : PutsOther terms entry
