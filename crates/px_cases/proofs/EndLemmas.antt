-- What an engine's facts say of its answer: its children are the cases, or a child is over the limits.
use Rattle.std.proofs.Common.{◌≡◌, ◌≢◌, Result, Ok, Err, IfOk, IsErr, IsErrAnd, MatchResult, All, refl, sym, subst, ap, ◌∙◌}
use Rattle.std.specs.Prelude.{IfErr}
use Rattle.px_cases.specs.declared.ends.SplitEnd.{SplitEnd}
use Rattle.px_cases.specs.declared.ends.SplitEnd.TheVariants as ends
use Rattle.px_cases.specs.Ends.{IsOversized}

-- an end that is passed on keeps what was said of it
pub ends_so : {X : Type 0} (r : Result X SplitEnd) (P Q : SplitEnd → Type 0) → IsErr r × IsErrAnd r P → ((e : SplitEnd) → P e → Q e) → IfErr r Q
ends_so (Ok x) P Q told is = tt
ends_so (Err e) P Q told is = is e told.1

-- where less fits, more does not
pub less_fits : (end : SplitEnd) (F G : Type 0) → IsOversized F end → (G → F) → IsOversized G end
less_fits ends.Oversize F G over part = λ whole. over (part whole)
less_fits ends.NoMemory F G over part = tt
less_fits ends.NotData F G over part = absurd over
less_fits ends.IllTyped F G over part = absurd over
less_fits ends.NoSuchFact F G over part = absurd over
less_fits ends.NotSameHead F G over part = absurd over

-- an end of a part that is passed on is an end of the whole
pub part_ends : {X : Type 0} (r : Result X SplitEnd) (before : SplitEnd) (F G : Type 0) → IsErr r × IsErrAnd r (λ e. e ≡ before) → IsOversized F before → (G → F) → IfErr r (IsOversized G)
part_ends r before F G told over part = ends_so r (λ e. e ≡ before) (IsOversized G) told (λ e same. subst (IsOversized G) (sym same) (less_fits before F G over part))

-- the children are as they should be, and within the limits
pub right_ok : {X : Type 0} (Is Fits : X → Type 0) (all : X) (r : Result X SplitEnd) → Is all → IfOk r (λ x. x ≡ all) → IfOk r Fits → IfOk r (λ x. Is x × Fits x)
right_ok Is Fits all (Ok x) is same fits = (subst Is (sym same) is, fits)
right_ok Is Fits all (Err e) is same fits = same

-- what there is within the limits is the answer
pub right_only : {X : Type 0} (Is Fits : X → Type 0) (all : X) (r : Result X SplitEnd) → ((x : X) → Is x → x ≡ all) → IfOk r (λ x. x ≡ all) → IfErr r (IsOversized (Fits all)) → (x : X) → Is x → Fits x → MatchResult r (λ found. found ≡ x) (λ end. end ≡ ends.NoMemory)
right_only Is Fits all (Ok y) one same over x is fits = same ∙ sym (one x is)
right_only Is Fits all (Err ends.Oversize) one same over x is fits = absurd (over (subst Fits (one x is) fits))
right_only Is Fits all (Err ends.NoMemory) one same over x is fits = refl
right_only Is Fits all (Err ends.NotData) one same over x is fits = absurd over
right_only Is Fits all (Err ends.IllTyped) one same over x is fits = absurd over
right_only Is Fits all (Err ends.NoSuchFact) one same over x is fits = absurd over
right_only Is Fits all (Err ends.NotSameHead) one same over x is fits = absurd over

-- what is said of an end that came
pub said_of : {X : Type 0} (r : Result X SplitEnd) (end : SplitEnd) (P : SplitEnd → Type 0) → IfErr r P → r ≡ Err end → P end
said_of {X} r end P said is = subst (λ (q : Result X SplitEnd). IfErr q P) is said

-- the cases are over the limits
pub right_oversize : {X : Type 0} (Is Fits : X → Type 0) (all : X) (r : Result X SplitEnd) → Is all → IfErr r (IsOversized (Fits all)) → r ≡ Err ends.Oversize → (x : X) × Is x × ¬ Fits x
right_oversize Is Fits all r is over came = (all, is, said_of r ends.Oversize (IsOversized (Fits all)) over came)
