use Rattle.std.proofs.Common.{◌≡◌, refl, sym, ap, ◌∙◌, [], true, false}
use Rattle.px_terms.specs.declared.types.Ty.{out-Ty}
use Rattle.px_terms.specs.declared.types.Ty.TheVariants as type
use Rattle.px_terms.specs.declared.types.Ty.TheOpen.{Ty-F}
use Rattle.px_terms.specs.Programs.{bool_type}
use Rattle.px_props.specs.Signatures.{compared}
use Rattle.px_props.proofs.clauses.fits_comparison.Goals as goal

-- the truth values are no words
not_word : bool_type ≡ type.Word → false ≡ true
not_word e = let h : Ty-F.Con 0 [] ≡ Ty-F.Word = sym (type.outs-Con 0 []) ∙ (ap out-Ty e ∙ type.outs-Word) in cc

pub returns-in-Any : goal.returns-in-Any
returns-in-Any c = λ h. (λ _. (c.in-Any.ensures (compared h)).1 tt, λ _. refl)

pub returns-in-Last : goal.returns-in-Last
returns-in-Last c = λ h. (λ (no_word : false ≡ true). absurd (cc), λ has. not_word ((c.in-Last.ensures (compared h)).0 has))

pub returns-in-Truth : goal.returns-in-Truth
returns-in-Truth c = λ h. (λ _. (c.in-Truth.ensures (compared h)).1 refl, λ _. refl)
