-- What is spelled in a row may stand in it.
use Rattle.std.proofs.Common.{◌≡◌, ◌≤◌, List, [], ◌∷◌, subst, sym, All}
use Rattle.std.specs.List.{AllByRecursion}
use Rattle.std.proofs.lemmas.List.Elements.{All-nil, All-cons}
use Rattle.px_base.specs.declared.limits.TheConstants.{ROW_DEPTH}
use Rattle.px_base.specs.declared.names.Names.{Names}
use Rattle.px_terms.specs.declared.types.Ty.{Ty}
use Rattle.px_terms.specs.declared.types.Fun.{Fun}
use Rattle.px_terms.specs.declared.term.Term.{Term, out-Term}
use Rattle.px_terms.specs.declared.term.Term.TheOpen.{Term-F}
use Rattle.px_terms.specs.declared.clause.Sigma.{Sigma}
use Rattle.px_terms.specs.declared.row.Ref.{Ref}
use Rattle.px_terms.specs.declared.row.Ref.TheVariants as reference
use Rattle.px_terms.specs.Types.{ty_depth, tys_depth}
use Rattle.px_terms.specs.Rows.{IsMatchFree, AreMatchFree, free, literal, construction, call, none, more, MayStand, SigmaMayStand}
use Rattle.px_derive.specs.Spellable as spellable
use Rattle.px_derive.specs.Spellable.{IsSpellableTerm, AreSpellableTerms, IsRowType, IsRowFunction, IsRowTerm, IsRowSigma, IsSpellableNote}

mutual
  match_free : (names : Names) (t : Term-F Term) → IsSpellableTerm names t → IsMatchFree t
  match_free names _ (spellable.free small) = free
  match_free names _ (spellable.literal small) = literal
  match_free names _ (spellable.construction con types fields) = construction (all_match_free names _ fields)
  match_free names _ (spellable.call f funs args) = call (all_match_free names _ args)

  all_match_free : (names : Names) (ts : List Term) → AreSpellableTerms names ts → AreMatchFree ts
  all_match_free names [] spellable.no_terms = none
  all_match_free names (t ∷ ts) (spellable.more_terms first others) = more (match_free names (out-Term t) first) (all_match_free names ts others)

each : {X : Type 0} (Q R : X → Type 0) (xs : List X) → ((x : X) → Q x → R x) → AllByRecursion Q xs → All R xs
each Q R [] gives all = All-nil R
each Q R (x ∷ xs) gives all = All-cons R x xs (gives x all.0) (each Q R xs gives all.1)

pub term_may_stand : (names : Names) (t : Term) → IsRowTerm names t → MayStand t
term_may_stand names t is = record { match_free = match_free names (out-Term t) is.spellable; depth = is.depth }

sigma_may_stand : (names : Names) (sigma : Sigma) → IsRowSigma names sigma → SigmaMayStand sigma
sigma_may_stand names sigma is = record {
  types = each (IsRowType names) (λ (T : Ty). ty_depth T ≤ ROW_DEPTH) sigma.types (λ T row. row.depth) is.types;
  funs = each (IsRowFunction names) (λ (f : Fun). tys_depth f.types ≤ ROW_DEPTH) sigma.funs (λ f row. row.depth) is.funs;
  terms = each (IsRowTerm names) MayStand sigma.terms (term_may_stand names) is.terms;
}

-- what a note puts in may stand in it
pub note_may_stand : (names : Names) (about : Ref) (sigma : Sigma) → IsSpellableNote names about sigma → SigmaMayStand sigma
note_may_stand names (reference.Property h p) sigma is = sigma_may_stand names sigma is.1
note_may_stand names (reference.Lemma n) sigma is = sigma_may_stand names sigma is.1
note_may_stand names reference.Hypothesis sigma is = record {
  types = subst (All (λ (T : Ty). ty_depth T ≤ ROW_DEPTH)) (sym is.types) (All-nil (λ (T : Ty). ty_depth T ≤ ROW_DEPTH));
  funs = subst (All (λ (f : Fun). tys_depth f.types ≤ ROW_DEPTH)) (sym is.funs) (All-nil (λ (f : Fun). tys_depth f.types ≤ ROW_DEPTH));
  terms = each (IsRowTerm names) MayStand sigma.terms (term_may_stand names) is.terms;
}

-- the hypothesis puts in terms alone
pub own_types_empty : (names : Names) (about : Ref) (sigma : Sigma) → IsSpellableNote names about sigma → about ≡ reference.Hypothesis → sigma.types ≡ []
own_types_empty names (reference.Property h p) sigma is same = (let e : reference.Property h p ≡ reference.Hypothesis = same in cc)
own_types_empty names (reference.Lemma n) sigma is same = (let e : reference.Lemma n ≡ reference.Hypothesis = same in cc)
own_types_empty names reference.Hypothesis sigma is same = is.types

pub own_funs_empty : (names : Names) (about : Ref) (sigma : Sigma) → IsSpellableNote names about sigma → about ≡ reference.Hypothesis → sigma.funs ≡ []
own_funs_empty names (reference.Property h p) sigma is same = (let e : reference.Property h p ≡ reference.Hypothesis = same in cc)
own_funs_empty names (reference.Lemma n) sigma is same = (let e : reference.Lemma n ≡ reference.Hypothesis = same in cc)
own_funs_empty names reference.Hypothesis sigma is same = is.funs
