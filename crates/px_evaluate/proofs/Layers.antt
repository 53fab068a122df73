-- What is found of a term, by its outermost part.
use Rattle.std.proofs.Common.{◌≡◌, ℕ, ◌+◌, ◌<◌, ◌^◌, List, [], Option, None, Some, sym, ap, ◌∙◌, subst, slice_get, reverse}
use Rattle.std.specs.Option.{option_map}
use Rattle.px_terms.specs.declared.types.Ty.{Ty}
use Rattle.px_terms.specs.declared.types.Fun.{Fun}
use Rattle.px_terms.specs.declared.term.Term.{Term, out-Term}
use Rattle.px_terms.specs.declared.term.Term.TheVariants.{Free, Bound, Lit, Con, Call, Match, outs-Free, outs-Bound, outs-Lit, outs-Con, outs-Call, outs-Match}
use Rattle.px_terms.specs.declared.term.Term.TheOpen.{Term-F}
use Rattle.px_terms.specs.declared.term.Value.{Value}
use Rattle.px_terms.specs.declared.term.Value.TheVariants as value
use Rattle.px_terms.specs.declared.program.Program.{Program}
use Rattle.px_terms.specs.Meaning.{FunMeans, FunsMean}
use Rattle.px_evaluate.specs.declared.values.Evaluated.{Evaluated}
use Rattle.px_evaluate.specs.declared.values.AllEvaluated.{AllEvaluated}
use Rattle.px_evaluate.specs.declared.scope.Callee.{Callee}
use Rattle.px_evaluate.specs.Nesting.{MeanAllWithin}
use Rattle.px_evaluate.specs.Evaluating.{IsFound}
use Rattle.px_evaluate.specs.Finding.{Finds, IsAtHand, on_fields}
use Rattle.px_evaluate.proofs.Rules.{free_found, bound_found, lit_found, con_found, call_of_nothing}

-- at other lists that are equal
pub evaluated_at : (n : ℕ) (P : Program) (types : List Ty) (funs : List Fun) (rho inner : List Value) (t : Term) (r : Option Evaluated) → types ≡ [] → funs ≡ [] → inner ≡ [] →
    Finds r (IsFound n P types funs rho (reverse inner) (out-Term t)) → Finds r (IsFound n P [] [] rho [] (out-Term t))
evaluated_at n P types funs rho inner t r no_types no_funs no_inner finds =
    subst (λ xs. Finds r (IsFound n P [] [] rho (reverse xs) (out-Term t))) no_inner
    (subst (λ fs. Finds r (IsFound n P [] fs rho (reverse inner) (out-Term t))) no_funs
    (subst (λ ts. Finds r (IsFound n P ts funs rho (reverse inner) (out-Term t))) no_types finds))

module _ (n m : ℕ) (P : Program) (types : List Ty) (funs : List Fun) (rho inner : List Value) (t : Term) (deep : n ≡ m + 1) where
  by_layer : (y : Term-F Term) (r : Option Evaluated) → out-Term t ≡ y → Finds r (IsFound (m + 1) P types funs rho inner y) → Finds r (IsFound n P types funs rho inner (out-Term t))
  by_layer y r is finds = subst (λ k. Finds r (IsFound k P types funs rho inner (out-Term t))) (sym deep) (subst (λ z. Finds r (IsFound (m + 1) P types funs rho inner z)) (sym is) finds)

  pub free_here : (i : ℕ) → t ≡ Free i → (o : Option Value) (r : Option Evaluated) → o ≡ slice_get rho i → Finds r (IsAtHand o) → Finds r (IsFound n P types funs rho inner (out-Term t))
  free_here i is o r o_is finds = by_layer (Term-F.Free i) r (ap out-Term is ∙ outs-Free i) (free_found m P types funs rho inner i o r o_is finds)

  pub bound_here : (i : ℕ) → t ≡ Bound i → (o : Option Value) (r : Option Evaluated) → o ≡ slice_get inner i → Finds r (IsAtHand o) → Finds r (IsFound n P types funs rho inner (out-Term t))
  bound_here i is o r o_is finds = by_layer (Term-F.Bound i) r (ap out-Term is ∙ outs-Bound i) (bound_found m P types funs rho inner i o r o_is finds)

  pub lit_here : (w : ℕ) → t ≡ Lit w → Finds (Some (record { value = value.Lit w; calls = 0 })) (IsFound n P types funs rho inner (out-Term t))
  lit_here w is = by_layer (Term-F.Lit w) (Some (record { value = value.Lit w; calls = 0 })) (ap out-Term is ∙ outs-Lit w) (lit_found m P types funs rho inner w)

  pub con_here : (d k : ℕ) (ts : List Ty) (fields read : List Term) → t ≡ Con d k ts fields → read ≡ fields → (o : Option AllEvaluated) (r : Option Evaluated) →
      Finds o (λ (e : AllEvaluated). MeanAllWithin m P types funs rho inner read e.values e.calls × (e.calls < 2 ^ 64)) → r ≡ option_map (on_fields d k) o →
      Finds r (IsFound n P types funs rho inner (out-Term t))
  con_here d k ts fields read is read_is o r finds r_is = by_layer (Term-F.Con d k ts fields) r (ap out-Term is ∙ outs-Con d k ts fields)
      (con_found m P types funs rho inner d k ts fields o r
      (subst (λ xs. Finds o (λ (e : AllEvaluated). MeanAllWithin m P types funs rho inner xs e.values e.calls × (e.calls < 2 ^ 64))) read_is finds) r_is)

  pub no_call_here : (f : Fun) (fs read : List Fun) (args : List Term) → t ≡ Call f fs args → read ≡ fs → (o : Option Callee) →
      Finds o (λ (callee : Callee). FunMeans types funs f callee.fun × FunsMean types funs read callee.funs) → o ≡ None → Finds None (IsFound n P types funs rho inner (out-Term t))
  no_call_here f fs read args is read_is o finds absent = by_layer (Term-F.Call f fs args) None (ap out-Term is ∙ outs-Call f fs args)
      (call_of_nothing m P types funs rho inner f fs args o
      (subst (λ xs. Finds o (λ (callee : Callee). FunMeans types funs f callee.fun × FunsMean types funs xs callee.funs)) read_is finds) absent)

  pub call_here : (f : Fun) (fs passed : List Fun) (args read : List Term) → t ≡ Call f fs args → passed ≡ fs → read ≡ args → (r : Option Evaluated) →
      Finds r (IsFound (m + 1) P types funs rho inner (Term-F.Call f passed read)) → Finds r (IsFound n P types funs rho inner (out-Term t))
  call_here f fs passed args read is passed_is read_is r finds = by_layer (Term-F.Call f passed read) r
      (ap out-Term is ∙ (outs-Call f fs args ∙ (ap (λ xs. Term-F.Call f xs args) (sym passed_is) ∙ ap (λ xs. Term-F.Call f passed xs) (sym read_is)))) finds

  pub match_here : (on read_on : Term) (d : ℕ) (ts : List Ty) (arms read : List Term) → t ≡ Match on d ts arms → read_on ≡ on → read ≡ arms → (r : Option Evaluated) →
      Finds r (IsFound (m + 1) P types funs rho inner (Term-F.Match read_on d ts read)) → Finds r (IsFound n P types funs rho inner (out-Term t))
  match_here on read_on d ts arms read is on_is read_is r finds = by_layer (Term-F.Match read_on d ts read) r
      (ap out-Term is ∙ (outs-Match on d ts arms ∙ (ap (λ x. Term-F.Match x d ts arms) (sym on_is) ∙ ap (λ xs. Term-F.Match read_on d ts xs) (sym read_is)))) finds
