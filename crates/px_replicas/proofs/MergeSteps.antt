-- What a run of the merge gives.
use Rattle.std.proofs.Common.{◌≡◌, ℕ, ◌≤◌, ◌<◌, List, [], ◌∷◌, Some, Result, Ok, Err, IsErr, IsErrAnd, slice_get, true, false, sym, ◌∙◌, subst}
use Rattle.std.proofs.lemmas.Bool.{false≢true}
use Rattle.px_base.specs.declared.head.Head.TheVariants as head
use Rattle.px_terms.specs.declared.types.Fun.{Fun}
use Rattle.px_terms.specs.declared.term.Value.{Value}
use Rattle.px_terms.specs.declared.program.ReplicaDef.{ReplicaDef}
use Rattle.px_terms.specs.declared.program.Program.{Program}
use Rattle.px_terms.specs.Values.{IsIn}
use Rattle.px_terms.specs.Meaning.{Gives}
use Rattle.px_totality.specs.Laws.{EachCallHasValue, ExactlyOne}
use Rattle.px_machine.specs.declared.code.CallTarget.{CallTarget}
use Rattle.px_machine.specs.declared.run_end.RunEnd.{RunEnd}
use Rattle.px_machine.specs.declared.run_end.RunEnd.TheVariants as ends
use Rattle.px_machine.specs.Machine.{RunGives}
use Rattle.px_machine.specs.Standing.{FitsDefinition, FitsCode, targets_of}
use Rattle.px_replicas.specs.declared.merge.Merge.{Merge}
use Rattle.px_replicas.specs.Joins.{Merges}
use Rattle.px_replicas.specs.Serving.{Serves, MergesTo, MergesWithin}
use Rattle.px_replicas.proofs.MergeTyping.{merge_defined, functions_fit, states_fit, merge_gives}

-- copies of two states, as a list
pub two_states : (args items : List Value) (x y a b : Value) → args ≡ items → items ≡ x ∷ y ∷ [] → x ≡ a → y ≡ b → args ≡ a ∷ b ∷ []
two_states args items x y a b e f one other = e ∙ f ∙ (λ k. one k ∷ other k ∷ [])

module _ (P : Program) (R : ReplicaDef) (m : Merge) (a b : Value) (serves : Serves P R m) (one : IsIn P R.state a) (other : IsIn P R.state b) where
  same_number : (merge_defined P R serves.typed).n ≡ m.def
  same_number = let it = merge_defined P R serves.typed in let both : head.Def it.n ≡ head.Def m.def = sym it.head ∙ serves.merge in cc

  fits_definition : FitsDefinition P m.def R.merge.types R.funs (a ∷ b ∷ [])
  fits_definition = let it = merge_defined P R serves.typed in record {
    def = it.D;
    is_def = subst (λ (n : ℕ). slice_get P.defs n ≡ Some it.D) same_number it.found;
    as_many = it.many;
    types_are = it.ground;
    funs_fit = functions_fit P R serves.typed;
    values_fit = states_fit P R serves.typed a b one other;
  }

  pub fits_code : (targets : List CallTarget) (args : List Value) → targets ≡ m.funs → args ≡ a ∷ b ∷ [] → FitsCode m.code.now m.def targets args
  fits_code targets args given are = record {
    program = P;
    founded = serves.founded;
    stands = serves.stands;
    types = R.merge.types;
    funs = R.funs;
    are_targets = given ∙ serves.given;
    fits = subst (FitsDefinition P m.def R.merge.types R.funs) (sym are) fits_definition;
  }

  -- what a run gives, the merge gives
  run_merges : (targets : List CallTarget) (args : List Value) → targets ≡ m.funs → args ≡ a ∷ b ∷ [] → (v : Value) (calls : ℕ) → RunGives m.code.now m.def targets args v calls →
      Merges P R a b v calls
  run_merges targets args given are v calls gives =
      let here : RunGives m.code.now m.def (targets_of R.funs) args v calls = subst (λ (ts : List CallTarget). RunGives m.code.now m.def ts args v calls) (given ∙ serves.given) gives in
      let there : RunGives m.code.now m.def (targets_of R.funs) (a ∷ b ∷ []) v calls = subst (λ (vs : List Value). RunGives m.code.now m.def (targets_of R.funs) vs v calls) are here in
      let meant : Gives P (record { head = head.Def m.def; types = R.merge.types }) R.funs (a ∷ b ∷ []) v calls =
      (serves.stands.gives m.def R.merge.types R.funs (a ∷ b ∷ []) fits_definition v calls).0 there in
      let same : R.merge ≡ record { head = head.Def m.def; types = R.merge.types } = λ k. record { head = serves.merge k; types = R.merge.types } in
      subst (λ (f : Fun). Gives P f R.funs (a ∷ b ∷ []) v calls) (sym same) meant

  pub merged : EachCallHasValue → (targets : List CallTarget) (args : List Value) → targets ≡ m.funs → args ≡ a ∷ b ∷ [] → (budget : ℕ) (v : Value) (calls : ℕ) →
      RunGives m.code.now m.def targets args v calls → calls ≤ budget → MergesTo P R a b budget v
  merged law targets args given are budget v calls gives within =
      let merges : Merges P R a b v calls = run_merges targets args given are v calls gives in
      let all : ExactlyOne P R.state (Gives P R.merge R.funs (a ∷ b ∷ [])) = merge_gives P R (law P serves.founded) serves.typed a b one other in
      record { calls = calls; merges = merges; within = within; typed = subst (IsIn P R.state) (sym (all.no_other v calls merges).0) all.in_type }

  -- why a run gave nothing, as a merge's answer
  pub ends_so : (targets : List CallTarget) (args : List Value) → targets ≡ m.funs → args ≡ a ∷ b ∷ [] → (budget : ℕ) (end : RunEnd) →
      (end ≡ ends.Spent → (v : Value) × (calls : ℕ) × RunGives m.code.now m.def targets args v calls × (budget < calls)) →
      (result : Result Value RunEnd) → IsErr result × IsErrAnd result (λ e. e ≡ end) → MergesWithin P R a b budget result
  ends_so targets args given are budget end spent (Ok v) is = let wrong : false ≡ true = is.0 in absurd (false≢true wrong)
  ends_so targets args given are budget end spent (Err ends.Spent) is =
      let it = spent (sym is.1) in
      record { value = it.0; calls = it.1; merges = run_merges targets args given are it.0 it.1 it.2; above = it.3 }
  ends_so targets args given are budget end spent (Err ends.NoMemory) is = tt
