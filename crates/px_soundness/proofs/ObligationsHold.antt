-- Where trees derive the obligations of a program, each of them holds in every extension: the obligations in order, and for each the
-- sums of sizes in order.
use Rattle.std.proofs.Common.{◌≡◌, ℕ, zero, suc, ◌+◌, ◌<◌, List, [], ◌∷◌, length, slice_get, Some, None, refl, sym, subst, arith}
use Rattle.std.specs.Prelude.{All}
use Rattle.std.proofs.lemmas.List.Elements.{All-head, All-tail}
use Rattle.px_terms.specs.declared.types.Ty.{Ty}
use Rattle.px_terms.specs.declared.types.Fun.{Fun}
use Rattle.px_terms.specs.declared.term.Term.{Term, out-Term}
use Rattle.px_terms.specs.declared.term.Term.TheOpen.{Term-F}
use Rattle.px_terms.specs.declared.term.Term.TheVariants as term
use Rattle.px_terms.specs.declared.term.Value.{Value}
use Rattle.px_terms.specs.declared.clause.Clause.{Clause}
use Rattle.px_terms.specs.declared.program.Program.{Program}
use Rattle.px_terms.specs.declared.row.Tree.{Tree}
use Rattle.px_terms.specs.Types.{tys_instance}
use Rattle.px_terms.specs.Values.{AreIn}
use Rattle.px_terms.specs.Values as values
use Rattle.px_terms.specs.Meaning.{MeansOf, free}
use Rattle.px_terms.specs.Typing.{AreTypes, live}
use Rattle.px_terms.specs.Extending.{IsWellFounded, IsExtension, FunctionsFit, FitValues, HoldsInProgram, IsTrueOfAll}
use Rattle.px_terms.specs.Extending as fitting
use Rattle.px_terms.specs.Obligations.{IsObligation, AllHoldInExtensions}
use Rattle.px_terms.specs.Sequents.{own_frame}
use Rattle.px_terms.specs.Derivations.{IsDerivation, DerivesObligation, begins_with}
use Rattle.px_totality.specs.Laws.{ExtensionsKeep}
use Rattle.px_soundness.specs.Validity.{IsValidAt, PresentSizes, value_size}
use Rattle.px_soundness.specs.Validity as validity
use Rattle.px_soundness.specs.Argument.{FirstSequentsAreTyped, RowsAreKept, RowsAreSound, RowsKeepTyping, Assumed}
use Rattle.px_soundness.specs.Laws.{DerivationsAreSound}
use Rattle.px_soundness.proofs.OneClause.{one_clause}
use Rattle.px_soundness.proofs.TreesAreSound.{tree_is_sound}

-- values in the types of variables fit the variables, all live
fit_first : (Q : Program) (types : List Ty) (vars : List Ty) (rho : List Value) → AreIn Q (tys_instance types vars) rho → FitValues Q types (live vars) rho
fit_first Q types [] [] all = fitting.FitValues.none
fit_first Q types [] (v ∷ rho) all = elim all [ ]
fit_first Q types (T ∷ vars) [] all = elim all [ ]
fit_first Q types (T ∷ vars) (v ∷ rho) (values.more is all) = fitting.FitValues.live {T = T} is (fit_first Q types vars rho all)

-- as many values as types
as_many : (Q : Program) (types : List Ty) (vars : List Ty) (rho : List Value) → AreIn Q (tys_instance types vars) rho → length vars ≡ length rho
as_many Q types [] [] all = refl
as_many Q types [] (v ∷ rho) all = elim all [ ]
as_many Q types (T ∷ vars) [] all = elim all [ ]
as_many Q types (T ∷ vars) (v ∷ rho) (values.more is all) = let rest : length vars ≡ length rho = as_many Q types vars rho all in omega (arith, rest)

item_at : {A : Type 0} (xs : List A) (n : ℕ) → n < length xs → (x : A) × (slice_get xs n ≡ Some x)
item_at [] n below = absurd (omega arith)
item_at (x ∷ xs) zero below = (x, refl)
item_at (x ∷ xs) (suc n) below = item_at xs n (omega arith)

within : {A : Type 0} (xs : List A) (n : ℕ) (x : A) → slice_get xs n ≡ Some x → n < length xs
within [] n x found = let none_there : None ≡ Some x = found in cc
within (y ∷ ys) zero x found = omega arith
within (y ∷ ys) (suc n) x found = let rest : n < length ys = within ys n x found in omega (arith, rest)

-- the frame of variables that have values has a sum of sizes
own_sizes : (Q : Program) (types : List Ty) (funs : List Fun) (rho : List Value) (on : List ℕ) → All (λ (v : ℕ). v < length rho) on → (size : ℕ) × PresentSizes Q types funs rho (own_frame (λ (v : ℕ). term.Free v) on).entries size
own_sizes Q types funs rho [] below = (0, validity.PresentSizes.none)
own_sizes Q types funs rho (v ∷ on) below =
    let first = item_at rho v (All-head (λ (u : ℕ). u < length rho) v on below) in
    let rest = own_sizes Q types funs rho on (All-tail (λ (u : ℕ). u < length rho) v on below) in
    let means : MeansOf Q types funs rho [] (out-Term (term.Free v)) first.0 0 = subst (λ (y : Term-F Term). MeansOf Q types funs rho [] y first.0 0) (sym (term.outs-Free v)) (free first.1) in
    (value_size first.0 + rest.0, validity.PresentSizes.more {p = record { variable = v; term = term.Free v }} means rest.1 refl)

module _ (first : FirstSequentsAreTyped) (keep : RowsKeepTyping) (kept : RowsAreKept) (sound : RowsAreSound) (extensions_keep : ExtensionsKeep) (P : Program) (founded : IsWellFounded P) (trees : List Tree) (derivation : IsDerivation P trees) where
  -- a derivation has a tree for each obligation
  tree_at : (n : ℕ) → n < length P.declared → (tree : Tree) × DerivesObligation P n tree
  tree_at n below =
      let found = item_at trees n (subst (λ (k : ℕ). n < k) (sym derivation.count) below) in
      (found.0, derivation.each n found.0 found.1)

  module _ (Q : Program) (extends : IsExtension Q P) where
    module _ (n : ℕ) (tree : Tree) (derives : DerivesObligation P n tree) (lower : (i : ℕ) (clause : Clause) → i < n → IsObligation Q i clause → HoldsInProgram Q clause) (types : List Ty) (count : length types ≡ derives.clause.tparams) (ground : AreTypes Q 0 types) (funs : List Fun) (fit : FunctionsFit Q types derives.clause.funs funs) where
      there : IsObligation Q n derives.clause
      there = extensions_keep.obligation P Q extends n derives.clause derives.obligation

      -- the first sequent is valid at every sum below a bound
      valid_below : (bound size : ℕ) → size < bound → IsValidAt Q types funs (begins_with derives.clause tree.on) size
      valid_below zero size below = absurd (omega arith)
      valid_below (suc bound) size below =
          let assumed : Assumed Q n derives.clause tree.on types funs size = record { founded = extends.founded; obligation = there; variables = derives.on; count = count; ground = ground; functions = fit; lower = lower; smaller = λ m smaller. valid_below bound m (omega (arith, below, smaller)) } in
          tree_is_sound keep kept sound P Q founded extends n derives.clause derives.obligation tree.on types funs size assumed (begins_with derives.clause tree.on) derives.root
          (first P founded n derives.clause derives.obligation tree.on derives.on)
          (first Q extends.founded n derives.clause there tree.on derives.on)
          derives.derives

      -- the clause is true of all values
      true_of_all : IsTrueOfAll Q types funs derives.clause
      true_of_all = record {
        at = λ rho are premises.
            let many = as_many Q types derives.clause.vars rho are in
            let sizes = own_sizes Q types funs rho tree.on (subst (λ (k : ℕ). All (λ (v : ℕ). v < k) tree.on) many derives.on.within) in
            (valid_below (suc sizes.0) sizes.0 (omega arith)).some rho (fit_first Q types derives.clause.vars rho are) sizes.1 premises;
      }

    -- the obligations below a bound hold
    holds_below : (bound n : ℕ) → n < bound → n < length P.declared → (clause : Clause) → IsObligation Q n clause → HoldsInProgram Q clause
    holds_below zero n below declared clause obligation = absurd (omega arith)
    holds_below (suc bound) n below declared clause obligation =
        let tree = tree_at n declared in
        let derives = tree.1 in
        let one : derives.clause ≡ clause = one_clause Q n derives.clause clause (extensions_keep.obligation P Q extends n derives.clause derives.obligation) obligation in
        let lower : (i : ℕ) (other : Clause) → i < n → IsObligation Q i other → HoldsInProgram Q other = λ i other before obligation_there. holds_below bound i (omega (arith, below, before)) (omega (arith, declared, before)) other obligation_there in
        subst (HoldsInProgram Q) one (record { at = λ types count ground funs fit. true_of_all n tree.0 derives lower types count ground funs fit })

  -- each obligation holds in every extension
  pub all_hold : AllHoldInExtensions P
  all_hold = record {
    each = λ n clause obligation. record {
      in_each = λ Q extends.
          holds_below Q extends (suc n) n (omega arith) (within P.declared n obligation.declared obligation.number) clause (extensions_keep.obligation P Q extends n clause obligation);
    };
  }

pub derivations_are_sound : FirstSequentsAreTyped → RowsKeepTyping → RowsAreKept → RowsAreSound → ExtensionsKeep → DerivationsAreSound
derivations_are_sound first keep kept sound extensions_keep P founded trees derivation = all_hold first keep kept sound extensions_keep P founded trees derivation
