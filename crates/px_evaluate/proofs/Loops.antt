-- What has been found of the first items, and what is left to be found.
use Rattle.std.proofs.Common.{◌≡◌, ℕ, ◌+◌, ◌<◌, ◌≤◌, ◌^◌, List, [], ◌∷◌, ◌++◌, length, get_or, drop, Option, None, Some, refl, sym, ap, ◌∙◌, subst, arith}
use Rattle.std.proofs.lemmas.List.{append_assoc, append-nil, drop_more}
use Rattle.px_terms.specs.declared.types.Ty.{Ty}
use Rattle.px_terms.specs.declared.types.Fun.{Fun}
use Rattle.px_terms.specs.declared.term.Term.{Term, out-Term}
use Rattle.px_terms.specs.declared.term.Value.{Value}
use Rattle.px_terms.specs.declared.program.Program.{Program}
use Rattle.px_terms.specs.Meaning.{FunMeans, FunsMean, none, more, meant_function}
use Rattle.px_evaluate.specs.declared.values.Evaluated.{Evaluated}
use Rattle.px_evaluate.specs.declared.values.AllEvaluated.{AllEvaluated}
use Rattle.px_evaluate.specs.Nesting.{MeanAllWithin}
use Rattle.px_evaluate.specs.Evaluating.{IsFound}
use Rattle.px_evaluate.specs.Finding.{Finds}
use Rattle.px_evaluate.proofs.Found.{finds_none, finds_some, found_is, found_same, found_absent, some_is}
use Rattle.px_evaluate.proofs.Rests.{all_rest_on}

-- the item at an index, in front of what stands behind it
pub drop_at : {X : Type 0} (xs looked : List X) (i : ℕ) (x : X) → looked ≡ xs → i < length looked → x ≡ get_or looked i x → drop i xs ≡ x ∷ drop (i + 1) xs
drop_at xs looked i x same within is = ap (λ ys. drop i ys) (sym same) ∙ (drop_more looked i x within ∙ (ap (λ y. y ∷ drop (i + 1) looked) (sym is) ∙ ap (λ ys. x ∷ drop (i + 1) ys) same))

-- Values of the rest of the terms, behind those that have been found.
pub record Rest (n : ℕ) (P : Program) (types : List Ty) (funs : List Fun) (rho inner : List Value) (rest : List Term) (found : List Value) (calls : ℕ)
    (vs : List Value) (c : ℕ) : Type 0 where
  pub others : List Value
  pub count : ℕ
  pub all : MeanAllWithin n P types funs rho inner rest others count
  pub is : vs ≡ found ++ others
  pub total : calls + count ≡ c

-- The terms have values and a count exactly where the rest of them has, with these values in front and with these calls.
pub record Continues (n : ℕ) (P : Program) (types : List Ty) (funs : List Fun) (rho inner : List Value) (whole rest : List Term) (found : List Value)
    (calls : ℕ) : Type 0 where
  pub right : (vs : List Value) (c : ℕ) → MeanAllWithin n P types funs rho inner rest vs c → MeanAllWithin n P types funs rho inner whole (found ++ vs) (calls + c)
  pub only : (vs : List Value) (c : ℕ) → MeanAllWithin n P types funs rho inner whole vs c → c < 2 ^ 64 → Rest n P types funs rho inner rest found calls vs c
  pub small : calls < 2 ^ 64

same_all : (x y : AllEvaluated) → x.values ≡ y.values → x.calls ≡ y.calls → x ≡ y
same_all x y p q = λ i. record { values = p i; calls = q i }

module _ (n : ℕ) (P : Program) (types : List Ty) (funs : List Fun) (rho inner : List Value) (whole : List Term) where
  module _ (rest : List Term) (found : List Value) (calls : ℕ) (so_far : Continues n P types funs rho inner whole rest found calls) where
    -- behind all of them
    pub all_found : rest ≡ [] → Finds (Some (record { values = found; calls = calls })) (λ (e : AllEvaluated). MeanAllWithin n P types funs rho inner whole e.values e.calls × (e.calls < 2 ^ 64))
    all_found is = finds_some (λ (e : AllEvaluated). MeanAllWithin n P types funs rho inner whole e.values e.calls × (e.calls < 2 ^ 64)) (record { values = found; calls = calls })
        (right, so_far.small) (λ e h. only e h)
      where
        ended : MeanAllWithin n P types funs rho inner rest [] 0
        ended = subst (λ ts. MeanAllWithin n P types funs rho inner ts [] 0) (sym is) (record { mean = none; nest = omega arith })

        right : MeanAllWithin n P types funs rho inner whole found calls
        right =
            let same : calls + 0 ≡ calls = omega arith in
            subst (λ vs. MeanAllWithin n P types funs rho inner whole vs calls) (append-nil found)
            (subst (λ c. MeanAllWithin n P types funs rho inner whole (found ++ []) c) same (so_far.right [] 0 ended))

        only : (e : AllEvaluated) → (MeanAllWithin n P types funs rho inner whole e.values e.calls × (e.calls < 2 ^ 64)) → e ≡ record { values = found; calls = calls }
        only e h =
            let left = so_far.only e.values e.calls h.0 h.1 in
            let empty = all_rest_on n P types funs rho inner [] left.others left.count (subst (λ ts. MeanAllWithin n P types funs rho inner ts left.others left.count) is left.all) in
            let values : e.values ≡ found = left.is ∙ (ap (λ vs. found ++ vs) empty.0 ∙ append-nil found) in
            let count : e.calls ≡ calls = omega (arith, left.total, empty.1) in
            same_all e (record { values = found; calls = calls }) values count

    module _ (t : Term) (others : List Term) (next : rest ≡ t ∷ others) (o : Option Evaluated) (finds : Finds o (IsFound n P types funs rho inner (out-Term t))) where
      -- where the next term has no value, the terms have none
      pub next_absent : o ≡ None → Finds None (λ (e : AllEvaluated). MeanAllWithin n P types funs rho inner whole e.values e.calls × (e.calls < 2 ^ 64))
      next_absent is = finds_none (λ (e : AllEvaluated). MeanAllWithin n P types funs rho inner whole e.values e.calls × (e.calls < 2 ^ 64)) (λ e h.
          let left = so_far.only e.values e.calls h.0 h.1 in
          let parts = all_rest_on n P types funs rho inner (t ∷ others) left.others left.count (subst (λ ts. MeanAllWithin n P types funs rho inner ts left.others left.count) next left.all) in
          let small : parts.a < 2 ^ 64 = omega (arith, left.total, parts.total, h.1) in
          found_absent (IsFound n P types funs rho inner (out-Term t)) o (record { value = parts.v; calls = parts.a }) finds is (parts.first, small))

      module _ (one : Evaluated) (one_is : o ≡ Some one) where
        -- where the count is too large, there is none
        pub next_too_many : 2 ^ 64 ≤ calls + one.calls → Finds None (λ (e : AllEvaluated). MeanAllWithin n P types funs rho inner whole e.values e.calls × (e.calls < 2 ^ 64))
        next_too_many large = finds_none (λ (e : AllEvaluated). MeanAllWithin n P types funs rho inner whole e.values e.calls × (e.calls < 2 ^ 64)) (λ e h.
            let left = so_far.only e.values e.calls h.0 h.1 in
            let parts = all_rest_on n P types funs rho inner (t ∷ others) left.others left.count (subst (λ ts. MeanAllWithin n P types funs rho inner ts left.others left.count) next left.all) in
            let small : parts.a < 2 ^ 64 = omega (arith, left.total, parts.total, h.1) in
            let same : record { value = parts.v; calls = parts.a } ≡ one = found_same (IsFound n P types funs rho inner (out-Term t)) o one (record { value = parts.v; calls = parts.a }) finds one_is (parts.first, small) in
            let count : parts.a ≡ one.calls = ap (λ (x : Evaluated). x.calls) same in
            absurd (omega (arith, left.total, parts.total, h.1, count, large)))

        -- the next value stands behind those before it
        pub continues_next : (now : List Value) (sum : ℕ) → now ≡ found ++ one.value ∷ [] → sum ≡ calls + one.calls → sum < 2 ^ 64 → Continues n P types funs rho inner whole others now sum
        continues_next now sum now_is sum_is small = subst (λ xs. Continues n P types funs rho inner whole others xs sum) (sym now_is) (record { right = right; only = only; small = small })
          where
            is_one : IsFound n P types funs rho inner (out-Term t) one
            is_one = found_is (IsFound n P types funs rho inner (out-Term t)) o one finds one_is

            right : (vs : List Value) (c : ℕ) → MeanAllWithin n P types funs rho inner others vs c → MeanAllWithin n P types funs rho inner whole ((found ++ one.value ∷ []) ++ vs) (sum + c)
            right vs c all =
                let here : MeanAllWithin n P types funs rho inner (t ∷ others) (one.value ∷ vs) (one.calls + c) =
                record { mean = more is_one.0.means all.mean refl; nest = omega (arith, is_one.0.nests, all.nest) } in
                let count : calls + (one.calls + c) ≡ sum + c = omega (arith, sum_is) in
                let whole_means : MeanAllWithin n P types funs rho inner whole (found ++ (one.value ∷ vs)) (calls + (one.calls + c)) =
                so_far.right (one.value ∷ vs) (one.calls + c) (subst (λ ts. MeanAllWithin n P types funs rho inner ts (one.value ∷ vs) (one.calls + c)) (sym next) here) in
                subst (λ k. MeanAllWithin n P types funs rho inner whole ((found ++ one.value ∷ []) ++ vs) k) count
                (subst (λ xs. MeanAllWithin n P types funs rho inner whole xs (calls + (one.calls + c))) (sym (append_assoc found (one.value ∷ []) vs)) whole_means)

            only : (vs : List Value) (c : ℕ) → MeanAllWithin n P types funs rho inner whole vs c → c < 2 ^ 64 → Rest n P types funs rho inner others (found ++ one.value ∷ []) sum vs c
            only vs c all within =
                let left = so_far.only vs c all within in
                let parts = all_rest_on n P types funs rho inner (t ∷ others) left.others left.count (subst (λ ts. MeanAllWithin n P types funs rho inner ts left.others left.count) next left.all) in
                let small : parts.a < 2 ^ 64 = omega (arith, left.total, parts.total, within) in
                let same : record { value = parts.v; calls = parts.a } ≡ one = found_same (IsFound n P types funs rho inner (out-Term t)) o one (record { value = parts.v; calls = parts.a }) finds one_is (parts.first, small) in
                let count : parts.a ≡ one.calls = ap (λ (x : Evaluated). x.calls) same in
                let value : parts.v ≡ one.value = ap (λ (x : Evaluated). x.value) same in
                record {
                  others = parts.vs;
                  count = parts.b;
                  all = parts.others;
                  is = left.is ∙ (ap (λ xs. found ++ xs) (parts.is ∙ ap (λ x. x ∷ parts.vs) value) ∙ sym (append_assoc found (one.value ∷ []) parts.vs));
                  total = omega (arith, left.total, parts.total, count, sum_is);
                }

-- What the rest of the functions stands for, behind what has been found.
pub record RestMeant (types : List Ty) (funs rest found gs : List Fun) : Type 0 where
  pub others : List Fun
  pub mean : FunsMean types funs rest others
  pub is : gs ≡ found ++ others

-- The functions stand for functions exactly where the rest of them does, with these in front.
pub record MeantOn (types : List Ty) (funs whole rest found : List Fun) : Type 0 where
  pub right : (gs : List Fun) → FunsMean types funs rest gs → FunsMean types funs whole (found ++ gs)
  pub only : (gs : List Fun) → FunsMean types funs whole gs → RestMeant types funs rest found gs

-- What functions stand for rests on what the first stands for.
pub record FirstMeant (types : List Ty) (funs : List Fun) (f : Fun) (fs gs : List Fun) : Type 0 where
  pub g : Fun
  pub others : List Fun
  pub first : FunMeans types funs f g
  pub mean : FunsMean types funs fs others
  pub is : gs ≡ g ∷ others

first_meant : (types : List Ty) (funs : List Fun) (f : Fun) (fs gs : List Fun) → FunsMean types funs (f ∷ fs) gs → FirstMeant types funs f fs gs
first_meant types funs f fs [] h = absurd h
first_meant types funs f fs (g ∷ gs) h = record { g = g; others = gs; first = h.0; mean = h.1; is = refl }

none_meant : (types : List Ty) (funs gs : List Fun) → FunsMean types funs [] gs → gs ≡ []
none_meant types funs [] h = refl
none_meant types funs (g ∷ gs) h = absurd h

module _ (types : List Ty) (funs whole : List Fun) where
  module _ (rest found : List Fun) (so_far : MeantOn types funs whole rest found) where
    pub all_meant : rest ≡ [] → Finds (Some found) (FunsMean types funs whole)
    all_meant is = finds_some (FunsMean types funs whole) found
        (subst (λ gs. FunsMean types funs whole gs) (append-nil found) (so_far.right [] (subst (λ fs. FunsMean types funs fs []) (sym is) tt)))
        (λ gs h.
        let left = so_far.only gs h in
        let empty : left.others ≡ [] = none_meant types funs left.others (subst (λ fs. FunsMean types funs fs left.others) is left.mean) in
        left.is ∙ (ap (λ xs. found ++ xs) empty ∙ append-nil found))

    module _ (f : Fun) (others : List Fun) (next : rest ≡ f ∷ others) (o : Option Fun) (o_is : o ≡ meant_function types funs f f.head) where
      pub meant_next : (one : Fun) → o ≡ Some one → (now : List Fun) → now ≡ found ++ one ∷ [] → MeantOn types funs whole others now
      meant_next one one_is now now_is = subst (λ xs. MeantOn types funs whole others xs) (sym now_is) (record { right = right; only = only })
        where
          first : FunMeans types funs f one
          first = sym o_is ∙ one_is

          right : (gs : List Fun) → FunsMean types funs others gs → FunsMean types funs whole ((found ++ one ∷ []) ++ gs)
          right gs h = subst (λ xs. FunsMean types funs whole xs) (sym (append_assoc found (one ∷ []) gs))
              (so_far.right (one ∷ gs) (subst (λ fs. FunsMean types funs fs (one ∷ gs)) (sym next) (first, h)))

          only : (gs : List Fun) → FunsMean types funs whole gs → RestMeant types funs others (found ++ one ∷ []) gs
          only gs h =
              let left = so_far.only gs h in
              let parts = first_meant types funs f others left.others (subst (λ fs. FunsMean types funs fs left.others) next left.mean) in
              let both : Some parts.g ≡ Some one = sym parts.first ∙ first in
              let same : parts.g ≡ one = some_is parts.g one both in
              record {
                others = parts.others;
                mean = parts.mean;
                is = left.is ∙ (ap (λ xs. found ++ xs) (parts.is ∙ ap (λ x. x ∷ parts.others) same) ∙ sym (append_assoc found (one ∷ []) parts.others));
              }
