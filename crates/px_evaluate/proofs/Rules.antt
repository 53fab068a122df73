-- What is found of the parts of a term is what is found of the term, a rule of evaluation each.
use Rattle.std.proofs.Common.{◌≡◌, ℕ, ◌+◌, ◌<◌, ◌^◌, Bool, nat_le, ◌==◌, List, [], ◌∷◌, ◌++◌, reverse, Option, None, Some, refl, sym, ap, ◌∙◌, subst, slice_get, arith}
use Rattle.std.proofs.lemmas.List.{reverse-append}
use Rattle.std.specs.Option.{option_map}
use Rattle.px_terms.specs.declared.types.Ty.{Ty}
use Rattle.px_terms.specs.declared.types.Fun.{Fun}
use Rattle.px_terms.specs.Head.TheVariants.{Def, Wle, Weq}
use Rattle.px_terms.specs.declared.term.Term.{Term, out-Term}
use Rattle.px_terms.specs.declared.term.Term.TheOpen.{Term-F}
use Rattle.px_terms.specs.declared.term.Value.{Value, out-Value}
use Rattle.px_terms.specs.declared.term.Value.TheVariants as value
use Rattle.px_terms.specs.declared.term.Value.TheVariants.{outs-Lit, outs-Con}
use Rattle.px_terms.specs.declared.program.Def as definition
use Rattle.px_terms.specs.declared.program.Program.{Program}
use Rattle.px_terms.specs.Programs.{body_of}
use Rattle.px_terms.specs.Meaning.{truth, FunMeans, FunsMean, chosen, bind, free, bound, lit, con, choose, call, defined}
use Rattle.px_terms.specs.Meaning.{at_most, equal}
use Rattle.px_evaluate.specs.declared.values.Evaluated.{Evaluated}
use Rattle.px_evaluate.specs.declared.values.AllEvaluated.{AllEvaluated}
use Rattle.px_evaluate.specs.declared.scope.Callee.{Callee}
use Rattle.px_evaluate.specs.Nesting.{MeansWithin, MeanAllWithin, GivesWithin}
use Rattle.px_evaluate.specs.Evaluating.{IsFound}
use Rattle.px_evaluate.specs.Finding.{Finds, IsAtHand, Adds, IsGiven, AreWords, on_fields}
use Rattle.px_evaluate.proofs.Found.{finds_none, finds_some, found_is, found_same, found_absent, finds_alike, OfPart, part_absent, part_found, some_is}
use Rattle.px_evaluate.proofs.Rests.{rests_on, nowhere, gift_rests_on, WordsRest}

-- equal parts make an evaluated value
same_evaluated : (x y : Evaluated) → x.value ≡ y.value → x.calls ≡ y.calls → x ≡ y
same_evaluated x y p q = λ i. record { value = p i; calls = q i }

module _ (n : ℕ) (P : Program) (types : List Ty) (funs : List Fun) (rho inner : List Value) where
  -- this deep, with this count
  counted : (y : Term-F Term) (v : Value) (c e : ℕ) → c ≡ e → MeansWithin n P types funs rho inner y v c → MeansWithin n P types funs rho inner y v e
  counted y v c e is m = subst (λ k. MeansWithin n P types funs rho inner y v k) is m

  -- without fuel nothing is found
  pub out_of_fuel : (y : Term-F Term) → n ≡ 0 → Finds None (IsFound n P types funs rho inner y)
  out_of_fuel y is = finds_none (IsFound n P types funs rho inner y)
      (λ e h. nowhere P types funs rho inner y e.value e.calls (subst (λ k. MeansWithin k P types funs rho inner y e.value e.calls) is h.0))

module _ (n : ℕ) (P : Program) (types : List Ty) (funs : List Fun) (rho inner : List Value) where
  -- a variable has the value that is at hand
  pub free_found : (i : ℕ) (o : Option Value) (r : Option Evaluated) → o ≡ slice_get rho i → Finds r (IsAtHand o) → Finds r (IsFound (n + 1) P types funs rho inner (Term-F.Free i))
  free_found i o r is finds = finds_alike (IsAtHand o) (IsFound (n + 1) P types funs rho inner (Term-F.Free i)) r
      (λ e h. (counted (n + 1) P types funs rho inner (Term-F.Free i) e.value 0 e.calls (sym h.1) (record { means = free (sym is ∙ h.0); nests = omega arith }), omega (arith, h.1)))
      (λ e h. let rests = rests_on n P types funs rho inner (Term-F.Free i) e.value e.calls h.0 in (is ∙ rests.0, rests.1)) finds

  pub bound_found : (i : ℕ) (o : Option Value) (r : Option Evaluated) → o ≡ slice_get inner i → Finds r (IsAtHand o) → Finds r (IsFound (n + 1) P types funs rho inner (Term-F.Bound i))
  bound_found i o r is finds = finds_alike (IsAtHand o) (IsFound (n + 1) P types funs rho inner (Term-F.Bound i)) r
      (λ e h. (counted (n + 1) P types funs rho inner (Term-F.Bound i) e.value 0 e.calls (sym h.1) (record { means = bound (sym is ∙ h.0); nests = omega arith }), omega (arith, h.1)))
      (λ e h. let rests = rests_on n P types funs rho inner (Term-F.Bound i) e.value e.calls h.0 in (is ∙ rests.0, rests.1)) finds

  -- a word has itself
  pub lit_found : (w : ℕ) → Finds (Some (record { value = value.Lit w; calls = 0 })) (IsFound (n + 1) P types funs rho inner (Term-F.Lit w))
  lit_found w = finds_some (IsFound (n + 1) P types funs rho inner (Term-F.Lit w)) (record { value = value.Lit w; calls = 0 })
      (record { means = lit refl; nests = omega arith }, omega arith)
      (λ e h. let rests = rests_on n P types funs rho inner (Term-F.Lit w) e.value e.calls h.0 in
      same_evaluated e (record { value = value.Lit w; calls = 0 }) rests.0 rests.1)

  -- a constructor has itself on its fields' values
  pub con_found : (d k : ℕ) (ts : List Ty) (fields : List Term) (o : Option AllEvaluated) (r : Option Evaluated) → Finds o (λ (e : AllEvaluated). MeanAllWithin n P types funs rho inner fields e.values e.calls × (e.calls < 2 ^ 64)) →
      r ≡ option_map (on_fields d k) o → Finds r (IsFound (n + 1) P types funs rho inner (Term-F.Con d k ts fields))
  con_found d k ts fields o r finds is = subst (λ x. Finds x (IsFound (n + 1) P types funs rho inner (Term-F.Con d k ts fields))) (sym is) (by o finds)
    where
      by : (o : Option AllEvaluated) → Finds o (λ (e : AllEvaluated). MeanAllWithin n P types funs rho inner fields e.values e.calls × (e.calls < 2 ^ 64)) →
          Finds (option_map (on_fields d k) o) (IsFound (n + 1) P types funs rho inner (Term-F.Con d k ts fields))
      by None finds = finds_none (IsFound (n + 1) P types funs rho inner (Term-F.Con d k ts fields)) (λ e h.
          let rests = rests_on n P types funs rho inner (Term-F.Con d k ts fields) e.value e.calls h.0 in
          found_absent (λ (e : AllEvaluated). MeanAllWithin n P types funs rho inner fields e.values e.calls × (e.calls < 2 ^ 64)) None (record { values = rests.vs; calls = e.calls }) finds refl (rests.all, h.1))
      by (Some all) finds = finds_some (IsFound (n + 1) P types funs rho inner (Term-F.Con d k ts fields)) (on_fields d k all)
          (record { means = con finds.right.0.mean refl; nests = omega (arith, finds.right.0.nest) }, finds.right.1) (λ e h.
          let rests = rests_on n P types funs rho inner (Term-F.Con d k ts fields) e.value e.calls h.0 in
          let same : record { values = rests.vs; calls = e.calls } ≡ all = found_same (λ (e : AllEvaluated). MeanAllWithin n P types funs rho inner fields e.values e.calls × (e.calls < 2 ^ 64)) (Some all) all (record { values = rests.vs; calls = e.calls }) finds refl (rests.all, h.1) in
          same_evaluated e (on_fields d k all) (rests.is ∙ ap (λ (x : AllEvaluated). value.Con d k x.values) same) (ap (λ (x : AllEvaluated). x.calls) same))

-- the values of the pattern variables inside an arm
pub bound_is : (inner fields now : List Value) → now ≡ inner ++ fields → reverse now ≡ bind fields (reverse inner)
bound_is inner fields now is = ap (λ (xs : List Value). reverse xs) is ∙ reverse-append inner fields

-- A match.
module _ (n : ℕ) (P : Program) (types : List Ty) (funs : List Fun) (rho inner : List Value) (d : ℕ) (ts : List Ty) (on : Term) (arms : List Term)
    (o : Option Evaluated) (finds : Finds o (IsFound n P types funs rho inner (out-Term on))) where
  -- where the scrutinee has no value, the match has none
  pub match_unseen : o ≡ None → Finds None (IsFound (n + 1) P types funs rho inner (Term-F.Match on d ts arms))
  match_unseen is = finds_none (IsFound (n + 1) P types funs rho inner (Term-F.Match on d ts arms)) (λ x h.
      let rests = rests_on n P types funs rho inner (Term-F.Match on d ts arms) x.value x.calls h.0 in
      let small : rests.a < 2 ^ 64 = omega (arith, rests.total, h.1) in
      found_absent (IsFound n P types funs rho inner (out-Term on)) o (record { value = rests.u; calls = rests.a }) finds is (rests.on_means, small))

  module _ (e : Evaluated) (seen : o ≡ Some e) where
    -- where no arm is chosen, the match has none
    pub match_stuck : chosen arms (out-Value e.value) ≡ None → Finds None (IsFound (n + 1) P types funs rho inner (Term-F.Match on d ts arms))
    match_stuck is = finds_none (IsFound (n + 1) P types funs rho inner (Term-F.Match on d ts arms)) (λ x h.
        let rests = rests_on n P types funs rho inner (Term-F.Match on d ts arms) x.value x.calls h.0 in
        let small : rests.a < 2 ^ 64 = omega (arith, rests.total, h.1) in
        let same : record { value = rests.u; calls = rests.a } ≡ e =
        found_same (IsFound n P types funs rho inner (out-Term on)) o e (record { value = rests.u; calls = rests.a }) finds seen (rests.on_means, small) in
        let never : None ≡ Some (rests.arm, rests.vs) = sym is ∙ (ap (λ (x : Evaluated). chosen arms (out-Value x.value)) (sym same) ∙ rests.chooses) in
        cc)

    module _ (arm : Term) (fields : List Value) (chooses : chosen arms (out-Value e.value) ≡ Some (arm, fields)) where
      -- the arm is what the match is made of
      arm_of_match : (x : Evaluated) → IsFound (n + 1) P types funs rho inner (Term-F.Match on d ts arms) x →
          OfPart (IsFound n P types funs rho (bind fields inner) (out-Term arm)) e.calls x
      arm_of_match x h =
          let rests = rests_on n P types funs rho inner (Term-F.Match on d ts arms) x.value x.calls h.0 in
          let small : rests.a < 2 ^ 64 = omega (arith, rests.total, h.1) in
          let same : record { value = rests.u; calls = rests.a } ≡ e =
          found_same (IsFound n P types funs rho inner (out-Term on)) o e (record { value = rests.u; calls = rests.a }) finds seen (rests.on_means, small) in
          let count : rests.a ≡ e.calls = ap (λ (x : Evaluated). x.calls) same in
          let both : Some (rests.arm, rests.vs) ≡ Some (arm, fields) =
          sym rests.chooses ∙ (ap (λ (x : Evaluated). chosen arms (out-Value x.value)) same ∙ chooses) in
          let pair : (rests.arm, rests.vs) ≡ (arm, fields) = some_is (rests.arm, rests.vs) (arm, fields) both in
          let means : MeansWithin n P types funs rho (bind fields inner) (out-Term arm) x.value rests.b =
          subst (λ (p : Term × List Value). MeansWithin n P types funs rho (bind p.1 inner) (out-Term p.0) x.value rests.b) pair rests.arm_means in
          record {
            found = record { value = x.value; calls = rests.b };
            is = (means, omega (arith, rests.total, h.1));
            adds = (refl, omega (arith, rests.total, count), h.1);
          }

      match_of_arm : (found x : Evaluated) → IsFound n P types funs rho (bind fields inner) (out-Term arm) found → Adds found e.calls x →
          IsFound (n + 1) P types funs rho inner (Term-F.Match on d ts arms) x
      match_of_arm found x part adds =
          let on_found = found_is (IsFound n P types funs rho inner (out-Term on)) o e finds seen in
          let means : MeansWithin (n + 1) P types funs rho inner (Term-F.Match on d ts arms) found.value x.calls =
          record { means = choose on_found.0.means chooses part.0.means (sym adds.1); nests = omega (arith, on_found.0.nests, part.0.nests) } in
          (subst (λ v. MeansWithin (n + 1) P types funs rho inner (Term-F.Match on d ts arms) v x.calls) (sym adds.0) means, adds.2)

      module _ (within : List Value) (within_is : within ≡ bind fields inner) (p : Option Evaluated)
          (part : Finds p (IsFound n P types funs rho within (out-Term arm))) where
        -- where the arm has no value, the match has none
        pub match_absent : p ≡ None → Finds None (IsFound (n + 1) P types funs rho inner (Term-F.Match on d ts arms))
        match_absent is = part_absent (IsFound n P types funs rho (bind fields inner) (out-Term arm))
            (IsFound (n + 1) P types funs rho inner (Term-F.Match on d ts arms)) e.calls p arm_of_match
            (subst (λ w. Finds p (IsFound n P types funs rho w (out-Term arm))) within_is part) is

        -- the match has the value of the arm, with the calls of the scrutinee
        pub match_found : (found : Evaluated) → p ≡ Some found → (r : Option Evaluated) → Finds r (Adds found e.calls) →
            Finds r (IsFound (n + 1) P types funs rho inner (Term-F.Match on d ts arms))
        match_found found is r adds = part_found (IsFound n P types funs rho (bind fields inner) (out-Term arm))
            (IsFound (n + 1) P types funs rho inner (Term-F.Match on d ts arms)) e.calls p arm_of_match
            (subst (λ w. Finds p (IsFound n P types funs rho w (out-Term arm))) within_is part) match_of_arm found is r adds

-- functions stand for one list of functions
one_of_each : (types : List Ty) (funs fs gs hs : List Fun) → FunsMean types funs fs gs → FunsMean types funs fs hs → gs ≡ hs
one_of_each types funs [] [] [] p q = refl
one_of_each types funs [] [] (h ∷ hs) p q = absurd q
one_of_each types funs [] (g ∷ gs) hs p q = absurd p
one_of_each types funs (f ∷ fs) [] hs p q = absurd p
one_of_each types funs (f ∷ fs) (g ∷ gs) [] p q = absurd q
one_of_each types funs (f ∷ fs) (g ∷ gs) (h ∷ hs) p q =
    let both : Some g ≡ Some h = sym p.0 ∙ q.0 in
    let first : g ≡ h = some_is g h both in
    let others : gs ≡ hs = one_of_each types funs fs gs hs p.1 q.1 in
    ap (λ x. x ∷ gs) first ∙ ap (λ xs. h ∷ xs) others

-- A call.
module _ (n : ℕ) (P : Program) (types : List Ty) (funs : List Fun) (rho inner : List Value) (f : Fun) (fs : List Fun) (args : List Term) where
  -- where a function stands for nothing, the call has no value
  pub call_of_nothing : (o : Option Callee) → Finds o (λ (callee : Callee). FunMeans types funs f callee.fun × FunsMean types funs fs callee.funs) → o ≡ None →
      Finds None (IsFound (n + 1) P types funs rho inner (Term-F.Call f fs args))
  call_of_nothing o finds is = finds_none (IsFound (n + 1) P types funs rho inner (Term-F.Call f fs args)) (λ x h.
      let rests = rests_on n P types funs rho inner (Term-F.Call f fs args) x.value x.calls h.0 in
      found_absent (λ (callee : Callee). FunMeans types funs f callee.fun × FunsMean types funs fs callee.funs) o (record { fun = rests.g; funs = rests.gs }) finds is
      (rests.fun_means, rests.funs_mean))

  module _ (o : Option AllEvaluated) (finds : Finds o (λ (e : AllEvaluated). MeanAllWithin n P types funs rho inner args e.values e.calls × (e.calls < 2 ^ 64))) where
    -- where an argument has no value, the call has none
    pub call_unseen : o ≡ None → Finds None (IsFound (n + 1) P types funs rho inner (Term-F.Call f fs args))
    call_unseen is = finds_none (IsFound (n + 1) P types funs rho inner (Term-F.Call f fs args)) (λ x h.
        let rests = rests_on n P types funs rho inner (Term-F.Call f fs args) x.value x.calls h.0 in
        let small : rests.a < 2 ^ 64 = omega (arith, rests.total, h.1) in
        found_absent (λ (e : AllEvaluated). MeanAllWithin n P types funs rho inner args e.values e.calls × (e.calls < 2 ^ 64)) o
        (record { values = rests.vs; calls = rests.a }) finds is (rests.all, small))

    module _ (e : AllEvaluated) (seen : o ≡ Some e) (callee : Callee) (fun_means : FunMeans types funs f callee.fun) (funs_mean : FunsMean types funs fs callee.funs) where
      -- what the function gives is what the call is made of
      gift_of_call : (x : Evaluated) → IsFound (n + 1) P types funs rho inner (Term-F.Call f fs args) x → OfPart (IsGiven n P callee e.values) e.calls x
      gift_of_call x h =
          let rests = rests_on n P types funs rho inner (Term-F.Call f fs args) x.value x.calls h.0 in
          let small : rests.a < 2 ^ 64 = omega (arith, rests.total, h.1) in
          let same : record { values = rests.vs; calls = rests.a } ≡ e =
          found_same (λ (e : AllEvaluated). MeanAllWithin n P types funs rho inner args e.values e.calls × (e.calls < 2 ^ 64)) o e
          (record { values = rests.vs; calls = rests.a }) finds seen (rests.all, small) in
          let count : rests.a ≡ e.calls = ap (λ (x : AllEvaluated). x.calls) same in
          let values : rests.vs ≡ e.values = ap (λ (x : AllEvaluated). x.values) same in
          let both : Some rests.g ≡ Some callee.fun = sym rests.fun_means ∙ fun_means in
          let function : rests.g ≡ callee.fun = some_is rests.g callee.fun both in
          let functions : rests.gs ≡ callee.funs = one_of_each types funs fs rests.gs callee.funs rests.funs_mean funs_mean in
          let gives : GivesWithin n P callee.fun callee.funs e.values x.value rests.b =
          subst (λ g. GivesWithin n P g callee.funs e.values x.value rests.b) function
          (subst (λ gs. GivesWithin n P rests.g gs e.values x.value rests.b) functions
          (subst (λ vs. GivesWithin n P rests.g rests.gs vs x.value rests.b) values rests.gives)) in
          record {
            found = record { value = x.value; calls = rests.b };
            is = (gives, omega (arith, rests.total, h.1));
            adds = (refl, omega (arith, rests.total, count), h.1);
          }

      call_of_gift : (found x : Evaluated) → IsGiven n P callee e.values found → Adds found e.calls x → IsFound (n + 1) P types funs rho inner (Term-F.Call f fs args) x
      call_of_gift found x part adds =
          let inputs = found_is (λ (e : AllEvaluated). MeanAllWithin n P types funs rho inner args e.values e.calls × (e.calls < 2 ^ 64)) o e finds seen in
          let means : MeansWithin (n + 1) P types funs rho inner (Term-F.Call f fs args) found.value x.calls =
          record { means = call {g = callee.fun} {gs = callee.funs} inputs.0.mean fun_means funs_mean part.0.gives (sym adds.1); nests = omega (arith, inputs.0.nest, part.0.body_nests) } in
          (subst (λ v. MeansWithin (n + 1) P types funs rho inner (Term-F.Call f fs args) v x.calls) (sym adds.0) means, adds.2)

      module _ (p : Option Evaluated) (part : Finds p (IsGiven n P callee e.values)) where
        -- where the function gives no value, the call has none
        pub call_absent : p ≡ None → Finds None (IsFound (n + 1) P types funs rho inner (Term-F.Call f fs args))
        call_absent is = part_absent (IsGiven n P callee e.values) (IsFound (n + 1) P types funs rho inner (Term-F.Call f fs args)) e.calls p gift_of_call part is

        -- the call has the value that the function gives, with the calls of the arguments
        pub call_found : (found : Evaluated) → p ≡ Some found → (r : Option Evaluated) → Finds r (Adds found e.calls) →
            Finds r (IsFound (n + 1) P types funs rho inner (Term-F.Call f fs args))
        call_found found is r adds = part_found (IsGiven n P callee e.values) (IsFound (n + 1) P types funs rho inner (Term-F.Call f fs args)) e.calls p gift_of_call part
            call_of_gift found is r adds

-- What a function gives.
module _ (n : ℕ) (P : Program) (f : Callee) (inputs : List Value) where
  module _ (i : ℕ) (head_is : f.fun.head ≡ Def i) where
    module _ (d : definition.Def) (d_is : slice_get P.defs i ≡ Some d) where
      body_is : body_of P i ≡ Some d.body
      body_is = ap (option_map (λ (d : definition.Def). d.body)) d_is

      function_is : f.fun ≡ record { head = Def i; types = f.fun.types }
      function_is = λ j. record { head = head_is j; types = f.fun.types }

      body_of_gift : (x : Evaluated) → IsGiven n P f inputs x → OfPart (IsFound n P f.fun.types f.funs inputs [] (out-Term d.body)) 1 x
      body_of_gift x h =
          let rests = gift_rests_on n P f.fun (Def i) f.funs inputs x.value x.calls head_is h.0 in
          let both : Some rests.body ≡ Some d.body = sym rests.found ∙ body_is in
          let body : rests.body ≡ d.body = some_is rests.body d.body both in
          let means : MeansWithin n P f.fun.types f.funs inputs [] (out-Term d.body) x.value rests.b =
          subst (λ t. MeansWithin n P f.fun.types f.funs inputs [] (out-Term t) x.value rests.b) body rests.means in
          record {
            found = record { value = x.value; calls = rests.b };
            is = (means, omega (arith, rests.total, h.1));
            adds = (refl, omega (arith, rests.total), h.1);
          }

      gift_of_body : (found x : Evaluated) → IsFound n P f.fun.types f.funs inputs [] (out-Term d.body) found → Adds found 1 x → IsGiven n P f inputs x
      gift_of_body found x part adds =
          let total : found.calls + 1 ≡ x.calls = omega (arith, adds.1) in
          let gives : GivesWithin n P (record { head = Def i; types = f.fun.types }) f.funs inputs found.value x.calls =
          record { gives = defined body_is part.0.means total; body_nests = part.0.nests } in
          (subst (λ v. GivesWithin n P f.fun f.funs inputs v x.calls) (sym adds.0) (subst (λ g. GivesWithin n P g f.funs inputs found.value x.calls) (sym function_is) gives), adds.2)

      module _ (types : List Ty) (types_are : types ≡ f.fun.types) (funs : List Fun) (funs_are : funs ≡ f.funs) (inner : List Value) (nothing : inner ≡ []) (p : Option Evaluated)
          (part : Finds p (IsFound n P types funs inputs (reverse inner) (out-Term d.body))) where
        here : Finds p (IsFound n P f.fun.types f.funs inputs [] (out-Term d.body))
        here = subst (λ ts. Finds p (IsFound n P ts f.funs inputs [] (out-Term d.body))) types_are
            (subst (λ fs. Finds p (IsFound n P types fs inputs [] (out-Term d.body))) funs_are
            (subst (λ xs. Finds p (IsFound n P types funs inputs (reverse xs) (out-Term d.body))) nothing part))

        -- where the body has no value, the definition gives none
        pub body_absent : p ≡ None → Finds None (IsGiven n P f inputs)
        body_absent is = part_absent (IsFound n P f.fun.types f.funs inputs [] (out-Term d.body)) (IsGiven n P f inputs) 1 p body_of_gift here is

        -- the definition gives the value of its body, with one more call
        pub body_found : (found : Evaluated) → p ≡ Some found → (r : Option Evaluated) → Finds r (Adds found 1) → Finds r (IsGiven n P f inputs)
        body_found found is r adds = part_found (IsFound n P f.fun.types f.funs inputs [] (out-Term d.body)) (IsGiven n P f inputs) 1 p body_of_gift here
            gift_of_body found is r adds

-- What a built-in gives: of two words a truth value, and of anything else nothing.
module _ (holds : ℕ → ℕ → Bool) (Is : Evaluated → Type 0) (vs : List Value) (invert : (x : Evaluated) → Is x → WordsRest holds vs x.value x.calls)
    (o : Option (ℕ × ℕ)) (finds : Finds o (AreWords vs)) where
  words_absent : o ≡ None → Finds None Is
  words_absent is = finds_none Is (λ x h. found_absent (AreWords vs) o (invert x h).words finds is (invert x h).are)

  words_found : (words : ℕ × ℕ) → o ≡ Some words → (t : Evaluated) → t.value ≡ truth (holds words.0 words.1) → t.calls ≡ 0 → (AreWords vs words → Is t) → Finds (Some t) Is
  words_found words is t value_is calls build = finds_some Is t (build (found_is (AreWords vs) o words finds is)) (λ x h.
      let rests = invert x h in
      let same : rests.words ≡ words = found_same (AreWords vs) o words rests.words finds is rests.are in
      same_evaluated x t (rests.is ∙ (ap (λ (w : ℕ × ℕ). truth (holds w.0 w.1)) same ∙ sym value_is)) (rests.calls ∙ sym calls))

module _ (n : ℕ) (P : Program) (f : Callee) (vs : List Value) where
  wle_gives : f.fun.head ≡ Wle → (xs : List Value) (words : ℕ × ℕ) → AreWords xs words → GivesWithin n P f.fun f.funs xs (truth (nat_le words.0 words.1)) 0
  wle_gives is [] words are = absurd are
  wle_gives is (a ∷ []) words are = absurd are
  wle_gives is (a ∷ b ∷ []) words are =
      let function : f.fun ≡ record { head = Wle; types = f.fun.types } = λ j. record { head = is j; types = f.fun.types } in
      let gives : GivesWithin n P (record { head = Wle; types = f.fun.types }) f.funs (a ∷ b ∷ []) (truth (nat_le words.0 words.1)) 0 =
      record { gives = at_most are.0 are.1 refl; body_nests = omega arith } in
      subst (λ g. GivesWithin n P g f.funs (a ∷ b ∷ []) (truth (nat_le words.0 words.1)) 0) (sym function) gives
  wle_gives is (a ∷ b ∷ c ∷ others) words are = absurd are

  weq_gives : f.fun.head ≡ Weq → (xs : List Value) (words : ℕ × ℕ) → AreWords xs words → GivesWithin n P f.fun f.funs xs (truth (words.0 == words.1)) 0
  weq_gives is [] words are = absurd are
  weq_gives is (a ∷ []) words are = absurd are
  weq_gives is (a ∷ b ∷ []) words are =
      let function : f.fun ≡ record { head = Weq; types = f.fun.types } = λ j. record { head = is j; types = f.fun.types } in
      let gives : GivesWithin n P (record { head = Weq; types = f.fun.types }) f.funs (a ∷ b ∷ []) (truth (words.0 == words.1)) 0 =
      record { gives = equal are.0 are.1 refl; body_nests = omega arith } in
      subst (λ g. GivesWithin n P g f.funs (a ∷ b ∷ []) (truth (words.0 == words.1)) 0) (sym function) gives
  weq_gives is (a ∷ b ∷ c ∷ others) words are = absurd are

  -- this value, with no call
  given_at : (v : Value) (t : Evaluated) → t.value ≡ v → t.calls ≡ 0 → GivesWithin n P f.fun f.funs vs v 0 → IsGiven n P f vs t
  given_at v t value_is calls gives =
      (subst (λ w. GivesWithin n P f.fun f.funs vs w t.calls) (sym value_is) (subst (λ c. GivesWithin n P f.fun f.funs vs v c) (sym calls) gives), omega (arith, calls))

  module _ (o : Option (ℕ × ℕ)) (finds : Finds o (AreWords vs)) where
    pub wle_absent : f.fun.head ≡ Wle → o ≡ None → Finds None (IsGiven n P f vs)
    wle_absent is absent = words_absent nat_le (IsGiven n P f vs) vs (λ x h. gift_rests_on n P f.fun Wle f.funs vs x.value x.calls is h.0) o finds absent

    pub weq_absent : f.fun.head ≡ Weq → o ≡ None → Finds None (IsGiven n P f vs)
    weq_absent is absent = words_absent (λ x y. x == y) (IsGiven n P f vs) vs (λ x h. gift_rests_on n P f.fun Weq f.funs vs x.value x.calls is h.0) o finds absent

    pub wle_found : f.fun.head ≡ Wle → (words : ℕ × ℕ) → o ≡ Some words → (t : Evaluated) → t.value ≡ truth (nat_le words.0 words.1) → t.calls ≡ 0 →
        Finds (Some t) (IsGiven n P f vs)
    wle_found is words found t value_is calls =
        words_found nat_le (IsGiven n P f vs) vs (λ x h. gift_rests_on n P f.fun Wle f.funs vs x.value x.calls is h.0) o finds words found t value_is calls
        (λ are. given_at (truth (nat_le words.0 words.1)) t value_is calls (wle_gives is vs words are))

    pub weq_found : f.fun.head ≡ Weq → (words : ℕ × ℕ) → o ≡ Some words → (t : Evaluated) → t.value ≡ truth (words.0 == words.1) → t.calls ≡ 0 →
        Finds (Some t) (IsGiven n P f vs)
    weq_found is words found t value_is calls =
        words_found (λ x y. x == y) (IsGiven n P f vs) vs (λ x h. gift_rests_on n P f.fun Weq f.funs vs x.value x.calls is h.0) o finds words found t value_is calls
        (λ are. given_at (truth (words.0 == words.1)) t value_is calls (weq_gives is vs words are))

-- a word chooses no arm
pub lit_chooses : (arms : List Term) (v : Value) (w : ℕ) → v ≡ value.Lit w → chosen arms (out-Value v) ≡ None
lit_chooses arms v w is = ap (λ x. chosen arms (out-Value x)) is ∙ ap (λ y. chosen arms y) (outs-Lit w)

-- a constructor chooses the arm of its number, with its fields
pub con_chooses : (arms : List Term) (v : Value) (d k : ℕ) (fields : List Value) → v ≡ value.Con d k fields → (o : Option Term) → o ≡ slice_get arms k →
    chosen arms (out-Value v) ≡ option_map (λ (arm : Term). (arm, fields)) o
con_chooses arms v d k fields is o o_is =
    ap (λ x. chosen arms (out-Value x)) is ∙ (ap (λ y. chosen arms y) (outs-Con d k fields) ∙ ap (λ (x : Option Term). option_map (λ (arm : Term). (arm, fields)) x) (sym o_is))
