-- What the check of descent answers, from what the search in each definition does.
use Rattle.std.proofs.Common.{◌≡◌, ◌⊎◌, ℕ, ◌+◌, ◌<◌, ◌≤◌, inl, inr, List, [], ◌∷◌, ◌++◌, length, Result, Ok, Err, IfErr, Some, slice_get, sym, ap, ◌∙◌, subst, arith, length-append}
use Rattle.std.specs.Result.{IsErrAnd}
use Rattle.std.proofs.lemmas.Option.{slice_get-get_or, slice_get_within, get_or_from_slice_get, same_Some}
use Rattle.std.proofs.lemmas.Bool.{cases_lt}
use Rattle.std.proofs.lemmas.List.{get_or_append_left}
use Rattle.std.proofs.Math.Seq.{get_or-append_seam}
use Rattle.px_terms.specs.declared.program.Def as definition
use Rattle.px_terms.specs.declared.program.Program.{Program}
use Rattle.px_terms.specs.Descent.{Standing, self_calls, Descends, AllDescend, IsStuck, IsFirstStuck}
use Rattle.px_descent.specs.declared.around.Around.{Around}
use Rattle.px_descent.specs.declared.around.Around.TheVariants.{Body, outs-Body}
use Rattle.px_descent.specs.declared.around.Around.TheFolds.{map-Around, fold_out-Around}
use Rattle.px_descent.specs.Around.{bound_step, bound_of}
use Rattle.px_descent.specs.declared.end.NoDescent.{NoDescent}
use Rattle.px_descent.specs.declared.stuck.Search.{Search}
use Rattle.px_descent.specs.Ends.{NamesFirst, NamesFirstIn}
use Rattle.px_descent.specs.Searches.{Lowered, NamesStuck}
use Rattle.px_descent.proofs.Lists.{all_at}
use Rattle.px_descent.proofs.Deciding.{stuck_excludes}

-- in the body itself there are no pattern variables
pub none_around : bound_of Body ≡ []
none_around = fold_out-Around (List Standing) bound_step Body ∙ ap (λ y. bound_step (map-Around Around (List Standing) bound_of y)) outs-Body

-- the element behind a front
seam : {X : Type 0} (front back : List X) (x : X) → slice_get (front ++ x ∷ back) (length front) ≡ Some x
seam front back x =
    let within : length front < length (front ++ x ∷ back) = omega (arith, length-append front (x ∷ back)) in
    slice_get-get_or (front ++ x ∷ back) (length front) x within ∙ ap Some (get_or-append_seam front x back x)

-- an element of the front
in_front : {X : Type 0} (front back : List X) (i : ℕ) (x : X) → i < length front → slice_get (front ++ back) i ≡ Some x → slice_get front i ≡ Some x
in_front front back i x below at =
    slice_get-get_or front i x below ∙ ap Some (sym (get_or_append_left front back x i below) ∙ get_or_from_slice_get (front ++ back) i x x at)

-- what the search names is the first self-call of the definition that is stuck
pub names_first : (s : Search) (end : NoDescent) → NamesStuck s (self_calls s.program.now s.def s.definition.now) 0 end →
    NamesFirstIn s.program.now s.def s.definition.now end
names_first s end named = record {
  call = length named.front;
  stuck = record {
    args = named.args;
    stands = ap (λ calls. slice_get calls (length named.front)) named.parts ∙ seam named.front named.back named.args;
    stuck = λ p kept lowers. named.stuck (record { position = p; kept = kept; lowered = lowers });
  };
  earlier = before;
  def = named.def;
  number = omega (arith, named.call);
}
  where
    before : (c : ℕ) → c < length named.front → ¬ IsStuck s.program.now s.def s.definition.now c
    before c below stuck =
        let at : slice_get named.front c ≡ Some stuck.args =
        in_front named.front (named.args ∷ named.back) c stuck.args below (ap (λ calls. slice_get calls c) (sym named.parts) ∙ stuck.stands) in
        let found : Lowered s stuck.args = all_at (Lowered s) named.front c stuck.args named.lowered at in
        stuck.stuck found.position found.kept found.lowered

-- the definitions before this one descend
abbrev pub DescendBefore : Program → ℕ → Type 0
DescendBefore P n = (m : ℕ) (E : definition.Def) → m < n → slice_get P.defs m ≡ Some E → Descends P m E

-- one definition more
pub descend_more : (P : Program) (n : ℕ) (D : definition.Def) → slice_get P.defs n ≡ Some D → DescendBefore P n → Descends P n D →
    DescendBefore P (n + 1)
descend_more P n D is so_far here m E below at = cases (cases_lt m n)
  where
    cases : (m < n) ⊎ (n ≤ m) → Descends P m E
    cases (inl earlier) = so_far m E earlier at
    cases (inr late) =
        let same : n ≡ m = omega arith in
        let one : D ≡ E = same_Some D E (sym is ∙ ap (λ k. slice_get P.defs k) same ∙ at) in
        subst (λ k. Descends P k E) same (subst (λ (X : definition.Def). Descends P n X) one here)

-- all of them
pub descend_all : (P : Program) (n : ℕ) → length P.defs ≤ n → DescendBefore P n → AllDescend P
descend_all P n past so_far = record
    { each = λ m E at. so_far m E (let within : m < length P.defs = slice_get_within P.defs m E at in omega arith) at }

-- the first self-call that is stuck in this definition is the first of the program
pub first_named : (P : Program) (n : ℕ) (D : definition.Def) (end : NoDescent) → slice_get P.defs n ≡ Some D → DescendBefore P n →
    NamesFirstIn P n D end → NamesFirst P end
first_named P n D end is so_far named = record {
  call = named.call;
  first = subst (λ k. IsFirstStuck P k named.call) (sym named.def) (record {
    D = D;
    stands = is;
    stuck = named.stuck;
    earlier_calls = named.earlier;
    earlier_defs = so_far;
  });
  number = named.number;
}

-- an end that is passed on
pub first_passed : {A : Type 0} (P : Program) (r : Result A NoDescent) (end : NoDescent) → IsErrAnd r (λ e. e ≡ end) → NamesFirst P end →
    IfErr r (NamesFirst P)
first_passed P (Ok x) end is named = absurd is
first_passed P (Err e) end is named = subst (NamesFirst P) (sym is) named

-- an end is none where every definition descends
pub named_excludes : (P : Program) (end : NoDescent) → NamesFirst P end → ¬ AllDescend P
named_excludes P end named = stuck_excludes P end.def named.call named.first

-- an end of one definition that is passed on
pub named_passed : {A : Type 0} (P : Program) (n : ℕ) (D : definition.Def) (r : Result A NoDescent) (end : NoDescent) → IsErrAnd r (λ e. e ≡ end) →
    NamesFirstIn P n D end → IfErr r (NamesFirstIn P n D)
named_passed P n D (Ok x) end is named = absurd is
named_passed P n D (Err e) end is named = subst (NamesFirstIn P n D) (sym is) named
