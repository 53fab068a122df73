-- What the sides of a property's clause mean under the one types, functions and values, they mean under others; px_totality shows it without functions.
use Rattle.std.proofs.Common.{◌≡◌, ℕ, zero, suc, ◌+◌, ◌<◌, List, [], ◌∷◌, ◌++◌, map, length, Some, slice_get, sym, ap, ◌∙◌, subst, subst₂, refl, arith}
use Rattle.px_terms.specs.Prop.{Prop}
use Rattle.px_terms.specs.Prop.TheVariants.{Comm, Assoc, Idem, Sel, Refl, Irrefl, Sym, Antisym, Asym, Trans, Conn}
use Rattle.px_terms.specs.declared.types.Ty.{Ty}
use Rattle.px_terms.specs.declared.types.Fun.{Fun}
use Rattle.px_terms.specs.declared.term.Term.{Term, out-Term}
use Rattle.px_terms.specs.declared.term.Term.TheOpen.{Term-F}
use Rattle.px_terms.specs.declared.term.Term.TheVariants as term
use Rattle.px_terms.specs.declared.term.Value.{Value}
use Rattle.px_terms.specs.declared.clause.Equation.{Equation}
use Rattle.px_terms.specs.declared.program.Program.{Program}
use Rattle.px_terms.specs.Types.{numbers_from}
use Rattle.px_terms.specs.Meaning.{FunMeans, FunsMean, MeansOf, MeanAll, Means, Gives, free, con, call, none, more}
use Rattle.px_terms.specs.Clauses.{Subject, applied, equals, x_of, y_of, z_of, says}
use Rattle.px_terms.specs.Holding.{IsTrueAt, AreTrueAt, SomeIsTrueAt, here, later}
use Rattle.px_totality.proofs.Instances.{one_item}
use Rattle.px_totality.proofs.Examples.{of_layer_means}
use Rattle.px_totality.proofs.Unique.{OfCon, OfCall, OfMore, rests_on, all_rest_on}

-- The function that the subject names stands for this one, and those that it is given for these.
pub record StandsAs (ts : List Ty) (fs : List Fun) (s : Subject) (f : Fun) (hs : List Fun) : Type 0 where
  pub function : FunMeans ts fs s.function f
  pub given : FunsMean ts fs s.given hs

-- functions stand for one list of functions
one_meaning : (types : List Ty) (funs fs gs hs : List Fun) → FunsMean types funs fs gs → FunsMean types funs fs hs → gs ≡ hs
one_meaning types funs [] [] [] p q = refl
one_meaning types funs [] [] (h ∷ hs) p q = absurd q
one_meaning types funs [] (g ∷ gs) hs p q = absurd p
one_meaning types funs (f ∷ fs) [] hs p q = absurd p
one_meaning types funs (f ∷ fs) (g ∷ gs) [] p q = absurd q
one_meaning types funs (f ∷ fs) (g ∷ gs) (h ∷ hs) p q =
    let first : g ≡ h = one_item g h (sym p.0 ∙ q.0) in
    let others : gs ≡ hs = one_meaning types funs fs gs hs p.1 q.1 in
    λ i. first i ∷ others i

-- What the one term means under the one types, functions and values, the other means under the others.
pub record Moves (Q : Program) (ts : List Ty) (fs : List Fun) (rho : List Value) (us : List Ty) (gs : List Fun) (rho2 : List Value) (a b : Term) : Type 0 where
  pub to : (v : Value) (c : ℕ) → Means Q ts fs rho a v c → Means Q us gs rho2 b v c

module _ (Q : Program) (ts : List Ty) (fs : List Fun) (rho : List Value) (us : List Ty) (gs : List Fun) (rho2 : List Value) where
  abbrev M : Term → Term → Type 0
  M a b = Moves Q ts fs rho us gs rho2 a b

  layer_of : (t : Term) (y : Term-F Term) (v : Value) (c : ℕ) → out-Term t ≡ y → Means Q ts fs rho t v c → MeansOf Q ts fs rho [] y v c
  layer_of t y v c e means = subst (λ (y : Term-F Term). MeansOf Q ts fs rho [] y v c) e means

  pub variable_moves : (i j : ℕ) → ((v : Value) → slice_get rho i ≡ Some v → slice_get rho2 j ≡ Some v) → M (term.Free i) (term.Free j)
  variable_moves i j same = record {
    to = λ v c means.
        let is : (slice_get rho i ≡ Some v) × (c ≡ 0) =
        rests_on Q ts fs rho [] (Term-F.Free i) v c (layer_of (term.Free i) (Term-F.Free i) v c (term.outs-Free i) means) in
        subst (Means Q us gs rho2 (term.Free j) v) (sym is.1)
        (of_layer_means Q us gs rho2 (term.Free j) (Term-F.Free j) v 0 (term.outs-Free j) (free (same v is.0)));
  }

  pub truth_moves : (k : ℕ) → M (term.Con 0 k [] []) (term.Con 0 k [] [])
  truth_moves k = record {
    to = λ v c means.
        let is : OfCon Q ts fs rho [] 0 k [] v c =
        rests_on Q ts fs rho [] (Term-F.Con 0 k [] []) v c (layer_of (term.Con 0 k [] []) (Term-F.Con 0 k [] []) v c (term.outs-Con 0 k [] []) means) in
        let nothing : (is.vs ≡ []) × (c ≡ 0) = all_rest_on Q ts fs rho [] [] is.vs c is.all in
        let fields : MeanAll Q us gs rho2 [] [] is.vs c = subst₂ (MeanAll Q us gs rho2 [] []) (sym nothing.0) (sym nothing.1) none in
        of_layer_means Q us gs rho2 (term.Con 0 k [] []) (Term-F.Con 0 k [] []) v c (term.outs-Con 0 k [] []) (con fields is.is);
  }

  -- What the terms mean under the one types, functions and values, the others mean under the others.
  record AllMove (cs ds : List Term) : Type 0 where
    to : (vs : List Value) (c : ℕ) → MeanAll Q ts fs rho [] cs vs c → MeanAll Q us gs rho2 [] ds vs c

  none_move : AllMove [] []
  none_move = record {
    to =
        λ vs c all. let nothing : (vs ≡ []) × (c ≡ 0) = all_rest_on Q ts fs rho [] [] vs c all in subst₂ (MeanAll Q us gs rho2 [] [])
        (sym nothing.0) (sym nothing.1) none;
  }

  more_move : (a b : Term) (cs ds : List Term) → M a b → AllMove cs ds → AllMove (a ∷ cs) (b ∷ ds)
  more_move a b cs ds first others = record {
    to = λ vs c all.
        let parts : OfMore Q ts fs rho [] a cs vs c = all_rest_on Q ts fs rho [] (a ∷ cs) vs c all in
        subst (λ (vs : List Value). MeanAll Q us gs rho2 [] (b ∷ ds) vs c) (sym parts.is)
        (more (first.to parts.v parts.a parts.means) (others.to parts.vs parts.b parts.mean) parts.total);
  }

  variables_move : (start count : ℕ) → ((i : ℕ) → i < start + count → (v : Value) → slice_get rho i ≡ Some v → slice_get rho2 i ≡ Some v) →
      (cs ds : List Term) → AllMove cs ds →
      AllMove (map (λ (i : ℕ). term.Free i) (numbers_from start count) ++ cs) (map (λ (i : ℕ). term.Free i) (numbers_from start count) ++ ds)
  variables_move start zero same cs ds others = others
  variables_move start (suc count) same cs ds others =
      more_move (term.Free start) (term.Free start) (map (λ (i : ℕ). term.Free i) (numbers_from (start + 1) count) ++ cs)
      (map (λ (i : ℕ). term.Free i) (numbers_from (start + 1) count) ++ ds) (variable_moves start start (same start (omega arith)))
      (variables_move (start + 1) count (λ i below. same i (omega (arith, below))) cs ds others)

  pub true_moves : {l r l2 r2 : Term} → M l l2 → M r r2 → IsTrueAt Q ts fs rho (equals l r) → IsTrueAt Q us gs rho2 (equals l2 r2)
  true_moves left right is = (is.0, is.1, is.2, left.to is.0 is.1 is.3, right.to is.0 is.2 is.4)

  module _ (s t : Subject) (f : Fun) (hs : List Fun) (one : StandsAs ts fs s f hs) (other : StandsAs us gs t f hs)
      (long : length s.leading ≡ length t.leading)
      (front : (i : ℕ) → i < length s.leading → (v : Value) → slice_get rho i ≡ Some v → slice_get rho2 i ≡ Some v) where
    call_moves : (args others : List Term) → AllMove args others → M (term.Call s.function s.given args) (term.Call t.function t.given others)
    call_moves args others all = record {
      to = λ v c means.
          let parts : OfCall Q ts fs rho [] s.function s.given args v c =
          rests_on Q ts fs rho [] (Term-F.Call s.function s.given args) v c
          (layer_of (term.Call s.function s.given args) (Term-F.Call s.function s.given args) v c (term.outs-Call s.function s.given args) means) in
          let same : parts.g ≡ f = one_item parts.g f (sym parts.fun_means ∙ one.function) in
          let same_given : parts.gs ≡ hs = one_meaning ts fs s.given parts.gs hs parts.funs_mean one.given in
          let gives : Gives Q f hs parts.vs v parts.b = subst₂ (λ (g : Fun) (gs : List Fun). Gives Q g gs parts.vs v parts.b) same same_given parts.gives in
          of_layer_means Q us gs rho2 (term.Call t.function t.given others) (Term-F.Call t.function t.given others) v c
          (term.outs-Call t.function t.given others)
          (call (all.to parts.vs parts.a parts.all) other.function other.given gives parts.total);
    }

    -- the functions on terms
    pub both_move : {a b c d : Term} → M a b → M c d → M (applied s a c) (applied t b d)
    both_move {a} {b} {c} {d} first second =
        let lasts : AllMove (a ∷ c ∷ []) (b ∷ d ∷ []) = more_move a b (c ∷ []) (d ∷ []) first (more_move c d [] [] second none_move) in
        let here : AllMove (map (λ (i : ℕ). term.Free i) (numbers_from 0 (length s.leading)) ++ a ∷ c ∷ [])
        (map (λ (i : ℕ). term.Free i) (numbers_from 0 (length s.leading)) ++ b ∷ d ∷ []) =
        variables_move 0 (length s.leading) (λ i below v at. front i (omega (arith, below)) v at) (a ∷ c ∷ []) (b ∷ d ∷ []) lasts in
        let there : AllMove (map (λ (i : ℕ). term.Free i) (numbers_from 0 (length s.leading)) ++ a ∷ c ∷ [])
        (map (λ (i : ℕ). term.Free i) (numbers_from 0 (length t.leading)) ++ b ∷ d ∷ []) = subst
        (λ (n : ℕ). AllMove (map (λ (i : ℕ). term.Free i) (numbers_from 0 (length s.leading)) ++ a ∷ c ∷ [])
        (map (λ (i : ℕ). term.Free i) (numbers_from 0 n) ++ b ∷ d ∷ [])) long here in
        call_moves (map (λ (i : ℕ). term.Free i) (numbers_from 0 (length s.leading)) ++ a ∷ c ∷ [])
        (map (λ (i : ℕ). term.Free i) (numbers_from 0 (length t.leading)) ++ b ∷ d ∷ []) there

-- two subjects at the same values: what the one clause's sides mean, the other's mean
module _ (Q : Program) (rho : List Value) (ts : List Ty) (fs : List Fun) (us : List Ty) (gs : List Fun) (s t : Subject) (f : Fun) (hs : List Fun)
    (one : StandsAs ts fs s f hs) (other : StandsAs us gs t f hs) (long : length s.leading ≡ length t.leading) where
  abbrev N : Term → Term → Type 0
  N a b = Moves Q ts fs rho us gs rho a b

  both : {a b c d : Term} → N a b → N c d → N (applied s a c) (applied t b d)
  both first second = both_move Q ts fs rho us gs rho s t f hs one other long (λ i below v at. at) first second

  stays : (i j : ℕ) → i ≡ j → N (term.Free i) (term.Free j)
  stays i j e = variable_moves Q ts fs rho us gs rho i j (λ v at. ap (slice_get rho) (sym e) ∙ at)

  truth : (k : ℕ) → N (term.Con 0 k [] []) (term.Con 0 k [] [])
  truth k = truth_moves Q ts fs rho us gs rho k

  x_moves : N (x_of s) (x_of t)
  x_moves = stays (length s.leading) (length t.leading) long

  y_moves : N (y_of s) (y_of t)
  y_moves = stays (length s.leading + 1) (length t.leading + 1) (ap (λ (n : ℕ). n + 1) long)

  z_moves : N (z_of s) (z_of t)
  z_moves = stays (length s.leading + 2) (length t.leading + 2) (ap (λ (n : ℕ). n + 2) long)

  -- where the one equations are true, the others are
  data EquationsMove : List Equation → List Equation → Type 0 where
    no_equation : EquationsMove [] []
    equation : {l r l2 r2 : Term} {es es2 : List Equation} → N l l2 → N r r2 → EquationsMove es es2 → EquationsMove (equals l r ∷ es) (equals l2 r2 ∷ es2)

  are_true_move : {es es2 : List Equation} → EquationsMove es es2 → AreTrueAt Q ts fs rho es → AreTrueAt Q us gs rho es2
  are_true_move no_equation are = tt
  are_true_move (equation left right others) are = (true_moves Q ts fs rho us gs rho left right are.0, are_true_move others are.1)

  some_moves : {es es2 : List Equation} → EquationsMove es es2 → SomeIsTrueAt Q ts fs rho es → SomeIsTrueAt Q us gs rho es2
  some_moves no_equation some = elim some [ ]
  some_moves (equation left right others) (here is) = here (true_moves Q ts fs rho us gs rho left right is)
  some_moves (equation left right others) (later some) = later (some_moves others some)

  XY : N (applied s (x_of s) (y_of s)) (applied t (x_of t) (y_of t))
  XY = both x_moves y_moves

  YX : N (applied s (y_of s) (x_of s)) (applied t (y_of t) (x_of t))
  YX = both y_moves x_moves

  XX : N (applied s (x_of s) (x_of s)) (applied t (x_of t) (x_of t))
  XX = both x_moves x_moves

  YZ : N (applied s (y_of s) (z_of s)) (applied t (y_of t) (z_of t))
  YZ = both y_moves z_moves

  premises_move : (p : Prop) → EquationsMove (says s p).premises (says t p).premises
  premises_move Comm = no_equation
  premises_move Assoc = no_equation
  premises_move Idem = no_equation
  premises_move Sel = no_equation
  premises_move Refl = no_equation
  premises_move Irrefl = no_equation
  premises_move Sym = equation XY (truth 1) no_equation
  premises_move Antisym = equation XY (truth 1) (equation YX (truth 1) no_equation)
  premises_move Asym = equation XY (truth 1) no_equation
  premises_move Trans = equation XY (truth 1) (equation YZ (truth 1) no_equation)
  premises_move Conn = equation XY (truth 0) no_equation

  alternatives_move : (p : Prop) → EquationsMove (says s p).alternatives (says t p).alternatives
  alternatives_move Comm = equation XY YX no_equation
  alternatives_move Assoc = equation (both XY z_moves) (both x_moves YZ) no_equation
  alternatives_move Idem = equation XX x_moves no_equation
  alternatives_move Sel = equation XY x_moves (equation XY y_moves no_equation)
  alternatives_move Refl = equation XX (truth 1) no_equation
  alternatives_move Irrefl = equation XX (truth 0) no_equation
  alternatives_move Sym = equation YX (truth 1) no_equation
  alternatives_move Antisym = equation x_moves y_moves no_equation
  alternatives_move Asym = equation YX (truth 0) no_equation
  alternatives_move Trans = equation (both x_moves z_moves) (truth 1) no_equation
  alternatives_move Conn = equation YX (truth 1) no_equation

  -- premises of a saying that are true of the one subject are true of the other
  pub said_premises : (p : Prop) → AreTrueAt Q ts fs rho (says s p).premises → AreTrueAt Q us gs rho (says t p).premises
  said_premises p are = are_true_move (premises_move p) are

  -- so are alternatives
  pub said_alternatives : (p : Prop) → SomeIsTrueAt Q ts fs rho (says s p).alternatives → SomeIsTrueAt Q us gs rho (says t p).alternatives
  said_alternatives p some = some_moves (alternatives_move p) some
