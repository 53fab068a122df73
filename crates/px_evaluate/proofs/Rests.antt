-- What a meaning rests on whose terms nest at most one deeper than n.
use Rattle.std.proofs.Common.{◌≡◌, ℕ, ◌+◌, ◌≤◌, Bool, nat_le, ◌==◌, List, [], ◌∷◌, Some, refl, subst, slice_get, arith}
use Rattle.px_terms.specs.declared.types.Ty.{Ty}
use Rattle.px_terms.specs.declared.types.Fun.{Fun}
use Rattle.px_terms.specs.Head.{Head}
use Rattle.px_terms.specs.Head.TheVariants.{Def, Wle, Weq, FnVar}
use Rattle.px_terms.specs.declared.term.Term.{Term, out-Term}
use Rattle.px_terms.specs.declared.term.Term.TheOpen.{Term-F}
use Rattle.px_terms.specs.declared.term.Value.{Value, out-Value}
use Rattle.px_terms.specs.declared.term.Value.TheVariants as value
use Rattle.px_terms.specs.declared.program.Program.{Program}
use Rattle.px_terms.specs.Programs.{body_of}
use Rattle.px_terms.specs.Meaning.{truth, FunMeans, FunsMean, chosen, bind, MeansOf, MeanAll, Gives, free, bound, lit, con, choose, call, none, more, defined}
use Rattle.px_terms.specs.Meaning.{at_most, equal}
use Rattle.px_evaluate.specs.Nesting.{nesting, nesting_of_all, nesting_of_body, MeansWithin, MeanAllWithin, GivesWithin}
use Rattle.px_evaluate.specs.Finding.{AreWords}

-- What a constructor's meaning rests on.
pub record ConRests (n : ℕ) (P : Program) (types : List Ty) (funs : List Fun) (rho inner : List Value) (d k : ℕ) (fields : List Term) (v : Value)
    (c : ℕ) : Type 0 where
  pub vs : List Value
  pub all : MeanAllWithin n P types funs rho inner fields vs c
  pub is : v ≡ value.Con d k vs

-- What a match's meaning rests on.
pub record MatchRests (n : ℕ) (P : Program) (types : List Ty) (funs : List Fun) (rho inner : List Value) (on : Term) (arms : List Term) (v : Value)
    (c : ℕ) : Type 0 where
  pub u : Value
  pub arm : Term
  pub vs : List Value
  pub a : ℕ
  pub b : ℕ
  pub on_means : MeansWithin n P types funs rho inner (out-Term on) u a
  pub chooses : chosen arms (out-Value u) ≡ Some (arm, vs)
  pub arm_means : MeansWithin n P types funs rho (bind vs inner) (out-Term arm) v b
  pub total : a + b ≡ c

-- What a call's meaning rests on.
pub record CallRests (n : ℕ) (P : Program) (types : List Ty) (funs : List Fun) (rho inner : List Value) (f : Fun) (fs : List Fun) (args : List Term) (v : Value)
    (c : ℕ) : Type 0 where
  pub g : Fun
  pub gs : List Fun
  pub vs : List Value
  pub a : ℕ
  pub b : ℕ
  pub all : MeanAllWithin n P types funs rho inner args vs a
  pub fun_means : FunMeans types funs f g
  pub funs_mean : FunsMean types funs fs gs
  pub gives : GivesWithin n P g gs vs v b
  pub total : a + b ≡ c

-- what a meaning rests on, by the layer
abbrev pub RestsOn : ℕ → Program → List Ty → List Fun → List Value → List Value → Term-F Term → Value → ℕ → Type 0
RestsOn n P types funs rho inner (Term-F.Free i) v c = (slice_get rho i ≡ Some v) × (c ≡ 0)
RestsOn n P types funs rho inner (Term-F.Bound i) v c = (slice_get inner i ≡ Some v) × (c ≡ 0)
RestsOn n P types funs rho inner (Term-F.Lit w) v c = (v ≡ value.Lit w) × (c ≡ 0)
RestsOn n P types funs rho inner (Term-F.Con d k ts fields) v c = ConRests n P types funs rho inner d k fields v c
RestsOn n P types funs rho inner (Term-F.Match on d ts arms) v c = MatchRests n P types funs rho inner on arms v c
RestsOn n P types funs rho inner (Term-F.Call f fs args) v c = CallRests n P types funs rho inner f fs args v c

rests_of : (n : ℕ) (P : Program) (types : List Ty) (funs : List Fun) (rho inner : List Value) (y : Term-F Term) (v : Value) (c : ℕ)
    (means : MeansOf P types funs rho inner y v c) → nesting means ≤ n + 1 → RestsOn n P types funs rho inner y v c
rests_of n P types funs rho inner _ v _ (free is) h = (is, refl)
rests_of n P types funs rho inner _ v _ (bound is) h = (is, refl)
rests_of n P types funs rho inner _ v _ (lit is) h = (is, refl)
rests_of n P types funs rho inner _ v c (con {vs = vs} all is) h = record { vs = vs; all = record { mean = all; nest = omega arith }; is = is }
rests_of n P types funs rho inner _ v c (choose {u = u} {arm = arm} {vs = vs} {a = a} {b = b} on_means chooses arm_means total) h = record {
  u = u;
  arm = arm;
  vs = vs;
  a = a;
  b = b;
  on_means = record { means = on_means; nests = omega arith };
  chooses = chooses;
  arm_means = record { means = arm_means; nests = omega arith };
  total = total;
}
rests_of n P types funs rho inner _ v c (call {g = g} {gs = gs} {vs = vs} {a = a} {b = b} all fun_means funs_mean gives total) h = record {
  g = g;
  gs = gs;
  vs = vs;
  a = a;
  b = b;
  all = record { mean = all; nest = omega arith };
  fun_means = fun_means;
  funs_mean = funs_mean;
  gives = record { gives = gives; body_nests = omega arith };
  total = total;
}

pub rests_on : (n : ℕ) (P : Program) (types : List Ty) (funs : List Fun) (rho inner : List Value) (y : Term-F Term) (v : Value) (c : ℕ) →
    MeansWithin (n + 1) P types funs rho inner y v c → RestsOn n P types funs rho inner y v c
rests_on n P types funs rho inner y v c m = rests_of n P types funs rho inner y v c m.means m.nests

-- no terms nest nowhere
nowhere_of : (P : Program) (types : List Ty) (funs : List Fun) (rho inner : List Value) (y : Term-F Term) (v : Value) (c : ℕ) →
    (means : MeansOf P types funs rho inner y v c) → nesting means ≤ 0 → ⊥
nowhere_of P types funs rho inner _ v _ (free is) h = absurd (omega arith)
nowhere_of P types funs rho inner _ v _ (bound is) h = absurd (omega arith)
nowhere_of P types funs rho inner _ v _ (lit is) h = absurd (omega arith)
nowhere_of P types funs rho inner _ v c (con all is) h = absurd (omega arith)
nowhere_of P types funs rho inner _ v c (choose on_means chooses arm_means total) h = absurd (omega arith)
nowhere_of P types funs rho inner _ v c (call all fun_means funs_mean gives total) h = absurd (omega arith)

pub nowhere : (P : Program) (types : List Ty) (funs : List Fun) (rho inner : List Value) (y : Term-F Term) (v : Value) (c : ℕ) →
    MeansWithin 0 P types funs rho inner y v c → ⊥
nowhere P types funs rho inner y v c m = nowhere_of P types funs rho inner y v c m.means m.nests

-- What the meaning of a first term and others rests on.
pub record MoreRests (n : ℕ) (P : Program) (types : List Ty) (funs : List Fun) (rho inner : List Value) (t : Term) (ts : List Term) (all : List Value)
    (c : ℕ) : Type 0 where
  pub v : Value
  pub vs : List Value
  pub a : ℕ
  pub b : ℕ
  pub first : MeansWithin n P types funs rho inner (out-Term t) v a
  pub others : MeanAllWithin n P types funs rho inner ts vs b
  pub total : a + b ≡ c
  pub is : all ≡ v ∷ vs

-- what the meaning of terms rests on
abbrev pub AllRestOn : ℕ → Program → List Ty → List Fun → List Value → List Value → List Term → List Value → ℕ → Type 0
AllRestOn n P types funs rho inner [] vs c = (vs ≡ []) × (c ≡ 0)
AllRestOn n P types funs rho inner (t ∷ ts) vs c = MoreRests n P types funs rho inner t ts vs c

all_rest_of : (n : ℕ) (P : Program) (types : List Ty) (funs : List Fun) (rho inner : List Value) (ts : List Term) (vs : List Value) (c : ℕ) →
    (mean : MeanAll P types funs rho inner ts vs c) → nesting_of_all mean ≤ n → AllRestOn n P types funs rho inner ts vs c
all_rest_of n P types funs rho inner _ _ _ none h = (refl, refl)
all_rest_of n P types funs rho inner _ _ c (more {v = v} {vs = vs} {a = a} {b = b} means mean total) h = record {
  v = v;
  vs = vs;
  a = a;
  b = b;
  first = record { means = means; nests = omega arith };
  others = record { mean = mean; nest = omega arith };
  total = total;
  is = refl;
}

pub all_rest_on : (n : ℕ) (P : Program) (types : List Ty) (funs : List Fun) (rho inner : List Value) (ts : List Term) (vs : List Value) (c : ℕ) →
    MeanAllWithin n P types funs rho inner ts vs c → AllRestOn n P types funs rho inner ts vs c
all_rest_on n P types funs rho inner ts vs c m = all_rest_of n P types funs rho inner ts vs c m.mean m.nest

-- What a call of a definition rests on.
pub record BodyRests (n : ℕ) (P : Program) (i : ℕ) (types : List Ty) (funs : List Fun) (vs : List Value) (v : Value) (c : ℕ) : Type 0 where
  pub body : Term
  pub b : ℕ
  pub found : body_of P i ≡ Some body
  pub means : MeansWithin n P types funs vs [] (out-Term body) v b
  pub total : b + 1 ≡ c

-- What a call of a built-in rests on.
pub record WordsRest (holds : ℕ → ℕ → Bool) (vs : List Value) (v : Value) (c : ℕ) : Type 0 where
  pub words : ℕ × ℕ
  pub are : AreWords vs words
  pub is : v ≡ truth (holds words.0 words.1)
  pub calls : c ≡ 0

-- what a call rests on, by what is called
abbrev pub GiftRestsOn : ℕ → Program → Head → List Ty → List Fun → List Value → Value → ℕ → Type 0
GiftRestsOn n P (Def i) types funs vs v c = BodyRests n P i types funs vs v c
GiftRestsOn n P Wle types funs vs v c = WordsRest nat_le vs v c
GiftRestsOn n P Weq types funs vs v c = WordsRest (λ x y. x == y) vs v c
GiftRestsOn n P (FnVar i) types funs vs v c = ⊥

gift_rests_of : (n : ℕ) (P : Program) (f : Fun) (funs : List Fun) (vs : List Value) (v : Value) (c : ℕ) (gives : Gives P f funs vs v c) →
    nesting_of_body gives ≤ n → GiftRestsOn n P f.head f.types funs vs v c
gift_rests_of n P _ funs vs v c (defined {body = body} {b = b} found means total) h = record {
  body = body;
  b = b;
  found = found;
  means = record { means = means; nests = h };
  total = total;
}
gift_rests_of n P _ funs _ v _ (at_most {x = x} {y = y} left right is) h = record { words = (x, y); are = (left, right); is = is; calls = refl }
gift_rests_of n P _ funs _ v _ (equal {x = x} {y = y} left right is) h = record { words = (x, y); are = (left, right); is = is; calls = refl }

-- what a call rests on, where this is called
pub gift_rests_on : (n : ℕ) (P : Program) (f : Fun) (h : Head) (funs : List Fun) (vs : List Value) (v : Value) (c : ℕ) → f.head ≡ h →
    GivesWithin n P f funs vs v c → GiftRestsOn n P h f.types funs vs v c
gift_rests_on n P f h funs vs v c is gift = subst (λ x. GiftRestsOn n P x f.types funs vs v c) is (gift_rests_of n P f funs vs v c gift.gives gift.body_nests)
