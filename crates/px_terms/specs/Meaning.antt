-- What a term means: its value and its number of calls.
use Rattle.std.specs.Prelude.{◌≡◌, ℕ, ◌+◌, List, [], ◌∷◌, ◌++◌, Bool, if◌then◌else◌, nat_le, ◌==◌, Option, Some, None, slice_get, reverse}
use Rattle.std.specs.Option.{option_map}
use Rattle.px_terms.specs.declared.types.Ty.{Ty}
use Rattle.px_terms.specs.declared.types.Fun.{Fun}
use Rattle.px_base.specs.declared.head.Head.{Head}
use Rattle.px_base.specs.declared.head.Head.TheVariants.{Def, Wle, Weq, FnVar}
use Rattle.px_terms.specs.declared.term.Term.{Term, out-Term}
use Rattle.px_terms.specs.declared.term.Term.TheOpen.{Term-F}
use Rattle.px_terms.specs.declared.term.Value.{Value, out-Value}
use Rattle.px_terms.specs.declared.term.Value.TheVariants as value
use Rattle.px_terms.specs.declared.term.Value.TheOpen.{Value-F}
use Rattle.px_terms.specs.declared.program.Program.{Program}
use Rattle.px_terms.specs.Types.{fun_with_types}
use Rattle.px_terms.specs.Programs.{body_of}

-- the value `False` or `True`
abbrev pub truth : Bool → Value
truth b = value.Con 0 (if b then 1 else 0) []

-- what a function stands for under the types and functions of the call around it: a variable for the function of its
-- number, all else for itself with the types put in
abbrev pub meant_function : List Ty → List Fun → Fun → Head → Option Fun
meant_function types funs f (FnVar n) = slice_get funs n
meant_function types funs f (Def n) = Some (fun_with_types types f)
meant_function types funs f Wle = Some (fun_with_types types f)
meant_function types funs f Weq = Some (fun_with_types types f)

-- the function g is what f stands for
abbrev pub FunMeans : List Ty → List Fun → Fun → Fun → Type 0
FunMeans types funs f g = meant_function types funs f f.head ≡ Some g

-- the functions gs are what fs stand for, in order
abbrev pub FunsMean : List Ty → List Fun → List Fun → List Fun → Type 0
FunsMean types funs [] [] = Unit {0}
FunsMean types funs (f ∷ fs) (g ∷ gs) = FunMeans types funs f g × FunsMean types funs fs gs
FunsMean types funs [] (g ∷ gs) = ⊥
FunsMean types funs (f ∷ fs) [] = ⊥

-- how a match chooses its arm: by the number of the value's constructor, with the fields' values
abbrev pub chosen : List Term → Value-F Value → Option (Term × List Value)
chosen arms (Value-F.Lit w) = None
chosen arms (Value-F.Con d k fields) = option_map (λ (arm : Term). (arm, fields)) (slice_get arms k)

-- the values of the pattern variables inside an arm: the last field is the innermost
abbrev pub bind : List Value → List Value → List Value
bind fields bound = reverse fields ++ bound

mutual
  -- under the types, the functions and the values of free and bound variables, the layer of a term has the value with
  -- exactly this many calls
  pub data MeansOf (P : Program) : List Ty → List Fun → List Value → List Value → Term-F Term → Value → ℕ → Type 0 where
    free : {types : List Ty} {funs : List Fun} {rho bound : List Value} {n : ℕ} {v : Value} → slice_get rho n ≡ Some v → MeansOf P types funs rho bound (Term-F.Free n) v 0
    bound : {types : List Ty} {funs : List Fun} {rho bound : List Value} {n : ℕ} {v : Value} → slice_get bound n ≡ Some v → MeansOf P types funs rho bound (Term-F.Bound n) v 0
    lit : {types : List Ty} {funs : List Fun} {rho bound : List Value} {w : ℕ} {v : Value} → v ≡ value.Lit w → MeansOf P types funs rho bound (Term-F.Lit w) v 0
    con : {types : List Ty} {funs : List Fun} {rho bound : List Value} {d k : ℕ} {ts : List Ty} {fields : List Term} {vs : List Value} {v : Value} {c : ℕ} → MeanAll P types funs rho bound fields vs c → v ≡ value.Con d k vs → MeansOf P types funs rho bound (Term-F.Con d k ts fields) v c
    choose : {types : List Ty} {funs : List Fun} {rho bound : List Value} {on : Term} {d : ℕ} {ts : List Ty} {arms : List Term} {u : Value} {arm : Term} {vs : List Value} {v : Value} {a b c : ℕ} → MeansOf P types funs rho bound (out-Term on) u a → chosen arms (out-Value u) ≡ Some (arm, vs) → MeansOf P types funs rho (bind vs bound) (out-Term arm) v b → a + b ≡ c → MeansOf P types funs rho bound (Term-F.Match on d ts arms) v c
    call : {types : List Ty} {funs : List Fun} {rho bound : List Value} {f g : Fun} {fs gs : List Fun} {args : List Term} {vs : List Value} {v : Value} {a b c : ℕ} → MeanAll P types funs rho bound args vs a → FunMeans types funs f g → FunsMean types funs fs gs → Gives P g gs vs v b → a + b ≡ c → MeansOf P types funs rho bound (Term-F.Call f fs args) v c

  -- the terms have these values in order, with the sum of their calls
  pub data MeanAll (P : Program) : List Ty → List Fun → List Value → List Value → List Term → List Value → ℕ → Type 0 where
    none : {types : List Ty} {funs : List Fun} {rho bound : List Value} → MeanAll P types funs rho bound [] [] 0
    more : {types : List Ty} {funs : List Fun} {rho bound : List Value} {t : Term} {ts : List Term} {v : Value} {vs : List Value} {a b c : ℕ} → MeansOf P types funs rho bound (out-Term t) v a → MeanAll P types funs rho bound ts vs b → a + b ≡ c → MeanAll P types funs rho bound (t ∷ ts) (v ∷ vs) c

  -- a function on functions and values gives this value, and this many calls beside the arguments': a definition its
  -- body's and one more, a built-in none
  pub data Gives (P : Program) : Fun → List Fun → List Value → Value → ℕ → Type 0 where
    defined : {n : ℕ} {types : List Ty} {funs : List Fun} {vs : List Value} {body : Term} {v : Value} {b c : ℕ} → body_of P n ≡ Some body → MeansOf P types funs vs [] (out-Term body) v b → b + 1 ≡ c → Gives P (record { head = Def n; types = types }) funs vs v c
    at_most : {types : List Ty} {funs : List Fun} {a b v : Value} {x y : ℕ} → out-Value a ≡ Value-F.Lit x → out-Value b ≡ Value-F.Lit y → v ≡ truth (nat_le x y) → Gives P (record { head = Wle; types = types }) funs (a ∷ b ∷ []) v 0
    equal : {types : List Ty} {funs : List Fun} {a b v : Value} {x y : ℕ} → out-Value a ≡ Value-F.Lit x → out-Value b ≡ Value-F.Lit y → v ≡ truth (x == y) → Gives P (record { head = Weq; types = types }) funs (a ∷ b ∷ []) v 0

-- under the types, the functions and the values of its variables, the term has the value with exactly c calls
abbrev pub Means : Program → List Ty → List Fun → List Value → Term → Value → ℕ → Type 0
Means P types funs rho t v c = MeansOf P types funs rho [] (out-Term t) v c

-- the two terms have one value
abbrev pub SameValue : Program → List Ty → List Fun → List Value → Term → Term → Type 0
SameValue P types funs rho s t = (v : Value) × (a : ℕ) × (b : ℕ) × Means P types funs rho s v a × Means P types funs rho t v b
