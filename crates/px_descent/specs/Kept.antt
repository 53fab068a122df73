-- What the walks of a body say of the self-calls that they pass.
use Rattle.std.specs.Prelude.{◌↔◌, ℕ, ◌+◌, Bool, false, IsTrue, List, [], map, get_or, All}
use Rattle.px_terms.specs.declared.term.Term.{Term, out-Term}
use Rattle.px_terms.specs.declared.term.Term.TheOpen.{Term-F}
use Rattle.px_terms.specs.declared.program.Program.{Program}
use Rattle.px_terms.specs.Descent.{Standing, Seen, walk, self_call, calls_in_arms, Keeps}
use Rattle.px_descent.specs.declared.around.Matched.{Matched}
use Rattle.px_descent.specs.declared.kept.Positions.{Positions}
use Rattle.px_descent.specs.Around.{standing_of, bound_of}

-- what each of the terms is to the parameters
abbrev pub stands_in : Program → ℕ → List Term → List Standing → List Standing
stands_in P n terms bound = map (λ (part : Seen). (part bound).stands) (map (walk P n) terms)

-- the self-call that a term itself is, where it is one
abbrev pub own_call_of : Program → ℕ → Term-F Term → List Standing → List (List Standing)
own_call_of P n (Term-F.Free p) bound = []
own_call_of P n (Term-F.Bound i) bound = []
own_call_of P n (Term-F.Lit w) bound = []
own_call_of P n (Term-F.Con d k types fields) bound = []
own_call_of P n (Term-F.Call f funs args) bound = self_call n f.head (stands_in P n args bound)
own_call_of P n (Term-F.Match on d types arms) bound = []

-- so for the term and not its layer
abbrev pub own_call : Program → ℕ → Term → List Standing → List (List Standing)
own_call P n t bound = own_call_of P n (out-Term t) bound

-- what is seen of a term in the body of the definition whose positions these are
abbrev pub walked : Positions → Term → Seen
walked positions = walk positions.program.now positions.def

-- the self-calls in the arms of a match
abbrev pub arm_calls : Program → Matched → List Seen → List (List Standing)
arm_calls P matched arms = calls_in_arms P matched.datatype 0 arms (standing_of matched.on) (bound_of matched.around.now)

-- Of the positions from `first` on, those are left that were there and that each of the calls keeps.
pub record Clears (first : ℕ) (calls : List (List Standing)) (old new : List Bool) : Type 0 where
  pub left : (i : ℕ) → IsTrue (get_or new i false) ↔ (IsTrue (get_or old i false) × All (λ (args : List Standing). Keeps args (first + i)) calls)
