-- What a name stands for at its place.
use Rattle.std.specs.Prelude.{ℕ, ◌+◌, ◌-◌, List, [], ◌∷◌, Option, Some, None, nat_lt, cond, codes, length}
use Rattle.std.specs.List.{slice_get}
use Rattle.std.specs.Option.{option_and_then, option_map}
use Rattle.std.specs.Str.{bytes_eq}
use Rattle.px_base.specs.declared.head.Head.{Head}
use Rattle.px_base.specs.declared.head.Head.TheVariants as heads
use Rattle.px_base.specs.declared.raw.RawTyKind.{RawTyKind}
use Rattle.px_base.specs.declared.raw.RawTyKind.TheVariants as type_kinds
use Rattle.px_scope.specs.declared.globals.Constructor.{Constructor}
use Rattle.px_scope.specs.declared.globals.Meaning.{Meaning}
use Rattle.px_scope.specs.declared.globals.Meaning.TheVariants.{Wle, Weq, Definition, Lemma, Replica}
use Rattle.px_scope.specs.declared.globals.Globals.{Globals}
use Rattle.px_scope.specs.declared.locals.Local.{Local}
use Rattle.px_scope.specs.declared.locals.Local.TheVariants.{Function, Value, Pattern}
use Rattle.px_scope.specs.declared.locals.TypeLocals.{TypeLocals}
use Rattle.px_scope.specs.declared.locals.Locals.{Locals}
use Rattle.px_scope.specs.Names.{number, number_of}

-- what is there before the first declaration: `Bool`, its constructors, and the two comparisons of words
abbrev pub built_in : Globals
built_in = record {
  datatypes = codes "Bool" ∷ [];
  cons = codes "False" ∷ codes "True" ∷ [];
  constructors = record { datatype = 0; number = 0 } ∷ record { datatype = 0; number = 1 } ∷ [];
  lowers = codes "wle" ∷ codes "weq" ∷ [];
  meanings = Wle ∷ Weq ∷ [];
  claimed = [];
}

-- no type parameters
abbrev pub no_parameters : TypeLocals
no_parameters = record { parameters = []; own = None }

-- nothing is local
abbrev pub nothing_local : Locals
nothing_local = record { types = no_parameters; names = []; functions = 0; values = 0; own_definition = None }

-- the constructor that a name stands for
abbrev pub constructor_of : Globals → List ℕ → Option Constructor
constructor_of G name = option_and_then (slice_get G.constructors) (number_of G.cons name)

-- what a name with a small letter stands for, where it is no local
abbrev pub meaning_of : Globals → List ℕ → Option Meaning
meaning_of G name = option_and_then (slice_get G.meanings) (number_of G.lowers name)

-- The local of this number: the function parameters come first, then the data parameters, both numbered from 0, and then
-- the patterns' variables, which are counted from the last.
abbrev pub local_at : Locals → ℕ → Option Local
local_at L n = cond (nat_lt n L.functions) (Some (Function n)) (cond (nat_lt (n - L.functions) L.values) (Some (Value (n - L.functions))) (option_map Pattern (number (length L.names - (n + 1)))))

-- the local that a name stands for
abbrev pub local_of : Locals → List ℕ → Option Local
local_of L name = option_and_then (local_at L) (number_of L.names name)

-- the first of two answers
abbrev pub or_else : {T : Type 0} → Option T → Option T → Option T
or_else (Some x) other = Some x
or_else None other = other

-- what a type's name stands for: a type parameter, `Word` or a datatype
abbrev pub type_of : Globals → TypeLocals → List ℕ → Option RawTyKind
type_of G T name = or_else (option_map type_kinds.Var (number_of T.parameters name)) (cond (bytes_eq name (codes "Word")) (Some type_kinds.Word) (option_map type_kinds.Con (number_of G.datatypes name)))

-- the function that a local is
abbrev pub head_of_local : Local → Option Head
head_of_local (Function n) = Some (heads.FnVar n)
head_of_local (Value n) = None
head_of_local (Pattern n) = None

-- the function that a meaning is
abbrev pub head_of_meaning : Meaning → Option Head
head_of_meaning Wle = Some heads.Wle
head_of_meaning Weq = Some heads.Weq
head_of_meaning (Definition n functions) = Some (heads.Def n)
head_of_meaning Lemma = None
head_of_meaning Replica = None

-- the function that a name stands for, where a local hides what was declared at the top
abbrev pub head_at : Option Local → Option Meaning → Option Head
head_at (Some local) meaning = head_of_local local
head_at None meaning = option_and_then head_of_meaning meaning

-- the function that a name stands for
abbrev pub head_of : Globals → Locals → List ℕ → Option Head
head_of G L name = head_at (local_of L name) (meaning_of G name)

-- how many function parameters a meaning has
abbrev pub functions_of : Meaning → ℕ
functions_of Wle = 0
functions_of Weq = 0
functions_of (Definition n functions) = functions
functions_of Lemma = 0
functions_of Replica = 0

-- the same of what a name stands for
abbrev pub places_at : Option Local → Option Meaning → ℕ
places_at (Some local) meaning = 0
places_at None None = 0
places_at None (Some meaning) = functions_of meaning

-- how many of a call's first arguments are functions
abbrev pub function_places : Globals → Locals → List ℕ → ℕ
function_places G L name = places_at (local_of L name) (meaning_of G name)
