-- The rules of scope: for each place at which a name can stand, the first rule that the name breaks there, if it breaks
-- one. The rules are tried in the order Unknown, Later, Repeated, WrongPlace.
use Rattle.std.specs.Prelude.{ℕ, Bool, true, false, not, ◌&&◌, ◌||◌, ◌==◌, nat_lt, cond, codes, List, [], ◌∷◌, Option, Some, None}
use Rattle.std.specs.List.{list_any}
use Rattle.std.specs.Str.{bytes_eq}
use Rattle.px_base.specs.declared.prop.Prop.{Prop}
use Rattle.px_base.specs.declared.prop.Prop.TheVariants as prop
use Rattle.px_base.specs.declared.raw.RawTyKind.{RawTyKind}
use Rattle.px_base.specs.declared.raw.RawTyKind.TheVariants as type_kinds
use Rattle.px_parser.specs.declared.surface.Item.{Item}
use Rattle.px_parser.specs.declared.surface.SType.{SType, out-SType}
use Rattle.px_scope.specs.declared.ends.ScopeKind.{ScopeKind}
use Rattle.px_scope.specs.declared.ends.ScopeKind.TheVariants.{Unknown, Repeated, Later, WrongPlace}
use Rattle.px_scope.specs.declared.globals.Constructor.{Constructor}
use Rattle.px_scope.specs.declared.globals.Meaning.{Meaning}
use Rattle.px_scope.specs.declared.globals.Meaning.TheVariants.{Wle, Weq, Definition, Lemma, Replica}
use Rattle.px_scope.specs.declared.globals.Globals.{Globals}
use Rattle.px_scope.specs.declared.locals.Local.{Local}
use Rattle.px_scope.specs.declared.locals.Local.TheVariants.{Function, Value, Pattern}
use Rattle.px_scope.specs.declared.locals.TypeLocals.{TypeLocals}
use Rattle.px_scope.specs.declared.locals.Locals.{Locals}
use Rattle.px_scope.specs.Names.{is_name}
use Rattle.px_scope.specs.Standing.{constructor_of, meaning_of, local_of, type_of}
use Rattle.px_scope.specs.Later.{declares_type, declares_constructor, declares_lower}

-- a name that is not declared before its place: it is declared later in the text, or nowhere
abbrev pub absent : Bool → ScopeKind
absent declared = cond declared Later Unknown

-- a rule that is broken where the test holds
abbrev pub broken_where : Bool → ScopeKind → Option ScopeKind
broken_where test kind = cond test (Some kind) None

-- the name of a type that has no arguments
abbrev pub lone_name : SType → Option (List ℕ)
lone_name s = elim (out-SType s).args [ [] ↦ Some (out-SType s).name.text | _ ↦ None ]

-- types are these type parameters, in order
abbrev pub are_parameters : List (Option (List ℕ)) → List (List ℕ) → Bool
are_parameters [] [] = true
are_parameters [] (p ∷ ps) = false
are_parameters (a ∷ args) [] = false
are_parameters (None ∷ args) (p ∷ ps) = false
are_parameters (Some a ∷ args) (p ∷ ps) = bytes_eq a p && are_parameters args ps

-- the number is this one, where there is one: that of the datatype or the definition that is being declared
abbrev pub is_own : Option ℕ → ℕ → Bool
is_own (Some own) n = own == n
is_own None n = false

-- the rule that a type's name breaks, by what it stands for and by the lone names of its arguments
abbrev pub type_fault_at : Bool → Option RawTyKind → TypeLocals → List (Option (List ℕ)) → Option ScopeKind
type_fault_at declared None T args = Some (absent declared)
type_fault_at declared (Some type_kinds.Word) T args = None
type_fault_at declared (Some (type_kinds.Var n)) T args = None
type_fault_at declared (Some (type_kinds.Con n)) T args = broken_where (is_own T.own n && not (are_parameters args T.parameters)) WrongPlace

-- A type's name stands for a type parameter, `Word` or a datatype declared before; the datatype that is being declared has its
-- own type parameters as arguments, in order.
abbrev pub type_fault : List Item → Globals → TypeLocals → List ℕ → List (Option (List ℕ)) → Option ScopeKind
type_fault text G T name args = type_fault_at (declares_type text name) (type_of G T name) T args

-- the name is that of a type that is declared or built in
abbrev pub is_type_name : Globals → List ℕ → Bool
is_type_name G name = bytes_eq name (codes "Word") || is_name G.datatypes name

-- a datatype that is declared has a new name
abbrev pub new_type_fault : Globals → List ℕ → Option ScopeKind
new_type_fault G name = broken_where (is_type_name G name) Repeated

-- a type parameter has a new name
abbrev pub new_parameter_fault : Globals → TypeLocals → List ℕ → Option ScopeKind
new_parameter_fault G T name = broken_where (is_type_name G name || is_name T.parameters name) Repeated

-- a constructor that is declared has a new name
abbrev pub new_constructor_fault : Globals → List ℕ → Option ScopeKind
new_constructor_fault G name = broken_where (is_name G.cons name) Repeated

-- a definition, a lemma or a replica that is declared has a new name
abbrev pub new_lower_fault : Globals → List ℕ → Option ScopeKind
new_lower_fault G name = broken_where (is_name G.lowers name) Repeated

-- a data parameter or a pattern's variable has a name that is not local yet
abbrev pub new_value_fault : Locals → List ℕ → Option ScopeKind
new_value_fault L name = broken_where (is_name L.names name) Repeated

-- a function parameter has a name that is not local yet, and stands before the data parameters
abbrev pub new_function_fault : Locals → List ℕ → Option ScopeKind
new_function_fault L name = cond (is_name L.names name) (Some Repeated) (broken_where (nat_lt 0 L.values) WrongPlace)

-- each property's own number
abbrev pub prop_number : Prop → ℕ
prop_number prop.Comm = 0
prop_number prop.Assoc = 1
prop_number prop.Idem = 2
prop_number prop.Sel = 3
prop_number prop.Refl = 4
prop_number prop.Irrefl = 5
prop_number prop.Sym = 6
prop_number prop.Antisym = 7
prop_number prop.Asym = 8
prop_number prop.Trans = 9
prop_number prop.Conn = 10

-- the property is one of these
abbrev pub has_prop : List Prop → Prop → Bool
has_prop props p = list_any (λ q. prop_number q == prop_number p) props

-- a property is not claimed already
abbrev pub property_fault : List Prop → Prop → Option ScopeKind
property_fault claimed p = broken_where (has_prop claimed p) Repeated

-- the rule that a claimed name breaks, by what it stands for
abbrev pub claim_fault_at : Bool → Option Meaning → Option ScopeKind
claim_fault_at declared None = Some (absent declared)
claim_fault_at declared (Some Wle) = Some WrongPlace
claim_fault_at declared (Some Weq) = Some WrongPlace
claim_fault_at declared (Some (Definition n functions)) = None
claim_fault_at declared (Some Lemma) = Some WrongPlace
claim_fault_at declared (Some Replica) = Some WrongPlace

-- properties are claimed of a definition
abbrev pub claim_fault : List Item → Globals → List ℕ → Option ScopeKind
claim_fault text G name = claim_fault_at (declares_lower text name) (meaning_of G name)

-- the rule that a constructor's name breaks, by what it stands for
abbrev pub constructor_fault_at : Bool → Option Constructor → Option ScopeKind
constructor_fault_at declared None = Some (absent declared)
constructor_fault_at declared (Some con) = None

-- in an expression or a pattern stands a constructor that was declared before
abbrev pub constructor_fault : List Item → Globals → List ℕ → Option ScopeKind
constructor_fault text G name = constructor_fault_at (declares_constructor text name) (constructor_of G name)

-- the rule that a local breaks where data is wanted, by whether it is called
abbrev pub local_value_fault : Local → Bool → Option ScopeKind
local_value_fault (Function n) called = broken_where (not called) WrongPlace
local_value_fault (Value n) called = broken_where called WrongPlace
local_value_fault (Pattern n) called = broken_where called WrongPlace

-- the rule that a name breaks where data is wanted, by what it stands for at the top and by whether it is called
abbrev pub global_value_fault : Bool → Option Meaning → Bool → Option ScopeKind
global_value_fault declared None called = Some (absent declared)
global_value_fault declared (Some Wle) called = broken_where (not called) WrongPlace
global_value_fault declared (Some Weq) called = broken_where (not called) WrongPlace
global_value_fault declared (Some (Definition n functions)) called = broken_where (not called) WrongPlace
global_value_fault declared (Some Lemma) called = Some WrongPlace
global_value_fault declared (Some Replica) called = Some WrongPlace

-- the same, where a local hides what is declared at the top
abbrev pub value_fault_at : Bool → Option Local → Option Meaning → Bool → Option ScopeKind
value_fault_at declared (Some local) meaning called = local_value_fault local called
value_fault_at declared None meaning called = global_value_fault declared meaning called

-- Where data is wanted, a name with a small letter is a data variable, or a function that is called.
abbrev pub value_fault : List Item → Globals → Locals → List ℕ → Bool → Option ScopeKind
value_fault text G L name called = value_fault_at (declares_lower text name) (local_of L name) (meaning_of G name) called

-- the rule that a local breaks in a function argument's place, by whether it is called
abbrev pub local_function_fault : Local → Bool → Option ScopeKind
local_function_fault (Function n) called = broken_where called WrongPlace
local_function_fault (Value n) called = Some WrongPlace
local_function_fault (Pattern n) called = Some WrongPlace

-- The rule that a name breaks in a function argument's place, by what it stands for at the top and by whether it is called: a
-- definition has no function parameters, and is not the one that is being declared.
abbrev pub global_function_fault : Bool → Locals → Option Meaning → Bool → Option ScopeKind
global_function_fault declared L None called = Some (absent declared)
global_function_fault declared L (Some Wle) called = broken_where called WrongPlace
global_function_fault declared L (Some Weq) called = broken_where called WrongPlace
global_function_fault declared L (Some (Definition n functions)) called = broken_where (called || nat_lt 0 functions || is_own L.own_definition n) WrongPlace
global_function_fault declared L (Some Lemma) called = Some WrongPlace
global_function_fault declared L (Some Replica) called = Some WrongPlace

-- the same in a function argument's place, where a local hides what is declared at the top
abbrev pub function_fault_at : Bool → Locals → Option Local → Option Meaning → Bool → Option ScopeKind
function_fault_at declared L (Some local) meaning called = local_function_fault local called
function_fault_at declared L None meaning called = global_function_fault declared L meaning called

-- In a function argument's place, a name with a small letter is a function that is not called.
abbrev pub function_fault : List Item → Globals → Locals → List ℕ → Bool → Option ScopeKind
function_fault text G L name called = function_fault_at (declares_lower text name) L (local_of L name) (meaning_of G name) called

-- the rule that is broken where nothing of this kind may stand: WrongPlace, but that a name that is not declared before breaks its own
abbrev pub misplaced : {T : Type 0} → Bool → Option T → Option ScopeKind
misplaced declared None = Some (absent declared)
misplaced declared (Some x) = Some WrongPlace

-- in a function argument's place stands no constructor
abbrev pub constructor_argument_fault : List Item → Globals → List ℕ → Option ScopeKind
constructor_argument_fault text G name = misplaced (declares_constructor text name) (constructor_of G name)

-- in a replica's first value stands no name with a small letter
abbrev pub from_fault : List Item → Globals → List ℕ → Option ScopeKind
from_fault text G name = misplaced (declares_lower text name) (meaning_of G name)

-- the rule that the name of a merge breaks, by what it stands for
abbrev pub merge_fault_at : Bool → Option Meaning → Option ScopeKind
merge_fault_at declared None = Some (absent declared)
merge_fault_at declared (Some Wle) = None
merge_fault_at declared (Some Weq) = None
merge_fault_at declared (Some (Definition n functions)) = None
merge_fault_at declared (Some Lemma) = Some WrongPlace
merge_fault_at declared (Some Replica) = Some WrongPlace

-- a merge is a definition or a built-in
abbrev pub merge_fault : List Item → Globals → List ℕ → Option ScopeKind
merge_fault text G name = merge_fault_at (declares_lower text name) (meaning_of G name)
