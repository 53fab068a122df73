-- What a declaration adds to what is declared, and what is local in it.
use Rattle.std.specs.Prelude.{ℕ, ◌+◌, List, [], ◌∷◌, ◌++◌, map, length, sum_by, Option, Some, None}
use Rattle.std.specs.List.{slice_set, slice_get, fold, range_with_len}
use Rattle.std.specs.Option.{unwrap_or}
use Rattle.px_base.specs.declared.prop.Prop.{Prop}
use Rattle.px_base.specs.declared.raw.RawProp.{RawProp}
use Rattle.px_parser.specs.declared.surface.Name.{Name}
use Rattle.px_parser.specs.declared.surface.SCon.{SCon}
use Rattle.px_parser.specs.declared.surface.SParam.{SParam}
use Rattle.px_parser.specs.declared.surface.SParamKind.{SParamKind}
use Rattle.px_parser.specs.declared.surface.SParamKind.TheVariants as param_kinds
use Rattle.px_parser.specs.declared.surface.SDef.{SDef}
use Rattle.px_parser.specs.declared.surface.Item.{Item}
use Rattle.px_parser.specs.declared.surface.Item.TheVariants as items
use Rattle.px_scope.specs.declared.globals.Meaning.{Meaning}
use Rattle.px_scope.specs.declared.globals.Meaning.TheVariants.{Definition, Lemma, Replica}
use Rattle.px_scope.specs.declared.globals.Globals.{Globals}
use Rattle.px_scope.specs.declared.locals.TypeLocals.{TypeLocals}
use Rattle.px_scope.specs.declared.locals.Locals.{Locals}
use Rattle.px_scope.specs.Standing.{meaning_of, nothing_local}

-- the texts of names
abbrev pub texts : List Name → List (List ℕ)
texts names = map (λ (n : Name). n.text) names

-- the properties of a list
abbrev pub props_of : List RawProp → List Prop
props_of props = map (λ (p : RawProp). p.prop) props

-- the names of constructors
abbrev pub constructor_names : List SCon → List (List ℕ)
constructor_names cons = map (λ (con : SCon). con.name.text) cons

-- one more datatype
abbrev pub with_datatype : Globals → Name → Globals
with_datatype G name = record G { datatypes = G.datatypes ++ name.text ∷ [] }

-- one more constructor's name
abbrev pub with_constructor_name : Globals → SCon → Globals
with_constructor_name G con = record G { cons = G.cons ++ con.name.text ∷ [] }

-- the constructors of this datatype, numbered in their order
abbrev pub with_constructors : ℕ → Globals → List SCon → Globals
with_constructors datatype G cons = record G { cons = G.cons ++ constructor_names cons; constructors = G.constructors ++ map (λ (n : ℕ). record { datatype = datatype; number = n }) (range_with_len 0 (length cons)) }

-- one more name with a small letter
abbrev pub with_lower : Globals → Name → Meaning → Globals
with_lower G name meaning = record G { lowers = G.lowers ++ name.text ∷ []; meanings = G.meanings ++ meaning ∷ [] }

-- 1 for a function, and 0 for a value
abbrev pub functions_in : SParamKind → ℕ
functions_in (param_kinds.Function f) = 1
functions_in (param_kinds.Value s) = 0

-- how many parameters are functions
abbrev pub function_count : List SParam → ℕ
function_count params = sum_by (λ (p : SParam). functions_in p.kind) params

-- one more definition, with no properties yet
abbrev pub with_definition : Globals → SDef → Globals
with_definition G d = with_lower G d.name (Definition (length G.claimed) (function_count d.params))

-- the properties of one more definition
abbrev pub with_claimed : Globals → List Prop → Globals
with_claimed G props = record G { claimed = G.claimed ++ props ∷ [] }

-- what is claimed of a definition so far
abbrev pub claimed_of : Globals → ℕ → List Prop
claimed_of G n = unwrap_or (slice_get G.claimed n) []

-- further properties of what a name stands for
abbrev pub with_claims_of : Globals → Option Meaning → List Prop → Globals
with_claims_of G (Some (Definition n functions)) props = record G { claimed = slice_set G.claimed n (claimed_of G n ++ props) }
with_claims_of G _ props = G

-- what is declared after a declaration
abbrev pub after : Globals → Item → Globals
after G (items.Datatype d) = with_constructors (length G.datatypes) (with_datatype G d.name) d.cons
after G (items.Definition d) = with_claimed (with_definition G d) (props_of d.props)
after G (items.Claim c) = with_claims_of G (meaning_of G c.name.text) (props_of c.props)
after G (items.Lemma l) = with_lower G l.name Lemma
after G (items.Replica r) = with_lower G r.name Replica

-- what is local with one more type parameter
abbrev pub with_type_parameter : TypeLocals → Name → TypeLocals
with_type_parameter T name = record T { parameters = T.parameters ++ name.text ∷ [] }

-- one more parameter of this kind
abbrev pub with_parameter_of : Locals → Name → SParamKind → Locals
with_parameter_of L name (param_kinds.Function f) = record L { names = L.names ++ name.text ∷ []; functions = L.functions + 1 }
with_parameter_of L name (param_kinds.Value s) = record L { names = L.names ++ name.text ∷ []; values = L.values + 1 }

-- what is local with one more parameter
abbrev pub with_parameter : Locals → SParam → Locals
with_parameter L p = with_parameter_of L p.name p.kind

-- what is local with type parameters alone
abbrev pub type_locals : List Name → TypeLocals
type_locals tparams = record { parameters = texts tparams; own = None }

-- what is local where a datatype's constructors stand, which is the datatype of this number
abbrev pub data_locals : ℕ → List Name → TypeLocals
data_locals own tparams = record { parameters = texts tparams; own = Some own }

-- what is local before the parameters
abbrev pub first_locals : List Name → Locals
first_locals tparams = record nothing_local { types = type_locals tparams }

-- what is local after the parameters
abbrev pub parameter_locals : List Name → List SParam → Locals
parameter_locals tparams params = fold with_parameter (first_locals tparams) params

-- what is local in the body of the definition of this number
abbrev pub body_locals : ℕ → SDef → Locals
body_locals own d = record (parameter_locals d.tparams d.params) { own_definition = Some own }
