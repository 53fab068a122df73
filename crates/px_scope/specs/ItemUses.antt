-- The names that stand in declarations, in the order of the text, each with the first rule that it breaks at its place.
use Rattle.std.specs.Prelude.{List, [], ◌∷◌, ◌++◌, length, Option, Some}
use Rattle.std.specs.List.{flat_map}
use Rattle.px_base.specs.declared.prop.Prop.{Prop}
use Rattle.px_parser.specs.declared.surface.Name.{Name}
use Rattle.px_parser.specs.declared.surface.SCon.{SCon}
use Rattle.px_parser.specs.declared.surface.SData.{SData}
use Rattle.px_parser.specs.declared.surface.SFnType.{SFnType}
use Rattle.px_parser.specs.declared.surface.SParam.{SParam}
use Rattle.px_parser.specs.declared.surface.SParamKind.{SParamKind}
use Rattle.px_parser.specs.declared.surface.SParamKind.TheVariants as param_kinds
use Rattle.px_parser.specs.declared.surface.SDef.{SDef}
use Rattle.px_parser.specs.declared.surface.SClaim.{SClaim}
use Rattle.px_parser.specs.declared.surface.SEquation.{SEquation}
use Rattle.px_parser.specs.declared.surface.SLemma.{SLemma}
use Rattle.px_parser.specs.declared.surface.SReplica.{SReplica}
use Rattle.px_parser.specs.declared.surface.SFun.{SFun}
use Rattle.px_parser.specs.declared.surface.Item.{Item}
use Rattle.px_parser.specs.declared.surface.Item.TheVariants as items
use Rattle.px_scope.specs.declared.globals.Meaning.{Meaning}
use Rattle.px_scope.specs.declared.globals.Meaning.TheVariants as meaning
use Rattle.px_scope.specs.declared.globals.Globals.{Globals}
use Rattle.px_scope.specs.declared.locals.TypeLocals.{TypeLocals}
use Rattle.px_scope.specs.declared.locals.Locals.{Locals}
use Rattle.px_scope.specs.Standing.{meaning_of, no_parameters, nothing_local, built_in}
use Rattle.px_scope.specs.Rules.{new_type_fault, new_parameter_fault, new_constructor_fault, new_lower_fault, new_value_fault, new_function_fault, claim_fault, merge_fault}
use Rattle.px_scope.specs.Uses.{Use, use_of, along, type_uses, types_uses, Data, From, expr_uses, properties_uses, function_uses}
use Rattle.px_scope.specs.Declaring.{with_datatype, with_constructor_name, with_lower, with_definition, claimed_of, after, with_type_parameter, with_parameter, type_locals, data_locals, first_locals, parameter_locals, body_locals}

-- the names of type parameters
abbrev pub type_parameters_uses : Globals → TypeLocals → List Name → List Use
type_parameters_uses G T tparams = along with_type_parameter (λ (U : TypeLocals) (p : Name). use_of p (new_parameter_fault G U p.text) ∷ []) T tparams

-- the names in a constructor: its own, and those in its fields' types
abbrev pub constructor_uses : List Item → Globals → TypeLocals → SCon → List Use
constructor_uses text G T con = use_of con.name (new_constructor_fault G con.name.text) ∷ types_uses text G T con.fields

-- the names in constructors
abbrev pub constructors_uses : List Item → Globals → TypeLocals → List SCon → List Use
constructors_uses text G T cons = along with_constructor_name (λ (H : Globals) (con : SCon). constructor_uses text H T con) G cons

-- the names in a datatype
abbrev pub data_uses : List Item → Globals → SData → List Use
data_uses text G d = use_of d.name (new_type_fault G d.name.text) ∷ (type_parameters_uses (with_datatype G d.name) no_parameters d.tparams ++ constructors_uses text (with_datatype G d.name) (data_locals (length G.datatypes) d.tparams) d.cons)

-- the names in a function type
abbrev pub fn_type_uses : List Item → Globals → TypeLocals → SFnType → List Use
fn_type_uses text G T f = types_uses text G T f.params ++ (type_uses text G T f.result ++ properties_uses [] f.props)

-- the names in a parameter of this kind
abbrev pub parameter_uses_of : List Item → Globals → Locals → Name → SParamKind → List Use
parameter_uses_of text G L name (param_kinds.Function f) = use_of name (new_function_fault L name.text) ∷ fn_type_uses text G L.types f
parameter_uses_of text G L name (param_kinds.Value s) = use_of name (new_value_fault L name.text) ∷ type_uses text G L.types s

-- the names in parameters
abbrev pub parameters_uses : List Item → Globals → Locals → List SParam → List Use
parameters_uses text G L params = along with_parameter (λ (M : Locals) (p : SParam). parameter_uses_of text G M p.name p.kind) L params

-- the names in type parameters and parameters
abbrev pub heading_uses : List Item → Globals → List Name → List SParam → List Use
heading_uses text G tparams params = type_parameters_uses G no_parameters tparams ++ parameters_uses text G (first_locals tparams) params

-- the names in a definition, which may call itself in its body
abbrev pub definition_uses : List Item → Globals → SDef → List Use
definition_uses text G d = use_of d.name (new_lower_fault G d.name.text) ∷ (heading_uses text G d.tparams d.params ++ (type_uses text G (type_locals d.tparams) d.result ++ (properties_uses [] d.props ++ expr_uses text (with_definition G d) d.body Data (body_locals (length G.claimed) d))))

-- the properties that are claimed of what a name stands for
abbrev pub claimed_by : Globals → Option Meaning → List Prop
claimed_by G (Some (meaning.Definition n functions)) = claimed_of G n
claimed_by G _ = []

-- the names in a claim
abbrev pub claim_uses : List Item → Globals → SClaim → List Use
claim_uses text G c = use_of c.name (claim_fault text G c.name.text) ∷ properties_uses (claimed_by G (meaning_of G c.name.text)) c.props

-- the names in an equation
abbrev pub equation_uses : List Item → Globals → Locals → SEquation → List Use
equation_uses text G L e = expr_uses text G e.left Data L ++ expr_uses text G e.right Data L

-- the names in a lemma
abbrev pub lemma_uses : List Item → Globals → SLemma → List Use
lemma_uses text G l = use_of l.name (new_lower_fault G l.name.text) ∷ (heading_uses text G l.tparams l.params ++ flat_map (equation_uses text (with_lower G l.name meaning.Lemma) (parameter_locals l.tparams l.params)) l.equations)

-- the names in the function that merges
abbrev pub merge_uses : List Item → Globals → SFun → List Use
merge_uses text G f = use_of f.name (merge_fault text G f.name.text) ∷ types_uses text G no_parameters f.args

-- the names in a replica
abbrev pub replica_uses : List Item → Globals → SReplica → List Use
replica_uses text G r = use_of r.name (new_lower_fault G r.name.text) ∷ (type_uses text G no_parameters r.state ++ (expr_uses text (with_lower G r.name meaning.Replica) r.from From nothing_local ++ (merge_uses text (with_lower G r.name meaning.Replica) r.merge ++ flat_map (function_uses text (with_lower G r.name meaning.Replica) nothing_local) r.funs)))

-- the names in a declaration
abbrev pub item_uses : List Item → Globals → Item → List Use
item_uses text G (items.Datatype d) = data_uses text G d
item_uses text G (items.Definition d) = definition_uses text G d
item_uses text G (items.Claim c) = claim_uses text G c
item_uses text G (items.Lemma l) = lemma_uses text G l
item_uses text G (items.Replica r) = replica_uses text G r

-- the names in the declarations of a text
abbrev pub text_uses : List Item → List Use
text_uses text = along after (item_uses text) built_in text
