-- The names that are looked at in a text's declarations stand at places of these, in their order.
use Rattle.std.proofs.Common.{false, List, [], ◌∷◌, ◌++◌, length, refl, append_assoc}
use Rattle.px_base.specs.declared.prop.Prop.{Prop}
use Rattle.px_base.specs.declared.raw.RawProp.{RawProp}
use Rattle.px_parser.specs.declared.surface.Name.{Name}
use Rattle.px_parser.specs.declared.surface.SParam.{SParam}
use Rattle.px_parser.specs.declared.surface.SParamKind.{SParamKind}
use Rattle.px_parser.specs.declared.surface.SParamKind.TheVariants as param_kinds
use Rattle.px_parser.specs.declared.surface.SFnType.{SFnType}
use Rattle.px_parser.specs.declared.surface.SCon.{SCon}
use Rattle.px_parser.specs.declared.surface.SData.{SData}
use Rattle.px_parser.specs.declared.surface.SDef.{SDef}
use Rattle.px_parser.specs.declared.surface.SClaim.{SClaim}
use Rattle.px_parser.specs.declared.surface.SEquation.{SEquation}
use Rattle.px_parser.specs.declared.surface.SLemma.{SLemma}
use Rattle.px_parser.specs.declared.surface.SFun.{SFun}
use Rattle.px_parser.specs.declared.surface.SReplica.{SReplica}
use Rattle.px_parser.specs.declared.surface.Item.{Item}
use Rattle.px_parser.specs.declared.surface.Item.TheVariants as items
use Rattle.px_scope.specs.declared.globals.Meaning.TheVariants as meaning
use Rattle.px_scope.specs.declared.globals.Globals.{Globals}
use Rattle.px_scope.specs.declared.locals.TypeLocals.{TypeLocals}
use Rattle.px_scope.specs.declared.locals.Locals.{Locals}
use Rattle.px_scope.specs.Standing.{meaning_of, no_parameters, nothing_local, built_in}
use Rattle.px_scope.specs.Rules.{new_type_fault, new_parameter_fault, new_constructor_fault, new_lower_fault, new_value_fault, new_function_fault, claim_fault, merge_fault, property_fault, function_fault}
use Rattle.px_scope.specs.Uses.{Use, use_of, Data, From, properties_uses, function_uses}
use Rattle.px_scope.specs.Declaring.{with_datatype, with_constructor_name, with_lower, with_definition, after, with_type_parameter, with_parameter, type_locals, data_locals, first_locals, parameter_locals, body_locals}
use Rattle.px_scope.specs.ItemUses.{type_parameters_uses, constructor_uses, constructors_uses, data_uses, fn_type_uses, parameter_uses_of, parameters_uses, heading_uses, definition_uses, claimed_by, claim_uses, equation_uses, lemma_uses, merge_uses, replica_uses, item_uses, text_uses}
use Rattle.px_scope.proofs.Sublists.{Place, name_at}
use Rattle.px_scope.proofs.Places.{name_places, prop_places, fn_type_places, param_kind_places, param_places, params_places, con_places, cons_places, data_places, def_places, claim_places, equation_places, lemma_places, fun_places, replica_places, item_places, items_places}
use Rattle.px_scope.proofs.ExpressionsPlaced.{Placed, placed_none, placed_first, placed_both, placed_as, flat_placed, along_placed, names_placed, type_placed, types_placed, expr_placed}

-- the names of type parameters
type_parameters_placed : (G : Globals) (T : TypeLocals) (tparams : List Name) → Placed (type_parameters_uses G T tparams) (name_places tparams)
type_parameters_placed G T tparams = names_placed with_type_parameter (λ (U : TypeLocals) (p : Name). new_parameter_fault G U p.text) T tparams

-- properties
properties_placed : (claimed : List Prop) (props : List RawProp) → Placed (properties_uses claimed props) (prop_places props)
properties_placed claimed [] = placed_none
properties_placed claimed (p ∷ props) = placed_first (record { at = p.at; fault = property_fault claimed p.prop }) (properties_placed (claimed ++ p.prop ∷ []) props)

module _ (text : List Item) where
  -- the names in a constructor
  constructor_placed : (G : Globals) (T : TypeLocals) (con : SCon) → Placed (constructor_uses text G T con) (con_places con)
  constructor_placed G T con = placed_first (use_of con.name (new_constructor_fault G con.name.text)) (types_placed text G T con.fields)

  -- the names in constructors
  constructors_placed : (G : Globals) (T : TypeLocals) (cons : List SCon) → Placed (constructors_uses text G T cons) (cons_places cons)
  constructors_placed G T cons =
      along_placed with_constructor_name (λ (H : Globals) (con : SCon). constructor_uses text H T con) con_places
      (λ (H : Globals) (con : SCon). constructor_placed H T con) G cons

  -- the names in a datatype
  data_placed : (G : Globals) (d : SData) → Placed (data_uses text G d) (data_places d)
  data_placed G d =
      placed_first (use_of d.name (new_type_fault G d.name.text))
      (placed_both (type_parameters_placed (with_datatype G d.name) no_parameters d.tparams)
      (constructors_placed (with_datatype G d.name) (data_locals (length G.datatypes) d.tparams) d.cons))

  -- the names in a function type
  fn_type_placed : (G : Globals) (T : TypeLocals) (f : SFnType) → Placed (fn_type_uses text G T f) (fn_type_places f)
  fn_type_placed G T f = placed_both (types_placed text G T f.params) (placed_both (type_placed text G T f.result) (properties_placed [] f.props))

  -- the names in a parameter
  parameter_placed : (G : Globals) (L : Locals) (name : Name) (kind : SParamKind) →
      Placed (parameter_uses_of text G L name kind) (name_at name.at ∷ param_kind_places kind)
  parameter_placed G L name (param_kinds.Function f) = placed_first (use_of name (new_function_fault L name.text)) (fn_type_placed G L.types f)
  parameter_placed G L name (param_kinds.Value s) = placed_first (use_of name (new_value_fault L name.text)) (type_placed text G L.types s)

  -- the names in parameters
  parameters_placed : (G : Globals) (L : Locals) (params : List SParam) → Placed (parameters_uses text G L params) (params_places params)
  parameters_placed G L params =
      along_placed with_parameter (λ (M : Locals) (p : SParam). parameter_uses_of text G M p.name p.kind) param_places
      (λ (M : Locals) (p : SParam). parameter_placed G M p.name p.kind) L params

  -- the names in type parameters and parameters, and those after them
  heading_placed : (G : Globals) (tparams : List Name) (params : List SParam) {us : List Use} {places : List Place} → Placed us places →
      Placed (heading_uses text G tparams params ++ us) (name_places tparams ++ (params_places params ++ places))
  heading_placed G tparams params {us = us} later =
      placed_as (append_assoc (type_parameters_uses G no_parameters tparams) (parameters_uses text G (first_locals tparams) params) us) refl
      (placed_both (type_parameters_placed G no_parameters tparams) (placed_both (parameters_placed G (first_locals tparams) params) later))

  -- the names in a definition
  definition_placed : (G : Globals) (d : SDef) → Placed (definition_uses text G d) (def_places d)
  definition_placed G d =
      placed_first (use_of d.name (new_lower_fault G d.name.text))
      (heading_placed G d.tparams d.params
      (placed_both (type_placed text G (type_locals d.tparams) d.result)
      (placed_both (properties_placed [] d.props)
      (expr_placed text (with_definition G d) d.body Data (body_locals (length G.claimed) d)))))

  -- the names in a claim
  claim_placed : (G : Globals) (c : SClaim) → Placed (claim_uses text G c) (claim_places c)
  claim_placed G c =
      placed_first (use_of c.name (claim_fault text G c.name.text)) (properties_placed (claimed_by G (meaning_of G c.name.text)) c.props)

  -- the names in an equation
  equation_placed : (G : Globals) (L : Locals) (e : SEquation) → Placed (equation_uses text G L e) (equation_places e)
  equation_placed G L e = placed_both (expr_placed text G e.left Data L) (expr_placed text G e.right Data L)

  -- the names in a lemma
  lemma_placed : (G : Globals) (l : SLemma) → Placed (lemma_uses text G l) (lemma_places l)
  lemma_placed G l =
      let H = with_lower G l.name meaning.Lemma in
      let L = parameter_locals l.tparams l.params in
      placed_first (use_of l.name (new_lower_fault G l.name.text))
      (heading_placed G l.tparams l.params (flat_placed (equation_uses text H L) equation_places (equation_placed H L) l.equations))

  -- the names in the function that merges
  merge_placed : (G : Globals) (f : SFun) → Placed (merge_uses text G f) (fun_places f)
  merge_placed G f = placed_first (use_of f.name (merge_fault text G f.name.text)) (types_placed text G no_parameters f.args)

  -- the names in a function argument of a merge
  function_placed : (G : Globals) (L : Locals) (f : SFun) → Placed (function_uses text G L f) (fun_places f)
  function_placed G L f = placed_first (use_of f.name (function_fault text G L f.name.text false)) (types_placed text G L.types f.args)

  -- the names in a replica
  replica_placed : (G : Globals) (r : SReplica) → Placed (replica_uses text G r) (replica_places r)
  replica_placed G r =
      let H = with_lower G r.name meaning.Replica in
      placed_first (use_of r.name (new_lower_fault G r.name.text))
      (placed_both (type_placed text G no_parameters r.state)
      (placed_both (expr_placed text H r.from From nothing_local)
      (placed_both (merge_placed H r.merge)
      (flat_placed (function_uses text H nothing_local) fun_places (function_placed H nothing_local) r.funs))))

  -- the names in a declaration
  item_placed : (G : Globals) (item : Item) → Placed (item_uses text G item) (item_places item)
  item_placed G (items.Datatype d) = data_placed G d
  item_placed G (items.Definition d) = definition_placed G d
  item_placed G (items.Claim c) = claim_placed G c
  item_placed G (items.Lemma l) = lemma_placed G l
  item_placed G (items.Replica r) = replica_placed G r

-- the names of a text stand at its places, in their order
pub uses_placed : (text : List Item) → Placed (text_uses text) (items_places text)
uses_placed text = along_placed after (item_uses text) item_places (item_placed text) built_in text
