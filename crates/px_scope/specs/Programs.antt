-- Declarations with numbers for names, and the numbered program of a text.
use Rattle.std.specs.Prelude.{◌≡◌, ℕ, List, [], ◌∷◌, ◌++◌, length, codes, Some, None}
use Rattle.px_base.specs.declared.raw.Decl.TheVariants as decl
use Rattle.px_base.specs.declared.raw.RawTy.{RawTy}
use Rattle.px_base.specs.declared.raw.RawFun.{RawFun}
use Rattle.px_base.specs.declared.raw.RawTerm.{RawTerm}
use Rattle.px_base.specs.declared.raw.RawCon.{RawCon}
use Rattle.px_base.specs.declared.raw.RawData.{RawData}
use Rattle.px_base.specs.declared.raw.RawFnType.{RawFnType}
use Rattle.px_base.specs.declared.raw.RawDef.{RawDef}
use Rattle.px_base.specs.declared.raw.RawClaim.{RawClaim}
use Rattle.px_base.specs.declared.raw.RawEquation.{RawEquation}
use Rattle.px_base.specs.declared.raw.RawLemma.{RawLemma}
use Rattle.px_base.specs.declared.raw.RawReplica.{RawReplica}
use Rattle.px_base.specs.declared.raw.RawProgram.{RawProgram}
use Rattle.px_base.specs.Fitting.{raw_bool}
use Rattle.px_parser.specs.declared.surface.SType.{SType}
use Rattle.px_parser.specs.declared.surface.SCon.{SCon}
use Rattle.px_parser.specs.declared.surface.SData.{SData}
use Rattle.px_parser.specs.declared.surface.SFnType.{SFnType}
use Rattle.px_parser.specs.declared.surface.SParam.{SParam}
use Rattle.px_parser.specs.declared.surface.SParamKind.TheVariants as param_kinds
use Rattle.px_parser.specs.declared.surface.SDef.{SDef}
use Rattle.px_parser.specs.declared.surface.SClaim.{SClaim}
use Rattle.px_parser.specs.declared.surface.SEquation.{SEquation}
use Rattle.px_parser.specs.declared.surface.SLemma.{SLemma}
use Rattle.px_parser.specs.declared.surface.SReplica.{SReplica}
use Rattle.px_parser.specs.declared.surface.Item.{Item}
use Rattle.px_parser.specs.declared.surface.Item.TheVariants as items
use Rattle.px_parser.specs.declared.surface.Surface.{Surface}
use Rattle.px_scope.specs.declared.globals.Meaning.TheVariants as meaning
use Rattle.px_scope.specs.declared.globals.Globals.{Globals}
use Rattle.px_scope.specs.declared.locals.TypeLocals.{TypeLocals}
use Rattle.px_scope.specs.declared.locals.Locals.{Locals}
use Rattle.px_scope.specs.Standing.{meaning_of, no_parameters, nothing_local, built_in}
use Rattle.px_scope.specs.Numbers.{IsType, AreTypes, IsTerm, IsFunction, AreFunctions}
use Rattle.px_scope.specs.Uses.{Broken, first_broken}
use Rattle.px_scope.specs.Declaring.{constructor_names, with_datatype, with_lower, with_definition, after, type_locals, data_locals, parameter_locals, body_locals}
use Rattle.px_scope.specs.ItemUses.{text_uses}

-- each constructor is the one at its place
pub data AreConstructors (G : Globals) (T : TypeLocals) : List SCon → List RawCon → Type 0 where
  none : AreConstructors G T [] []
  more : {con : SCon} {cons : List SCon} {fields : List RawTy} {c : RawCon} {cs : List RawCon} → AreTypes G T con.fields fields → c ≡ record { at = con.name.at; fields = fields } → AreConstructors G T cons cs → AreConstructors G T (con ∷ cons) (c ∷ cs)

-- the datatype is this one: in its constructors it may name itself
pub record IsData (G : Globals) (d : SData) (result : RawData) : Type 0 where
  pub cons : List RawCon
  pub are_constructors : AreConstructors (with_datatype G d.name) (data_locals (length G.datatypes) d.tparams) d.cons cons
  pub is : result ≡ record { at = d.name.at; tparams = length d.tparams; cons = cons }

-- the function type is this one
pub record IsFnType (G : Globals) (T : TypeLocals) (f : SFnType) (result : RawFnType) : Type 0 where
  pub params : List RawTy
  pub type : RawTy
  pub are_params : AreTypes G T f.params params
  pub is_result : IsType G T f.result type
  pub is : result ≡ record { params = params; result = type; props = f.props }

-- the parameters are these functions and these values
pub data AreParameters (G : Globals) (T : TypeLocals) : List SParam → List RawFnType → List RawTy → Type 0 where
  none : AreParameters G T [] [] []
  value : {p : SParam} {ps : List SParam} {s : SType} {t : RawTy} {fs : List RawFnType} {ts : List RawTy} → p.kind ≡ param_kinds.Value s → IsType G T s t → AreParameters G T ps fs ts → AreParameters G T (p ∷ ps) fs (t ∷ ts)
  function : {p : SParam} {ps : List SParam} {f : SFnType} {g : RawFnType} {fs : List RawFnType} {ts : List RawTy} → p.kind ≡ param_kinds.Function f → IsFnType G T f g → AreParameters G T ps fs ts → AreParameters G T (p ∷ ps) (g ∷ fs) ts

-- the definition is this one: in its body it may call itself
pub record IsDefinition (G : Globals) (d : SDef) (result : RawDef) : Type 0 where
  pub funs : List RawFnType
  pub params : List RawTy
  pub type : RawTy
  pub body : RawTerm
  pub are_parameters : AreParameters G (type_locals d.tparams) d.params funs params
  pub is_result : IsType G (type_locals d.tparams) d.result type
  pub is_body : IsTerm (with_definition G d) (body_locals (length G.claimed) d) d.body body
  pub is : result ≡ record { at = d.name.at; tparams = length d.tparams; funs = funs; params = params; result = type; body = body; props = d.props }

-- the claim is this one, of the definition that its name stands for
pub record IsClaim (G : Globals) (c : SClaim) (result : RawClaim) : Type 0 where
  pub number : ℕ
  pub functions : ℕ
  pub stands : meaning_of G c.name.text ≡ Some (meaning.Definition number functions)
  pub is : result ≡ record { at = c.at; def = number; props = c.props }

-- The equation is this one.
pub record IsEquation (G : Globals) (L : Locals) (e : SEquation) (result : RawEquation) : Type 0 where
  pub left : RawTerm
  pub right : RawTerm
  pub is_left : IsTerm G L e.left left
  pub is_right : IsTerm G L e.right right
  pub is : result ≡ record { left = left; right = right }

-- each equation is the one at its place
pub data AreEquations (G : Globals) (L : Locals) : List SEquation → List RawEquation → Type 0 where
  none : AreEquations G L [] []
  more : {e : SEquation} {es : List SEquation} {r : RawEquation} {rs : List RawEquation} → IsEquation G L e r → AreEquations G L es rs → AreEquations G L (e ∷ es) (r ∷ rs)

-- the lemma is this one: its last equation is the conclusion
pub record IsLemma (G : Globals) (l : SLemma) (result : RawLemma) : Type 0 where
  pub funs : List RawFnType
  pub vars : List RawTy
  pub premises : List RawEquation
  pub conclusion : RawEquation
  pub are_parameters : AreParameters G (type_locals l.tparams) l.params funs vars
  pub are_equations : AreEquations (with_lower G l.name meaning.Lemma) (parameter_locals l.tparams l.params) l.equations (premises ++ conclusion ∷ [])
  pub is : result ≡ record { at = l.name.at; tparams = length l.tparams; funs = funs; vars = vars; premises = premises; conclusion = conclusion }

-- the replica is this one
pub record IsReplica (G : Globals) (r : SReplica) (result : RawReplica) : Type 0 where
  pub state : RawTy
  pub from : RawTerm
  pub merge : RawFun
  pub funs : List RawFun
  pub is_state : IsType G no_parameters r.state state
  pub is_from : IsTerm (with_lower G r.name meaning.Replica) nothing_local r.from from
  pub is_merge : IsFunction (with_lower G r.name meaning.Replica) nothing_local r.merge merge
  pub are_functions : AreFunctions (with_lower G r.name meaning.Replica) nothing_local r.funs funs
  pub is : result ≡ record { at = r.name.at; state = state; from = from; merge = merge; funs = funs }

-- One declaration more: it stands in the list of its kind, and in the order of the text.
pub data IsNext (G : Globals) (P : RawProgram) : Item → RawProgram → Type 0 where
  datatype : {d : SData} {raw : RawData} {result : RawProgram} → IsData G d raw → result ≡ record P {
    order = P.order ++ decl.Datatype (length P.datatypes) ∷ [];
    datatypes = P.datatypes ++ raw ∷ [];
    names = record P.names { datatypes = P.names.datatypes ++ d.name.text ∷ []; cons = P.names.cons ++ constructor_names d.cons ∷ [] };
  } → IsNext G P (items.Datatype d) result
  definition : {d : SDef} {raw : RawDef} {result : RawProgram} → IsDefinition G d raw → result ≡ record P {
    order = P.order ++ decl.Definition (length P.defs) ∷ [];
    defs = P.defs ++ raw ∷ [];
    names = record P.names { defs = P.names.defs ++ d.name.text ∷ [] };
  } → IsNext G P (items.Definition d) result
  claim : {c : SClaim} {raw : RawClaim} {result : RawProgram} → IsClaim G c raw → result ≡ record P {
    order = P.order ++ decl.Claim (length P.claims) ∷ [];
    claims = P.claims ++ raw ∷ [];
  } → IsNext G P (items.Claim c) result
  lemma : {l : SLemma} {raw : RawLemma} {result : RawProgram} → IsLemma G l raw → result ≡ record P {
    order = P.order ++ decl.Lemma (length P.lemmas) ∷ [];
    lemmas = P.lemmas ++ raw ∷ [];
    names = record P.names { lemmas = P.names.lemmas ++ l.name.text ∷ [] };
  } → IsNext G P (items.Lemma l) result
  replica : {r : SReplica} {raw : RawReplica} {result : RawProgram} → IsReplica G r raw → result ≡ record P {
    order = P.order ++ decl.Replica (length P.replicas) ∷ [];
    replicas = P.replicas ++ raw ∷ [];
    names = record P.names { replicas = P.names.replicas ++ r.name.text ∷ [] };
  } → IsNext G P (items.Replica r) result

-- The program with these declarations more, each by what was declared before it.
pub data AreNext : Globals → RawProgram → List Item → RawProgram → Type 0 where
  none : {G : Globals} {P : RawProgram} → AreNext G P [] P
  more : {G : Globals} {P Q R : RawProgram} {item : Item} {text : List Item} → IsNext G P item Q → AreNext (after G item) Q text R → AreNext G P (item ∷ text) R

-- the program of no declarations: `Bool` alone
abbrev pub start : RawProgram
start = record {
  order = [];
  datatypes = raw_bool ∷ [];
  defs = [];
  claims = [];
  lemmas = [];
  replicas = [];
  names = record { datatypes = codes "Bool" ∷ []; cons = (codes "False" ∷ codes "True" ∷ []) ∷ []; defs = []; lemmas = []; replicas = [] };
}

-- The numbered program of a text: no name breaks a rule, and each name is the number of what it stands for.
pub record IsNumbering (surface : Surface) (P : RawProgram) : Type 0 where
  pub lawful : first_broken (text_uses surface.items) ≡ None
  pub numbered : AreNext built_in start surface.items P

-- the fault of a text: the first name by place that breaks a rule, and the first rule that it breaks
pub record IsFault (surface : Surface) (fault : Broken) : Type 0 where
  pub first : first_broken (text_uses surface.items) ≡ Some fault
