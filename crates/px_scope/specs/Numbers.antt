-- Types, functions and expressions with numbers for names.
use Rattle.std.specs.Prelude.{◌≡◌, ℕ, List, [], ◌∷◌, map, take, drop, Some, None}
use Rattle.px_base.specs.declared.head.Head.{Head}
use Rattle.px_base.specs.declared.raw.RawTyKind.{RawTyKind}
use Rattle.px_base.specs.declared.raw.RawTy.{RawTy}
use Rattle.px_base.specs.declared.raw.RawTy.TheViews.{roll-RawTy}
use Rattle.px_base.specs.declared.raw.RawFun.{RawFun}
use Rattle.px_base.specs.declared.raw.RawKind.{RawKind}
use Rattle.px_base.specs.declared.raw.RawKind.TheVariants as kinds
use Rattle.px_base.specs.declared.raw.RawTerm.{RawTerm}
use Rattle.px_base.specs.declared.raw.RawArm.{RawArm}
use Rattle.px_parser.specs.declared.surface.Name.{Name}
use Rattle.px_parser.specs.declared.surface.SType.{SType, out-SType}
use Rattle.px_parser.specs.declared.surface.SExpr.{SExpr}
use Rattle.px_parser.specs.declared.surface.SExprKind.{SExprKind, out-SExprKind}
use Rattle.px_parser.specs.declared.surface.SExprKind.TheOpen.{SExprKind-F}
use Rattle.px_parser.specs.declared.surface.SArm.{SArm}
use Rattle.px_parser.specs.declared.surface.SFun.{SFun}
use Rattle.px_scope.specs.declared.globals.Constructor.{Constructor}
use Rattle.px_scope.specs.declared.globals.Globals.{Globals}
use Rattle.px_scope.specs.declared.locals.Local.TheVariants as local
use Rattle.px_scope.specs.declared.locals.TypeLocals.{TypeLocals}
use Rattle.px_scope.specs.declared.locals.Locals.{Locals}
use Rattle.px_scope.specs.Standing.{constructor_of, local_of, type_of, head_of, function_places}
use Rattle.px_scope.specs.Uses.{bind}

-- the written type of this place, kind and arguments
abbrev pub raw_type : ℕ → RawTyKind → List RawTy → RawTy
raw_type at kind args = roll-RawTy (record { at = at; kind = kind; args = args })

mutual
  -- the type is this one, by what its name stands for
  pub data IsType (G : Globals) (T : TypeLocals) : SType → RawTy → Type 0 where
    written : {s : SType} {kind : RawTyKind} {args : List RawTy} {result : RawTy} → type_of G T (out-SType s).name.text ≡ Some kind → AreTypes G T (out-SType s).args args → result ≡ raw_type (out-SType s).name.at kind args → IsType G T s result

  -- each type is the one at its place
  pub data AreTypes (G : Globals) (T : TypeLocals) : List SType → List RawTy → Type 0 where
    none : AreTypes G T [] []
    more : {s : SType} {ss : List SType} {t : RawTy} {ts : List RawTy} → IsType G T s t → AreTypes G T ss ts → AreTypes G T (s ∷ ss) (t ∷ ts)

-- the written function of this name, which stands for this one, with these types
abbrev pub raw_fun : Name → Head → List RawTy → RawFun
raw_fun name head types = record { at = name.at; head = head; types = types }

-- an expression of this kind that stands in a function argument's place is this function
pub data IsArgument (G : Globals) (L : Locals) : SExprKind-F SExprKind SArm SExpr → RawFun → Type 0 where
  named : {name : Name} {types : List SType} {head : Head} {ts : List RawTy} {result : RawFun} → head_of G L name.text ≡ Some head → AreTypes G L.types types ts → result ≡ raw_fun name head ts → IsArgument G L (SExprKind-F.Lower name types None) result

-- each expression in a function argument's place is the function at its place
pub data AreArguments (G : Globals) (L : Locals) : List SExpr → List RawFun → Type 0 where
  none : AreArguments G L [] []
  more : {e : SExpr} {es : List SExpr} {f : RawFun} {fs : List RawFun} → IsArgument G L (out-SExprKind e.kind) f → AreArguments G L es fs → AreArguments G L (e ∷ es) (f ∷ fs)

-- the written term of a kind
abbrev pub raw_term : ℕ → RawKind → RawTerm
raw_term at kind = record { at = at; kind = kind }

-- the written arm of a constructor
abbrev pub raw_arm : SArm → Constructor → RawTerm → RawArm
raw_arm arm con body = record { at = arm.name.at; datatype = con.datatype; con = con.number; vars = map (λ (v : Name). v.at) arm.vars; body = body }

mutual
  -- an expression of this kind, with this first byte, is this term: each name is the number of what it stands for
  pub data IsTermLayer (G : Globals) : Locals → ℕ → SExprKind-F SExprKind SArm SExpr → RawTerm → Type 0 where
    literal : {L : Locals} {at w : ℕ} {result : RawTerm} → result ≡ raw_term at (kinds.Lit w) → IsTermLayer G L at (SExprKind-F.Number w) result
    construction : {L : Locals} {at : ℕ} {name : Name} {types : List SType} {fields : List SExpr} {con : Constructor} {ts : List RawTy} {fs : List RawTerm} {result : RawTerm} → constructor_of G name.text ≡ Some con → AreTypes G L.types types ts → AreTerms G L fields fs → result ≡ raw_term at (kinds.Con con.datatype con.number ts fs) → IsTermLayer G L at (SExprKind-F.Upper name types fields) result
    value : {L : Locals} {at n : ℕ} {name : Name} {types : List SType} {ts : List RawTy} {result : RawTerm} → local_of L name.text ≡ Some (local.Value n) → AreTypes G L.types types ts → result ≡ raw_term at (kinds.Free n ts) → IsTermLayer G L at (SExprKind-F.Lower name types None) result
    pattern : {L : Locals} {at n : ℕ} {name : Name} {types : List SType} {ts : List RawTy} {result : RawTerm} → local_of L name.text ≡ Some (local.Pattern n) → AreTypes G L.types types ts → result ≡ raw_term at (kinds.Bound n ts) → IsTermLayer G L at (SExprKind-F.Lower name types None) result
    call : {L : Locals} {at : ℕ} {name : Name} {types : List SType} {args : List SExpr} {head : Head} {ts : List RawTy} {funs : List RawFun} {terms : List RawTerm} {result : RawTerm} → head_of G L name.text ≡ Some head → AreTypes G L.types types ts → AreArguments G L (take (function_places G L name.text) args) funs → AreTerms G L (drop (function_places G L name.text) args) terms → result ≡ raw_term at (kinds.Call (raw_fun name head ts) funs terms) → IsTermLayer G L at (SExprKind-F.Lower name types (Some args)) result
    choice : {L : Locals} {at : ℕ} {on : SExpr} {arms : List SArm} {scrutinee : RawTerm} {cases : List RawArm} {result : RawTerm} → IsTermLayer G L on.at (out-SExprKind on.kind) scrutinee → AreArms G L arms cases → result ≡ raw_term at (kinds.Match scrutinee cases) → IsTermLayer G L at (SExprKind-F.Match on arms) result

  -- each expression is the term at its place
  pub data AreTerms (G : Globals) : Locals → List SExpr → List RawTerm → Type 0 where
    no_terms : {L : Locals} → AreTerms G L [] []
    more_terms : {L : Locals} {e : SExpr} {es : List SExpr} {t : RawTerm} {ts : List RawTerm} → IsTermLayer G L e.at (out-SExprKind e.kind) t → AreTerms G L es ts → AreTerms G L (e ∷ es) (t ∷ ts)

  -- each arm is the one at its place: the variables of its pattern are local in its body
  pub data AreArms (G : Globals) : Locals → List SArm → List RawArm → Type 0 where
    no_arms : {L : Locals} → AreArms G L [] []
    more_arms : {L : Locals} {arm : SArm} {arms : List SArm} {con : Constructor} {body : RawTerm} {a : RawArm} {cases : List RawArm} → constructor_of G arm.name.text ≡ Some con → IsTermLayer G (bind L arm.vars) arm.body.at (out-SExprKind arm.body.kind) body → a ≡ raw_arm arm con body → AreArms G L arms cases → AreArms G L (arm ∷ arms) (a ∷ cases)

-- the expression is this term
abbrev pub IsTerm : Globals → Locals → SExpr → RawTerm → Type 0
IsTerm G L e t = IsTermLayer G L e.at (out-SExprKind e.kind) t

-- The arm is this one.
pub record IsArm (G : Globals) (L : Locals) (arm : SArm) (result : RawArm) : Type 0 where
  pub con : Constructor
  pub body : RawTerm
  pub stands : constructor_of G arm.name.text ≡ Some con
  pub is_body : IsTerm G (bind L arm.vars) arm.body body
  pub is : result ≡ raw_arm arm con body

-- a function that is named with its types
pub record IsFunction (G : Globals) (L : Locals) (f : SFun) (result : RawFun) : Type 0 where
  pub head : Head
  pub types : List RawTy
  pub stands : head_of G L f.name.text ≡ Some head
  pub are_types : AreTypes G L.types f.args types
  pub is : result ≡ raw_fun f.name head types

-- each function is the one at its place
pub data AreFunctions (G : Globals) (L : Locals) : List SFun → List RawFun → Type 0 where
  none : AreFunctions G L [] []
  more : {f : SFun} {fs : List SFun} {g : RawFun} {gs : List RawFun} → IsFunction G L f g → AreFunctions G L fs gs → AreFunctions G L (f ∷ fs) (g ∷ gs)
