-- The grammar: each production, and the tree that its words are written for.
use Rattle.std.specs.Prelude.{ℕ, zero, suc, ◌-◌, List, [], Some, None}
use Rattle.px_base.specs.declared.limits.TheConstants.{NESTING}
use Rattle.px_base.specs.declared.raw.RawProp.{RawProp}
use Rattle.px_lexer.specs.declared.token.Key.TheVariants.{KData, KDef, KClaim, KLemma, KReplica, KFrom, KBy, KMatch, KFn, KWith}
use Rattle.px_lexer.specs.declared.token.Mark.TheVariants.{BraceL, BraceR, ParenL, ParenR, Less, Greater, Comma, Colon, Equal, Arrow, FatArrow}
use Rattle.px_parser.specs.Phrases.{Phrase, done, impossible, optional, Either, Each, ◌>>=◌, list, between, mark, key, lower, upper, property, number}
use Rattle.px_parser.specs.declared.surface.Name.{Name}
use Rattle.px_parser.specs.declared.surface.SType.{SType}
use Rattle.px_parser.specs.declared.surface.SType.TheViews.{roll-SType}
use Rattle.px_parser.specs.declared.surface.SCon.{SCon}
use Rattle.px_parser.specs.declared.surface.SData.{SData}
use Rattle.px_parser.specs.declared.surface.SFnType.{SFnType}
use Rattle.px_parser.specs.declared.surface.SParam.{SParam}
use Rattle.px_parser.specs.declared.surface.SParamKind.{SParamKind}
use Rattle.px_parser.specs.declared.surface.SParamKind.TheVariants as param_kinds
use Rattle.px_parser.specs.declared.surface.SDef.{SDef}
use Rattle.px_parser.specs.declared.surface.SClaim.{SClaim}
use Rattle.px_parser.specs.declared.surface.SLemma.{SLemma}
use Rattle.px_parser.specs.declared.surface.SEquation.{SEquation}
use Rattle.px_parser.specs.declared.surface.SReplica.{SReplica}
use Rattle.px_parser.specs.declared.surface.SFun.{SFun}
use Rattle.px_parser.specs.declared.surface.SExpr.{SExpr}
use Rattle.px_parser.specs.declared.surface.SExprKind.TheVariants as expr_kinds
use Rattle.px_parser.specs.declared.surface.SArm.{SArm}
use Rattle.px_parser.specs.declared.surface.Item.{Item}
use Rattle.px_parser.specs.declared.surface.Item.TheVariants as items
use Rattle.px_parser.specs.declared.surface.Surface.{Surface}

-- the type of this name and these arguments
abbrev pub type_of : Name → List SType → SType
type_of name args = roll-SType (record { name = name; args = args })

-- `Upper [ "<" type { "," type } ">" ]`, where so many parts may be open around a token, this type among them
unfoldable pub type : ℕ → Phrase SType
type zero = impossible
type (suc room) = do
  name ← upper
  args ← optional [] (between Less (list Comma (type room)) Greater)
  done (type_of name args)

-- `[ "<" type { "," type } ">" ]`
abbrev pub type_arguments : ℕ → Phrase (List SType)
type_arguments room = optional [] (between Less (list Comma (type room)) Greater)

-- `[ "<" Upper { "," Upper } ">" ]`
abbrev pub type_parameters : Phrase (List Name)
type_parameters = optional [] (between Less (list Comma upper) Greater)

-- `Upper [ "(" type { "," type } ")" ]`
unfoldable pub con : Phrase SCon
con = do
  name ← upper
  fields ← optional [] (between ParenL (list Comma (type NESTING)) ParenR)
  done (record { name = name; fields = fields })

-- `"data" Upper [ tparams ] "{" con { "," con } "}"`
unfoldable pub data_declaration : Phrase SData
data_declaration = do
  at ← key KData
  name ← upper
  tparams ← type_parameters
  cons ← between BraceL (list Comma con) BraceR
  done (record { at = at; name = name; tparams = tparams; cons = cons })

-- `prop { "," prop }`
abbrev pub properties : Phrase (List RawProp)
properties = list Comma property

-- `[ "with" props ]`
unfoldable pub with_properties : Phrase (List RawProp)
with_properties = optional [] (do
  _ ← key KWith
  properties)

-- `"fn" "(" type { "," type } ")" "->" type [ with ]`, the part in which its types are nested
unfoldable pub fn_type : Phrase SFnType
fn_type = do
  at ← key KFn
  params ← between ParenL (list Comma (type (NESTING - 1))) ParenR
  _ ← mark Arrow
  result ← type (NESTING - 1)
  props ← with_properties
  done (record { at = at; params = params; result = result; props = props })

-- `fntype | type`
unfoldable pub param_kind : Phrase SParamKind
param_kind = Either (do
  function ← fn_type
  done (param_kinds.Function function)) (do
    value ← type NESTING
    done (param_kinds.Value value))

-- `Lower ":" ( fntype | type )`
unfoldable pub param : Phrase SParam
param = do
  name ← lower
  _ ← mark Colon
  kind ← param_kind
  done (record { name = name; kind = kind })

-- `"(" [ param { "," param } ] ")"`
unfoldable pub params : Phrase (List SParam)
params = between ParenL (optional [] (list Comma param)) ParenR

-- `Upper [ targs ] [ "(" expr { "," expr } ")" ]`, around these types and expressions
unfoldable pub upper_expr : Phrase (List SType) → Phrase SExpr → Phrase SExpr
upper_expr types inner = do
  name ← upper
  types ← types
  fields ← optional [] (between ParenL (list Comma inner) ParenR)
  done (record { at = name.at; kind = expr_kinds.Upper name types fields })

-- `Lower [ targs ] [ "(" [ expr { "," expr } ] ")" ]`, around these types and expressions
unfoldable pub lower_expr : Phrase (List SType) → Phrase SExpr → Phrase SExpr
lower_expr types inner = do
  name ← lower
  types ← types
  args ← optional None (do
    args ← between ParenL (optional [] (list Comma inner)) ParenR
    done (Some args))
  done (record { at = name.at; kind = expr_kinds.Lower name types args })

-- `Upper [ "(" Lower { "," Lower } ")" ] "=>" expr`, around this expression
unfoldable pub arm : Phrase SExpr → Phrase SArm
arm inner = do
  name ← upper
  vars ← optional [] (between ParenL (list Comma lower) ParenR)
  _ ← mark FatArrow
  body ← inner
  done (record { name = name; vars = vars; body = body })

-- `"match" expr "{" arm { "," arm } "}"`, around these expressions
unfoldable pub match_expr : Phrase SExpr → Phrase SExpr
match_expr inner = do
  at ← key KMatch
  on ← inner
  arms ← between BraceL (list Comma (arm inner)) BraceR
  done (record { at = at; kind = expr_kinds.Match on arms })

-- `Number | Upper .. | Lower .. | "match" ..`, where so many parts may be open around a token, this one among them
unfoldable pub expr : ℕ → Phrase SExpr
expr zero = impossible
expr (suc room) = Either number (Either (upper_expr (type_arguments room) (expr room)) (Either (lower_expr (type_arguments room) (expr room)) (match_expr (expr room))))

-- `"def" Lower [ tparams ] params ":" type [ with ] "{" expr "}"`
unfoldable pub definition : Phrase SDef
definition = do
  at ← key KDef
  name ← lower
  tparams ← type_parameters
  params ← params
  _ ← mark Colon
  result ← type NESTING
  props ← with_properties
  body ← between BraceL (expr NESTING) BraceR
  done (record { at = at; name = name; tparams = tparams; params = params; result = result; props = props; body = body })

-- `"claim" Lower ":" props`
unfoldable pub claim : Phrase SClaim
claim = do
  at ← key KClaim
  name ← lower
  _ ← mark Colon
  props ← properties
  done (record { at = at; name = name; props = props })

-- `expr "=" expr`
unfoldable pub equation : Phrase SEquation
equation = do
  left ← expr NESTING
  _ ← mark Equal
  right ← expr NESTING
  done (record { left = left; right = right })

-- `"lemma" Lower [ tparams ] params ":" equation { "=>" equation }`
unfoldable pub lemma : Phrase SLemma
lemma = do
  at ← key KLemma
  name ← lower
  tparams ← type_parameters
  params ← params
  _ ← mark Colon
  equations ← list FatArrow equation
  done (record { at = at; name = name; tparams = tparams; params = params; equations = equations })

-- `Lower [ targs ]`
unfoldable pub function : Phrase SFun
function = do
  name ← lower
  args ← type_arguments NESTING
  done (record { name = name; args = args })

-- `"replica" Lower ":" type "from" expr "by" fun [ "(" fun { "," fun } ")" ]`
unfoldable pub replica : Phrase SReplica
replica = do
  at ← key KReplica
  name ← lower
  _ ← mark Colon
  state ← type NESTING
  _ ← key KFrom
  from ← expr NESTING
  _ ← key KBy
  merge ← function
  funs ← optional [] (between ParenL (list Comma function) ParenR)
  done (record { at = at; name = name; state = state; from = from; merge = merge; funs = funs })

-- `data | def | claim | lemma | replica`
unfoldable pub item : Phrase Item
item = Either (do
  declaration ← data_declaration
  done (items.Datatype declaration)) (Either (do
    declaration ← definition
    done (items.Definition declaration)) (Either (do
      declaration ← claim
      done (items.Claim declaration)) (Either (do
        declaration ← lemma
        done (items.Lemma declaration)) (do
          declaration ← replica
          done (items.Replica declaration)))))

-- the words of a program, and its tree: any number of declarations
unfoldable pub program : Phrase Surface
program = do
  all ← Each item
  done (record { items = all })
