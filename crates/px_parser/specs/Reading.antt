-- A reader for each production. None of these says what a program is: each is proved to read its phrase of the grammar.
use Rattle.std.specs.Prelude.{ℕ, zero, suc, ◌-◌, ◌==◌, Bool, true, false, cond, ◌&&◌, List, [], ◌∷◌, Option, Some, None}
use Rattle.px_base.specs.declared.limits.TheConstants.{NESTING}
use Rattle.px_base.specs.declared.raw.RawProp.{RawProp}
use Rattle.px_lexer.specs.declared.token.Key.{Key}
use Rattle.px_lexer.specs.declared.token.Key.TheVariants.{KData, KDef, KClaim, KLemma, KReplica, KFrom, KBy, KMatch, KFn, KWith}
use Rattle.px_lexer.specs.declared.token.Mark.{Mark}
use Rattle.px_lexer.specs.declared.token.Mark.TheVariants.{BraceL, BraceR, ParenL, ParenR, Less, Greater, Comma, Colon, Equal, Arrow, FatArrow}
use Rattle.px_lexer.specs.declared.token.TokenKind.{TokenKind}
use Rattle.px_lexer.specs.declared.token.TokenKind.TheVariants as kinds
use Rattle.px_parser.specs.Words.{Word}
use Rattle.px_parser.specs.Kinds.{is_mark, is_key, is_lower, is_upper, is_number, is_property, fronts}
use Rattle.px_parser.specs.Grammar.{type_of}
use Rattle.px_parser.specs.Readers.{Reader, ◌>>=◌, pure, fail, choice, word_at, each_at}
use Rattle.px_parser.specs.declared.surface.Name.{Name}
use Rattle.px_parser.specs.declared.surface.SType.{SType}
use Rattle.px_parser.specs.declared.surface.SCon.{SCon}
use Rattle.px_parser.specs.declared.surface.SData.{SData}
use Rattle.px_parser.specs.declared.surface.SFnType.{SFnType}
use Rattle.px_parser.specs.declared.surface.SParam.{SParam}
use Rattle.px_parser.specs.declared.surface.SParamKind.{SParamKind}
use Rattle.px_parser.specs.declared.surface.SParamKind.TheVariants as param_kinds
use Rattle.px_parser.specs.declared.surface.SDef.{SDef}
use Rattle.px_parser.specs.declared.surface.SClaim.{SClaim}
use Rattle.px_parser.specs.declared.surface.SLemma.{SLemma}
use Rattle.px_parser.specs.declared.surface.SEquation.{SEquation}
use Rattle.px_parser.specs.declared.surface.SReplica.{SReplica}
use Rattle.px_parser.specs.declared.surface.SFun.{SFun}
use Rattle.px_parser.specs.declared.surface.SExpr.{SExpr}
use Rattle.px_parser.specs.declared.surface.SExprKind.TheVariants as expr_kinds
use Rattle.px_parser.specs.declared.surface.SArm.{SArm}
use Rattle.px_parser.specs.declared.surface.Item.{Item}
use Rattle.px_parser.specs.declared.surface.Item.TheVariants as items

-- the value, where the test holds
abbrev pub where_true : {T : Type 0} → Bool → T → Option T
where_true true value = Some value
where_true false value = None

-- the word is this mark
abbrev pub mark_value : Mark → Word → Option (Unit {0})
mark_value m word = where_true (is_mark m word.kind) tt

-- the place of the word, where it is this reserved word
abbrev pub key_value : Key → Word → Option ℕ
key_value k word = where_true (is_key k word.kind) word.at

-- the name, where the word begins with a small letter
abbrev pub lower_value : Word → Option Name
lower_value word = where_true (is_lower word.kind) (record { at = word.at; text = word.text })

-- the name, where the word begins with a capital letter
abbrev pub upper_value : Word → Option Name
upper_value word = where_true (is_upper word.kind) (record { at = word.at; text = word.text })

-- the property of this kind, at this place
abbrev pub property_of : TokenKind → ℕ → Option RawProp
property_of (kinds.Property prop) at = Some (record { at = at; prop = prop })
property_of _ at = None

-- the property, where the word is one
abbrev pub property_value : Word → Option RawProp
property_value word = property_of word.kind word.at

-- the literal, where the word is a number
abbrev pub number_value : Word → Option SExpr
number_value word = where_true (is_number word.kind) (record { at = word.at; kind = expr_kinds.Number word.number })

-- reads this mark
abbrev pub mark_at : Mark → Reader (Unit {0})
mark_at m = word_at (mark_value m)

-- reads this reserved word
abbrev pub key_at : Key → Reader ℕ
key_at k = word_at (key_value k)

-- reads a name that begins with a small letter
abbrev pub lower_at : Reader Name
lower_at = word_at lower_value

-- reads a name that begins with a capital letter
abbrev pub upper_at : Reader Name
upper_at = word_at upper_value

-- reads a property
abbrev pub property_at : Reader RawProp
property_at = word_at property_value

-- reads a number
abbrev pub number_at : Reader SExpr
number_at = word_at number_value

-- the list whose separators are where the test holds
unfoldable pub list_while : {T : Type 0} → (List Word → Bool) → Mark → Reader T → Reader (List T)
list_while test separator item = do
  first ← item
  others ← each_at test (do
    _ ← mark_at separator
    item)
  pure (first ∷ others)

-- the list with this mark between
abbrev pub list_at : {T : Type 0} → Mark → Reader T → Reader (List T)
list_at separator item = list_while (fronts (is_mark separator)) separator item

-- reads what stands between two marks
unfoldable pub between_at : {T : Type 0} → Mark → Reader T → Mark → Reader T
between_at opening p closing = do
  _ ← mark_at opening
  value ← p
  _ ← mark_at closing
  pure value

-- what the mark opens, or nothing
unfoldable pub opened_at : {T : Type 0} → Mark → Reader (List T) → Mark → Reader (List T)
opened_at opening p closing = choice (fronts (is_mark opening)) (between_at opening p closing) (pure [])

-- where no part may nest, the word that begins one fits nothing
unfoldable pub inside : {T : Type 0} → ℕ → Reader T → Reader T
inside room p = cond (room == 0) fail p

-- reads type arguments around such types
abbrev pub type_arguments_with : ℕ → Reader SType → Reader (List SType)
type_arguments_with room inner = choice (fronts (is_mark Less)) (inside room (between_at Less (list_at Comma inner) Greater)) (pure [])

-- a type around such types
abbrev pub type_with : ℕ → Reader SType → Reader SType
type_with room inner = do
  name ← upper_at
  args ← type_arguments_with room inner
  pure (type_of name args)

-- reads a type
unfoldable pub type_at : ℕ → Reader SType
type_at zero = fail
type_at (suc room) = type_with room (type_at room)

-- reads types
unfoldable pub types_at : ℕ → Reader (List SType)
types_at room = list_at Comma (type_at room)

-- reads type arguments
unfoldable pub type_arguments_at : ℕ → Reader (List SType)
type_arguments_at room = type_arguments_with room (type_at room)

-- reads names
unfoldable pub names_at : Reader Name → Reader (List Name)
names_at name = list_at Comma name

-- reads type parameters
unfoldable pub type_parameters_at : Reader (List Name)
type_parameters_at = opened_at Less (names_at upper_at) Greater

-- reads a pattern's variables
unfoldable pub pattern_variables_at : Reader (List Name)
pattern_variables_at = opened_at ParenL (names_at lower_at) ParenR

-- the fields of a constructor
unfoldable pub con_fields_at : Reader (List SType)
con_fields_at = opened_at ParenL (types_at NESTING) ParenR

-- reads a constructor
unfoldable pub con_at : Reader SCon
con_at = do
  name ← upper_at
  fields ← con_fields_at
  pure (record { name = name; fields = fields })

-- reads constructors
unfoldable pub cons_at : Reader (List SCon)
cons_at = list_at Comma con_at

-- reads a datatype
unfoldable pub data_at : Reader SData
data_at = do
  at ← key_at KData
  name ← upper_at
  tparams ← type_parameters_at
  cons ← between_at BraceL cons_at BraceR
  pure (record { at = at; name = name; tparams = tparams; cons = cons })

-- reads properties
unfoldable pub properties_at : Reader (List RawProp)
properties_at = list_at Comma property_at

-- the `with` of a definition
unfoldable pub with_at : Reader (List RawProp)
with_at = choice (fronts (is_key KWith)) (do
  _ ← key_at KWith
  properties_at) (pure [])

-- a comma stands first, and then a property
unfoldable pub comma_property : List Word → Bool
comma_property [] = false
comma_property (word ∷ rest) = is_mark Comma word.kind && fronts is_property rest

-- the properties of a parameter: a comma before anything but a property comes after the parameter
unfoldable pub param_properties_at : Reader (List RawProp)
param_properties_at = list_while comma_property Comma property_at

-- the `with` of a parameter
unfoldable pub param_with_at : Reader (List RawProp)
param_with_at = choice (fronts (is_key KWith)) (do
  _ ← key_at KWith
  param_properties_at) (pure [])

-- reads a function type
unfoldable pub fn_type_at : Reader SFnType
fn_type_at = do
  at ← key_at KFn
  params ← between_at ParenL (types_at (NESTING - 1)) ParenR
  _ ← mark_at Arrow
  result ← type_at (NESTING - 1)
  props ← param_with_at
  pure (record { at = at; params = params; result = result; props = props })

-- reads what a parameter is
unfoldable pub param_kind_at : Reader SParamKind
param_kind_at = choice (fronts (is_key KFn)) (do
  function ← fn_type_at
  pure (param_kinds.Function function)) (do
    value ← type_at NESTING
    pure (param_kinds.Value value))

-- reads a parameter
unfoldable pub param_at : Reader SParam
param_at = do
  name ← lower_at
  _ ← mark_at Colon
  kind ← param_kind_at
  pure (record { name = name; kind = kind })

-- the items up to the mark that closes them, none where it stands first
unfoldable pub up_to : {T : Type 0} → Mark → Reader (List T) → Reader (List T)
up_to closing items = choice (fronts (is_mark closing)) (pure []) items

-- reads parameters
unfoldable pub param_list_at : Reader (List SParam)
param_list_at = list_at Comma param_at

-- reads parameters in parentheses
unfoldable pub params_at : Reader (List SParam)
params_at = between_at ParenL (up_to ParenR param_list_at) ParenR

-- the readers of the parts of an expression, around such types and expressions
unfoldable pub fields_with : ℕ → Reader SExpr → Reader (List SExpr)
fields_with room inner = choice (fronts (is_mark ParenL)) (inside room (between_at ParenL (list_at Comma inner) ParenR)) (pure [])

-- reads a construction
unfoldable pub upper_expr_with : Reader (List SType) → Reader (List SExpr) → Reader SExpr
upper_expr_with types fields = do
  name ← upper_at
  types ← types
  fields ← fields
  pure (record { at = name.at; kind = expr_kinds.Upper name types fields })

-- reads arguments
unfoldable pub arguments_with : Reader SExpr → Reader (Option (List SExpr))
arguments_with inner = choice (fronts (is_mark ParenL)) (do
  args ← between_at ParenL (up_to ParenR (list_at Comma inner)) ParenR
  pure (Some args)) (pure None)

-- reads a variable or a call
unfoldable pub lower_expr_with : Reader (List SType) → Reader (Option (List SExpr)) → Reader SExpr
lower_expr_with types args = do
  name ← lower_at
  types ← types
  args ← args
  pure (record { at = name.at; kind = expr_kinds.Lower name types args })

-- reads an arm
unfoldable pub arm_with : Reader SExpr → Reader SArm
arm_with inner = do
  name ← upper_at
  vars ← pattern_variables_at
  _ ← mark_at FatArrow
  body ← inner
  pure (record { name = name; vars = vars; body = body })

-- reads a match
unfoldable pub match_with : Reader SExpr → Reader (List SArm) → Reader SExpr
match_with inner arms = do
  at ← key_at KMatch
  on ← inner
  arms ← between_at BraceL arms BraceR
  pure (record { at = at; kind = expr_kinds.Match on arms })

-- one of the four, by the first word
unfoldable pub expr_with : ℕ → Reader SExpr → Reader SExpr
expr_with room inner = choice (fronts is_number) number_at (choice (fronts is_upper) (upper_expr_with (type_arguments_at room) (fields_with room inner)) (choice (fronts is_lower) (lower_expr_with (type_arguments_at room) (arguments_with inner)) (inside room (match_with inner (list_at Comma (arm_with inner))))))

-- reads an expression
unfoldable pub expr_at : ℕ → Reader SExpr
expr_at zero = fail
expr_at (suc room) = expr_with room (expr_at room)

-- reads expressions
unfoldable pub exprs_at : ℕ → Reader (List SExpr)
exprs_at room = list_at Comma (expr_at room)

-- reads fields
unfoldable pub fields_at : ℕ → Reader (List SExpr)
fields_at room = fields_with room (expr_at room)

-- reads arguments
unfoldable pub arguments_at : ℕ → Reader (Option (List SExpr))
arguments_at room = arguments_with (expr_at room)

-- reads a construction
unfoldable pub upper_expr_at : ℕ → Reader SExpr
upper_expr_at room = upper_expr_with (type_arguments_at room) (fields_at room)

-- reads a variable or a call
unfoldable pub lower_expr_at : ℕ → Reader SExpr
lower_expr_at room = lower_expr_with (type_arguments_at room) (arguments_at room)

-- reads an arm
unfoldable pub arm_at : ℕ → Reader SArm
arm_at room = arm_with (expr_at room)

-- reads arms
unfoldable pub arms_at : ℕ → Reader (List SArm)
arms_at room = list_at Comma (arm_at room)

-- reads a match
unfoldable pub match_at : ℕ → Reader SExpr
match_at room = inside room (match_with (expr_at room) (arms_at room))

-- reads a definition
unfoldable pub definition_at : Reader SDef
definition_at = do
  at ← key_at KDef
  name ← lower_at
  tparams ← type_parameters_at
  params ← params_at
  _ ← mark_at Colon
  result ← type_at NESTING
  props ← with_at
  body ← between_at BraceL (expr_at NESTING) BraceR
  pure (record { at = at; name = name; tparams = tparams; params = params; result = result; props = props; body = body })

-- reads a claim
unfoldable pub claim_at : Reader SClaim
claim_at = do
  at ← key_at KClaim
  name ← lower_at
  _ ← mark_at Colon
  props ← properties_at
  pure (record { at = at; name = name; props = props })

-- reads an equation
unfoldable pub equation_at : Reader SEquation
equation_at = do
  left ← expr_at NESTING
  _ ← mark_at Equal
  right ← expr_at NESTING
  pure (record { left = left; right = right })

-- reads equations
unfoldable pub equations_at : Reader (List SEquation)
equations_at = list_at FatArrow equation_at

-- reads a lemma
unfoldable pub lemma_at : Reader SLemma
lemma_at = do
  at ← key_at KLemma
  name ← lower_at
  tparams ← type_parameters_at
  params ← params_at
  _ ← mark_at Colon
  equations ← equations_at
  pure (record { at = at; name = name; tparams = tparams; params = params; equations = equations })

-- reads a function
unfoldable pub function_at : Reader SFun
function_at = do
  name ← lower_at
  args ← type_arguments_at NESTING
  pure (record { name = name; args = args })

-- reads functions
unfoldable pub functions_at : Reader (List SFun)
functions_at = list_at Comma function_at

-- the functions of a merge
unfoldable pub merge_functions_at : Reader (List SFun)
merge_functions_at = opened_at ParenL functions_at ParenR

-- reads a replica
unfoldable pub replica_at : Reader SReplica
replica_at = do
  at ← key_at KReplica
  name ← lower_at
  _ ← mark_at Colon
  state ← type_at NESTING
  _ ← key_at KFrom
  from ← expr_at NESTING
  _ ← key_at KBy
  merge ← function_at
  funs ← merge_functions_at
  pure (record { at = at; name = name; state = state; from = from; merge = merge; funs = funs })

-- reads a declaration
unfoldable pub item_at : Reader Item
item_at = choice (fronts (is_key KData)) (do
  declaration ← data_at
  pure (items.Datatype declaration)) (choice (fronts (is_key KDef)) (do
    declaration ← definition_at
    pure (items.Definition declaration)) (choice (fronts (is_key KClaim)) (do
      declaration ← claim_at
      pure (items.Claim declaration)) (choice (fronts (is_key KLemma)) (do
        declaration ← lemma_at
        pure (items.Lemma declaration)) (do
          declaration ← replica_at
          pure (items.Replica declaration)))))

-- there is a first word
unfoldable pub some_word : List Word → Bool
some_word [] = false
some_word (word ∷ rest) = true

-- reads declarations, to the end
unfoldable pub items_at : Reader (List Item)
items_at = each_at some_word item_at
