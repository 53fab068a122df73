-- A reader for each part of a line. None of these says what a line is: each is proved to read what is spelled.
use Rattle.std.specs.Prelude.{ℕ, zero, suc, ◌+◌, ◌^◌, ◌&&◌, true, false, cond, nat_lt, List, [], ◌∷◌, ◌++◌, Option, Some, None, option_and_then, codes}
use Rattle.std.specs.List.{position}
use Rattle.std.specs.Str.{bytes_eq}
use Rattle.std.specs.Char.{is_ascii_digit, is_ascii_uppercase}
use Rattle.px_base.specs.NameForms.{is_name_part}
use Rattle.px_base.specs.declared.limits.TheConstants.{ROW_DEPTH}
use Rattle.px_base.specs.declared.names.Names.{Names}
use Rattle.px_base.specs.declared.head.Head.{Head}
use Rattle.px_base.specs.declared.head.Head.TheVariants.{Def, Wle, Weq, FnVar}
use Rattle.px_base.specs.declared.prop.Prop.{Prop}
use Rattle.px_base.specs.declared.prop.Prop.TheVariants.{Comm, Assoc, Idem, Sel, Refl, Irrefl, Sym, Antisym, Asym, Trans, Conn}
use Rattle.px_terms.specs.declared.types.Ty.{Ty}
use Rattle.px_terms.specs.declared.types.Ty.TheVariants as type
use Rattle.px_terms.specs.declared.types.Fun.{Fun}
use Rattle.px_terms.specs.declared.term.Term.{Term}
use Rattle.px_terms.specs.declared.term.Term.TheVariants as term
use Rattle.px_terms.specs.declared.clause.Sigma.{Sigma}
use Rattle.px_terms.specs.declared.row.Side.{Side}
use Rattle.px_terms.specs.declared.row.Side.TheVariants.{Left, Right}
use Rattle.px_terms.specs.declared.row.Target.{Target}
use Rattle.px_terms.specs.declared.row.Target.TheVariants as target
use Rattle.px_terms.specs.declared.row.Kind.{Kind}
use Rattle.px_terms.specs.declared.row.Kind.TheVariants as kind
use Rattle.px_terms.specs.declared.row.Ref.{Ref}
use Rattle.px_terms.specs.declared.row.Ref.TheVariants as reference
use Rattle.px_terms.specs.declared.row.Row.{Row}
use Rattle.px_terms.specs.declared.row.Row.TheVariants as row
use Rattle.px_derive.specs.declared.terms.Argument.{Argument}
use Rattle.px_derive.specs.declared.terms.Argument.TheVariants.{Function, Value}
use Rattle.px_derive.specs.declared.terms.Arguments.{Arguments}
use Rattle.px_derive.specs.declared.lookups.Constructor.{Constructor}
use Rattle.px_derive.specs.Readers.{Reader, ◌>>=◌, pure, nothing, lift, skip, after, choice, begins, run_of, number_at, gather, list_at, opened_at, closed_at}

-- a number that all numbers but literals are below
abbrev pub small_at : Reader ℕ
small_at = number_at (2 ^ 32)

-- a literal
abbrev pub literal_at : Reader ℕ
literal_at = number_at (2 ^ 64)

-- letters, digits and `_`
abbrev pub word_at : Reader (List ℕ)
word_at = run_of is_name_part

-- the number, where it is below 2^32
abbrev pub small : ℕ → Option ℕ
small n = cond (nat_lt n (2 ^ 32)) (Some n) None

-- the place of a word among names
abbrev pub place_of : List (List ℕ) → List ℕ → Option ℕ
place_of names word = position (λ name. bytes_eq name word) names

-- the number of a name
unfoldable pub number_named : List (List ℕ) → List ℕ → Option ℕ
number_named names word = option_and_then small (place_of names word)

-- the constructor at a place of this datatype, or else a later one
abbrev pub constructor_or : ℕ → Option ℕ → Option Constructor → Option Constructor
constructor_or d (Some k) later = Some (record { datatype = d; con = k })
constructor_or d None later = later

-- the constructor of a name, the datatypes being numbered from d on
abbrev pub constructor_from : ℕ → List (List (List ℕ)) → List ℕ → Option Constructor
constructor_from d [] word = None
constructor_from d (own ∷ others) word = constructor_or d (place_of own word) (constructor_from (d + 1) others word)

-- the constructor, where its numbers are below 2^32
abbrev pub small_constructor : Constructor → Option Constructor
small_constructor c = cond (nat_lt c.datatype (2 ^ 32) && nat_lt c.con (2 ^ 32)) (Some c) None

-- the constructor of a name
unfoldable pub constructor_named : List (List (List ℕ)) → List ℕ → Option Constructor
constructor_named names word = option_and_then small_constructor (constructor_from 0 names word)

-- the definition of a number
abbrev pub definition_of : ℕ → Option Head
definition_of n = Some (Def n)

-- the built-in or the definition of a name
unfoldable pub head_named : Names → List ℕ → Option Head
head_named names word = cond (bytes_eq word (codes "wle")) (Some Wle) (cond (bytes_eq word (codes "weq")) (Some Weq) (option_and_then definition_of (number_named names.defs word)))

-- `[ "<" type { "," type } ">" ]`, around these types
unfoldable pub angles_at : Reader Ty → Reader (List Ty)
angles_at item = opened_at (codes "<") (list_at 44 item) (codes ">")

-- a datatype with its arguments, after its name
unfoldable pub datatype_at : Names → Reader Ty → List ℕ → Reader Ty
datatype_at names item word = do
  d ← lift (number_named names.datatypes word)
  args ← angles_at item
  pure (type.Con d args)

-- `"Word" | "'" N | Upper [ "<" types ">" ]`, in which so many levels may nest
unfoldable pub ty_at : Names → ℕ → Reader Ty
ty_at names zero = nothing
ty_at names (suc room) = after (codes "'") (do
  n ← small_at
  pure (type.Var n)) (do
    word ← word_at
    choice (λ text. bytes_eq word (codes "Word")) (pure type.Word) (datatype_at names (ty_at names room) word))

-- a list of types, with commas between
unfoldable pub tys_at : Names → ℕ → Reader (List Ty)
tys_at names room = list_at 44 (ty_at names room)

-- `Lower | "%" N`
unfoldable pub head_at : Names → Reader Head
head_at names = after (codes "%") (do
  n ← small_at
  pure (FnVar n)) (do
    word ← word_at
    lift (head_named names word))

-- `( Lower | "%" N ) [ "<" types ">" ]`, whose types may have so many levels
unfoldable pub fun_at : Names → ℕ → Reader Fun
fun_at names room = do
  head ← head_at names
  types ← angles_at (ty_at names room)
  pure (record { head = head; types = types })

-- a list of functions, with commas between
unfoldable pub funs_at : Names → ℕ → Reader (List Fun)
funs_at names room = list_at 44 (fun_at names room)

-- no arguments
abbrev pub no_arguments : Arguments
no_arguments = record { funs = []; args = [] }

-- the arguments with one more function, which no data argument may precede
abbrev pub function_added : List Fun → List Term → Fun → Option Arguments
function_added funs [] f = Some (record { funs = funs ++ f ∷ []; args = [] })
function_added funs (t ∷ ts) f = None

-- the arguments with one more
abbrev pub argument_added : Arguments → Argument → Option Arguments
argument_added all (Function f) = function_added all.funs all.args f
argument_added all (Value t) = Some (record { funs = all.funs; args = all.args ++ t ∷ [] })

-- the term, where the argument is one
abbrev pub term_of : Argument → Option Term
term_of (Value t) = Some t
term_of (Function f) = None

-- an argument that is a term
unfoldable pub value_at : Reader Argument → Reader Term
value_at item = do
  argument ← item
  lift (term_of argument)

-- a list of terms with commas between, around these arguments
unfoldable pub values_at : Reader Argument → Reader (List Term)
values_at item = list_at 44 (value_at item)

-- `[ "(" term { "," term } ")" ]`, around these arguments
unfoldable pub fields_at : Reader Argument → Reader (List Term)
fields_at item = opened_at (codes "(") (values_at item) (codes ")")

-- `Upper [ "<" types ">" ] [ "(" term { "," term } ")" ]`, around these types and arguments
unfoldable pub construction_at : Names → Reader Ty → Reader Argument → Reader Argument
construction_at names type item = do
  word ← word_at
  c ← lift (constructor_named names.cons word)
  types ← angles_at type
  fields ← fields_at item
  pure (Value (term.Con c.datatype c.con types fields))

-- arguments with commas between: functions and then terms
unfoldable pub some_arguments_at : Reader Argument → Reader Arguments
some_arguments_at item = gather 44 item argument_added no_arguments

-- arguments up to a `)`, or none
unfoldable pub arguments_at : Reader Argument → Reader Arguments
arguments_at item = closed_at no_arguments (some_arguments_at item) (codes ")")

-- a function, or a call of it where a `(` follows
unfoldable pub called_at : Reader Argument → Fun → Reader Argument
called_at item f = after (codes "(") (do
  all ← arguments_at item
  pure (Value (term.Call f all.funs all.args))) (pure (Function f))

-- a function whose types may have so many levels, or a call of it
unfoldable pub function_at : Names → ℕ → Reader Argument → Reader Argument
function_at names room item = do
  f ← fun_at names room
  called_at item f

-- a function argument or a term, in which so many levels may nest
unfoldable pub argument_at : Names → ℕ → Reader Argument
argument_at names zero = nothing
argument_at names (suc room) = after (codes "$") (do
  n ← small_at
  pure (Value (term.Free n))) (choice (begins is_ascii_digit) (do
    w ← literal_at
    pure (Value (term.Lit w))) (choice (begins is_ascii_uppercase) (construction_at names (ty_at names room) (argument_at names room)) (function_at names room (argument_at names room))))

-- a term, in which so many levels may nest
unfoldable pub term_at : Names → ℕ → Reader Term
term_at names room = value_at (argument_at names room)

-- a list of terms, with commas between
unfoldable pub terms_at : Names → ℕ → Reader (List Term)
terms_at names room = values_at (argument_at names room)

-- `"l" | "r"`
unfoldable pub side_at : Reader Side
side_at = after (codes "l") (pure Left) (after (codes "r") (pure Right) nothing)

-- `"a" N side | "f" N side`
unfoldable pub target_at : Reader Target
target_at = after (codes "a") (do
  n ← small_at
  side ← side_at
  pure (target.Alternative n side)) (after (codes "f") (do
    n ← small_at
    side ← side_at
    pure (target.Fact n side)) nothing)

-- numbers with this byte between
unfoldable pub numbers_at : ℕ → Reader (List ℕ)
numbers_at separator = list_at separator small_at

-- `"/" | "/" N { "/" N }`
unfoldable pub path_at : Reader (List ℕ)
path_at = do
  _ ← skip (codes "/")
  choice (begins is_ascii_digit) (numbers_at 47) (pure [])

-- `"lr" | "rl"`, after the fact of this number
unfoldable pub direction_at : ℕ → Reader Kind
direction_at n = after (codes " lr") (pure (kind.Fact n true)) (after (codes " rl") (pure (kind.Fact n false)) nothing)

-- `"unfold" | "select" | "compare" | "fact" N "lr" | "fact" N "rl"`
unfoldable pub kind_at : Reader Kind
kind_at = after (codes "unfold") (pure kind.Unfold) (after (codes "select") (pure kind.Select) (after (codes "compare") (pure kind.Compare) (after (codes "fact ") (do
  n ← small_at
  direction_at n) nothing)))

-- a property of a relation, `refl` apart
unfoldable pub relation_prop_at : Reader Prop
relation_prop_at =
    after (codes "irrefl") (pure Irrefl) (after (codes "sym") (pure Sym) (after (codes "antisym") (pure Antisym) (after (codes "asym") (pure Asym) (
    after (codes "trans") (pure Trans) (after (codes "conn") (pure Conn) nothing)))))

-- a property
unfoldable pub prop_at : Reader Prop
prop_at =
    after (codes "comm") (pure Comm) (after (codes "assoc") (pure Assoc) (after (codes "idem") (pure Idem) (after (codes "sel") (pure Sel) (
    after (codes "refl") (pure Refl) relation_prop_at))))

-- a property of this function
unfoldable pub property_at : Option Head → Reader Ref
property_at found = do
  head ← lift found
  prop ← prop_at
  pure (reference.Property head prop)

-- `name "." prop | "%" N "." prop | name`
unfoldable pub reference_at : Names → Reader Ref
reference_at names = after (codes "%") (do
  n ← small_at
  _ ← skip (codes ".")
  property_at (Some (FnVar n))) (do
    word ← word_at
    after (codes ".") (property_at (head_named names word)) (do
      n ← lift (number_named names.lemmas word)
      pure (reference.Lemma n)))

-- a list between `[` and `]`, which may be empty
unfoldable pub brackets_at : {T : Type 0} → Reader (List T) → Reader (List T)
brackets_at p = do
  _ ← skip (codes "[")
  closed_at [] p (codes "]")

-- `"[" types "]" " " "[" funs "]" " " "[" terms "]"`
unfoldable pub sigma_at : Names → Reader Sigma
sigma_at names = do
  types ← brackets_at (tys_at names ROW_DEPTH)
  _ ← skip (codes " ")
  funs ← brackets_at (funs_at names ROW_DEPTH)
  _ ← skip (codes " ")
  terms ← brackets_at (terms_at names ROW_DEPTH)
  pure (record { types = types; funs = funs; terms = terms })

-- `N [ "on" V { V } ]`
unfoldable pub header_at : Reader Row
header_at = do
  n ← small_at
  on ← after (codes " on ") (numbers_at 32) (pure [])
  pure (row.Header n on)

-- `target path kind`
unfoldable pub step_at : Reader Row
step_at = do
  target ← target_at
  _ ← skip (codes " ")
  path ← path_at
  _ ← skip (codes " ")
  kind ← kind_at
  pure (row.Step target path kind)

-- `ref "[" types "]" " " "[" funs "]" " " "[" terms "]"`
unfoldable pub note_at : Names → Reader Row
note_at names = do
  reference ← reference_at names
  _ ← skip (codes " ")
  sigma ← sigma_at names
  pure (row.Note reference sigma)

-- `"[" terms "]"`
unfoldable pub hypothesis_at : Names → Reader Row
hypothesis_at names = do
  terms ← brackets_at (terms_at names ROW_DEPTH)
  pure (row.Note reference.Hypothesis (record { types = []; funs = []; terms = terms }))

-- a row with one number
unfoldable pub numbered_at : (ℕ → Row) → Reader Row
numbered_at made = do
  n ← small_at
  pure (made n)

-- a row with one term
unfoldable pub split_at : Names → Reader Row
split_at names = do
  t ← term_at names ROW_DEPTH
  pure (row.SplitTerm t)

-- a row that puts in terms
unfoldable pub wide_row_at : Names → Reader Row
wide_row_at names = after (codes "note ") (note_at names) (after (codes "hyp ") (hypothesis_at names) (after (codes "split ") (split_at names) nothing))

-- a row or a header
unfoldable pub row_at : Names → Reader Row
row_at names =
    after (codes "step ") step_at (after (codes "same ") (numbered_at (λ n. row.Same n)) (after (codes "case ") (numbered_at (λ n. row.CaseVar n)) (
    after (codes "inject ") (numbered_at (λ n. row.Inject n)) (after (codes "clash ") (numbered_at (λ n. row.Clash n)) (after (codes "goal ") header_at (
    wide_row_at names))))))

-- the row, where nothing follows
abbrev pub alone : Row × List ℕ → Option Row
alone (r, []) = Some r
alone (r, c ∷ cs) = None

-- the row of a whole line
unfoldable pub line_row : Names → List ℕ → Option Row
line_row names line = option_and_then alone (row_at names line)
