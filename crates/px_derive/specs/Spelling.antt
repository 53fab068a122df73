-- The one spelling of each row as a line, without its line feed. Numbers stand for names; what has no name has no text.
use Rattle.std.specs.Prelude.{ℕ, List, [], ◌∷◌, ◌++◌, map, unwrap_or, slice_get, codes}
use Rattle.std.specs.List.{join_with_byte, flat_map}
use Rattle.std.specs.Fmt.{decimal}
use Rattle.px_base.specs.declared.names.Names.{Names}
use Rattle.px_base.specs.declared.head.Head.{Head}
use Rattle.px_base.specs.declared.head.Head.TheVariants.{Def, Wle, Weq, FnVar}
use Rattle.px_base.specs.declared.prop.Prop.{Prop}
use Rattle.px_base.specs.declared.prop.Prop.TheVariants.{Comm, Assoc, Idem, Sel, Refl, Irrefl, Sym, Antisym, Asym, Trans, Conn}
use Rattle.px_terms.specs.declared.types.Ty.{Ty}
use Rattle.px_terms.specs.declared.types.Ty.TheOpen.{Ty-F}
use Rattle.px_terms.specs.declared.types.Ty.TheFolds.{fold-Ty}
use Rattle.px_terms.specs.declared.types.Fun.{Fun}
use Rattle.px_terms.specs.declared.term.Term.{Term}
use Rattle.px_terms.specs.declared.term.Term.TheOpen.{Term-F}
use Rattle.px_terms.specs.declared.term.Term.TheFolds.{fold-Term}
use Rattle.px_terms.specs.declared.clause.Sigma.{Sigma}
use Rattle.px_terms.specs.declared.row.Ref.{Ref}
use Rattle.px_terms.specs.declared.row.Ref.TheVariants as reference
use Rattle.px_terms.specs.Spelling.{target_word, path_word, kind_words, on_words}
use Rattle.px_terms.specs.declared.row.Row.{Row}
use Rattle.px_terms.specs.declared.row.Row.TheVariants as row
use Rattle.px_terms.specs.declared.row.Tree.{Tree}

-- the name of this number
abbrev pub name_at : List (List ℕ) → ℕ → List ℕ
name_at names n = unwrap_or (slice_get names n) []

-- the names of a datatype's constructors
abbrev pub constructors_at : Names → ℕ → List (List ℕ)
constructors_at names d = unwrap_or (slice_get names.cons d) []

-- texts with commas between
abbrev pub commas : List (List ℕ) → List ℕ
commas = join_with_byte 44

-- a list between two marks, and nothing where it is empty
abbrev pub between : List ℕ → List ℕ → List (List ℕ) → List ℕ
between opening closing [] = []
between opening closing (t ∷ ts) = opening ++ (commas (t ∷ ts) ++ closing)

-- type arguments
abbrev pub in_angles : List (List ℕ) → List ℕ
in_angles = between (codes "<") (codes ">")

-- a constructor's fields
abbrev pub in_parentheses : List (List ℕ) → List ℕ
in_parentheses = between (codes "(") (codes ")")

-- a list of a row, which may be empty
abbrev pub in_brackets : List (List ℕ) → List ℕ
in_brackets ts = codes "[" ++ (commas ts ++ codes "]")

-- `Word`, a type variable as `'0`, or a datatype with its arguments
abbrev pub ty_text_step : Names → Ty-F (List ℕ) → List ℕ
ty_text_step names Ty-F.Word = codes "Word"
ty_text_step names (Ty-F.Var n) = codes "'" ++ decimal n
ty_text_step names (Ty-F.Con d args) = name_at names.datatypes d ++ in_angles args

-- a type
abbrev pub ty_text : Names → Ty → List ℕ
ty_text names = fold-Ty (List ℕ) (ty_text_step names)

-- a definition, a built-in, or a function variable as `%0`
abbrev pub head_text : Names → Head → List ℕ
head_text names (Def n) = name_at names.defs n
head_text names Wle = codes "wle"
head_text names Weq = codes "weq"
head_text names (FnVar n) = codes "%" ++ decimal n

-- a function with its type arguments
abbrev pub fun_text : Names → Fun → List ℕ
fun_text names f = head_text names f.head ++ in_angles (map (ty_text names) f.types)

-- a data variable as `$0`, a literal, a constructor on fields, or a call: first its functions and then its data arguments
abbrev pub term_text_step : Names → Term-F (List ℕ) → List ℕ
term_text_step names (Term-F.Free n) = codes "$" ++ decimal n
term_text_step names (Term-F.Bound n) = []
term_text_step names (Term-F.Lit w) = decimal w
term_text_step names (Term-F.Con d k types fields) = name_at (constructors_at names d) k ++ (in_angles (map (ty_text names) types) ++ in_parentheses fields)
term_text_step names (Term-F.Call f funs args) = fun_text names f ++ (codes "(" ++ (commas (map (fun_text names) funs ++ args) ++ codes ")"))
term_text_step names (Term-F.Match on d types arms) = []

-- a term
abbrev pub term_text : Names → Term → List ℕ
term_text names = fold-Term (List ℕ) (term_text_step names)

-- the word of a property
abbrev pub prop_word : Prop → List ℕ
prop_word Comm = codes "comm"
prop_word Assoc = codes "assoc"
prop_word Idem = codes "idem"
prop_word Sel = codes "sel"
prop_word Refl = codes "refl"
prop_word Irrefl = codes "irrefl"
prop_word Sym = codes "sym"
prop_word Antisym = codes "antisym"
prop_word Asym = codes "asym"
prop_word Trans = codes "trans"
prop_word Conn = codes "conn"

-- the types, functions and terms that a note puts in
abbrev pub sigma_words : Names → Sigma → List ℕ
sigma_words names sigma = in_brackets (map (ty_text names) sigma.types) ++ (codes " " ++ (in_brackets (map (fun_text names) sigma.funs) ++ (codes " " ++ in_brackets (map (term_text names) sigma.terms))))

-- a property of a function and a lemma with all that is put in, and the hypothesis with its terms
abbrev pub note_words : Names → Ref → Sigma → List ℕ
note_words names (reference.Property head prop) sigma = codes "note " ++ (head_text names head ++ (codes "." ++ (prop_word prop ++ (codes " " ++ sigma_words names sigma))))
note_words names (reference.Lemma n) sigma = codes "note " ++ (name_at names.lemmas n ++ (codes " " ++ sigma_words names sigma))
note_words names reference.Hypothesis sigma = codes "hyp " ++ in_brackets (map (term_text names) sigma.terms)

-- a row's line
abbrev pub line_of : Names → Row → List ℕ
line_of names (row.Header n on) = codes "goal " ++ (decimal n ++ on_words on)
line_of names (row.Same j) = codes "same " ++ decimal j
line_of names (row.Step t path k) = codes "step " ++ (target_word t ++ (codes " " ++ (path_word path ++ (codes " " ++ kind_words k))))
line_of names (row.Note reference sigma) = note_words names reference sigma
line_of names (row.CaseVar v) = codes "case " ++ decimal v
line_of names (row.SplitTerm t) = codes "split " ++ term_text names t
line_of names (row.Clash n) = codes "clash " ++ decimal n
line_of names (row.Inject n) = codes "inject " ++ decimal n

-- each row's line, ended by a line feed
abbrev pub lines_of : Names → List Row → List ℕ
lines_of names rows = flat_map (λ (r : Row). line_of names r ++ 10 ∷ []) rows

-- the text of an obligation's tree: its header, and its rows
abbrev pub tree_text : Names → ℕ → Tree → List ℕ
tree_text names n tree = lines_of names (row.Header n tree.on ∷ tree.rows)
