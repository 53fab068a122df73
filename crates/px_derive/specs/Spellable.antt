-- What a row may hold to have a line: numbers below 2^32 and literals below 2^64, names in range, terms without matches, and at
-- most ROW_DEPTH levels, counted as depth counts.
use Rattle.std.specs.Prelude.{◌≡◌, ◌≢◌, ℕ, ◌<◌, ◌≤◌, ◌^◌, List, [], ◌∷◌, length}
use Rattle.std.specs.List.{AllByRecursion}
use Rattle.px_base.specs.declared.limits.TheConstants.{ROW_DEPTH}
use Rattle.px_base.specs.declared.names.Names.{Names}
use Rattle.px_base.specs.declared.head.Head.{Head}
use Rattle.px_base.specs.declared.head.Head.TheVariants.{Def, Wle, Weq, FnVar}
use Rattle.px_terms.specs.declared.types.Ty.{Ty, out-Ty}
use Rattle.px_terms.specs.declared.types.Ty.TheOpen.{Ty-F}
use Rattle.px_terms.specs.declared.types.Fun.{Fun}
use Rattle.px_terms.specs.declared.term.Term.{Term, out-Term}
use Rattle.px_terms.specs.declared.term.Term.TheOpen.{Term-F}
use Rattle.px_terms.specs.declared.clause.Sigma.{Sigma}
use Rattle.px_terms.specs.declared.row.Ref.{Ref}
use Rattle.px_terms.specs.declared.row.Ref.TheVariants as reference
use Rattle.px_terms.specs.Types.{ty_depth, tys_depth}
use Rattle.px_terms.specs.Terms.{term_depth}
use Rattle.px_terms.specs.Readable.{AreSmall, IsReadableTarget, IsReadableKind}
use Rattle.px_terms.specs.declared.row.Row.{Row}
use Rattle.px_terms.specs.declared.row.Row.TheVariants as row
use Rattle.px_derive.specs.Spelling.{constructors_at, line_of}

-- one of these has this number
pub record IsNumberOf {A : Type 0} (names : List A) (n : ℕ) : Type 0 where
  pub small : n < 2 ^ 32
  pub within : n < length names

-- the datatype has a constructor of this number
pub record IsConstructorOf (names : Names) (d k : ℕ) : Type 0 where
  pub datatype : IsNumberOf names.cons d
  pub con : IsNumberOf (constructors_at names d) k

mutual
  -- a type that can be spelled
  pub data IsSpellableType (names : Names) : Ty-F Ty → Type 0 where
    word : IsSpellableType names Ty-F.Word
    variable : {n : ℕ} → n < 2 ^ 32 → IsSpellableType names (Ty-F.Var n)
    datatype : {d : ℕ} {args : List Ty} → IsNumberOf names.datatypes d → AreSpellableTypes names args → IsSpellableType names (Ty-F.Con d args)

  -- so can each of the types
  pub data AreSpellableTypes (names : Names) : List Ty → Type 0 where
    no_types : AreSpellableTypes names []
    more_types : {t : Ty} {ts : List Ty} → IsSpellableType names (out-Ty t) → AreSpellableTypes names ts → AreSpellableTypes names (t ∷ ts)

-- a definition or a function variable that can be spelled, or a built-in
abbrev pub IsSpellableHead : Names → Head → Type 0
IsSpellableHead names (Def n) = IsNumberOf names.defs n
IsSpellableHead names Wle = Unit {0}
IsSpellableHead names Weq = Unit {0}
IsSpellableHead names (FnVar n) = n < 2 ^ 32

-- a function that can be spelled
pub record IsSpellableFunction (names : Names) (f : Fun) : Type 0 where
  pub head : IsSpellableHead names f.head
  pub types : AreSpellableTypes names f.types

mutual
  -- a term that can be spelled: it has no match, and no variable of a pattern
  pub data IsSpellableTerm (names : Names) : Term-F Term → Type 0 where
    free : {n : ℕ} → n < 2 ^ 32 → IsSpellableTerm names (Term-F.Free n)
    literal : {w : ℕ} → w < 2 ^ 64 → IsSpellableTerm names (Term-F.Lit w)
    construction : {d k : ℕ} {types : List Ty} {fields : List Term} → IsConstructorOf names d k → AreSpellableTypes names types →
        AreSpellableTerms names fields → IsSpellableTerm names (Term-F.Con d k types fields)
    call : {f : Fun} {funs : List Fun} {args : List Term} → IsSpellableFunction names f → AllByRecursion (IsSpellableFunction names) funs →
        AreSpellableTerms names args → IsSpellableTerm names (Term-F.Call f funs args)

  -- so can each of the terms
  pub data AreSpellableTerms (names : Names) : List Term → Type 0 where
    no_terms : AreSpellableTerms names []
    more_terms : {t : Term} {ts : List Term} → IsSpellableTerm names (out-Term t) → AreSpellableTerms names ts → AreSpellableTerms names (t ∷ ts)

-- a type of a row
pub record IsRowType (names : Names) (t : Ty) : Type 0 where
  pub spellable : IsSpellableType names (out-Ty t)
  pub depth : ty_depth t ≤ ROW_DEPTH

-- a function of a row: each of its types nests by itself
pub record IsRowFunction (names : Names) (f : Fun) : Type 0 where
  pub spellable : IsSpellableFunction names f
  pub depth : tys_depth f.types ≤ ROW_DEPTH

-- a term of a row
pub record IsRowTerm (names : Names) (t : Term) : Type 0 where
  pub spellable : IsSpellableTerm names (out-Term t)
  pub depth : term_depth t ≤ ROW_DEPTH

-- what a reference puts in
pub record IsRowSigma (names : Names) (sigma : Sigma) : Type 0 where
  pub types : AllByRecursion (IsRowType names) sigma.types
  pub funs : AllByRecursion (IsRowFunction names) sigma.funs
  pub terms : AllByRecursion (IsRowTerm names) sigma.terms

-- the hypothesis puts in terms alone: the types and the functions are the obligation's own
pub record IsHypothesisSigma (names : Names) (sigma : Sigma) : Type 0 where
  pub types : sigma.types ≡ []
  pub funs : sigma.funs ≡ []
  pub terms : AllByRecursion (IsRowTerm names) sigma.terms

-- what a note rests on can be spelled, and what it puts in
abbrev pub IsSpellableNote : Names → Ref → Sigma → Type 0
IsSpellableNote names (reference.Property head prop) sigma = IsSpellableHead names head × IsRowSigma names sigma
IsSpellableNote names (reference.Lemma n) sigma = IsNumberOf names.lemmas n × IsRowSigma names sigma
IsSpellableNote names reference.Hypothesis sigma = IsHypothesisSigma names sigma

-- the row has a line
abbrev pub IsSpellable : Names → Row → Type 0
IsSpellable names (row.Header n on) = (n < 2 ^ 32) × AreSmall on
IsSpellable names (row.Same j) = j < 2 ^ 32
IsSpellable names (row.Step t path k) = IsReadableTarget t × AreSmall path × IsReadableKind k
IsSpellable names (row.Note reference sigma) = IsSpellableNote names reference sigma
IsSpellable names (row.CaseVar v) = v < 2 ^ 32
IsSpellable names (row.SplitTerm t) = IsRowTerm names t
IsSpellable names (row.Clash n) = n < 2 ^ 32
IsSpellable names (row.Inject n) = n < 2 ^ 32

-- the line is no row's and no header's
abbrev pub IsNoLine : Names → List ℕ → Type 0
IsNoLine names line = (row : Row) → IsSpellable names row → line ≢ line_of names row
