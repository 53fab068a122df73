-- Steps: what a part of a term may become.
use Rattle.std.specs.Prelude.{◌≡◌, ℕ, ◌+◌, List, [], ◌∷◌, ◌++◌, map, reverse, unwrap_or, Some, Bool, true, false, if◌then◌else◌, nat_le, ◌==◌, slice_get}
use Rattle.px_base.specs.declared.head.Head.TheVariants.{Def, Wle, Weq}
use Rattle.px_terms.specs.declared.types.Ty.{Ty}
use Rattle.px_terms.specs.declared.types.Fun.{Fun}
use Rattle.px_terms.specs.declared.term.Term.{Term, out-Term}
use Rattle.px_terms.specs.declared.term.Term.TheVariants.{Free, Bound, Lit, Con, Call, Match}
use Rattle.px_terms.specs.declared.term.Term.TheOpen.{Term-F}
use Rattle.px_terms.specs.declared.term.Term.TheFolds.{fold-Term}
use Rattle.px_terms.specs.declared.clause.Equation.{Equation}
use Rattle.px_terms.specs.declared.program.Program.{Program}
use Rattle.px_terms.specs.declared.row.Kind.{Kind}
use Rattle.px_terms.specs.declared.row.Kind.TheVariants as kind
use Rattle.px_terms.specs.Types.{numbers_from}
use Rattle.px_terms.specs.Terms.{subterm, replaced, term_instance}
use Rattle.px_terms.specs.Programs.{body_of, false_term, true_term}
use Rattle.px_terms.specs.Descent.{field_count}
use Rattle.px_terms.specs.Sequents.{IsSmall}

-- what the pattern variables around a part stand for: so many of inner arms for themselves, and then these fields, the last one innermost
abbrev pub around_part : ℕ → List Term → List Term
around_part inner fields = map (λ (i : ℕ). Bound i) (numbers_from 0 inner) ++ reverse fields

-- the arms of a match, from constructor k on: as many pattern variables more are around an arm as its constructor has fields
abbrev pub arms_with : Program → ℕ → ℕ → List (ℕ → Term) → ℕ → List Term
arms_with P d k [] inner = []
arms_with P d k (arm ∷ arms) inner = arm (field_count P d k + inner) ∷ arms_with P d (k + 1) arms inner

-- a term with these fields put in, under so many pattern variables of inner arms, by what its parts are with them put in
abbrev pub fields_step : Program → List Term → Term-F (ℕ → Term) → ℕ → Term
fields_step P fields (Term-F.Free n) inner = Free n
fields_step P fields (Term-F.Bound i) inner = unwrap_or (slice_get (around_part inner fields) i) (Bound i)
fields_step P fields (Term-F.Lit w) inner = Lit w
fields_step P fields (Term-F.Con d k types parts) inner = Con d k types (map (λ (part : ℕ → Term). part inner) parts)
fields_step P fields (Term-F.Call f funs args) inner = Call f funs (map (λ (arg : ℕ → Term). arg inner) args)
fields_step P fields (Term-F.Match on d types arms) inner = Match (on inner) d types (arms_with P d 0 arms inner)

-- an arm with the fields of its constructor put in for its pattern variables; none of the fields has a loose pattern variable
abbrev pub with_fields : Program → List Term → Term → Term
with_fields P fields arm = fold-Term (ℕ → Term) (fields_step P fields) arm 0

-- the constructor `False` or `True`, as a term
abbrev pub truth_term : Bool → Term
truth_term b = if b then true_term else false_term

-- What a part becomes by a step of this kind: a call of a definition becomes its body with types, functions and arguments put in; a
-- match on a constructor becomes that constructor's arm with the fields put in; a comparison of two literals becomes its truth; one
-- side of a fact becomes the other.
pub data Turns (P : Program) (facts : List Equation) : Kind → Term → Term → Type 0 where
  unfolds : {part t body : Term} {n : ℕ} {types : List Ty} {funs : List Fun} {args : List Term} →
      out-Term part ≡ Term-F.Call (record { head = Def n; types = types }) funs args → body_of P n ≡ Some body →
      t ≡ term_instance (record { types = types; funs = funs; terms = args }) body → Turns P facts kind.Unfold part t
  selects : {part t on arm : Term} {d e k : ℕ} {types us : List Ty} {arms fields : List Term} →
      out-Term part ≡ Term-F.Match on d types arms → out-Term on ≡ Term-F.Con e k us fields → slice_get arms k ≡ Some arm →
      t ≡ with_fields P fields arm → Turns P facts kind.Select part t
  compares_order : {part t a b : Term} {types : List Ty} {funs : List Fun} {x y : ℕ} →
      out-Term part ≡ Term-F.Call (record { head = Wle; types = types }) funs (a ∷ b ∷ []) → out-Term a ≡ Term-F.Lit x → out-Term b ≡ Term-F.Lit y →
      t ≡ truth_term (nat_le x y) → Turns P facts kind.Compare part t
  compares_equality : {part t a b : Term} {types : List Ty} {funs : List Fun} {x y : ℕ} →
      out-Term part ≡ Term-F.Call (record { head = Weq; types = types }) funs (a ∷ b ∷ []) → out-Term a ≡ Term-F.Lit x → out-Term b ≡ Term-F.Lit y →
      t ≡ truth_term (x == y) → Turns P facts kind.Compare part t
  rewrites : {part t : Term} {n : ℕ} {e : Equation} → slice_get facts n ≡ Some e → part ≡ e.left → t ≡ e.right →
      Turns P facts (kind.Fact n true) part t
  rewrites_back : {part t : Term} {n : ℕ} {e : Equation} → slice_get facts n ≡ Some e → part ≡ e.right → t ≡ e.left →
      Turns P facts (kind.Fact n false) part t

-- The step of this kind at this path makes t of s, within the limits.
pub record Step (P : Program) (facts : List Equation) (s : Term) (path : List ℕ) (kind : Kind) (t : Term) : Type 0 where
  pub part : Term
  pub becomes : Term
  pub at : subterm s path ≡ Some part
  pub turns : Turns P facts kind part becomes
  pub whole : replaced s path becomes ≡ Some t
  pub small : IsSmall t
