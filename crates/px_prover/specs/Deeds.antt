-- What is done at a term whose parts are normal.
use Rattle.std.specs.Prelude.{◌≡◌, ◌≢◌, ℕ, List, [], ◌∷◌, Bool, ◌&&◌, if◌then◌else◌, nat_le, nat_lt, ◌==◌, Option, Some, None, option_map, option_and_then, slice_get}
use Rattle.px_base.specs.declared.head.Head.{Head}
use Rattle.px_base.specs.declared.head.Head.TheVariants.{Def, Wle, Weq, FnVar}
use Rattle.px_terms.specs.declared.types.Fun.{Fun}
use Rattle.px_terms.specs.declared.term.Term.{Term, out-Term}
use Rattle.px_terms.specs.declared.term.Term.TheOpen.{Term-F}
use Rattle.px_terms.specs.declared.clause.Equation.{Equation}
use Rattle.px_terms.specs.declared.program.Program.{Program}
use Rattle.px_terms.specs.Terms.{term_instance}
use Rattle.px_terms.specs.Programs.{body_of}
use Rattle.px_terms.specs.Steps.{with_fields, truth_term}
use Rattle.px_prover.specs.Rooms.{Room}

-- the layer is neither a constructor nor a literal
abbrev pub HasNoValueHead : Term-F Term → Type 0
HasNoValueHead (Term-F.Con d k types fields) = ⊥
HasNoValueHead (Term-F.Lit w) = ⊥
HasNoValueHead layer = Unit {0}

-- The fact is live, and the term is its left side: that is neither a constructor nor a literal, and its sides differ.
pub record Rewrites (e : Equation) (t : Term) : Type 0 where
  pub left : e.left ≡ t
  pub head : HasNoValueHead (out-Term t)
  pub differ : t ≢ e.right

-- what the lowest live fact whose left side is the term makes of it, if there is one
pub data FirstRewrite : List Equation → Term → Option Term → Type 0 where
  no_fact : {t : Term} → FirstRewrite [] t None
  this_fact : {e : Equation} {es : List Equation} {t : Term} {r : Option Term} → Rewrites e t → r ≡ Some e.right → FirstRewrite (e ∷ es) t r
  next_fact : {e : Equation} {es : List Equation} {t : Term} {r : Option Term} → ¬ Rewrites e t → FirstRewrite es t r → FirstRewrite (e ∷ es) t r

-- What is done: the term becomes another one, or a call is led on from its body, or nothing is done.
pub data Deed : Type 0 where
  takes : Term → Deed
  leads : Term → Deed
  rests : Deed

-- what it becomes, if anything
abbrev pub takes_if : Option Term → Deed
takes_if None = rests
takes_if (Some t) = takes t

-- what it is led on from, if anything
abbrev pub leads_if : Option Term → Deed
leads_if None = rests
leads_if (Some t) = leads t

-- a match with these arms takes the arm of a constructor, with its fields put in
abbrev pub selected : Program → List Term → Term-F Term → Deed
selected P arms (Term-F.Con d k types fields) = takes_if (option_map (with_fields P fields) (slice_get arms k))
selected P arms layer = rests

-- the word of a literal
abbrev pub word_of : Term-F Term → Option ℕ
word_of (Term-F.Lit w) = Some w
word_of layer = None

-- the words of two literals
abbrev pub two_words : List Term → Option (ℕ × ℕ)
two_words [] = None
two_words (a ∷ []) = None
two_words (a ∷ b ∷ []) = option_and_then (λ (x : ℕ). option_map (λ (y : ℕ). (x, y)) (word_of (out-Term b))) (word_of (out-Term a))
two_words (a ∷ b ∷ c ∷ more) = None

-- a comparison of two literals becomes its truth
abbrev pub compared : (ℕ → ℕ → Bool) → List Term → Deed
compared holds args = takes_if (option_map (λ (words : ℕ × ℕ). truth_term (holds words.0 words.1)) (two_words args))

-- a call of a definition is led on from its body with types, functions and arguments put in
abbrev pub called : Program → Head → Fun → List Fun → List Term → Deed
called P (Def n) f funs args = leads_if (option_map (term_instance (record { types = f.types; funs = funs; terms = args })) (body_of P n))
called P Wle f funs args = compared nat_le args
called P Weq f funs args = compared (λ (x y : ℕ). x == y) args
called P (FnVar i) f funs args = rests

-- what is done at a term by itself
abbrev pub own_deed : Program → Term-F Term → Deed
own_deed P (Term-F.Call f funs args) = called P f.head f funs args
own_deed P (Term-F.Match on d types arms) = selected P arms (out-Term on)
own_deed P layer = rests

-- the first that is to be done at a term: to rewrite it by a fact, or what is done at it by itself
abbrev pub deed_at : Program → Option Term → Term → Deed
deed_at P None t = own_deed P (out-Term t)
deed_at P (Some r) t = takes r

-- a step to this term may be taken: a unit is left, and there is room
abbrev pub may : Room → ℕ → Term → Bool
may room units t = nat_lt 0 units && room t

-- what is done of it: nothing where the step may not be taken
abbrev pub permitted : Room → ℕ → Deed → Deed
permitted room units (takes t) = if may room units t then takes t else rests
permitted room units (leads t) = if may room units t then leads t else rests
permitted room units rests = rests
