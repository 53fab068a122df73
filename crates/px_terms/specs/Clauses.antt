-- The clause of a property: what it says of a function.
use Rattle.std.specs.Prelude.{◌≡◌, ℕ, ◌+◌, List, [], ◌∷◌, ◌++◌, length, map, replicate, Some, slice_get}
use Rattle.px_base.specs.declared.prop.Prop.{Prop}
use Rattle.px_base.specs.declared.prop.Prop.TheVariants.{Comm, Assoc, Idem, Sel, Refl, Irrefl, Sym, Antisym, Asym, Trans, Conn}
use Rattle.px_base.specs.declared.head.Head.{Head}
use Rattle.px_base.specs.declared.head.Head.TheVariants.{Def, Wle, Weq, FnVar}
use Rattle.px_terms.specs.declared.types.Ty.{Ty}
use Rattle.px_terms.specs.declared.types.FnType.{FnType}
use Rattle.px_terms.specs.declared.types.Fun.{Fun}
use Rattle.px_terms.specs.declared.term.Term.{Term}
use Rattle.px_terms.specs.declared.term.Term.TheVariants as term
use Rattle.px_terms.specs.declared.clause.Equation.{Equation}
use Rattle.px_terms.specs.declared.clause.Clause.{Clause}
use Rattle.px_terms.specs.declared.program.Def as definition
use Rattle.px_terms.specs.declared.program.Program.{Program}
use Rattle.px_terms.specs.declared.sequent.Context.{Context}
use Rattle.px_terms.specs.Types.{numbers_from, own_types, own_functions}
use Rattle.px_terms.specs.Programs.{bool_type, false_term, true_term}
use Rattle.px_terms.specs.Typing.{IsFunction}

-- What a property speaks of: a function with the functions that it is given, the types of its leading parameters, the one type of
-- its last two, and its result's type.
pub record Subject : Type 0 where
  pub function : Fun
  pub given : List Fun
  pub leading : List Ty
  pub last : Ty
  pub result : Ty

-- What a property says: how many of x, y and z it names, the premises, and the alternatives.
pub record Saying : Type 0 where
  pub named : ℕ
  pub premises : List Equation
  pub alternatives : List Equation

-- the sides are to have one value
abbrev pub equals : Term → Term → Equation
equals left right = record { left = left; right = right }

-- f(l, a, b), where l are the leading data variables
abbrev pub applied : Subject → Term → Term → Term
applied s a b = term.Call s.function s.given (map (λ (i : ℕ). term.Free i) (numbers_from 0 (length s.leading)) ++ a ∷ b ∷ [])

-- the variable x, which comes after the leading ones
abbrev pub x_of : Subject → Term
x_of s = term.Free (length s.leading)

-- the variable y, which comes after x
abbrev pub y_of : Subject → Term
y_of s = term.Free (length s.leading + 1)

-- the variable z, which comes after y
abbrev pub z_of : Subject → Term
z_of s = term.Free (length s.leading + 2)

-- the table of the properties
abbrev pub says : Subject → Prop → Saying
says s Comm = record { named = 2; premises = []; alternatives = equals (applied s (x_of s) (y_of s)) (applied s (y_of s) (x_of s)) ∷ [] }
says s Assoc = record { named = 3; premises = []; alternatives = equals (applied s (applied s (x_of s) (y_of s)) (z_of s)) (applied s (x_of s) (applied s (y_of s) (z_of s))) ∷ [] }
says s Idem = record { named = 1; premises = []; alternatives = equals (applied s (x_of s) (x_of s)) (x_of s) ∷ [] }
says s Sel = record { named = 2; premises = []; alternatives = equals (applied s (x_of s) (y_of s)) (x_of s) ∷ equals (applied s (x_of s) (y_of s)) (y_of s) ∷ [] }
says s Refl = record { named = 1; premises = []; alternatives = equals (applied s (x_of s) (x_of s)) true_term ∷ [] }
says s Irrefl = record { named = 1; premises = []; alternatives = equals (applied s (x_of s) (x_of s)) false_term ∷ [] }
says s Sym = record { named = 2; premises = equals (applied s (x_of s) (y_of s)) true_term ∷ []; alternatives = equals (applied s (y_of s) (x_of s)) true_term ∷ [] }
says s Antisym = record { named = 2; premises = equals (applied s (x_of s) (y_of s)) true_term ∷ equals (applied s (y_of s) (x_of s)) true_term ∷ []; alternatives = equals (x_of s) (y_of s) ∷ [] }
says s Asym = record { named = 2; premises = equals (applied s (x_of s) (y_of s)) true_term ∷ []; alternatives = equals (applied s (y_of s) (x_of s)) false_term ∷ [] }
says s Trans = record { named = 3; premises = equals (applied s (x_of s) (y_of s)) true_term ∷ equals (applied s (y_of s) (z_of s)) true_term ∷ []; alternatives = equals (applied s (x_of s) (z_of s)) true_term ∷ [] }
says s Conn = record { named = 2; premises = equals (applied s (x_of s) (y_of s)) false_term ∷ []; alternatives = equals (applied s (y_of s) (x_of s)) true_term ∷ [] }

-- the result that the property asks: any, the type of the last two parameters, or `Bool`
abbrev pub HasResult : Subject → Prop → Type 0
HasResult s Comm = Unit {0}
HasResult s Assoc = s.result ≡ s.last
HasResult s Idem = s.result ≡ s.last
HasResult s Sel = s.result ≡ s.last
HasResult s Refl = s.result ≡ bool_type
HasResult s Irrefl = s.result ≡ bool_type
HasResult s Sym = s.result ≡ bool_type
HasResult s Antisym = s.result ≡ bool_type
HasResult s Asym = s.result ≡ bool_type
HasResult s Trans = s.result ≡ bool_type
HasResult s Conn = s.result ≡ bool_type

-- what the property says of the subject, over so many type variables and over these function variables
abbrev pub clause_for : Subject → Prop → ℕ → List FnType → Clause
clause_for s p tparams funs = let said = says s p in record { tparams = tparams; funs = funs; vars = s.leading ++ replicate said.named s.last; premises = said.premises; alternatives = said.alternatives }

-- The function, given these functions, is this subject: it takes as many functions as it is given, and its last two parameters
-- have one type.
pub record IsSubject (P : Program) (context : Context) (f : Fun) (given : List Fun) (s : Subject) : Type 0 where
  pub takes : List FnType
  pub params : List Ty
  pub function : IsFunction P context f takes params s.result
  pub taken : length given ≡ length takes
  pub shape : params ≡ s.leading ++ s.last ∷ s.last ∷ []
  pub is_function : s.function ≡ f
  pub is_given : s.given ≡ given

-- nothing but these function variables, over so many type variables
abbrev pub functions_alone : ℕ → List FnType → Context
functions_alone tparams funs = record { tparams = tparams; funs = funs; vars = [] }

-- The clause of a property of a function: of a definition over its own type and function variables, of a built-in or a function
-- variable over none, where `funs` are the types of the function variables in scope.
pub data IsClauseOf (P : Program) (funs : List FnType) : Head → Prop → Clause → Type 0 where
  of_definition : {n : ℕ} {p : Prop} {clause : Clause} {D : definition.Def} → slice_get P.defs n ≡ Some D → (s : Subject) → IsSubject P (functions_alone D.tparams D.funs) (record { head = Def n; types = own_types D.tparams }) (own_functions (length D.funs)) s → HasResult s p → clause ≡ clause_for s p D.tparams D.funs → IsClauseOf P funs (Def n) p clause
  of_at_most : {p : Prop} {clause : Clause} → (s : Subject) → IsSubject P (functions_alone 0 funs) (record { head = Wle; types = [] }) [] s → HasResult s p → clause ≡ clause_for s p 0 [] → IsClauseOf P funs Wle p clause
  of_equal : {p : Prop} {clause : Clause} → (s : Subject) → IsSubject P (functions_alone 0 funs) (record { head = Weq; types = [] }) [] s → HasResult s p → clause ≡ clause_for s p 0 [] → IsClauseOf P funs Weq p clause
  of_variable : {i : ℕ} {p : Prop} {clause : Clause} → (s : Subject) → IsSubject P (functions_alone 0 funs) (record { head = FnVar i; types = [] }) [] s → HasResult s p → clause ≡ clause_for s p 0 [] → IsClauseOf P funs (FnVar i) p clause
