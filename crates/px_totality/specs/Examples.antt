-- Small programs, and clauses that hold in one and fail in an extension, or hold of nothing.
use Rattle.std.specs.Prelude.{List, [], ◌∷◌}
use Rattle.px_terms.specs.Head.TheVariants as head
use Rattle.px_terms.specs.Prop.{Prop}
use Rattle.px_terms.specs.PropSets.{set_of}
use Rattle.px_terms.specs.Names.{Names}
use Rattle.px_terms.specs.declared.types.Ty.{Ty}
use Rattle.px_terms.specs.declared.types.Ty.TheVariants as type
use Rattle.px_terms.specs.declared.types.FnType.{FnType}
use Rattle.px_terms.specs.declared.types.Fun.{Fun}
use Rattle.px_terms.specs.declared.term.Term.{Term}
use Rattle.px_terms.specs.declared.term.Term.TheVariants as term
use Rattle.px_terms.specs.declared.clause.Clause.{Clause}
use Rattle.px_terms.specs.declared.program.DataDef.{DataDef}
use Rattle.px_terms.specs.declared.program.Def.{Def}
use Rattle.px_terms.specs.declared.program.Program.{Program}
use Rattle.px_terms.specs.Programs.{bool_type, false_term, true_term, bool_data}
use Rattle.px_terms.specs.Clauses.{equals}

-- the first function variable
abbrev pub first_function : Fun
first_function = record { head = head.FnVar 0; types = [] }

-- (Bool, Bool) -> Bool, with these properties assumed
abbrev pub two_truths : List Prop → FnType
two_truths props = record { params = bool_type ∷ bool_type ∷ []; result = bool_type; props = set_of props }

-- f(a, a)
abbrev pub same_body : Term
same_body = term.Call first_function [] (term.Free 0 ∷ term.Free 0 ∷ [])

-- def same(f: (Bool, Bool) -> Bool, a: Bool): Bool { f(a, a) }, with these properties assumed of f
abbrev pub same_function : List Prop → Def
same_function props = record { tparams = 0; funs = two_truths props ∷ []; params = bool_type ∷ []; result = bool_type; body = same_body; seen = 0 }

-- def never(a: Bool, b: Bool): Bool { False }
abbrev pub never_function : Def
never_function = record { tparams = 0; funs = []; params = bool_type ∷ bool_type ∷ []; result = bool_type; body = false_term; seen = 0 }

-- the program of these datatypes and definitions, without obligations
abbrev pub program_of : List DataDef → List Def → Program
program_of datatypes defs =
    let names : Names = record { datatypes = []; cons = []; defs = []; lemmas = []; replicas = [] } in
    record { datatypes = datatypes; defs = defs; lemmas = []; declared = []; replicas = []; names = names }

-- the program of `same` alone
abbrev pub same_program : List Prop → Program
same_program props = program_of (bool_data ∷ []) (same_function props ∷ [])

-- the program of `same` and, behind it, `never`
abbrev pub longer_program : Program
longer_program = program_of (bool_data ∷ []) (same_function [] ∷ never_function ∷ [])

-- same(f, a) = a, for each f with these properties
abbrev pub same_clause : List Prop → Clause
same_clause props =
    let called : Fun = record { head = head.Def 0; types = [] } in
    let says : Term = term.Call called (first_function ∷ []) (term.Free 0 ∷ []) in
    record { tparams = 0; funs = two_truths props ∷ []; vars = bool_type ∷ []; premises = []; alternatives = equals says (term.Free 0) ∷ [] }

-- the type of the second datatype
abbrev pub empty_type : Ty
empty_type = type.Con 1 []

-- data Empty { More(Empty) }
abbrev pub empty_data : DataDef
empty_data = record { tparams = 0; cons = record { fields = empty_type ∷ [] } ∷ [] }

-- the program of `Empty`, without definitions
abbrev pub empty_program : Program
empty_program = program_of (bool_data ∷ empty_data ∷ []) []

-- False = True, for each value of these types
abbrev pub false_clause : List Ty → Clause
false_clause vars = record { tparams = 0; funs = []; vars = vars; premises = []; alternatives = equals false_term true_term ∷ [] }
