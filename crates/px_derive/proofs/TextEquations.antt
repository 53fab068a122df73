-- The text of each type and each term, by its constructor.
use Rattle.std.proofs.Common.{◌≡◌, ℕ, List, ◌++◌, [], map, ap, sym, ◌∙◌, codes}
use Rattle.std.specs.Fmt.{decimal}
use Rattle.px_base.specs.declared.names.Names.{Names}
use Rattle.px_terms.specs.declared.types.Ty.{Ty}
use Rattle.px_terms.specs.declared.types.Ty.TheVariants as ty
use Rattle.px_terms.specs.declared.types.Ty.TheOpen.{Ty-F}
use Rattle.px_terms.specs.declared.types.Ty.TheFolds.{fold-roll-Ty}
use Rattle.px_terms.specs.declared.types.Fun.{Fun}
use Rattle.px_terms.specs.declared.term.Term.{Term}
use Rattle.px_terms.specs.declared.term.Term.TheVariants.{Free, Bound, Lit, Con, Call, Match, rolls-Free, rolls-Bound, rolls-Lit, rolls-Con, rolls-Call, rolls-Match}
use Rattle.px_terms.specs.declared.term.Term.TheOpen.{Term-F}
use Rattle.px_terms.specs.declared.term.Term.TheFolds.{fold-roll-Term}
use Rattle.px_derive.specs.Spelling.{name_at, constructors_at, commas, in_angles, in_parentheses, ty_text_step, ty_text, fun_text, term_text_step, term_text}

pub ty_text-Word : (names : Names) → ty_text names ty.Word ≡ codes "Word"
ty_text-Word names = ap (ty_text names) (sym ty.rolls-Word) ∙ fold-roll-Ty (List ℕ) (ty_text_step names) Ty-F.Word

pub ty_text-Var : (names : Names) (n : ℕ) → ty_text names (ty.Var n) ≡ codes "'" ++ decimal n
ty_text-Var names n = ap (ty_text names) (sym (ty.rolls-Var n)) ∙ fold-roll-Ty (List ℕ) (ty_text_step names) (Ty-F.Var n)

pub ty_text-Con : (names : Names) (d : ℕ) (args : List Ty) → ty_text names (ty.Con d args) ≡ name_at names.datatypes d ++ in_angles (map (ty_text names) args)
ty_text-Con names d args = ap (ty_text names) (sym (ty.rolls-Con d args)) ∙ fold-roll-Ty (List ℕ) (ty_text_step names) (Ty-F.Con d args)

pub term_text-Free : (names : Names) (n : ℕ) → term_text names (Free n) ≡ codes "$" ++ decimal n
term_text-Free names n = ap (term_text names) (sym (rolls-Free n)) ∙ fold-roll-Term (List ℕ) (term_text_step names) (Term-F.Free n)

pub term_text-Bound : (names : Names) (n : ℕ) → term_text names (Bound n) ≡ []
term_text-Bound names n = ap (term_text names) (sym (rolls-Bound n)) ∙ fold-roll-Term (List ℕ) (term_text_step names) (Term-F.Bound n)

pub term_text-Lit : (names : Names) (w : ℕ) → term_text names (Lit w) ≡ decimal w
term_text-Lit names w = ap (term_text names) (sym (rolls-Lit w)) ∙ fold-roll-Term (List ℕ) (term_text_step names) (Term-F.Lit w)

pub term_text-Con : (names : Names) (d k : ℕ) (types : List Ty) (fields : List Term) →
    term_text names (Con d k types fields) ≡ name_at (constructors_at names d) k ++ (in_angles (map (ty_text names) types) ++ in_parentheses (map (term_text names) fields))
term_text-Con names d k types fields = ap (term_text names) (sym (rolls-Con d k types fields)) ∙ fold-roll-Term (List ℕ) (term_text_step names) (Term-F.Con d k types fields)

pub term_text-Call : (names : Names) (f : Fun) (funs : List Fun) (args : List Term) →
    term_text names (Call f funs args) ≡ fun_text names f ++ (codes "(" ++ (commas (map (fun_text names) funs ++ map (term_text names) args) ++ codes ")"))
term_text-Call names f funs args = ap (term_text names) (sym (rolls-Call f funs args)) ∙ fold-roll-Term (List ℕ) (term_text_step names) (Term-F.Call f funs args)

pub term_text-Match : (names : Names) (on : Term) (d : ℕ) (types : List Ty) (arms : List Term) → term_text names (Match on d types arms) ≡ []
term_text-Match names on d types arms = ap (term_text names) (sym (rolls-Match on d types arms)) ∙ fold-roll-Term (List ℕ) (term_text_step names) (Term-F.Match on d types arms)
