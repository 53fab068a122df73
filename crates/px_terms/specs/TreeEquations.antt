-- How each measure and each instance computes at each constructor of a type and of a term.
use Rattle.std.specs.Prelude.{◌≡◌, ℕ, ◌+◌, max, ◌==◌, List, map, sum, unwrap_or, slice_get, if◌then◌else◌}
use Rattle.std.proofs.Common.{sym, ◌∙◌, ap}
use Rattle.px_terms.specs.declared.types.Ty.{Ty}
use Rattle.px_terms.specs.declared.types.Ty.TheVariants as ty
use Rattle.px_terms.specs.declared.types.Ty.TheOpen.{Ty-F}
use Rattle.px_terms.specs.declared.types.Ty.TheFolds.{fold-roll-Ty}
use Rattle.px_terms.specs.declared.types.Fun.{Fun}
use Rattle.px_terms.specs.declared.term.Term.{Term}
use Rattle.px_terms.specs.declared.term.Term.TheVariants.{Free, Bound, Lit, Con, Call, Match, rolls-Free, rolls-Bound, rolls-Lit, rolls-Con, rolls-Call, rolls-Match}
use Rattle.px_terms.specs.declared.term.Term.TheOpen.{Term-F}
use Rattle.px_terms.specs.declared.term.Term.TheFolds.{fold-roll-Term}
use Rattle.px_terms.specs.declared.clause.Sigma.{Sigma}
use Rattle.px_base.specs.Largest.{largest}
use Rattle.px_terms.specs.Types.{ty_size_step, ty_size, tys_size, ty_depth_step, ty_depth, tys_depth, ty_instance_step, ty_instance, tys_instance, fun_size, fun_depth, fun_instance}
use Rattle.px_terms.specs.Terms.{term_size_step, term_size, terms_size, term_depth_step, term_depth, terms_depth, instance_step, term_instance, put_step, term_put}

pub ty_size-Word : ty_size ty.Word ≡ 1
ty_size-Word =
    ap ty_size (sym ty.rolls-Word) ∙ fold-roll-Ty ℕ ty_size_step Ty-F.Word

pub ty_size-Var : (n : ℕ) → ty_size (ty.Var n) ≡ 1
ty_size-Var n =
    ap ty_size (sym (ty.rolls-Var n)) ∙ fold-roll-Ty ℕ ty_size_step (Ty-F.Var n)

pub ty_size-Con : (d : ℕ) (args : List Ty) → ty_size (ty.Con d args) ≡ 1 + tys_size args
ty_size-Con d args =
    ap ty_size (sym (ty.rolls-Con d args)) ∙ fold-roll-Ty ℕ ty_size_step (Ty-F.Con d args)

pub ty_depth-Word : ty_depth ty.Word ≡ 1
ty_depth-Word =
    ap ty_depth (sym ty.rolls-Word) ∙ fold-roll-Ty ℕ ty_depth_step Ty-F.Word

pub ty_depth-Var : (n : ℕ) → ty_depth (ty.Var n) ≡ 1
ty_depth-Var n =
    ap ty_depth (sym (ty.rolls-Var n)) ∙ fold-roll-Ty ℕ ty_depth_step (Ty-F.Var n)

pub ty_depth-Con : (d : ℕ) (args : List Ty) → ty_depth (ty.Con d args) ≡ 1 + tys_depth args
ty_depth-Con d args =
    ap ty_depth (sym (ty.rolls-Con d args)) ∙ fold-roll-Ty ℕ ty_depth_step (Ty-F.Con d args)

pub ty_instance-Word : (types : List Ty) → ty_instance types ty.Word ≡ ty.Word
ty_instance-Word types =
    ap (ty_instance types) (sym ty.rolls-Word) ∙ fold-roll-Ty Ty (ty_instance_step types) Ty-F.Word

pub ty_instance-Var : (types : List Ty) (n : ℕ) → ty_instance types (ty.Var n) ≡ unwrap_or (slice_get types n) (ty.Var n)
ty_instance-Var types n =
    ap (ty_instance types) (sym (ty.rolls-Var n)) ∙ fold-roll-Ty Ty (ty_instance_step types) (Ty-F.Var n)

pub ty_instance-Con : (types : List Ty) (d : ℕ) (args : List Ty) → ty_instance types (ty.Con d args) ≡ ty.Con d (tys_instance types args)
ty_instance-Con types d args =
    ap (ty_instance types) (sym (ty.rolls-Con d args)) ∙ fold-roll-Ty Ty (ty_instance_step types) (Ty-F.Con d args)

pub term_size-Free : (n : ℕ) →
    term_size (Free n) ≡ 1
term_size-Free n =
    ap term_size (sym (rolls-Free n)) ∙ fold-roll-Term ℕ term_size_step (Term-F.Free n)

pub term_size-Bound : (n : ℕ) →
    term_size (Bound n) ≡ 1
term_size-Bound n =
    ap term_size (sym (rolls-Bound n)) ∙ fold-roll-Term ℕ term_size_step (Term-F.Bound n)

pub term_size-Lit : (w : ℕ) →
    term_size (Lit w) ≡ 1
term_size-Lit w =
    ap term_size (sym (rolls-Lit w)) ∙ fold-roll-Term ℕ term_size_step (Term-F.Lit w)

pub term_size-Con : (d k : ℕ) (types : List Ty) (fields : List Term) →
    term_size (Con d k types fields) ≡ 1 + (tys_size types + terms_size fields)
term_size-Con d k types fields =
    ap term_size (sym (rolls-Con d k types fields)) ∙ fold-roll-Term ℕ term_size_step (Term-F.Con d k types fields)

pub term_size-Call : (f : Fun) (funs : List Fun) (args : List Term) →
    term_size (Call f funs args) ≡ 1 + (tys_size f.types + (sum (map fun_size funs) + terms_size args))
term_size-Call f funs args =
    ap term_size (sym (rolls-Call f funs args)) ∙ fold-roll-Term ℕ term_size_step (Term-F.Call f funs args)

pub term_size-Match : (on : Term) (d : ℕ) (types : List Ty) (arms : List Term) →
    term_size (Match on d types arms) ≡ 1 + (term_size on + (tys_size types + terms_size arms))
term_size-Match on d types arms =
    ap term_size (sym (rolls-Match on d types arms)) ∙ fold-roll-Term ℕ term_size_step (Term-F.Match on d types arms)

pub term_depth-Free : (n : ℕ) →
    term_depth (Free n) ≡ 1
term_depth-Free n =
    ap term_depth (sym (rolls-Free n)) ∙ fold-roll-Term ℕ term_depth_step (Term-F.Free n)

pub term_depth-Bound : (n : ℕ) →
    term_depth (Bound n) ≡ 1
term_depth-Bound n =
    ap term_depth (sym (rolls-Bound n)) ∙ fold-roll-Term ℕ term_depth_step (Term-F.Bound n)

pub term_depth-Lit : (w : ℕ) →
    term_depth (Lit w) ≡ 1
term_depth-Lit w =
    ap term_depth (sym (rolls-Lit w)) ∙ fold-roll-Term ℕ term_depth_step (Term-F.Lit w)

pub term_depth-Con : (d k : ℕ) (types : List Ty) (fields : List Term) →
    term_depth (Con d k types fields) ≡ 1 + max (tys_depth types) (terms_depth fields)
term_depth-Con d k types fields =
    ap term_depth (sym (rolls-Con d k types fields)) ∙ fold-roll-Term ℕ term_depth_step (Term-F.Con d k types fields)

pub term_depth-Call : (f : Fun) (funs : List Fun) (args : List Term) →
    term_depth (Call f funs args) ≡ 1 + max (tys_depth f.types) (max (largest (map fun_depth funs)) (terms_depth args))
term_depth-Call f funs args =
    ap term_depth (sym (rolls-Call f funs args)) ∙ fold-roll-Term ℕ term_depth_step (Term-F.Call f funs args)

pub term_depth-Match : (on : Term) (d : ℕ) (types : List Ty) (arms : List Term) →
    term_depth (Match on d types arms) ≡ 1 + max (term_depth on) (max (tys_depth types) (terms_depth arms))
term_depth-Match on d types arms =
    ap term_depth (sym (rolls-Match on d types arms)) ∙ fold-roll-Term ℕ term_depth_step (Term-F.Match on d types arms)

pub term_instance-Free : (sigma : Sigma) (n : ℕ) →
    term_instance sigma (Free n) ≡ unwrap_or (slice_get sigma.terms n) (Free n)
term_instance-Free sigma n =
    ap (term_instance sigma) (sym (rolls-Free n)) ∙ fold-roll-Term Term (instance_step sigma) (Term-F.Free n)

pub term_instance-Bound : (sigma : Sigma) (n : ℕ) →
    term_instance sigma (Bound n) ≡ Bound n
term_instance-Bound sigma n =
    ap (term_instance sigma) (sym (rolls-Bound n)) ∙ fold-roll-Term Term (instance_step sigma) (Term-F.Bound n)

pub term_instance-Lit : (sigma : Sigma) (w : ℕ) →
    term_instance sigma (Lit w) ≡ Lit w
term_instance-Lit sigma w =
    ap (term_instance sigma) (sym (rolls-Lit w)) ∙ fold-roll-Term Term (instance_step sigma) (Term-F.Lit w)

pub term_instance-Con : (sigma : Sigma) (d k : ℕ) (types : List Ty) (fields : List Term) →
    term_instance sigma (Con d k types fields) ≡ Con d k (tys_instance sigma.types types) (map (term_instance sigma) fields)
term_instance-Con sigma d k types fields =
    ap (term_instance sigma) (sym (rolls-Con d k types fields)) ∙ fold-roll-Term Term (instance_step sigma) (Term-F.Con d k types fields)

pub term_instance-Call : (sigma : Sigma) (f : Fun) (funs : List Fun) (args : List Term) →
    term_instance sigma (Call f funs args) ≡ Call (fun_instance sigma.types sigma.funs f) (map (fun_instance sigma.types sigma.funs) funs) (map (term_instance sigma) args)
term_instance-Call sigma f funs args =
    ap (term_instance sigma) (sym (rolls-Call f funs args)) ∙ fold-roll-Term Term (instance_step sigma) (Term-F.Call f funs args)

pub term_instance-Match : (sigma : Sigma) (on : Term) (d : ℕ) (types : List Ty) (arms : List Term) →
    term_instance sigma (Match on d types arms) ≡ Match (term_instance sigma on) d (tys_instance sigma.types types) (map (term_instance sigma) arms)
term_instance-Match sigma on d types arms =
    ap (term_instance sigma) (sym (rolls-Match on d types arms)) ∙ fold-roll-Term Term (instance_step sigma) (Term-F.Match on d types arms)

pub term_put-Free : (variable : ℕ) (by : Term) (n : ℕ) →
    term_put variable by (Free n) ≡ if n == variable then by else Free n
term_put-Free variable by n =
    ap (term_put variable by) (sym (rolls-Free n)) ∙ fold-roll-Term Term (put_step variable by) (Term-F.Free n)

pub term_put-Bound : (variable : ℕ) (by : Term) (n : ℕ) →
    term_put variable by (Bound n) ≡ Bound n
term_put-Bound variable by n =
    ap (term_put variable by) (sym (rolls-Bound n)) ∙ fold-roll-Term Term (put_step variable by) (Term-F.Bound n)

pub term_put-Lit : (variable : ℕ) (by : Term) (w : ℕ) →
    term_put variable by (Lit w) ≡ Lit w
term_put-Lit variable by w =
    ap (term_put variable by) (sym (rolls-Lit w)) ∙ fold-roll-Term Term (put_step variable by) (Term-F.Lit w)

pub term_put-Con : (variable : ℕ) (by : Term) (d k : ℕ) (types : List Ty) (fields : List Term) →
    term_put variable by (Con d k types fields) ≡ Con d k types (map (term_put variable by) fields)
term_put-Con variable by d k types fields =
    ap (term_put variable by) (sym (rolls-Con d k types fields)) ∙ fold-roll-Term Term (put_step variable by) (Term-F.Con d k types fields)

pub term_put-Call : (variable : ℕ) (by : Term) (f : Fun) (funs : List Fun) (args : List Term) →
    term_put variable by (Call f funs args) ≡ Call f funs (map (term_put variable by) args)
term_put-Call variable by f funs args =
    ap (term_put variable by) (sym (rolls-Call f funs args)) ∙ fold-roll-Term Term (put_step variable by) (Term-F.Call f funs args)

pub term_put-Match : (variable : ℕ) (by : Term) (on : Term) (d : ℕ) (types : List Ty) (arms : List Term) →
    term_put variable by (Match on d types arms) ≡ Match (term_put variable by on) d types (map (term_put variable by) arms)
term_put-Match variable by on d types arms =
    ap (term_put variable by) (sym (rolls-Match on d types arms)) ∙ fold-roll-Term Term (put_step variable by) (Term-F.Match on d types arms)
