use Rattle.std.proofs.Common.{Err, refl, sym, subst, ⊎_elim}
use Rattle.px_terms.specs.Head.{Head}
use Rattle.px_terms.specs.Head.TheVariants.{Def, FnVar}
use Rattle.px_props.specs.declared.clauses.ClauseEnd.TheVariants.{Shape}
use Rattle.px_props.specs.Signatures.{IsCounted}
use Rattle.px_props.proofs.Answering.{Answer, IsCompared, found_answer, no_answer, compared_answer, numbered_definition, numbered_variable}
use Rattle.px_props.proofs.clauses.clause_of.Goals as goal

pub clause-requires : goal.clause-requires
clause-requires c =
    numbered_definition c.args.program.now c.args.funs.now c.in-Def.number c.in-Some.function (subst (IsCounted c.args.program.now c.args.funs.now) c.in-Def.is c.requires) c.in-Some.ensures

pub clause-requires-in-Some-variable : goal.clause-requires-in-Some-variable
clause-requires-in-Some-variable c =
    numbered_variable c.args.program.now c.args.funs.now c.in-FnVar.number c.in-Some-variable.function (subst (IsCounted c.args.program.now c.args.funs.now) c.in-FnVar.is c.requires) c.in-Some-variable.ensures

pub returns-in-Some : goal.returns-in-Some
returns-in-Some c =
    let there = found_answer c.args.program.now c.args.funs.now (Def c.in-Def.number) c.args.prop c.in-Some.function c.in-Some.ensures c.clause.result c.clause.ensures in
    let here = subst (λ (h : Head). Answer c.args.program.now c.args.funs.now h c.args.prop c.clause.result) (sym c.in-Def.is) there in
    record { ok = here.ok; shape = here.shape; only = here.only }

pub returns-in-None : goal.returns-in-None
returns-in-None c =
    let there = no_answer c.args.program.now c.args.funs.now (Def c.in-Def.number) c.args.prop c.in-None.ensures in
    let here = subst (λ (h : Head). Answer c.args.program.now c.args.funs.now h c.args.prop (Err Shape)) (sym c.in-Def.is) there in
    record { ok = here.ok; shape = here.shape; only = here.only }

pub returns-in-Wle : goal.returns-in-Wle
returns-in-Wle c =
    let stands = ⊎_elim (λ (is : _). subst (IsCompared c.args.program.now c.args.funs.now) (sym is) refl) (λ (is : _). subst (IsCompared c.args.program.now c.args.funs.now) (sym is) refl) c.in-Wle.is in
    let here = compared_answer c.args.program.now c.args.funs.now c.args.head c.args.prop stands c.comparison_clause.result c.comparison_clause.ensures in
    record { ok = here.ok; shape = here.shape; only = here.only }

pub returns-in-Some-variable : goal.returns-in-Some-variable
returns-in-Some-variable c =
    let there = found_answer c.args.program.now c.args.funs.now (FnVar c.in-FnVar.number) c.args.prop c.in-Some-variable.function c.in-Some-variable.ensures c.clause-in-Some-variable.result c.clause-in-Some-variable.ensures in
    let here = subst (λ (h : Head). Answer c.args.program.now c.args.funs.now h c.args.prop c.clause-in-Some-variable.result) (sym c.in-FnVar.is) there in
    record { ok = here.ok; shape = here.shape; only = here.only }

pub returns-in-None-variable : goal.returns-in-None-variable
returns-in-None-variable c =
    let there = no_answer c.args.program.now c.args.funs.now (FnVar c.in-FnVar.number) c.args.prop c.in-None-variable.ensures in
    let here = subst (λ (h : Head). Answer c.args.program.now c.args.funs.now h c.args.prop (Err Shape)) (sym c.in-FnVar.is) there in
    record { ok = here.ok; shape = here.shape; only = here.only }
