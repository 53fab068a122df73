use Rattle.std.proofs.Common.{◌≡◌, ◌-◌, ℕ, List, sym, ap, ◌∙◌, length}
use Rattle.std.proofs.Common.{rules}
use Rattle.px_machine.specs.declared.code.CallTarget.{CallTarget}
use Rattle.px_machine.specs.Machine.{meant_target, meant_targets}
use Rattle.px_machine.specs.Running.{parts_of}
use Rattle.px_machine.proofs.RunLemmas.{on_ok}
use Rattle.px_machine.proofs.CallLemmas.{calls_can, called_can, called_does}
use Rattle.px_machine.proofs.machine.Machine.call_meant.Goals as goal

pub meant-called-requires : goal.meant-called-requires
meant-called-requires c =
    let calls = calls_can (parts_of c.args.self.now) c.args.target c.args.funs.now c.args.count c.requires.can in
    (calls.f, ap (λ (fs : List CallTarget). meant_target fs c.args.target) c.as_slice.ensures ∙ calls.meant)

pub all_meant-requires : goal.all_meant-requires
all_meant-requires c =
    let calls = calls_can (parts_of c.args.self.now) c.args.target c.args.funs.now c.args.count c.requires.can in
    (calls.fs, ap (λ (fs : List CallTarget). meant_targets fs c.args.funs.now) c.as_slice-2.ensures ∙ calls.all_meant)

pub call-requires-clause-can : goal.call-requires-clause-can
call-requires-clause-can c =
    let long : c.len.result ≡ length c.args.self.now.stack.items = search rules in
    (called_can (parts_of c.args.self.now) c.args.target c.meant-called.result c.args.funs.now c.in_ok-passed.passed c.args.count (c.len.result - c.args.count) c.requires.can
    (sym (ap (λ (fs : List CallTarget). meant_target fs c.args.target) c.as_slice.ensures) ∙ c.meant-called.ensures)
    (sym (ap (λ (fs : List CallTarget). meant_targets fs c.args.funs.now) c.as_slice-2.ensures) ∙ c.in_ok-passed.ensures)
    (ap (λ (n : ℕ). n - c.args.count) long)).0

pub returns-clause-called : goal.returns-clause-called
returns-clause-called c =
    let long : c.len.result ≡ length c.args.self.now.stack.items = search rules in
    on_ok c.call.result
    (called_does (parts_of c.args.self.now) (parts_of c.call.new.self) c.args.target c.meant-called.result c.args.funs.now c.in_ok-passed.passed c.args.count (c.len.result - c.args.count) c.requires.can
    (sym (ap (λ (fs : List CallTarget). meant_target fs c.args.target) c.as_slice.ensures) ∙ c.meant-called.ensures)
    (sym (ap (λ (fs : List CallTarget). meant_targets fs c.args.funs.now) c.as_slice-2.ensures) ∙ c.in_ok-passed.ensures)
    (ap (λ (n : ℕ). n - c.args.count) long))
    c.call.ensures.called
