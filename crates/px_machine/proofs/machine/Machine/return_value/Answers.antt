use Rattle.std.proofs.Common.{rules, refl, ◌≡◌, length}
use Rattle.px_machine.specs.Running.{parts_of}
use Rattle.px_machine.proofs.FrameLemmas.{return_finishes, return_in_code, return_takes, no_caller, nearest_caller}
use Rattle.px_machine.proofs.machine.Machine.return_value.Goals as goal

pub take_last-number-requires : goal.take_last-number-requires
take_last-number-requires c = return_takes (parts_of c.args.self.now) c.requires.can

pub returns-in_default : goal.returns-in_default
returns-in_default c =
    let none : length c.args.self.now.callers.items ≡ 0 = search rules in
    return_finishes (parts_of c.args.self.now) c.take_last-number.new.numbers.items c.take_last-number.result c.requires.can c.take_last-number.ensures (no_caller c.args.self.now.callers.items none) _ refl refl

pub returns : goal.returns
returns c =
    return_in_code (parts_of c.args.self.now) c.take_last-number.new.numbers.items _ c.truncate-2.new.self.items _ c.take_last-number.result c.in-Some.caller _ c.requires.can c.take_last-number.ensures
    (nearest_caller c.args.self.now.callers.items c.pop.new.self.items c.in-Some.caller c.in-Some.ensures.items) c.truncate.ensures.items c.truncate-2.ensures.items c.in_ok-push.ensures.items
