use Rattle.px_terms.proofs.places.copy_with.Goals as goal
use Rattle.px_terms.proofs.Replacing.{replaced_item}

pub returns : goal.returns
returns c =
    let split = replaced_item c.args.terms.now c.args.number c.args.new c.requires in
    let first = c.in_ok-copies.ensures in
    let before = c.in_ok-push.ensures.ok in
    let all = c.in_ok-push_copies.ensures in
    cc
