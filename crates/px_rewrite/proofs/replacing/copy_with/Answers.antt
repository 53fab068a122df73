use Rattle.std.proofs.Common.{◌++◌, ◌∙◌, List, ap, take}
use Rattle.px_terms.specs.declared.term.Term.{Term}
use Rattle.px_terms.proofs.Replacing.{replaced_item}
use Rattle.px_rewrite.proofs.replacing.copy_with.Goals as goal

pub returns : goal.returns
returns c =
    let split = replaced_item c.args.terms.now c.args.number c.args.new c.requires in
    let none = c.from_vec-copies.ensures ∙ c.in_ok-with_capacity.ensures.items in
    let first = c.in_ok-push_copies.ensures ∙ ap (λ (xs : List Term). xs ++ take c.args.number c.args.terms.now) none in
    let before = c.in_ok-push.ensures.ok in
    let all = c.in_ok-push_copies-2.ensures in
    cc
