use Rattle.std.proofs.Common.{length, Ok, Err}
use Rattle.px_parser.specs.Gives.{words}
use Rattle.px_parser.specs.declared.parse_end.ParseEnd.TheVariants.{Fault}
use Rattle.px_parser.specs.Faults.{IsProgramOf, IsFaultOf}
use Rattle.px_parser.proofs.TokensReadable.{readable_tokens}
use Rattle.px_parser.proofs.Parses.{left_of_tokens, tree_read, tree_fits, tree_nests, tree_filled, tree_named, fault_is, each_tree_of, each_fault_of}
use Rattle.px_parser.proofs.program.parse.Goals as goal

pub invariant_of-rest : goal.invariant_of-rest
invariant_of-rest c = record { are_readable = readable_tokens c.args.text.now (length c.args.text.now) 0 c.args.tokens.now c.requires.tokens }

pub overflow_sub-tokens : goal.overflow_sub-tokens
overflow_sub-tokens c = left_of_tokens c.args.text.now c.args.tokens.now c.in-Err-Fault.left (rw c.in-Err-Fault.field-0-is at c.in-Err-Fault.ensures.reads)

pub returns-in-Ok-clause-ok : goal.returns-in-Ok-clause-ok
returns-in-Ok-clause-ok c = tree_read c.args.text.now c.args.tokens.now (words c.in-Ok.field-0-1) c.in-Ok.items c.in-Ok.ensures.reads c.in-Ok.ensures.all

pub returns-in-Ok-clause-fits : goal.returns-in-Ok-clause-fits
returns-in-Ok-clause-fits c =
    let tree : IsProgramOf c.args.text.now c.args.tokens.now (record { items = c.in-Ok.items }) = tree_read c.args.text.now c.args.tokens.now (words c.in-Ok.field-0-1) c.in-Ok.items c.in-Ok.ensures.reads c.in-Ok.ensures.all in
    tree_fits c.args.text.now c.args.tokens.now (record { items = c.in-Ok.items }) c.requires.tokens tree

pub returns-in-Ok-clause-nests : goal.returns-in-Ok-clause-nests
returns-in-Ok-clause-nests c =
    let tree : IsProgramOf c.args.text.now c.args.tokens.now (record { items = c.in-Ok.items }) = tree_read c.args.text.now c.args.tokens.now (words c.in-Ok.field-0-1) c.in-Ok.items c.in-Ok.ensures.reads c.in-Ok.ensures.all in
    tree_nests c.args.text.now c.args.tokens.now (record { items = c.in-Ok.items }) tree

pub returns-in-Ok-clause-filled : goal.returns-in-Ok-clause-filled
returns-in-Ok-clause-filled c =
    let tree : IsProgramOf c.args.text.now c.args.tokens.now (record { items = c.in-Ok.items }) = tree_read c.args.text.now c.args.tokens.now (words c.in-Ok.field-0-1) c.in-Ok.items c.in-Ok.ensures.reads c.in-Ok.ensures.all in
    tree_filled c.args.text.now c.args.tokens.now (record { items = c.in-Ok.items }) tree

pub returns-in-Ok-clause-named : goal.returns-in-Ok-clause-named
returns-in-Ok-clause-named c =
    let tree : IsProgramOf c.args.text.now c.args.tokens.now (record { items = c.in-Ok.items }) = tree_read c.args.text.now c.args.tokens.now (words c.in-Ok.field-0-1) c.in-Ok.items c.in-Ok.ensures.reads c.in-Ok.ensures.all in
    tree_named c.args.text.now c.args.tokens.now (record { items = c.in-Ok.items }) c.requires.tokens tree

pub returns-in-Ok-clause-each_tree : goal.returns-in-Ok-clause-each_tree
returns-in-Ok-clause-each_tree c =
    let tree : IsProgramOf c.args.text.now c.args.tokens.now (record { items = c.in-Ok.items }) = tree_read c.args.text.now c.args.tokens.now (words c.in-Ok.field-0-1) c.in-Ok.items c.in-Ok.ensures.reads c.in-Ok.ensures.all in
    each_tree_of c.args.text.now c.args.tokens.now (Ok (record { items = c.in-Ok.items })) tree tt

pub returns-in-Ok-clause-each_fault : goal.returns-in-Ok-clause-each_fault
returns-in-Ok-clause-each_fault c =
    let tree : IsProgramOf c.args.text.now c.args.tokens.now (record { items = c.in-Ok.items }) = tree_read c.args.text.now c.args.tokens.now (words c.in-Ok.field-0-1) c.in-Ok.items c.in-Ok.ensures.reads c.in-Ok.ensures.all in
    each_fault_of c.args.text.now c.args.tokens.now (Ok (record { items = c.in-Ok.items })) tree tt

pub returns-in-Err-Fault-clause-fault : goal.returns-in-Err-Fault-clause-fault
returns-in-Err-Fault-clause-fault c = fault_is c.args.text.now c.args.tokens.now c.in-Err-Fault.left c.place.result (rw c.in-Err-Fault.field-0-is at c.in-Err-Fault.ensures.reads) c.place.ensures

pub returns-in-Err-Fault-clause-each_tree : goal.returns-in-Err-Fault-clause-each_tree
returns-in-Err-Fault-clause-each_tree c =
    let fault : IsFaultOf c.args.text.now c.args.tokens.now c.place.result = fault_is c.args.text.now c.args.tokens.now c.in-Err-Fault.left c.place.result (rw c.in-Err-Fault.field-0-is at c.in-Err-Fault.ensures.reads) c.place.ensures in
    each_tree_of c.args.text.now c.args.tokens.now (Err (Fault c.place.result)) tt fault

pub returns-in-Err-Fault-clause-each_fault : goal.returns-in-Err-Fault-clause-each_fault
returns-in-Err-Fault-clause-each_fault c =
    let fault : IsFaultOf c.args.text.now c.args.tokens.now c.place.result = fault_is c.args.text.now c.args.tokens.now c.in-Err-Fault.left c.place.result (rw c.in-Err-Fault.field-0-is at c.in-Err-Fault.ensures.reads) c.place.ensures in
    each_fault_of c.args.text.now c.args.tokens.now (Err (Fault c.place.result)) tt fault
