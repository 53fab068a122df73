use Rattle.px_types.proofs.Judging.{program_of, fault_of, typed_of, numbered_of, names_of, each_program_of, each_fault_of}
use Rattle.px_types.proofs.programs.check_types.Goals as goal

pub returns-clause-ok : goal.returns-clause-ok
returns-clause-ok c = program_of c.args.raw c.requires c.type_program.result c.type_program.ensures

pub returns-clause-fault : goal.returns-clause-fault
returns-clause-fault c = fault_of c.args.raw c.requires c.type_program.result c.type_program.ensures

pub returns-clause-typed : goal.returns-clause-typed
returns-clause-typed c = typed_of c.args.raw c.requires c.type_program.result c.type_program.ensures

pub returns-clause-numbered : goal.returns-clause-numbered
returns-clause-numbered c = numbered_of c.args.raw c.requires c.type_program.result c.type_program.ensures

pub returns-clause-names : goal.returns-clause-names
returns-clause-names c = names_of c.args.raw c.requires c.type_program.result c.type_program.ensures

pub returns-clause-each_program : goal.returns-clause-each_program
returns-clause-each_program c P is = each_program_of c.args.raw c.requires c.type_program.result c.type_program.ensures P is

pub returns-clause-each_fault : goal.returns-clause-each_fault
returns-clause-each_fault c fault br = each_fault_of c.args.raw c.requires c.type_program.result c.type_program.ensures fault br
