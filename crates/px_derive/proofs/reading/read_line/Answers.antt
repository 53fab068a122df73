use Rattle.px_derive.proofs.LineAnswers.{spellable_of, spelled_of, read_of, form_of}
use Rattle.px_derive.proofs.reading.read_line.Goals as goal

pub returns-clause-spellable : goal.returns-clause-spellable
returns-clause-spellable c = spellable_of c.args.names.now c.args.line.now c.read_whole.result c.read_whole.ensures

pub returns-clause-spelled : goal.returns-clause-spelled
returns-clause-spelled c = spelled_of c.args.names.now c.args.line.now c.read_whole.result c.read_whole.ensures

pub returns-clause-read : goal.returns-clause-read
returns-clause-read c = λ lawful. read_of c.args.names.now c.args.line.now c.read_whole.result lawful c.read_whole.ensures

pub returns-clause-form : goal.returns-clause-form
returns-clause-form c = λ lawful. form_of c.args.names.now c.args.line.now c.read_whole.result lawful c.read_whole.ensures
