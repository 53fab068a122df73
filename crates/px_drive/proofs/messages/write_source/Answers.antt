use Rattle.px_drive.proofs.messages.write_source.Goals as goal

pub returns-in-Lex-clause-writes : goal.returns-in-Lex-clause-writes
returns-in-Lex-clause-writes g c = rw c.in-Lex.is c.write_place.ensures.writes

pub returns-in-Parse-clause-writes : goal.returns-in-Parse-clause-writes
returns-in-Parse-clause-writes g c = rw c.in-Parse.is c.write_place-in-Parse.ensures.writes

pub returns-in-Scope-clause-writes : goal.returns-in-Scope-clause-writes
returns-in-Scope-clause-writes g c = rw (c.in-Scope.is, ← c.rule_of_scope.ensures) c.write_rule.ensures.writes

pub returns-in-Typing-clause-writes : goal.returns-in-Typing-clause-writes
returns-in-Typing-clause-writes g c = rw (c.in-Typing.is, ← c.rule_of_typing.ensures) c.write_rule-in-Typing.ensures.writes

pub returns-in-Descent-clause-writes : goal.returns-in-Descent-clause-writes
returns-in-Descent-clause-writes g c = rw c.in-Descent.is c.write_descent.ensures.writes
