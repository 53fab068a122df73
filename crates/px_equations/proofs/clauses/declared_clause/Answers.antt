use Rattle.px_equations.proofs.Listing.{lemma_answered, lemma_stands}
use Rattle.px_equations.proofs.clauses.declared_clause.Goals as goal

pub returns-in-Some : goal.returns-in-Some
returns-in-Some c = lemma_answered c.args.program.now c.args.declared c.in-Lemma.lemma c.in-Some.said.now c.as_slice.result.now c.said_by.result c.in-Lemma.is
    c.as_slice.ensures c.in-Some.ensures c.said_by.ensures

pub unreachable-requires : goal.unreachable-requires
unreachable-requires c = lemma_stands c.args.program.now c.args.declared c.in-Lemma.lemma c.as_slice.result.now c.requires.has c.in-Lemma.is c.as_slice.ensures
    c.in-None.ensures
