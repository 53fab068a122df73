use Rattle.px_equations.proofs.IndexSteps.{enter_property, enter_lemma}
use Rattle.px_equations.proofs.index.enter.Goals as goal

pub returns-in-Property : goal.returns-in-Property
returns-in-Property c =
    enter_property c.args.index.now c.lower.new.numbers c.args.declared c.in-Property.def c.in-Property.prop c.place.result c.args.number c.lower.result
    c.in-Property.is c.place.ensures c.lower.ensures

pub returns-in-Lemma : goal.returns-in-Lemma
returns-in-Lemma c =
    enter_lemma c.args.index.now c.lower-in-Lemma.new.numbers c.args.declared c.in-Lemma.lemma c.args.number c.lower-in-Lemma.result c.in-Lemma.is
    c.lower-in-Lemma.ensures
