use Rattle.std.proofs.Common.{◌≡◌, Option, map, ◌∙◌}
use Rattle.std.specs.Option.{option_copied}
use Rattle.std.proofs.lemmas.Result.{IfOk-weaker}
use Rattle.px_terms.specs.declared.term.Term.{Term, out-Term}
use Rattle.px_prover.specs.Norms.{stop_of}
use Rattle.px_prover.specs.Normalising.{stops_in}
use Rattle.px_prover.proofs.EndLemmas.{match_stop, match_no_stop}
use Rattle.px_prover.proofs.norm.own_stop.Goals as goal

pub returns-in-Some : goal.returns-in-Some
returns-in-Some c =
    IfOk-weaker c.copy_stop.result (λ (x : Option Term). x ≡ option_copied c.inner.result) (λ (x : Option Term). x ≡ stop_of (out-Term c.args.t.now) (map stops_in c.args.parts.now) c.args.led)
    (λ x is.
    is ∙ c.inner.ensures
    ∙ match_stop c.args.t.now c.in-Match.on c.get.result.now c.in-Match.datatype c.in-Match.types c.in-Match.arms c.args.parts.now c.in-Some.stops.now c.args.led c.in-Match.is c.get.ensures c.in-Some.ensures)
    c.copy_stop.ensures

pub returns : goal.returns
returns c =
    IfOk-weaker c.copy_stop-in-None.result (λ (x : Option Term). x ≡ option_copied c.inner-in-None.result) (λ (x : Option Term). x ≡ stop_of (out-Term c.args.t.now) (map stops_in c.args.parts.now) c.args.led)
    (λ x is.
    is ∙ c.inner-in-None.ensures
    ∙ match_no_stop c.args.t.now c.in-Match.on c.get-in-None.result.now c.in-Match.datatype c.in-Match.types c.in-Match.arms c.args.parts.now c.no_stops.result c.args.led c.in-Match.is c.get-in-None.ensures
    c.in-None.ensures c.no_stops.ensures)
    c.copy_stop-in-None.ensures
