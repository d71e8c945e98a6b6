use Rattle.diameter_checks.proofs.Asked.{shown_framing}
use Rattle.diameter_checks.proofs.Stepping.{keeps_steps}
use Rattle.diameter_checks.proofs.Orders.{listing_rises}
use Rattle.diameter_checks.proofs.framing.check_framing.Goals as goal

pub returns : goal.returns
returns g c = record {
  value = shown_framing (λ u e v. u) _ _ _ _ c.visit_message.ensures;
  steps = keeps_steps g.P.Place.kinds g.P.Place.rank g.met.P.Place.falls;
  ordered = listing_rises g.P.Place.kinds g.P.Place.rank c.args.place c.args.message.now;
}
