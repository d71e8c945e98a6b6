use Rattle.std.proofs.Common.{◌∙◌, subst}
use Rattle.diameter.specs.Reading.{ahead}
use Rattle.diameter.specs.Visiting.{Shown}
use Rattle.diameter.proofs.Steps.{ahead_opening}
use Rattle.diameter.proofs.reader.visit_message.Goals as goal

pub returns : goal.returns
returns g c =
    let K = g.P.Place.kinds in
    let R = g.P.Place.rank in
    let p = c.args.place in
    let e = c.new.ensures in
    subst (λ l. Shown g.V.Visitor.shows c.args.visitor.now l c.visit.result c.visit.new.visitor)
    ((λ i. ahead K R p 0 (e.message i).now (e.cursor i)) ∙ ahead_opening K R p c.args.message.now)
    c.visit.ensures.shown
