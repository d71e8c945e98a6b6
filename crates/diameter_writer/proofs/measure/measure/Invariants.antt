use Rattle.diameter_writer.proofs.Measuring.{Counting}
use Rattle.diameter_writer.proofs.measure.measure.Given as goal

abbrev pub invariant-loop-avp : goal.invariant-loop-avp
invariant-loop-avp g l = Counting g.P.Place.kinds l.place l.avps l.avp-index l.total
