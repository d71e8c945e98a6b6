use Rattle.diameter_writer.proofs.Putting.{Putting}
use Rattle.diameter_writer.proofs.output.Output.put_avps.Given as goal

abbrev pub invariant-loop-avp : goal.invariant-loop-avp
invariant-loop-avp l = Putting l.initial.self l.avps l.self l.avp-index
