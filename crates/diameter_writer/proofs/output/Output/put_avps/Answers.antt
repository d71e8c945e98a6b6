use Rattle.diameter_writer.proofs.Putting.{item_room, item_put, all_put}
use Rattle.diameter_writer.proofs.output.Output.put_avps.Goals as goal

pub put_avp-requires : goal.put_avp-requires
put_avp-requires c = item_room _ _ _ _ c.loop-avp.invariant c.loop-avp-test.true

pub loop-avp-preserved : goal.loop-avp-preserved
loop-avp-preserved c = item_put _ _ _ _ c.loop-avp.invariant c.loop-avp-test.true _ c.put_avp.ensures

pub returns : goal.returns
returns c = all_put _ _ _ _ c.loop-avp-test.false c.loop-avp.invariant
