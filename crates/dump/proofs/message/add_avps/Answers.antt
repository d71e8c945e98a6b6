use Rattle.std.proofs.Common.{◌≢◌, Err, rules}
use Rattle.refusals.specs.Faults.{fault_at}
use Rattle.refusals.specs.declared.refusal.Refusal.TheVariants.{NoSpace}
use Rattle.dump.proofs.Visits.{all_there}
use Rattle.dump.proofs.message.add_avps.Goals as goal

pub returns : goal.returns
returns c =
    let enough : c.visit_message-end.result ≢ Err (fault_at NoSpace 0) = search rules in
    all_there _ _ _ _ c.visit_message-end.ensures enough _ c.in_ok-write.ensures.bytes
