use Rattle.diameter_checks.proofs.Asked.{shown_first}
use Rattle.diameter_checks.proofs.lookup.find.Goals as goal

pub returns : goal.returns
returns g c = shown_first _ _ _ _ c.visit_message.ensures
