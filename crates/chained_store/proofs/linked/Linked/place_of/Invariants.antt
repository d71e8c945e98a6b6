use Rattle.chained_store.proofs.Following.{Seeking}
use Rattle.chained_store.proofs.linked.Linked.place_of.Given as goal

abbrev pub invariant-loop-i : goal.invariant-loop-i
invariant-loop-i g l = Seeking g.K.Key.digest l.self.table.rows.now l.self.table.links.now l.self.table.used l.key l.link

abbrev pub decreases-loop-i : goal.decreases-loop-i
decreases-loop-i g l = l.link
