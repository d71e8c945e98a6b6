use Rattle.chained_store.proofs.Following.{Nearing}
use Rattle.chained_store.proofs.table.Table.before.Given as goal

abbrev pub invariant-loop-i : goal.invariant-loop-i
invariant-loop-i g l = Nearing g.K.Key.digest l.self.rows.now l.self.links.now l.self.used l.x l.p

abbrev pub decreases-loop-i : goal.decreases-loop-i
decreases-loop-i g l = l.p
