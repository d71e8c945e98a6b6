use Rattle.std.proofs.Common.{◌≤◌, length}
use Rattle.store_clients.proofs.counting.count.Given as goal

abbrev pub invariant-loop-n : goal.invariant-loop-n
invariant-loop-n g l = l.n ≤ length (g.S.Store.keys l.store)
