use Rattle.store_clients.proofs.Sweeping.{Sweeping}
use Rattle.store_clients.proofs.clearing.sweep.Given as goal

abbrev pub invariant-loop-n : goal.invariant-loop-n
invariant-loop-n g l = Sweeping g.S.Store.holds g.S.Store.most g.S.Store.keys g.S.Key.Key.owner l.bearer l.initial.store l.store l.n l.met
