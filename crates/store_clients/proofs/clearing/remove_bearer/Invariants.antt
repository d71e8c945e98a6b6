use Rattle.std.proofs.Common.{◌≡◌}
use Rattle.store_clients.proofs.Sweeping.{Kept}
use Rattle.store_clients.proofs.clearing.remove_bearer.Given as goal

abbrev pub invariant-loop-scratch : goal.invariant-loop-scratch
invariant-loop-scratch g l = Kept g.S.Key.Key.owner l.bearer (g.S.Store.holds l.initial.store) (g.S.Store.holds l.store) × (g.S.Store.most l.store ≡ g.S.Store.most l.initial.store)

abbrev pub decreases-loop-scratch : goal.decreases-loop-scratch
decreases-loop-scratch g l = (g.S.Store.holds l.store).count
