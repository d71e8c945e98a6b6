use Rattle.std.proofs.Common.{◌≡◌, true}
use Rattle.stores_demo.proofs.pair.Pair.walk_all.Given as goal

abbrev pub invariant-loop-number : goal.invariant-loop-number
invariant-loop-number g l = l.tally.agree ≡ true
