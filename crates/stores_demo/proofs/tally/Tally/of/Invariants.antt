use Rattle.std.proofs.Common.{◌≡◌, true}
use Rattle.stores_demo.proofs.tally.Tally.of.Given as goal

abbrev pub invariant-loop-key : goal.invariant-loop-key
invariant-loop-key g l = goal.F-IsAlwaysCallable g l.call × (l.tally.agree ≡ true)
