use Rattle.std.proofs.Common.{◌≡◌, length, Some}
use Rattle.stores_demo.specs.Samples.{Samples}
use Rattle.stores_demo.proofs.samples.keys.Given as goal

abbrev pub invariant-loop-n : goal.invariant-loop-n
invariant-loop-n g l = (length l.slot-items ≡ 12) × Samples (λ n k. goal.F-post g l.fn.key n (Some k)) l.slot-items l.n
