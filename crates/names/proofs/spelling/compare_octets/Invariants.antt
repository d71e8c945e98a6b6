use Rattle.std.proofs.Common.{◌≡◌, ◌≤◌, length, drop}
use Rattle.names.specs.Order.{lexical}
use Rattle.names.proofs.spelling.compare_octets.Given as goal

abbrev pub invariant-loop-i : goal.invariant-loop-i
invariant-loop-i l = (l.i ≤ length l.b) × (lexical l.a l.b ≡ lexical (drop l.i l.a) (drop l.i l.b))
