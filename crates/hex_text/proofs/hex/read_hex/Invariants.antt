use Rattle.std.proofs.Common.{vec_items}
use Rattle.hex_text.proofs.Digits.{Reading}
use Rattle.hex_text.proofs.hex.read_hex.Given as goal

abbrev pub invariant-loop-at : goal.invariant-loop-at
invariant-loop-at l = Reading l.text (vec_items l.octets) l.half l.at
