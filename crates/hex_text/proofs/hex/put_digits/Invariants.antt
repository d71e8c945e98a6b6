use Rattle.std.proofs.Common.{◌≡◌, ◌*◌, length, take}
use Rattle.std.specs.Str.{IsAscii}
use Rattle.hex_text.specs.Hex.{hex_text}
use Rattle.hex_text.proofs.hex.put_digits.Given as goal

abbrev pub invariant-loop-i : goal.invariant-loop-i
invariant-loop-i l =
    (take (2 * l.i) l.place ≡ hex_text (take l.i l.octets))
    × IsAscii (take (2 * l.i) l.place)
    × (length l.place ≡ length l.initial.place)
