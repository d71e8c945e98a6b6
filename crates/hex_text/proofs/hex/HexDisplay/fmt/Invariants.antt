use Rattle.std.proofs.Common.{◌≡◌, ℕ, List, ◌++◌, length}
use Rattle.std.specs.Fmt.{HasWritten, IsPlainFormatter}
use Rattle.std.specs.Slice.Iter.{chunks_rest, chunks_size}
use Rattle.hex_text.specs.Hex.{hex_text}
use Rattle.hex_text.proofs.hex.HexDisplay.fmt.Given as goal

-- what is written, with the digits of the octets that are left, is the whole text
abbrev pub invariant-loop-part : goal.invariant-loop-part
invariant-loop-part g l =
    (goal.iterator-loop-part g).can_next l.part-iterator
    × (goal.iterator-loop-part g).is_finite l.part-iterator
    × (chunks_size l.part-iterator ≡ 32)
    × (length l.place ≡ 64)
    × (IsPlainFormatter l.initial.f → (written : List ℕ) × HasWritten g.W.Write.write_str_gives l.initial.f written l.f
    × (written ++ hex_text (chunks_rest l.part-iterator) ≡ hex_text l.fn.self.0.now))
