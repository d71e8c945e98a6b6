-- What writing does to an output.
use Rattle.std.specs.Prelude.{◌≡◌, ℕ, ◌+◌, List, length}
use Rattle.diameter_writer.specs.Writing.{Wrote}
use Rattle.diameter_writer.specs.declared.output.Output.{Output}

-- xs was written at the end of the output o, which then is n, over the same octets
pub record Put (o : Output) (xs : List ℕ) (n : Output) : Type 0 where
  pub same : n.octets.ghost_name ≡ o.octets.ghost_name
  pub wrote : Wrote o.octets.now o.end xs n.octets.now
  pub end : n.end ≡ o.end + length xs
