-- What a write does to the output.
use Rattle.std.specs.Prelude.{◌≡◌, ℕ, ◌+◌, ◌≤◌, List, ◌++◌, length, take, drop}

-- xs was written into old at a place, and nothing else was changed
pub record Wrote (old : List ℕ) (at : ℕ) (xs new : List ℕ) : Type 0 where
  pub room : at + length xs ≤ length old
  pub is : new ≡ take at old ++ (xs ++ drop (at + length xs) old)
