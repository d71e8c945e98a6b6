-- Reading one of a list by its number: the place that the caller lends is filled with it, and stays as it was past the last.
use Rattle.std.specs.Prelude.{◌≡◌, ℕ, Bool, List, length, nat_lt, slice_index_or}

pub record ReadAt {X : Type 0} (xs : List X) (n : ℕ) (place place' : X) (r : Bool) : Type 0 where
  pub answer : r ≡ nat_lt n (length xs)
  pub filled : place' ≡ slice_index_or xs n place
