-- The keys of a map by their numbers, from 0: each key that is there has exactly one. Their order is free.
use Rattle.std.specs.Prelude.{◌≡◌, ℕ, ◌<◌, true, List, length, ◌≢◌, slice_index_or}
use Rattle.stores.specs.Maps.{Map, has}

-- d stands for a key past the last
pub record Numbers {K R : Type 0} (m : Map K R) (ks : List K) : Type 0 where
  pub counted : length ks ≡ m.count
  pub there : (i : ℕ) (d : K) → i < length ks → has m (slice_index_or ks i d) ≡ true
  pub numbered : (k : K) → has m k ≡ true → (i : ℕ) × (i < length ks) × ((d : K) → slice_index_or ks i d ≡ k)
  pub once : (i j : ℕ) (d : K) → i < j → j < length ks → slice_index_or ks i d ≢ slice_index_or ks j d
