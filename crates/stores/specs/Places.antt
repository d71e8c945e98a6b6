-- The place of a key among the first n rows.
use Rattle.std.specs.Prelude.{◌≡◌, ℕ, ◌<◌, List, Some, None, Option, ◌≢◌, slice_index_or}
use Rattle.stores.specs.declared.row.Row.{Row}

-- the key k stands in the row i, one of the first n
pub record Here {K R : Type 0} (rows : List (Row K R)) (n : ℕ) (k : K) (i : ℕ) : Type 0 where
  pub within : i < n
  pub key : (d : Row K R) → (slice_index_or rows i d).key ≡ k

-- it stands in none of them
abbrev pub Absent : {K R : Type 0} → List (Row K R) → ℕ → K → Type 0
Absent {K} {R} rows n k = (j : ℕ) (d : Row K R) → j < n → (slice_index_or rows j d).key ≢ k

-- the place that it has, or none
abbrev pub Place : {K R : Type 0} → List (Row K R) → ℕ → K → Option ℕ → Type 0
Place rows n k (Some i) = Here rows n k i
Place rows n k None = Absent rows n k
