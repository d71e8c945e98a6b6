-- Rows of a key and a record, of which the first n are in use, as a map.
use Rattle.std.specs.Prelude.{ℕ, ◌<◌, ◌≤◌, Bool, if◌then◌else◌, List, [], ◌∷◌, map, length, take, Some, None, Option, ◌≢◌, slice_index_or}
use Rattle.stores.specs.Maps.{Map}
use Rattle.stores.specs.declared.row.Row.{Row}

-- the record of the first row whose key is like q
abbrev pub lookup : {K R : Type 0} → (K → K → Bool) → List (Row K R) → K → Option R
lookup like [] q = None
lookup like (x ∷ xs) q = (if like q x.key then Some x.value else lookup like xs q)

abbrev pub held : {K R : Type 0} → (K → K → Bool) → List (Row K R) → ℕ → Map K R
held like rows n = record { at = lookup like (take n rows); count = n }

abbrev pub keys_of : {K R : Type 0} → List (Row K R) → List K
keys_of rows = map (λ row. row.key) rows

abbrev pub records_of : {K R : Type 0} → List (Row K R) → List R
records_of rows = map (λ row. row.value) rows

-- there are n rows, and no key stands in two of the first n
pub record Dense {K R : Type 0} (rows : List (Row K R)) (n : ℕ) : Type 0 where
  pub fits : n ≤ length rows
  pub apart : (i j : ℕ) (d : Row K R) → i < j → j < n → (slice_index_or rows i d).key ≢ (slice_index_or rows j d).key
