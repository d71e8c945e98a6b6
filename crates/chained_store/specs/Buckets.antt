-- The bucket of a hash, and the chain that a place is on. There is a link for each row, and after these one for each bucket.
use Rattle.std.specs.Prelude.{ℕ, ◌+◌, ◌-◌, ◌%◌, if◌then◌else◌, List, map, length, nat_lt, slice_index}
use Rattle.stores.specs.declared.row.Row.{Row}

abbrev pub hashes : {K R : Type 0} → (K → ℕ) → List (Row K R) → List ℕ
hashes digest rows = map (λ row. digest row.key) rows

-- the place of a hash's bucket, where there are w links, the first of them those of the rows
abbrev pub bucket_of : ℕ → ℕ → ℕ → ℕ
bucket_of hash room w = room + hash % (w - room)

-- the bucket whose chain the place p is on, where the rows have the hashes hs
abbrev pub chain_of : List ℕ → ℕ → ℕ → ℕ
chain_of hs w p = (if nat_lt p (length hs) then bucket_of (slice_index hs p) (length hs) w else p)
