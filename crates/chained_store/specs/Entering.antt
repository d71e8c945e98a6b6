-- A row that leaves its chain or enters it: which rows are in chains meanwhile, and the place before the row.
use Rattle.std.specs.Prelude.{◌≡◌, ℕ, ◌+◌, ◌<◌, ◌≤◌, ◌≢◌, List, length, slice_index, slice_index_or}
use Rattle.stores.specs.declared.row.Row.{Row}
use Rattle.chained_store.specs.Buckets.{hashes, chain_of}

-- the rows below n but for x; those with x
abbrev pub But : ℕ → ℕ → ℕ → Type 0
But n x j = (j < n) × (j ≢ x)

abbrev pub With : ℕ → ℕ → ℕ → Type 0
With n x j = j ≢ x → j < n

-- the links of the places after x lead down the chains
abbrev pub Leads : {K R : Type 0} → (K → ℕ) → List (Row K R) → List ℕ → ℕ → ℕ → Type 0
Leads digest rows links n x = (p j : ℕ) → (p < length links) × (p < length rows → p < n) × (x < p) × (slice_index links p ≡ j + 1) → (j < p) × (j < n) × (chain_of (hashes digest rows) (length links) j ≡ chain_of (hashes digest rows) (length links) p)

-- p is the place on the chain of the row x, and after x, that has no other such between
pub record Before {K R : Type 0} (digest : K → ℕ) (rows : List (Row K R)) (links : List ℕ) (n x p : ℕ) : Type 0 where
  pub within : p < length links
  pub used : p < length rows → p < n
  pub after : x < p
  pub chain : chain_of (hashes digest rows) (length links) p ≡ chain_of (hashes digest rows) (length links) x
  pub next : slice_index_or links p 0 ≤ x + 1
