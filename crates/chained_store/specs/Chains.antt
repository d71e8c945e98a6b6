-- Rows in chains. A link is 0, which leads nowhere, or one more than a row's number; a chain starts at its bucket and has the bucket's rows, the last first.
use Rattle.std.specs.Prelude.{◌≡◌, ℕ, ◌+◌, ◌<◌, Bool, List, length, slice_index}
use Rattle.stores.specs.Maps.{Empty}
use Rattle.stores.specs.Rows.{held}
use Rattle.stores.specs.declared.row.Row.{Row}
use Rattle.chained_store.specs.Buckets.{hashes, chain_of}

-- a link of a bucket, or of a row of A, leads to an earlier row of A on the same chain
abbrev pub LinksLead : (ℕ → ℕ) → ℕ → (ℕ → Type 0) → List ℕ → Type 0
LinksLead chain room A links = (p j : ℕ) → (p < length links) × (p < room → A p) × (slice_index links p ≡ j + 1) → (j < p) × A j × (chain j ≡ chain p)

-- and passes over none of them
abbrev pub LinksPassNone : (ℕ → ℕ) → ℕ → (ℕ → Type 0) → List ℕ → Type 0
LinksPassNone chain room A links = (p j : ℕ) → (p < length links) × (p < room → A p) × A j × (j < p) × (chain j ≡ chain p) → j < slice_index links p

-- the rows of A are in chains
pub record Chains {K R : Type 0} (digest : K → ℕ) (rows : List (Row K R)) (links : List ℕ) (A : ℕ → Type 0) : Type 0 where
  pub wide : length rows < length links
  pub low : (j : ℕ) → A j → j < length rows
  pub lead : LinksLead (chain_of (hashes digest rows) (length links)) (length rows) A links
  pub pass : LinksPassNone (chain_of (hashes digest rows) (length links)) (length rows) A links

-- the rows below n
abbrev pub Below : ℕ → ℕ → Type 0
Below n j = j < n

-- a new store over that many rows: it has no key
pub record New {K R : Type 0} (like : K → K → Bool) (room : ℕ) (rows : List (Row K R)) (n : ℕ) : Type 0 where
  pub empty : Empty (held like rows n)
  pub room_is : length rows ≡ room
