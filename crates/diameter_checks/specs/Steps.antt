-- The law of the list, by which it can be believed: how it begins, goes on and ends, with no word of how it is computed.
use Rattle.std.specs.Prelude.{◌≡◌, ℕ, suc, ◌+◌, ◌<◌, List, [], length, drop}
use Rattle.diameter_headers.specs.Framing.{Framed, data_of, padded}
use Rattle.diameter_headers.specs.Headers.{header_len, length_of}
use Rattle.diameter_headers.specs.declared.place.Kind.{Kind}
use Rattle.diameter.specs.Listing.{Listing, append, done, entry_at, fault, kind_in, listed, listing, members, more}
use Rattle.diameter.specs.Values.{value_of}

module _ {P : Type 0} (kinds : P → ℕ → ℕ → Kind P) (rank : P → ℕ) where
  -- the list of the octets xs at the place p, in the group at the offset parent; the first octet has the offset at
  abbrev pub part : P → ℕ → ℕ → List ℕ → Listing P
  part p parent at xs = listed kinds (suc (rank p)) p parent at xs

  pub record Steps : Type 0 where
    -- the list of a message is that of the octets after its header
    pub begins : (p : P) (m : List ℕ) → listing kinds rank p m ≡ part p 0 20 (drop 20 m)
    -- where no octet is left, the list ends
    pub ends : (p : P) (parent at : ℕ) → part p parent at [] ≡ done
    -- where octets are left that do not begin with a well framed AVP, it ends in a fault at their offset
    pub stops : (p : P) (parent at : ℕ) (xs : List ℕ) → 0 < length xs → (Framed (kind_in kinds p xs) xs → ⊥) → part p parent at xs ≡ fault at
    -- else comes that AVP, then the list of its data where it is a group, then the list of what follows its padding
    pub goes_on : (p : P) (parent at : ℕ) (xs : List ℕ) → Framed (kind_in kinds p xs) xs → part p parent at xs ≡ more (entry_at kinds p parent at xs) (value_of (kind_in kinds p xs) (data_of xs)) (append (members part (kind_in kinds p xs) at (at + header_len xs) (data_of xs)) (part p parent (at + padded (length_of xs)) (drop (padded (length_of xs)) xs)))
