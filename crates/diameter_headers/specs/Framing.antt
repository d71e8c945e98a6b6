-- When an AVP is well framed.
use Rattle.std.specs.Prelude.{◌≡◌, ℕ, ◌+◌, ◌-◌, ◌*◌, ◌/◌, ◌≤◌, Bool, true, ◌&&◌, List, length, take, drop, ◌==◌, nat_le}
use Rattle.diameter_headers.specs.Headers.{length_of, header_len}
use Rattle.diameter_headers.specs.declared.place.Kind.{Kind}
use Rattle.diameter_headers.specs.declared.place.Kind.TheVariants.{Unknown, Number, Octets, Group}

-- n rounded up to a multiple of 4
abbrev pub padded : ℕ → ℕ
padded n = (n + 3) / 4 * 4

-- the octets of the data
abbrev pub data_of : List ℕ → List ℕ
data_of xs = take (length_of xs - header_len xs) (drop (header_len xs) xs)

-- a number has four octets of data; nothing else asks for a length
abbrev pub fitting : {P : Type 0} → Kind P → ℕ → Bool
fitting Unknown n = true
fitting Number n = n == 4
fitting Octets n = true
fitting (Group q) n = true

-- xs begins with a whole AVP: its header is there, its length covers the header, it fits with its padding, and its data has the length of its kind
pub record Framed {P : Type 0} (k : Kind P) (xs : List ℕ) : Type 0 where
  pub begun : 8 ≤ length xs
  pub covers : header_len xs ≤ length_of xs
  pub whole : padded (length_of xs) ≤ length xs
  pub fits : fitting k (length_of xs - header_len xs) ≡ true

-- the same as a test
unfoldable pub framed : {P : Type 0} → Kind P → List ℕ → Bool
framed k xs = nat_le 8 (length xs) && (nat_le (header_len xs) (length_of xs) && (nat_le (padded (length_of xs)) (length xs) && fitting k (length_of xs - header_len xs)))
