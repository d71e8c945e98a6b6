-- A finite map: the record at each key, if there is one, and how many keys there are.
use Rattle.std.specs.Prelude.{◌≡◌, ℕ, Bool, is_some, None, Option}

pub record Map (K R : Type 0) : Type 0 where
  pub at : K → Option R
  pub count : ℕ

-- whether a key is there
abbrev pub has : {K R : Type 0} → Map K R → K → Bool
has m k = is_some (m.at k)

-- a new store's map
pub record Empty {K R : Type 0} (m : Map K R) : Type 0 where
  pub none : (k : K) → m.at k ≡ None
  pub uncounted : m.count ≡ 0
