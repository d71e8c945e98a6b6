-- Removing every key of a bearer, from the map m before to the map m' after; `owner` tells a key's bearer.
use Rattle.std.specs.Prelude.{◌≡◌, ℕ, ◌<◌, Bool, true, false, cond, ◌⊎◌, None, ◌==◌}
use Rattle.stores.specs.Maps.{Map}

-- no key of the bearer is there, every other key has what it had
pub record Cleared {K R : Type 0} (owner : K → ℕ) (bearer : ℕ) (m m' : Map K R) : Type 0 where
  pub records : (q : K) → m'.at q ≡ cond (owner q == bearer) None (m.at q)

-- one sweep: only keys of the bearer went; if it met any there are fewer keys, and if it met none there is none
pub record Swept {K R : Type 0} (owner : K → ℕ) (bearer : ℕ) (m : Map K R) (met : Bool) (m' : Map K R) : Type 0 where
  pub kept : (q : K) → (m'.at q ≡ m.at q) ⊎ ((owner q ≡ bearer) × (m'.at q ≡ None))
  pub fewer : met ≡ true → m'.count < m.count
  pub clear : met ≡ false → (q : K) → owner q ≡ bearer → m'.at q ≡ None
