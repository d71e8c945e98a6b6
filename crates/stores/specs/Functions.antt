-- What finding, putting and removing do, from the map m before to the map m' after; r is the answer, `like` tells equal keys.
use Rattle.std.specs.Prelude.{◌≡◌, ℕ, ◌+◌, Bool, if◌then◌else◌, not, ◌&&◌, ◌||◌, Some, None, nat_lt}
use Rattle.std.specs.Option.{unwrap_or}
use Rattle.stores.specs.Maps.{Map, has}

-- the place is filled with the key's record, and stays as it was where there is none
pub record Found {K R : Type 0} (m : Map K R) (k : K) (place place' : R) (r : Bool) : Type 0 where
  pub answer : r ≡ has m k
  pub filled : place' ≡ unwrap_or (m.at k) place

-- taken unless the key is absent and the room full; then the key has the record, every other key what it had
pub record Put {K R : Type 0} (like : K → K → Bool) (room : ℕ) (m : Map K R) (k : K) (v : R) (r : Bool) (m' : Map K R) : Type 0 where
  pub answer : r ≡ (has m k || nat_lt m.count room)
  pub records : (q : K) → m'.at q ≡ (if r && like q k then Some v else m.at q)
  pub counted : m'.count ≡ m.count + (if r && not (has m k) then 1 else 0)

-- the key is gone, every other key has what it had
pub record Removed {K R : Type 0} (like : K → K → Bool) (m : Map K R) (k : K) (r : Bool) (m' : Map K R) : Type 0 where
  pub answer : r ≡ has m k
  pub records : (q : K) → m'.at q ≡ (if like q k then None else m.at q)
  pub counted : m'.count + (if r then 1 else 0) ≡ m.count
