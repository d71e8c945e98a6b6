-- The order of a list: each AVP and the fault at its end lie further on than what comes before.
use Rattle.std.specs.Prelude.{ℕ, ◌+◌, ◌<◌, ◌≤◌}
use Rattle.diameter.specs.Listing.{Listing, done, fault, more}

-- the offsets rise, from lo on and below hi
unfoldable pub Rising : {P : Type 0} → ℕ → ℕ → Listing P → Type 0
Rising lo hi done = Unit {0}
Rising lo hi (fault at) = (lo ≤ at) × (at < hi)
Rising lo hi (more e v l) = (lo ≤ e.offset) × (e.offset < hi) × Rising (e.offset + 1) hi l
