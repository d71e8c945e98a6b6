-- What a reader tells of the AVP that it stands at.
use Rattle.std.specs.Prelude.{◌≡◌, ℕ, ◌+◌, ◌<◌, ◌≤◌, min, Bool, true, false, List, length, take, drop, Some, None, Ok, Err, Option, Result}
use Rattle.refusals.specs.Faults.{fault_at}
use Rattle.refusals.specs.declared.fault.Fault.{Fault}
use Rattle.refusals.specs.declared.refusal.Refusal.TheVariants.{AvpLength}
use Rattle.diameter_headers.specs.Framing.{Framed, padded, data_of}
use Rattle.diameter_headers.specs.Headers.{length_of}
use Rattle.diameter.specs.Listing.{Listing, level, listed, kind_in, entry_at}
use Rattle.diameter.specs.Values.{held, value_of}
use Rattle.diameter.specs.declared.cursor.Cursor.{Cursor}
use Rattle.diameter.specs.declared.entry.Entry.{Entry}
use Rattle.diameter.specs.declared.entry.Item.{Item}
use Rattle.diameter_headers.specs.declared.place.Kind.{Kind}

-- the cursor lies in the message
pub record Within (m : List ℕ) (c : Cursor) : Type 0 where
  pub ordered : c.position ≤ c.end
  pub inside : c.end ≤ length m

-- where the AVPs of a message begin and end: after 20 octets of header, where there are so many
abbrev pub opening : List ℕ → Cursor
opening m = record { position = min 20 (length m); end = length m }

-- the octets of m from a position to an end
unfoldable pub window : List ℕ → ℕ → ℕ → List ℕ
window m position end = drop position (take end m)

-- what the reader may still read
abbrev pub left : List ℕ → Cursor → List ℕ
left m c = window m c.position c.end

-- the list of what the reader may still read, at the place p, in the group at the offset parent
unfoldable pub ahead : {P : Type 0} → (P → ℕ → ℕ → Kind P) → (P → ℕ) → P → ℕ → List ℕ → Cursor → Listing P
ahead kinds rank p parent m c = level kinds (listed kinds (rank p)) p parent 0 c.position (left m c)

-- the cursor after a visit: at the end where all was shown, else as it was
abbrev pub rested : Bool → Cursor → Cursor
rested true c = record { position = c.end; end = c.end }
rested false c = c

module _ {P : Type 0} (kinds : P → ℕ → ℕ → Kind P) (p : P) (parent : ℕ) (m : List ℕ) (c d : Cursor) where
  -- the AVP at c is well framed, and was told as it is; d stands after its padding
  pub record Told (e : Entry P) (i : Item) : Type 0 where
    pub framed : Framed (kind_in kinds p (left m c)) (left m c)
    pub entry : e ≡ entry_at kinds p parent c.position (left m c)
    pub value : held i ≡ value_of (kind_in kinds p (left m c)) (data_of (left m c))
    pub after : d ≡ record { position = c.position + padded (length_of (left m c)); end = c.end }

  -- nothing is left at c
  pub record Ended : Type 0 where
    pub end : c.position ≡ c.end
    pub same : d ≡ c

  -- what is left at c does not begin with a well framed AVP
  pub record Malformed (f : Fault) : Type 0 where
    pub some : c.position < c.end
    pub broken : Framed (kind_in kinds p (left m c)) (left m c) → ⊥
    pub fault : f ≡ fault_at AvpLength c.position
    pub same : d ≡ c

  -- what a reading answers
  abbrev pub Read : Result (Option (Entry P × Item)) Fault → Type 0
  Read (Ok None) = Ended
  Read (Ok (Some x)) = Told x.0 x.1
  Read (Err f) = Malformed f
