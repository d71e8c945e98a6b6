-- The AVPs of a message as one list in the order of their offsets, the members of a group after the group.
use Rattle.std.specs.Prelude.{ℕ, zero, suc, ◌+◌, ◌-◌, if◌then◌else◌, List, [], ◌∷◌, drop}
use Rattle.diameter_headers.specs.Framing.{padded, data_of, framed}
use Rattle.diameter_headers.specs.Headers.{code_of, flags_of, length_of, header_len, vendor_of}
use Rattle.diameter.specs.Values.{Value, value_of}
use Rattle.diameter.specs.declared.entry.Entry.{Entry}
use Rattle.diameter_headers.specs.declared.place.Kind.{Kind}
use Rattle.diameter_headers.specs.declared.place.Kind.TheVariants.{Unknown, Number, Octets, Group}

-- AVP after AVP, to the end, or to the offset of the first AVP that is not well framed
pub data Listing (P : Type 0) : Type 0 where
  done : Listing P
  fault : ℕ → Listing P
  more : Entry P → Value → Listing P → Listing P

-- one list and then another; nothing comes after a fault
unfoldable pub append : {P : Type 0} → Listing P → Listing P → Listing P
append done l = l
append (fault at) l = fault at
append (more e v k) l = more e v (append k l)

-- the members of the AVP, where it is a group
abbrev pub members : {P : Type 0} → (P → ℕ → ℕ → List ℕ → Listing P) → Kind P → ℕ → ℕ → List ℕ → Listing P
members inner Unknown at start ys = done
members inner Number at start ys = done
members inner Octets at start ys = done
members inner (Group q) at start ys = inner q at start ys

module _ {P : Type 0} (kinds : P → ℕ → ℕ → Kind P) where
  -- the kind, at the place p, of the AVP that xs begins with
  abbrev pub kind_in : P → List ℕ → Kind P
  kind_in p xs = kinds p (code_of xs) (vendor_of xs)

  -- that AVP, at an offset, in the group at the offset parent
  unfoldable pub entry_at : P → ℕ → ℕ → List ℕ → Entry P
  entry_at p parent at xs = record {
    place = p;
    parent = parent;
    offset = at;
    code = code_of xs;
    vendor = vendor_of xs;
    flags = flags_of xs;
    kind = kind_in p xs;
    start = at + header_len xs;
    end = at + length_of xs;
  }

  -- the list of xs, whose first octet has the offset at; the next skip octets still belong to the AVP just listed and are passed
  -- over; `inner` lists the members of a group
  unfoldable pub level : (P → ℕ → ℕ → List ℕ → Listing P) → P → ℕ → ℕ → ℕ → List ℕ → Listing P
  level inner p parent skip at [] = done
  level inner p parent zero at (x ∷ xs) =
      if framed (kind_in p (x ∷ xs)) (x ∷ xs)
      then more (entry_at p parent at (x ∷ xs)) (value_of (kind_in p (x ∷ xs)) (data_of (x ∷ xs)))
      (append (members inner (kind_in p (x ∷ xs)) at (at + header_len (x ∷ xs)) (data_of (x ∷ xs))) (level inner p parent (padded (length_of (x ∷ xs)) - 1) (at + 1) xs))
      else fault at
  level inner p parent (suc skip) at (x ∷ xs) = level inner p parent skip (at + 1) xs

  -- the list of xs at the place p, with groups down to a depth (a rank of places never lets it run out: each group ranks one lower)
  unfoldable pub listed : ℕ → P → ℕ → ℕ → List ℕ → Listing P
  listed zero p parent at xs = done
  listed (suc depth) p parent at xs = level (listed depth) p parent 0 at xs

  -- the list of a message at the place p: its AVPs begin after 20 octets of header
  unfoldable pub listing : (P → ℕ) → P → List ℕ → Listing P
  listing rank p m = listed (suc (rank p)) p 0 20 (drop 20 m)
