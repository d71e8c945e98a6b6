-- What a reader finds in a written message: the header's fields, and the AVPs that it was written from.
use Rattle.std.specs.Prelude.{◌≡◌, ℕ, ◌+◌, List, [], ◌∷◌, length, Some}
use Rattle.diameter_headers.specs.Headers.{header_read}
use Rattle.diameter.specs.Listing.{Listing, done, more, append, members, listed, listing}
use Rattle.diameter.specs.Values.{value_of}
use Rattle.diameter.specs.declared.entry.Entry.{Entry}
use Rattle.diameter_headers.specs.declared.headers.MessageHeader.{MessageHeader}
use Rattle.diameter_headers.specs.declared.place.Kind.{Kind}
use Rattle.diameter_writer.specs.Encoding.{encode_avp, flags_for, header_len_for, length_for, vendor_for}
use Rattle.diameter_writer.specs.declared.avp.Avp.{Avp}
use Rattle.diameter_writer.specs.declared.message.MessageFields.{MessageFields}

-- the header of a message of a length
abbrev pub header_for : MessageFields → ℕ → MessageHeader
header_for f n = record {
  version = f.version;
  length = n;
  flags = f.flags;
  command = f.command;
  application = f.application;
  hop_by_hop = f.hop_by_hop;
  end_to_end = f.end_to_end;
}

module _ {P : Type 0} (kinds : P → ℕ → ℕ → Kind P) (rank : P → ℕ) (p : P) where
  -- what the AVP is at the place p
  abbrev pub kind_for : Avp → Kind P
  kind_for a = kinds p a.code (vendor_for a)

  -- the AVP, written at an offset
  abbrev pub entry_for : ℕ → Avp → Entry P
  entry_for at a = record {
    place = p;
    parent = 0;
    offset = at;
    code = a.code;
    vendor = vendor_for a;
    flags = flags_for a;
    kind = kind_for a;
    start = at + header_len_for a;
    end = at + length_for a;
  }

  -- the AVPs one after the other, each with its fields and its data; where one is a group, the list of its data follows it,
  -- and ends the whole where that data is not well framed
  unfoldable pub written : ℕ → List Avp → Listing P
  written at [] = done
  written at (a ∷ rest) = more (entry_for at a) (value_of (kind_for a) a.octets.now) (append (members (listed kinds (rank p)) (kind_for a) at (at + header_len_for a) a.octets.now) (written (at + length (encode_avp a)) rest))

  -- the message m reads as these fields and AVPs
  pub record ReadsAs (f : MessageFields) (avps : List Avp) (m : List ℕ) : Type 0 where
    pub header : header_read m ≡ Some (header_for f (length m))
    pub listed_avps : listing kinds rank p m ≡ written 20 avps
