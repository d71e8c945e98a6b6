-- The octets of a whole message, and when it can be written.
use Rattle.std.specs.Prelude.{ℕ, ◌+◌, ◌^◌, Bool, true, ◌&&◌, List, [], ◌∷◌, ◌++◌, length, nat_le, nat_lt}
use Rattle.diameter_headers.specs.declared.place.Kind.{Kind}
use Rattle.diameter_writer.specs.Encoding.{encode_avps, fits_at, quad, triple}
use Rattle.diameter_writer.specs.declared.avp.Avp.{Avp}
use Rattle.diameter_writer.specs.declared.message.MessageFields.{MessageFields}

-- the 20 octets of the header of a message of a length
abbrev pub header_octets : MessageFields → ℕ → List ℕ
header_octets f total = (f.version ∷ triple total) ++ ((f.flags ∷ triple f.command) ++ (quad f.application ++ (quad f.hop_by_hop ++ quad f.end_to_end)))

-- how long the message of these AVPs is
abbrev pub message_len : List Avp → ℕ
message_len avps = 20 + length (encode_avps avps)

-- header and AVPs
unfoldable pub encode_message : MessageFields → List Avp → List ℕ
encode_message f avps = header_octets f (message_len avps) ++ encode_avps avps

module _ {P : Type 0} (kinds : P → ℕ → ℕ → Kind P) (p : P) where
  -- the data of each AVP has the length of what the AVP is at the place p
  unfoldable pub all_fit : List Avp → Bool
  all_fit [] = true
  all_fit (a ∷ rest) = fits_at kinds p a && all_fit rest

  -- the message can be written: command and length fit three octets, the message fits the room, and its numbers have four octets
  abbrev pub writable : MessageFields → List Avp → ℕ → Bool
  writable f avps room = nat_lt f.command (2 ^ 24) && (nat_lt (message_len avps) (2 ^ 24) && (nat_le (message_len avps) room && all_fit avps))
