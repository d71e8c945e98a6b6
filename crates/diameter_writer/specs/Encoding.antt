-- The octets of AVPs.
use Rattle.std.specs.Prelude.{ℕ, ◌+◌, ◌-◌, ◌/◌, ◌%◌, Bool, if◌then◌else◌, List, [], ◌∷◌, ◌++◌, length, replicate, is_some, Some, None, Option}
use Rattle.std.specs.Option.{unwrap_or}
use Rattle.diameter_headers.specs.Framing.{fitting, padded}
use Rattle.diameter_headers.specs.declared.place.Kind.{Kind}
use Rattle.diameter_writer.specs.declared.avp.Avp.{Avp}

-- a number in three and in four octets, the highest first
abbrev pub triple : ℕ → List ℕ
triple n = (n / 65536 % 256) ∷ (n / 256 % 256) ∷ (n % 256) ∷ []

abbrev pub quad : ℕ → List ℕ
quad n = (n / 16777216 % 256) ∷ (n / 65536 % 256) ∷ (n / 256 % 256) ∷ (n % 256) ∷ []

-- the flag V where there is a vendor, the flag M where the AVP is mandatory
abbrev pub flags_for : Avp → ℕ
flags_for a = (if is_some a.vendor then 128 else 0) + (if a.mandatory then 64 else 0)

-- the vendor as a reader sees it
abbrev pub vendor_for : Avp → ℕ
vendor_for a = unwrap_or a.vendor 0

-- four octets of vendor, or none
abbrev pub vendor_part : Option ℕ → List ℕ
vendor_part None = []
vendor_part (Some vendor) = quad vendor

-- the octets before the data
abbrev pub header_len_for : Avp → ℕ
header_len_for a = if is_some a.vendor then 12 else 8

-- header and data
abbrev pub length_for : Avp → ℕ
length_for a = header_len_for a + length a.octets.now

-- the data has the length of what the AVP is at the place p
abbrev pub fits_at : {P : Type 0} → (P → ℕ → ℕ → Kind P) → P → Avp → Bool
fits_at kinds p a = fitting (kinds p a.code (vendor_for a)) (length a.octets.now)

-- code, flags, length, vendor if any, data, and zeros up to a multiple of 4
unfoldable pub encode_avp : Avp → List ℕ
encode_avp a = quad a.code ++ (flags_for a ∷ triple (length_for a)) ++ (vendor_part a.vendor ++ (a.octets.now ++ replicate (padded (length_for a) - length_for a) 0))

-- AVP after AVP
unfoldable pub encode_avps : List Avp → List ℕ
encode_avps [] = []
encode_avps (a ∷ rest) = encode_avp a ++ encode_avps rest
