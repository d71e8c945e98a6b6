-- Where the fields of a header lie in the octets that begin with it.
use Rattle.std.specs.Prelude.{◌≡◌, ℕ, ◌+◌, ◌^◌, ◌<◌, ◌≤◌, Bool, if◌then◌else◌, List, length, Some, None, Ok, Err, Option, Result, ◌==◌, ◌&&◌, bit_and, nat_le, slice_index}
use Rattle.refusals.specs.Faults.{fault_at}
use Rattle.refusals.specs.declared.fault.Fault.{Fault}
use Rattle.refusals.specs.declared.refusal.Refusal.TheVariants.{MessageLength}
use Rattle.diameter_headers.specs.Octets.{be3, be4}
use Rattle.diameter_headers.specs.declared.headers.AvpHeader.{AvpHeader}
use Rattle.diameter_headers.specs.declared.headers.MessageHeader.{MessageHeader}

-- the number in the three octets from i on, and in the four
abbrev pub three : List ℕ → ℕ → ℕ
three xs i = be3 (slice_index xs i) (slice_index xs (i + 1)) (slice_index xs (i + 2))

abbrev pub four : List ℕ → ℕ → ℕ
four xs i = be4 (slice_index xs i) (slice_index xs (i + 1)) (slice_index xs (i + 2)) (slice_index xs (i + 3))

-- an AVP: four octets of code, one of flags, three of length
abbrev pub code_of : List ℕ → ℕ
code_of xs = four xs 0

abbrev pub flags_of : List ℕ → ℕ
flags_of xs = slice_index xs 4

abbrev pub length_of : List ℕ → ℕ
length_of xs = three xs 5

-- and four of vendor, unless the flag V (0x80) is clear
abbrev pub plain : List ℕ → Bool
plain xs = bit_and (flags_of xs) 128 == 0

abbrev pub header_len : List ℕ → ℕ
header_len xs = if plain xs then 8 else 12

abbrev pub vendor_of : List ℕ → ℕ
vendor_of xs = if plain xs then 0 else four xs 8

-- all of the header is there, and h has the fields of the AVP that xs begins with
pub record AvpHeaderOf (xs : List ℕ) (h : AvpHeader) : Type 0 where
  pub begun : header_len xs ≤ length xs
  pub code : h.code ≡ code_of xs
  pub flags : h.flags ≡ flags_of xs
  pub vendor : h.vendor ≡ vendor_of xs
  pub header : h.header ≡ header_len xs
  pub length : h.length ≡ length_of xs
  pub small : h.length < 2 ^ 24

-- the header of the message m: 20 octets
abbrev pub header_in : List ℕ → MessageHeader
header_in m = record {
  version = slice_index m 0;
  length = three m 1;
  flags = slice_index m 4;
  command = three m 5;
  application = four m 8;
  hop_by_hop = four m 12;
  end_to_end = four m 16;
}

-- the header, where the message has one
abbrev pub header_read : List ℕ → Option MessageHeader
header_read m = if nat_le 20 (length m) then Some (header_in m) else None

-- has the message a header, and the length that its header says?
abbrev pub length_verdict : List ℕ → Result (Unit {0}) Fault
length_verdict m = if nat_le 20 (length m) && (header_in m).length == length m then Ok tt else Err (fault_at MessageLength 0)
