-- Octets as hexadecimal text, and back.
use Rattle.std.specs.Prelude.{◌≡◌, ℕ, ◌+◌, ◌-◌, ◌*◌, ◌/◌, ◌%◌, Bool, ◌&&◌, ◌||◌, if◌then◌else◌, List, [], ◌∷◌, Some, None, Ok, Err, Option, Result, ◌==◌, nat_le, nat_lt}
use Rattle.std.specs.List.{flat_map}
use Rattle.hex_text.specs.declared.hex.HexError.{HexError}
use Rattle.hex_text.specs.declared.hex.HexError.TheVariants.{NotADigit, HalfOctet, NoMemory}

-- the digit of a number below 16: 0 to 9, a to f
abbrev pub digit : ℕ → ℕ
digit n = if nat_lt n 10 then 48 + n else 87 + n

-- the two digits of an octet
abbrev pub digits_of : ℕ → List ℕ
digits_of x = digit (x / 16) ∷ digit (x % 16) ∷ []

-- two digits for each octet
abbrev pub hex_text : List ℕ → List ℕ
hex_text octets = flat_map digits_of octets

-- from low to high
abbrev pub within : ℕ → ℕ → ℕ → Bool
within low high c = nat_le low c && nat_le c high

-- the number of a digit: 0 to 9, a to f or A to F
abbrev pub digit_value : ℕ → Option ℕ
digit_value c =
    if within 48 57 c then Some (c - 48)
    else if within 97 102 c then Some (c - 87)
    else if within 65 70 c then Some (c - 55)
    else None

-- space, tab, line feed and carriage return
abbrev pub is_blank : ℕ → Bool
is_blank c = c == 32 || c == 9 || c == 10 || c == 13

-- an octet and those after it
abbrev pub octet_then : ℕ → Result (List ℕ) HexError → Result (List ℕ) HexError
octet_then x (Ok xs) = Ok (x ∷ xs)
octet_then x (Err e) = Err e

-- one digit more, at a place, after the first half of an octet or none
abbrev pub digit_then : ℕ → Option ℕ → Option ℕ → (Option ℕ → Result (List ℕ) HexError) → Result (List ℕ) HexError
digit_then at None half rest = Err (NotADigit at)
digit_then at (Some d) None rest = rest (Some d)
digit_then at (Some d) (Some h) rest = octet_then (h * 16 + d) (rest None)

-- the end of the text, after the first half of an octet or none
abbrev pub ended : Option ℕ → Result (List ℕ) HexError
ended None = Ok []
ended (Some h) = Err HalfOctet

-- the octets of a text, two digits each, blanks passed over; `at` is the place of its first character
unfoldable pub hex_read : ℕ → Option ℕ → List ℕ → Result (List ℕ) HexError
hex_read at half [] = ended half
hex_read at half (c ∷ cs) =
    if is_blank c then hex_read (at + 1) half cs
    else digit_then at (digit_value c) half (λ next. hex_read (at + 1) next cs)

-- r is what the text reads as, or says that memory ran out
abbrev pub HexRead : {V : Type 0} → (V → List ℕ) → List ℕ → Result V HexError → Type 0
HexRead items text (Ok v) = Ok (items v) ≡ hex_read 0 None text
HexRead items text (Err NoMemory) = Unit {0}
HexRead items text (Err (NotADigit at)) = Err (NotADigit at) ≡ hex_read 0 None text
HexRead items text (Err HalfOctet) = Err HalfOctet ≡ hex_read 0 None text
