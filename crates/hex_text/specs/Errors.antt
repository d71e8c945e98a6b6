-- What is said of a text that is no octets in hexadecimal.
use Rattle.std.specs.Prelude.{ℕ, List, ◌++◌, codes, decimal}
use Rattle.hex_text.specs.declared.hex.HexError.{HexError}
use Rattle.hex_text.specs.declared.hex.HexError.TheVariants.{NotADigit, HalfOctet, NoMemory}

abbrev pub error_text : HexError → List ℕ
error_text (NotADigit at) = codes "no hexadecimal digit at character " ++ (decimal at ++ codes " of the input")
error_text HalfOctet = codes "the last octet has only one digit"
error_text NoMemory = codes "not enough memory"
