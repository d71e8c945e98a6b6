-- How one AVP is shown: a line with its offset, code, vendor, flags and data, indented by the groups that it stands in.
use Rattle.std.specs.Prelude.{ℕ, Bool, not, ◌&&◌, if◌then◌else◌, List, [], ◌∷◌, ◌++◌, codes, decimal, ◌==◌}
use Rattle.std.specs.List.{list_all}
use Rattle.diameter.specs.Values.{Value, number, octets, group}
use Rattle.diameter.specs.declared.entry.Entry.{Entry}
use Rattle.hex_text.specs.Hex.{hex_text, within}
use Rattle.gx_dictionary.specs.declared.dictionary.Part.{Part}
use Rattle.gx_dictionary.specs.declared.dictionary.Part.TheVariants.{Message, ExperimentalResult, Remove, Install, Definition}

-- two spaces for each group
abbrev pub indent_of : Part → List ℕ
indent_of Message = []
indent_of ExperimentalResult = codes "  "
indent_of Remove = codes "  "
indent_of Install = codes "  "
indent_of Definition = codes "    "

-- a printable character of ASCII, but for the quote and the backslash
abbrev pub printable : ℕ → Bool
printable c = within 32 126 c && not (c == 34) && not (c == 92)

-- all of them are
abbrev pub all_printable : List ℕ → Bool
all_printable ys = list_all printable ys

-- quoted text, where all of it is printable, else hexadecimal
abbrev pub octets_text : List ℕ → List ℕ
octets_text ys =
    if all_printable ys then codes "\"" ++ (ys ++ codes "\"")
    else codes "0x" ++ hex_text ys

-- a number in decimal; the members of a group follow on lines of their own
abbrev pub value_text : Value → List ℕ
value_text (number n) = decimal n
value_text (octets ys) = octets_text ys
value_text (group ys) = codes "group"

-- offset, code and vendor in decimal, flags in hexadecimal, and the data
unfoldable pub line_of : Entry Part → Value → List ℕ
line_of e v = indent_of e.place ++ (decimal e.offset ++ (codes ": code " ++ (decimal e.code ++ (codes " vendor " ++ (decimal e.vendor ++ (codes " flags 0x" ++ (hex_text (e.flags ∷ []) ++ (codes " " ++ (value_text v ++ codes "\n")))))))))
