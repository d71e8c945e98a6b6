-- A message as text: its header, its AVPs, and how it ends.
use Rattle.std.specs.Prelude.{ℕ, if◌then◌else◌, List, [], ◌∷◌, ◌++◌, length, Ok, Err, codes, decimal, Result, ◌==◌, nat_le}
use Rattle.refusals.specs.Texts.{refusal_text}
use Rattle.refusals.specs.declared.fault.Fault.{Fault}
use Rattle.refusals.specs.declared.refusal.Refusal.TheVariants.{MessageLength}
use Rattle.diameter_headers.specs.Headers.{header_in}
use Rattle.diameter.specs.Listing.{Listing, done, fault, more, listing}
use Rattle.diameter_checks.specs.Questions.{framing}
use Rattle.diameter_headers.specs.declared.headers.MessageHeader.{MessageHeader}
use Rattle.gx_dictionary.specs.Dictionary.{kinds_of, rank_of}
use Rattle.hex_text.specs.Hex.{hex_text}
use Rattle.dump.specs.Lines.{line_of}
use Rattle.gx_dictionary.specs.declared.dictionary.Part.{Part}
use Rattle.gx_dictionary.specs.declared.dictionary.Part.TheVariants.{Message}

-- what a header says of its message, with the octets that the message really has
abbrev pub frame_line : MessageHeader → ℕ → List ℕ
frame_line h octets = codes "version " ++ (decimal h.version ++ (codes " length " ++ (decimal h.length ++ (codes " of " ++ (decimal octets ++ (codes " command " ++ (decimal h.command ++ (codes " flags 0x" ++ (hex_text (h.flags ∷ []) ++ codes "\n")))))))))

-- the application and the identifiers
abbrev pub identifiers_line : MessageHeader → List ℕ
identifiers_line h = codes "application " ++ (decimal h.application ++ (codes " hop-by-hop " ++ (decimal h.hop_by_hop ++ (codes " end-to-end " ++ (decimal h.end_to_end ++ codes "\n")))))

-- a message that has no whole header
abbrev pub short_line : ℕ → List ℕ
short_line octets = codes "fault at 0: the message has " ++ (decimal octets ++ (codes " octets, a header has 20 (" ++ (refusal_text MessageLength ++ codes ")\n")))

-- a header that says another length than the message has; nothing where they agree
abbrev pub length_line : ℕ → ℕ → List ℕ
length_line long octets =
    if long == octets then []
    else codes "fault at 0: the header says " ++ (decimal long ++ (codes " octets, the message has " ++ (decimal octets ++ (codes " (" ++ (refusal_text MessageLength ++ codes ")\n")))))

-- the lines of a header
unfoldable pub header_text : MessageHeader → ℕ → List ℕ
header_text h octets = frame_line h octets ++ (identifiers_line h ++ length_line h.length octets)

-- a line for each AVP, up to the end or to the fault
unfoldable pub lines : Listing Part → List ℕ
lines done = []
lines (fault at) = []
lines (more e v l) = line_of e v ++ lines l

-- a fault, by its offset and its refusal
abbrev pub fault_line : Fault → List ℕ
fault_line f = codes "fault at " ++ (decimal f.offset ++ (codes ": the AVP does not fit, does not cover its header, or is a number without four octets (" ++ (refusal_text f.refusal ++ codes ")\n")))

-- how the list ends
abbrev pub end_text : Result (Unit {0}) Fault → List ℕ
end_text (Ok x) = codes "end: every AVP is well framed\n"
end_text (Err f) = fault_line f

-- the AVPs and how they end
abbrev pub avps_text : List ℕ → List ℕ
avps_text m = lines (listing kinds_of rank_of Message m) ++ end_text (framing (listing kinds_of rank_of Message m))

-- the whole text: header and AVPs, or that there is no header
unfoldable pub dump_text : List ℕ → List ℕ
dump_text m =
    if nat_le 20 (length m) then header_text (header_in m) (length m) ++ avps_text m
    else short_line (length m)
