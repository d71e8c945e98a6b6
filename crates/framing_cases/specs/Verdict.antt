-- The verdict on a message: its length first, then its AVPs.
use Rattle.std.specs.Prelude.{ℕ, List, Ok, Err, Result}
use Rattle.refusals.specs.declared.fault.Fault.{Fault}
use Rattle.diameter_headers.specs.Headers.{length_verdict}
use Rattle.diameter.specs.Listing.{listing}
use Rattle.diameter_checks.specs.Questions.{framing}
use Rattle.gx_dictionary.specs.Dictionary.{kinds_of, rank_of}
use Rattle.gx_dictionary.specs.declared.dictionary.Part.TheVariants.{Message}

-- the first of two faults
abbrev pub and_then : Result (Unit {0}) Fault → Result (Unit {0}) Fault → Result (Unit {0}) Fault
and_then (Ok x) r = r
and_then (Err f) r = Err f

-- the length, then the AVPs
abbrev pub verdict : List ℕ → Result (Unit {0}) Fault
verdict m = and_then (length_verdict m) (framing (listing kinds_of rank_of Message m))
