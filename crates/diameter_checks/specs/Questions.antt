-- What is asked of a whole list.
use Rattle.std.specs.Prelude.{ℕ, Bool, ◌&&◌, if◌then◌else◌, Some, None, Ok, Err, Option, Result, ◌==◌}
use Rattle.refusals.specs.Faults.{fault_at}
use Rattle.refusals.specs.declared.fault.Fault.{Fault}
use Rattle.refusals.specs.declared.refusal.Refusal.TheVariants.{AvpLength}
use Rattle.diameter.specs.Listing.{Listing, done, fault, more}
use Rattle.diameter.specs.declared.entry.Entry.{Entry}

-- is every AVP well framed? The first that is not
unfoldable pub framing : {P : Type 0} → Listing P → Result (Unit {0}) Fault
framing done = Ok tt
framing (fault at) = Err (fault_at AvpLength at)
framing (more e v l) = framing l

-- the AVP has this code and vendor
abbrev pub named : {P : Type 0} → ℕ → ℕ → Entry P → Bool
named code vendor e = e.code == code && e.vendor == vendor

-- the first AVP of the list with this code and vendor
unfoldable pub first : {P : Type 0} → ℕ → ℕ → Listing P → Option (Entry P)
first code vendor done = None
first code vendor (fault at) = None
first code vendor (more e v l) = if named code vendor e then Some e else first code vendor l
