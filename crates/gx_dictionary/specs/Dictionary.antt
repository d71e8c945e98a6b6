-- What each AVP is where, as far as a message is shown: codes from 500 on have the vendor 10415, others none.
use Rattle.std.specs.Prelude.{Bool, false, ◌||◌, if◌then◌else◌, List, [], ◌∷◌, ℕ, ◌==◌}
use Rattle.diameter_headers.specs.declared.place.Kind.{Kind}
use Rattle.diameter_headers.specs.declared.place.Kind.TheVariants.{Unknown, Number, Octets, Group}
use Rattle.gx_dictionary.specs.declared.dictionary.Part.{Part}
use Rattle.gx_dictionary.specs.declared.dictionary.Part.TheVariants.{Message, ExperimentalResult, Remove, Install, Definition}

-- n is one of the list
abbrev pub one_of : List ℕ → ℕ → Bool
one_of [] n = false
one_of (x ∷ xs) n = n == x || one_of xs n

-- by vendor: none, 10415, or another, of which nothing is known
abbrev pub by_vendor : ℕ → Kind Part → Kind Part → Kind Part
by_vendor vendor base gx =
    if vendor == 0 then base
    else if vendor == 10415 then gx
    else Unknown

-- 8 Framed-IP-Address, 258 Auth-Application-Id, 263 Session-Id, 264 Origin-Host, 268 Result-Code, 283 Destination-Realm,
-- 285 Re-Auth-Request-Type, 293 Destination-Host, 296 Origin-Realm, 297 Experimental-Result, 415 CC-Request-Number,
-- 416 CC-Request-Type; 1001 Charging-Rule-Install, 1002 Charging-Rule-Remove, 1006 Event-Trigger.
-- 278, 279, 281, 282, 284, 618, 505 and 510 are nobody's to look into: whatever they hold, they are octets here.
-- 266 Vendor-Id, 298 Experimental-Result-Code; 1003 Charging-Rule-Definition, 1004 Charging-Rule-Base-Name, 1005 Charging-Rule-Name;
-- 432 Rating-Group, 439 Service-Identifier, 507 Flow-Description, 1007 Metering-Method, 1008 Offline, 1009 Online,
-- 1010 Precedence, 1011 Reporting-Level.
abbrev pub kinds_of : Part → ℕ → ℕ → Kind Part
kinds_of Message code vendor =
    by_vendor vendor
    (if one_of (258 ∷ 268 ∷ 285 ∷ 415 ∷ 416 ∷ []) code then Number
    else if code == 297 then Group ExperimentalResult
    else if one_of (8 ∷ 263 ∷ 264 ∷ 278 ∷ 279 ∷ 281 ∷ 282 ∷ 283 ∷ 284 ∷ 293 ∷ 296 ∷ []) code then Octets
    else Unknown)
    (if code == 1001 then Group Install
    else if code == 1002 then Group Remove
    else if code == 1006 then Number
    else if code == 618 then Octets
    else Unknown)
kinds_of ExperimentalResult code vendor = by_vendor vendor (if one_of (266 ∷ 298 ∷ []) code then Number else Unknown) Unknown
kinds_of Remove code vendor = by_vendor vendor Unknown (if one_of (1004 ∷ 1005 ∷ []) code then Octets else Unknown)
kinds_of Install code vendor =
    by_vendor vendor Unknown
    (if code == 1003 then Group Definition
    else if one_of (1004 ∷ 1005 ∷ []) code then Octets
    else Unknown)
kinds_of Definition code vendor =
    by_vendor vendor
    (if one_of (432 ∷ 439 ∷ []) code then Number else Unknown)
    (if one_of (1007 ∷ 1008 ∷ 1009 ∷ 1010 ∷ 1011 ∷ []) code then Number
    else if one_of (505 ∷ 507 ∷ 510 ∷ 1005 ∷ []) code then Octets
    else Unknown)

-- a group's members rank one below what the group stands in
abbrev pub rank_of : Part → ℕ
rank_of Message = 2
rank_of ExperimentalResult = 1
rank_of Remove = 1
rank_of Install = 1
rank_of Definition = 0
