-- What a visitor was shown: the list in its order, up to the AVP that it refused, or to the fault, or to the end.
use Rattle.std.specs.Prelude.{◌≡◌, Ok, Err, Result, MatchResult}
use Rattle.refusals.specs.Faults.{fault_at}
use Rattle.refusals.specs.declared.fault.Fault.{Fault}
use Rattle.refusals.specs.declared.refusal.Refusal.{Refusal}
use Rattle.refusals.specs.declared.refusal.Refusal.TheVariants.{AvpLength}
use Rattle.diameter.specs.Listing.{Listing, done, fault, more}
use Rattle.diameter.specs.Values.{Value}
use Rattle.diameter.specs.declared.entry.Entry.{Entry}

-- `shows u e v a w`: the visitor u, shown the AVP e with the value v, answers a and is then w
module _ {P V : Type 0} (shows : V → Entry P → Value → Result (Unit {0}) Refusal → V → Type 0) where
  -- the visitor u was shown the list, ended as w, and r is how it went
  unfoldable pub Shown : V → Listing P → Result (Unit {0}) Fault → V → Type 0
  Shown u done r w = (r ≡ Ok tt) × (w ≡ u)
  Shown u (fault at) r w = (r ≡ Err (fault_at AvpLength at)) × (w ≡ u)
  Shown u (more e v l) r w =
      (a : Result (Unit {0}) Refusal) × (x : V) × shows u e v a x × MatchResult a (λ _. Shown x l r w) (λ refusal. (r ≡ Err (fault_at refusal e.offset)) × (w ≡ x))
