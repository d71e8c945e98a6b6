-- What a visitor was shown of one list and then of another.
use Rattle.std.proofs.Common.{Ok, Err, Result, subst}
use Rattle.std.proofs.lemmas.Result.{MatchResult-weaker}
use Rattle.refusals.specs.declared.fault.Fault.{Fault}
use Rattle.refusals.specs.declared.refusal.Refusal.{Refusal}
use Rattle.diameter.specs.Listing.{Listing, done, fault, more, append}
use Rattle.diameter.specs.Values.{Value}
use Rattle.diameter.specs.Visiting.{Shown}
use Rattle.diameter.specs.declared.entry.Entry.{Entry}

module _ {P V : Type 0} (shows : V → Entry P → Value → Result (Unit {0}) Refusal → V → Type 0) where
  -- all of the first list was shown: the second comes next
  pub shown_then : (l k : Listing P) (u x w : V) (r : Result (Unit {0}) Fault) → Shown shows u l (Ok tt) x → Shown shows x k r w → Shown shows u (append l k) r w
  unfolding Shown append
  shown_then done k u x w r s t = subst (λ y. Shown shows y k r w) s.1 t
  shown_then (fault at) k u x w r s t = cc s.0
  shown_then (more e v l) k u x w r s t = (s.0, s.1, s.2, MatchResult-weaker s.0 s.3 (λ _ h. shown_then l k s.1 x w r h t) (λ refusal h. cc h.0))

  -- the first list ended in a fault: nothing of the second was shown
  pub shown_stops : (l k : Listing P) (u w : V) (f : Fault) → Shown shows u l (Err f) w → Shown shows u (append l k) (Err f) w
  unfolding Shown append
  shown_stops done k u w f s = cc s.0
  shown_stops (fault at) k u w f s = s
  shown_stops (more e v l) k u w f s = (s.0, s.1, s.2, MatchResult-weaker s.0 s.3 (λ _ h. shown_stops l k s.1 w f h) (λ refusal h. h))
