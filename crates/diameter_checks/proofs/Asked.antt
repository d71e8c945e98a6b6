-- What the visitors of this crate find in the list that they were shown.
use Rattle.std.proofs.Common.{◌≡◌, Bool, true, false, cond, Some, None, Ok, Err, Option, Result, refl, ap, ◌∙◌, subst}
use Rattle.std.proofs.lemmas.Result.{MatchResult-at_ok}
use Rattle.std.specs.Option.{option_or}
use Rattle.refusals.specs.Faults.{fault_at}
use Rattle.refusals.specs.declared.fault.Fault.{Fault}
use Rattle.refusals.specs.declared.refusal.Refusal.{Refusal}
use Rattle.diameter.specs.Listing.{Listing, done, fault, more}
use Rattle.diameter_checks.specs.Questions.{framing, first, named}
use Rattle.diameter.specs.Values.{Value}
use Rattle.diameter.specs.Visiting.{Shown}
use Rattle.diameter.specs.declared.entry.Entry.{Entry}
use Rattle.diameter_checks.specs.declared.lookup.First.{First}

-- a visitor that lets every AVP pass and goes on as `after` says
module _ {P V : Type 0} (after : V → Entry P → Value → V) where
  abbrev pub Passes : V → Entry P → Value → Result (Unit {0}) Refusal → V → Type 0
  Passes u e v a w = (a ≡ Ok tt) × (w ≡ after u e v)

  -- it was shown the rest of the list after the first AVP
  passes_more : (u : V) (e : Entry P) (v : Value) (l : Listing P) (r : Result (Unit {0}) Fault) (w : V) → Shown Passes u (more e v l) r w → Shown Passes (after u e v) l r w
  unfolding Shown
  passes_more u e v l r w s = subst (λ x. Shown Passes x l r w) s.2.1 (MatchResult-at_ok (λ _. Shown Passes s.1 l r w) (λ refusal. (r ≡ Err (fault_at refusal e.offset)) × (w ≡ s.1)) tt s.2.0 s.3)

  -- it stops only where the framing does
  pub shown_framing : (l : Listing P) (u : V) (r : Result (Unit {0}) Fault) (w : V) → Shown Passes u l r w → r ≡ framing l
  unfolding Shown framing
  shown_framing done u r w s = s.0
  shown_framing (fault at) u r w s = s.0
  shown_framing (more e v l) u r w s = shown_framing l (after u e v) r w (passes_more u e v l r w s)

or_none : {A : Type 0} (o : Option A) → o ≡ option_or o None
or_none None = refl
or_none (Some x) = refl

-- what was found stays, and what comes after is found where nothing was
kept_first : {A : Type 0} (o : Option A) (b : Bool) (x : A) (p : Option A) → option_or (cond b (option_or o (Some x)) o) p ≡ option_or o (cond b (Some x) p)
kept_first None true x p = refl
kept_first None false x p = refl
kept_first (Some y) true x p = refl
kept_first (Some y) false x p = refl

abbrev pub kept : {P : Type 0} → First P → Entry P → Value → First P
kept u e v = record u { found = cond (named u.code u.vendor e) (option_or u.found (Some e)) u.found }

-- the first AVP of its name is what it holds already or the first of the list
pub shown_first : {P : Type 0} (l : Listing P) (u : First P) (r : Result (Unit {0}) Fault) (w : First P) → Shown (Passes kept) u l r w → w.found ≡ option_or u.found (first u.code u.vendor l)
unfolding Shown first
shown_first done u r w s = ap (λ x. x.found) s.1 ∙ or_none u.found
shown_first (fault at) u r w s = ap (λ x. x.found) s.1 ∙ or_none u.found
shown_first (more e v l) u r w s = shown_first l (kept u e v) r w (passes_more kept u e v l r w s) ∙ kept_first u.found (named u.code u.vendor e) e (first u.code u.vendor l)
