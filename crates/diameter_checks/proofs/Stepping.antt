-- The list keeps its law.
use Rattle.std.proofs.Common.{◌≡◌, ℕ, suc, ◌+◌, List, [], drop, sym, refl, ap, ◌∙◌}
use Rattle.diameter_headers.specs.Framing.{data_of, padded}
use Rattle.diameter_headers.specs.Headers.{code_of, header_len, length_of, vendor_of}
use Rattle.diameter_headers.specs.declared.place.Kind.{Kind}
use Rattle.diameter_headers.specs.declared.place.Kind.TheVariants.{Unknown, Number, Octets, Group}
use Rattle.diameter.specs.Listing.{append, entry_at, kind_in, level, listed, listing, members, more}
use Rattle.diameter.specs.Values.{value_of}
use Rattle.diameter.proofs.Levels.{level_done, level_fault, level_more}
use Rattle.diameter_checks.specs.Steps.{Steps, part}

module _ {P : Type 0} (kinds : P → ℕ → ℕ → Kind P) (rank : P → ℕ) (falls : (p q : P) (code vendor : ℕ) → kinds p code vendor ≡ Group q → suc (rank q) ≡ rank p) where
  -- the members of a group are listed as its place asks
  members_part : (p : P) (code vendor : ℕ) (k : Kind P) → kinds p code vendor ≡ k → (at start : ℕ) (ys : List ℕ) → members (listed kinds (rank p)) k at start ys ≡ members (part kinds rank) k at start ys
  members_part p code vendor Unknown is at start ys = refl
  members_part p code vendor Number is at start ys = refl
  members_part p code vendor Octets is at start ys = refl
  members_part p code vendor (Group q) is at start ys = sym (ap (λ n. listed kinds n q at start ys) (falls p q code vendor is))

  pub keeps_steps : Steps kinds rank
  unfolding listing listed
  keeps_steps = record {
    begins = λ p m. refl;
    ends = λ p parent at. level_done kinds (listed kinds (rank p)) p parent at [] refl;
    stops = λ p parent at xs some broken. level_fault kinds (listed kinds (rank p)) p parent at xs some broken;
    goes_on = λ p parent at xs framed.
        level_more kinds (listed kinds (rank p)) p parent at xs framed
        ∙ ap (λ l. more (entry_at kinds p parent at xs) (value_of (kind_in kinds p xs) (data_of xs)) (append l (level kinds (listed kinds (rank p)) p parent 0 (at + padded (length_of xs)) (drop (padded (length_of xs)) xs)))) (members_part p (code_of xs) (vendor_of xs) (kind_in kinds p xs) refl at (at + header_len xs) (data_of xs));
  }
