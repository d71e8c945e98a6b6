-- The list of some octets, one AVP at a time.
use Rattle.std.proofs.Common.{◌≡◌, ℕ, zero, suc, ◌+◌, ◌-◌, ◌<◌, ◌≤◌, true, false, cond, List, [], ◌∷◌, length, drop, sym, refl, ap, ◌∙◌, ⊎_elim, add-zero, arith, le-leb, leb-true}
use Rattle.std.proofs.lemmas.Bool.{and_parts, cases_Bool}
use Rattle.diameter_headers.specs.Framing.{framed, Framed, padded, data_of}
use Rattle.diameter_headers.specs.Headers.{length_of, header_len, plain}
use Rattle.diameter.specs.Listing.{Listing, done, fault, more, append, members, kind_in, entry_at, level}
use Rattle.diameter.specs.Values.{value_of}
use Rattle.diameter_headers.specs.declared.place.Kind.{Kind}

pub framed_true : {P : Type 0} (k : Kind P) (xs : List ℕ) → Framed k xs → framed k xs ≡ true
unfolding framed
framed_true k xs f = simp (le-leb 8 (length xs) f.begun, le-leb (header_len xs) (length_of xs) f.covers, le-leb (padded (length_of xs)) (length xs) f.whole) f.fits

-- the test tells that the AVP is well framed
pub framed_is : {P : Type 0} (k : Kind P) (xs : List ℕ) → framed k xs ≡ true → Framed k xs
unfolding framed
framed_is k xs t =
    let first = and_parts _ _ t in
    let second = and_parts _ _ first.1 in
    let third = and_parts _ _ second.1 in
    record {
      begun = leb-true _ _ first.0;
      covers = leb-true _ _ second.0;
      whole = leb-true _ _ third.0;
      fits = third.1;
    }

framed_false : {P : Type 0} (k : Kind P) (xs : List ℕ) → (Framed k xs → ⊥) → framed k xs ≡ false
framed_false k xs broken = ⊎_elim (λ t. absurd (broken (framed_is k xs t))) (λ f. f) (cases_Bool (framed k xs))

pub header_least : (xs : List ℕ) → 8 ≤ header_len xs
header_least xs = elim (plain xs) as (λ b. 8 ≤ cond b 8 12) [ true ↦ omega arith | false ↦ omega arith ]

module _ {P : Type 0} (kinds : P → ℕ → ℕ → Kind P) (inner : P → ℕ → ℕ → List ℕ → Listing P) (p : P) (parent : ℕ) where
  -- to skip octets is to begin further on
  pub level_skip : (k at : ℕ) (xs : List ℕ) → level kinds inner p parent k at xs ≡ level kinds inner p parent 0 (at + k) (drop k xs)
  unfolding level
  level_skip zero at xs = ap (λ n. level kinds inner p parent 0 n xs) (sym (add-zero at))
  level_skip (suc k) at [] = refl
  level_skip (suc k) at (x ∷ xs) = level_skip k (at + 1) xs ∙ ap (λ n. level kinds inner p parent 0 n (drop k xs)) (omega arith)

  further : (at n q x : ℕ) (xs : List ℕ) → n ≡ suc q → level kinds inner p parent 0 (at + 1 + q) (drop q xs) ≡ level kinds inner p parent 0 (at + n) (drop n (x ∷ xs))
  further at n q x xs e = rw e (ap (λ n. level kinds inner p parent 0 n (drop q xs)) (omega arith))

  -- a well framed AVP comes first, then its members, then what follows its padding
  pub level_more : (at : ℕ) (xs : List ℕ) → Framed (kind_in kinds p xs) xs → level kinds inner p parent 0 at xs ≡ more (entry_at kinds p parent at xs) (value_of (kind_in kinds p xs) (data_of xs)) (append (members inner (kind_in kinds p xs) at (at + header_len xs) (data_of xs)) (level kinds inner p parent 0 (at + padded (length_of xs)) (drop (padded (length_of xs)) xs)))
  unfolding level
  level_more at [] f = absurd (omega (arith, f.begun))
  level_more at (x ∷ xs) f =
      let l = x ∷ xs in
      let n = padded (length_of l) in
      let k = kind_in kinds p l in
      let m = members inner k at (at + header_len l) (data_of l) in
      ap (λ b. cond b (more (entry_at kinds p parent at l) (value_of k (data_of l)) (append m (level kinds inner p parent (n - 1) (at + 1) xs))) (fault at)) (framed_true k l f)
      ∙ ap (λ t. more (entry_at kinds p parent at l) (value_of k (data_of l)) (append m t)) (level_skip (n - 1) (at + 1) xs ∙ further at n (n - 1) x xs (omega (arith, f.covers, header_least l)))

  -- octets that are left, and no well framed AVP
  pub level_fault : (at : ℕ) (xs : List ℕ) → 0 < length xs → (Framed (kind_in kinds p xs) xs → ⊥) → level kinds inner p parent 0 at xs ≡ fault at
  unfolding level
  level_fault at [] some f = absurd (omega arith)
  level_fault at (x ∷ xs) some f =
      let l = x ∷ xs in
      let k = kind_in kinds p l in
      ap (λ b. cond b (more (entry_at kinds p parent at l) (value_of k (data_of l)) (append (members inner k at (at + header_len l) (data_of l)) (level kinds inner p parent (padded (length_of l) - 1) (at + 1) xs))) (fault at)) (framed_false k l f)

  pub level_done : (at : ℕ) (xs : List ℕ) → length xs ≡ 0 → level kinds inner p parent 0 at xs ≡ done
  unfolding level
  level_done at [] none = refl
  level_done at (x ∷ xs) none = absurd (omega arith)
