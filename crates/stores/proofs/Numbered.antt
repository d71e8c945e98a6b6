-- The rows in use number the keys of their map.
use Rattle.std.proofs.Common.{◌≡◌, ℕ, ◌<◌, Bool, true, List, [], ◌∷◌, length, get_or, take, is_some, Decides, sym, refl, ap, ◌∙◌, ⊎_elim, arith}
use Rattle.std.proofs.lemmas.List.{get_or-take, length-take-le, get_or-map, length-map}
use Rattle.std.proofs.lemmas.Bool.{both_ways}
use Rattle.stores.specs.Maps.{has}
use Rattle.stores.specs.Numbering.{Numbers}
use Rattle.stores.specs.Rows.{held, keys_of, Dense}
use Rattle.stores.specs.declared.row.Row.{Row}
use Rattle.stores.proofs.Lookups.{lookup_absent, lookup_row, key_cases}

-- rows that are there have one of them
pub some_row : {K R : Type 0} (rows : List (Row K R)) → 0 < length rows → Row K R
some_row [] a = absurd (omega arith)
some_row (x ∷ rows) a = x

module _ {K R : Type 0} (e : K → K → Bool) (equal : (x y : K) → Decides (e x y) (x ≡ y)) (rows : List (Row K R)) (n : ℕ) (h : Dense rows n) where
  counted : length (keys_of (take n rows)) ≡ n
  counted = length-map (take n rows) (λ x. x.key) ∙ length-take-le n rows h.fits

  key_at : (i : ℕ) (d : Row K R) (k : K) → i < n → get_or (keys_of (take n rows)) i k ≡ (get_or rows i d).key
  key_at i d k a = get_or-map (λ x. x.key) (take n rows) i d k (omega (arith, length-take-le n rows h.fits)) ∙ ap (λ x. x.key) (get_or-take n rows i d a)

  there : (i : ℕ) (k : K) → i < n → has (held e rows n) (get_or (keys_of (take n rows)) i k) ≡ true
  there i k a =
      let d = some_row rows (let l = h.fits in omega arith) in
      ap (λ q. has (held e rows n) q) (key_at i d k a) ∙ ap is_some (lookup_row e equal rows n i d (get_or rows i d).key h a refl)

  numbered : (k : K) → has (held e rows n) k ≡ true → (i : ℕ) × (i < n) × ((d : K) → get_or (keys_of (take n rows)) i d ≡ k)
  numbered k t =
      ⊎_elim (λ b. absurd (both_ways _ (ap is_some (lookup_absent e equal rows n k b)) t))
      (λ r. let x = some_row rows (let l = h.fits in let a = r.1 in omega arith) in (r.0, r.1, λ d. key_at r.0 x d r.1 ∙ r.2 x))
      (key_cases e equal rows n k h.fits)

  once : (i j : ℕ) (k : K) → i < j → j < n → get_or (keys_of (take n rows)) i k ≡ get_or (keys_of (take n rows)) j k → ⊥
  once i j k a b q =
      let d = some_row rows (let l = h.fits in omega arith) in
      h.apart i j d a b (sym (key_at i d k (omega arith)) ∙ q ∙ key_at j d k b)

  pub rows_number : Numbers (held e rows n) (keys_of (take n rows))
  rows_number = record {
    counted = counted;
    there = λ i d a. there i d (omega (arith, counted));
    numbered = λ k t. (let r = numbered k t in (r.0, omega (arith, counted, r.1), r.2));
    once = λ i j d a b. once i j d a (omega (arith, counted));
  }
