-- The record of a key, by the place of its row.
use Rattle.std.proofs.Common.{◌≡◌, ℕ, zero, suc, ◌<◌, ◌≤◌, Bool, true, false, cond, ◌⊎◌, List, [], ◌∷◌, length, get_or, take, set, Some, None, Decides, Option, sym, refl, ap, ◌∙◌, inl, inr, ⊎_elim, arith}
use Rattle.std.proofs.lemmas.List.{get_or-take, length-take-le, get_or-set_same, get_or-set_other, get_or_default}
use Rattle.std.proofs.lemmas.Bool.{cases_Bool, cond-true, cond-false, both_ways, cases_eq}
use Rattle.std.specs.List.{position, position_or_len}
use Rattle.std.proofs.lemmas.Grind.{common_steps}
use Rattle.std.proofs.lemmas.List.Quantifiers.{position-Some}
use Rattle.std.proofs.lemmas.List.Sums.{fails_before_first}
use Rattle.stores.specs.Places.{Absent, Place}
use Rattle.stores.specs.Rows.{lookup, Dense}
use Rattle.stores.specs.declared.row.Row.{Row}

-- a row after a write
pub row_set : {K R : Type 0} (rows : List (Row K R)) (i j : ℕ) (x d : Row K R) → i < length rows → ((j ≡ i) × (get_or (set rows i x) j d ≡ x)) ⊎ ((j ≡ i → ⊥) × (get_or (set rows i x) j d ≡ get_or rows j d))
row_set rows i j x d l =
    ⊎_elim (λ p. inl (p, ap (λ m. get_or (set rows i x) m d) p ∙ get_or-set_same rows i x d l))
    (λ ne. inr (ne, get_or-set_other rows i j x d ne))
    (cases_eq j i)

-- the first of the rows in use that passes a test for the key k
module _ {K R : Type 0} (e : K → K → Bool) (equal : (x y : K) → Decides (e x y) (x ≡ y)) (rows : List (Row K R)) (n : ℕ) (k : K) (l : n ≤ length rows) where
  abbrev like : Row K R → Bool
  like row = e row.key k

  front : (i : ℕ) (d : Row K R) → i < n → (get_or (take n rows) i d).key ≡ (get_or rows i d).key
  front i d a = ap (λ x. x.key) (get_or-take n rows i d a)

  past : position like (take n rows) ≡ None → length (take n rows) ≤ position_or_len like (take n rows)
  past e = grind (arith, common_steps)

  found_in : (i : ℕ) → position like (take n rows) ≡ Some i → i < length (take n rows)
  found_in i e = grind (arith, common_steps)

  -- the place that is found is the key's
  pub place_found : (o : Option ℕ) → o ≡ position like (take n rows) → Place rows n k o
  place_found None is = λ j d a p.
      let none = past (sym is) in
      both_ways _ (fails_before_first like (take n rows) j d (omega (arith, none, length-take-le n rows l))) ((equal _ k).1 (front j d a ∙ p))
  place_found (Some i) is = record {
    within = omega (arith, found_in i (sym is), length-take-le n rows l);
    key = λ d. (let t = position-Some like (take n rows) i d (sym is) in
        sym (front i d (omega (arith, length-take-le n rows l, t.0))) ∙ (equal _ k).0 t.1);
  }

module _ {K : Type 0} (e : K → K → Bool) (equal : (x y : K) → Decides (e x y) (x ≡ y)) where
  unlike : (x y : K) → (x ≡ y → ⊥) → e x y ≡ false
  unlike x y p = ⊎_elim (λ t. absurd (p ((equal x y).0 t))) (λ f. f) (cases_Bool (e x y))

  module _ {R : Type 0} where
    lookup_first : (rows : List (Row K R)) (n i : ℕ) (d : Row K R) (k : K) → i < n → n ≤ length rows → (get_or rows i d).key ≡ k → Absent rows i k → lookup e (take n rows) k ≡ Some (get_or rows i d).value
    lookup_first [] n i d k a l h b = absurd (omega arith)
    lookup_first (x ∷ xs) zero i d k a l h b = absurd (omega arith)
    lookup_first (x ∷ xs) (suc n) zero d k a l h b = cond-true (e k x.key) _ _ ((equal k x.key).1 (sym h))
    lookup_first (x ∷ xs) (suc n) (suc i) d k a l h b =
        cond-false (e k x.key) _ _ (unlike k x.key (λ p. b 0 d (omega arith) (sym p)))
        ∙ lookup_first xs n i d k (omega arith) (omega arith) h (λ j c m q. b (suc j) c (omega arith) q)

    pub lookup_absent : (rows : List (Row K R)) (n : ℕ) (k : K) → Absent rows n k → lookup e (take n rows) k ≡ None
    lookup_absent [] zero k b = refl
    lookup_absent [] (suc n) k b = refl
    lookup_absent (x ∷ xs) zero k b = refl
    lookup_absent (x ∷ xs) (suc n) k b =
        cond-false (e k x.key) _ _ (unlike k x.key (λ p. b 0 x (omega arith) (sym p)))
        ∙ lookup_absent xs n k (λ j c m q. b (suc j) c (omega arith) q)

    pub lookup_row : (rows : List (Row K R)) (n i : ℕ) (d : Row K R) (k : K) → Dense rows n → i < n → (get_or rows i d).key ≡ k → lookup e (take n rows) k ≡ Some (get_or rows i d).value
    lookup_row rows n i d k h a p =
        let l = h.fits in
        lookup_first rows n i d k a l p (λ j c m q. h.apart j i c m a (q ∙ sym p ∙ ap (λ x. x.key) (get_or_default rows i d c (omega arith))))

    -- a key is absent, or has a place
    pub key_cases : (rows : List (Row K R)) (n : ℕ) (k : K) → n ≤ length rows → Absent rows n k ⊎ ((i : ℕ) × (i < n) × ((d : Row K R) → (get_or rows i d).key ≡ k))
    key_cases [] zero k l = inl (λ j d a p. omega arith)
    key_cases [] (suc n) k l = absurd (omega arith)
    key_cases (x ∷ xs) zero k l = inl (λ j d a p. omega arith)
    key_cases (x ∷ xs) (suc n) k l = go (cases_Bool (e x.key k)) (key_cases xs n k (omega arith))
      where
        miss : e x.key k ≡ false → Absent xs n k → Absent (x ∷ xs) (suc n) k
        miss f b zero d a p = both_ways _ f ((equal x.key k).1 p)
        miss f b (suc j) d a p = b j d (omega arith) p

        go : (e x.key k ≡ true) ⊎ (e x.key k ≡ false) → Absent xs n k ⊎ ((i : ℕ) × (i < n) × ((d : Row K R) → (get_or xs i d).key ≡ k)) → Absent (x ∷ xs) (suc n) k ⊎ ((i : ℕ) × (i < suc n) × ((d : Row K R) → (get_or (x ∷ xs) i d).key ≡ k))
        go (inl t) r = inr (0, omega arith, λ d. (equal x.key k).0 t)
        go (inr f) (inl b) = inl (miss f b)
        go (inr f) (inr r) = inr (suc r.0, omega (arith, r.1), r.2)

    -- the rows changed, and what stands at the key q did not
    pub lookup_kept : (rows rows' : List (Row K R)) (n n' : ℕ) (q : K) (d : Row K R) → Dense rows n → Dense rows' n'
        → ((i : ℕ) → i < n → (get_or rows i d).key ≡ q → (i' : ℕ) × (i' < n') × (get_or rows' i' d ≡ get_or rows i d))
        → (Absent rows n q → Absent rows' n' q) → lookup e (take n' rows') q ≡ lookup e (take n rows) q
    lookup_kept rows rows' n n' q d h h' on off =
        ⊎_elim (λ b. lookup_absent rows' n' q (off b) ∙ sym (lookup_absent rows n q b))
        (λ r. let p = on r.0 r.1 (r.2 d) in
        lookup_row rows' n' p.0 d q h' p.1 (ap (λ x. x.key) p.2 ∙ r.2 d)
        ∙ ap (λ x. Some x.value) p.2
        ∙ sym (lookup_row rows n r.0 d q h r.1 (r.2 d)))
        (key_cases rows n q h.fits)

    -- a look-up, by whether it is at k
    pub lookup_by_key : (es es' : List (Row K R)) (k q : K) (w : Option R) → lookup e es' k ≡ w → ((q ≡ k → ⊥) → lookup e es' q ≡ lookup e es q) → lookup e es' q ≡ cond (e q k) w (lookup e es q)
    lookup_by_key es es' k q w here there =
        ⊎_elim (λ t. ap (lookup e es') ((equal q k).0 t) ∙ here ∙ sym (cond-true (e q k) w (lookup e es q) t))
        (λ f. there (λ p. both_ways _ f ((equal q k).1 p)) ∙ sym (cond-false (e q k) w (lookup e es q) f))
        (cases_Bool (e q k))
