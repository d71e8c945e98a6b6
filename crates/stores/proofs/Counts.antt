-- How many keys a map has hangs on which keys it has, and on no order: maps with the same keys have the same count.
use Rattle.std.proofs.Common.{◌≡◌, ℕ, zero, suc, ◌<◌, ◌≤◌, true, cond, eqb, ◌≢◌, ◌⊎◌, List, [], ◌∷◌, length, get_or, is_some, sym, ap, ◌∙◌, inl, inr, ⊎_elim, suc-le-suc, arith}
use Rattle.std.proofs.lemmas.Bool.{cases_eq, cond-true, cond-false, eq-eqb, ne_eqb}
use Rattle.stores.specs.Maps.{Map, has}
use Rattle.stores.specs.Numbering.{Numbers}

-- numbers below m that all differ are at most m
at_most : (n m : ℕ) (f : (i : ℕ) → i < n → ℕ) → ((i : ℕ) (a : i < n) → f i a < m) → ((i j : ℕ) (a : i < n) (b : j < n) → i < j → f i a ≡ f j b → ⊥) → n ≤ m
at_most zero m f low differ = omega arith
at_most (suc n) zero f low differ = absurd (let a = low n (omega arith) in omega arith)
at_most (suc n) (suc m) f low differ = suc-le-suc (at_most n m g g_low g_differ)
  where
    up : (i : ℕ) → i < n → i < suc n
    up i a = omega arith

    top : n < suc n
    top = omega arith

    -- the last number in place of the highest
    g : (i : ℕ) → i < n → ℕ
    g i a = cond (eqb (f i (up i a)) m) (f n top) (f i (up i a))

    g_cases : (i : ℕ) (a : i < n) → ((f i (up i a) ≡ m) × (g i a ≡ f n top)) ⊎ ((f i (up i a) ≢ m) × (g i a ≡ f i (up i a)))
    g_cases i a =
        ⊎_elim (λ p. inl (p, cond-true (eqb (f i (up i a)) m) _ _ (eq-eqb (f i (up i a)) m p)))
        (λ p. inr (p, cond-false (eqb (f i (up i a)) m) _ _ (ne_eqb (f i (up i a)) m p)))
        (cases_eq (f i (up i a)) m)

    g_low : (i : ℕ) (a : i < n) → g i a < m
    g_low i a =
        let l = low i (up i a) in
        let t = low n top in
        ⊎_elim
        (λ c. let p = c.0 in let q = c.1 in let ne : f n top ≢ m = λ e. differ i n (up i a) top a (p ∙ sym e) in omega arith)
        (λ c. let p : f i (up i a) ≢ m = c.0 in let q = c.1 in omega arith)
        (g_cases i a)

    g_differ : (i j : ℕ) (a : i < n) (b : j < n) → i < j → g i a ≡ g j b → ⊥
    g_differ i j a b o e =
        ⊎_elim
        (λ c. ⊎_elim (λ d. differ i j (up i a) (up j b) o (c.0 ∙ sym d.0)) (λ d. differ j n (up j b) top b (sym d.1 ∙ sym e ∙ c.1)) (g_cases j b))
        (λ c. ⊎_elim (λ d. differ i n (up i a) top a (sym c.1 ∙ e ∙ d.1)) (λ d. differ i j (up i a) (up j b) o (sym c.1 ∙ e ∙ d.1)) (g_cases j b))
        (g_cases i a)

module _ {K R : Type 0} where
  no_more : (m m' : Map K R) (ks ks' : List K) → Numbers m ks → Numbers m' ks' → ((k : K) → has m k ≡ true → has m' k ≡ true) → length ks ≤ length ks'
  no_more m m' [] ks' w w' sub = omega arith
  no_more m m' (x ∷ xs) ks' w w' sub =
      at_most (length (x ∷ xs)) (length ks') (λ i a. (number i a).0) (λ i a. (number i a).1)
      (λ i j a b o e. w.once i j x o b (sym ((number i a).2 x) ∙ ap (λ n. get_or ks' n x) e ∙ (number j b).2 x))
    where
      number : (i : ℕ) → i < length (x ∷ xs) → (n : ℕ) × (n < length ks') × ((d : K) → get_or ks' n d ≡ get_or (x ∷ xs) i x)
      number i a = w'.numbered (get_or (x ∷ xs) i x) (sub (get_or (x ∷ xs) i x) (w.there i x a))

  pub counts_alike : (m m' : Map K R) (ks ks' : List K) → Numbers m ks → Numbers m' ks' → ((k : K) → m.at k ≡ m'.at k) → m.count ≡ m'.count
  counts_alike m m' ks ks' w w' same =
      let a = no_more m m' ks ks' w w' (λ k t. sym (ap is_some (same k)) ∙ t) in
      let b = no_more m' m ks' ks w' w (λ k t. ap is_some (same k) ∙ t) in
      let c = w.counted in
      let d = w'.counted in
      omega arith
