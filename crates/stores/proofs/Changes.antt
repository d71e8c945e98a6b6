-- What finding, putting and removing do to rows, of which the first n are in use.
use Rattle.std.proofs.Common.{◌≡◌, ℕ, ◌+◌, ◌-◌, ◌<◌, ◌≤◌, Bool, true, false, cond, not, ◌||◌, ltb, ◌≢◌, List, length, get_or, take, set, is_some, Some, None, Decides, Option, sym, refl, ap, ◌∙◌, ⊎_elim, arith}
use Rattle.std.proofs.lemmas.List.{get_or-take, length-take-le, get_or-set_same, get_or-set_other, length-set, get_or-map, get_or_past, length-map}
use Rattle.std.proofs.lemmas.Bool.{cases_eq, cases_lt, lt-ltb, le-ltb}
use Rattle.std.specs.Option.{unwrap_or}
use Rattle.stores.specs.Functions.{Found, Put, Removed}
use Rattle.stores.specs.Reading.{ReadAt}
use Rattle.stores.specs.Places.{Absent, Here, Place}
use Rattle.stores.specs.Rows.{lookup, held, records_of, Dense}
use Rattle.stores.specs.declared.row.Row.{Row}
use Rattle.stores.proofs.Lookups.{row_set, lookup_absent, lookup_row, lookup_kept, lookup_by_key}

module _ {K R : Type 0} (e : K → K → Bool) (equal : (x y : K) → Decides (e x y) (x ≡ y)) (rows : List (Row K R)) (n : ℕ) (h : Dense rows n) where
  -- ---- finding: the record at the key's place is read; past the rows in use there is none
  pub found_at : (k : K) (found : Option ℕ) (place place' : R) (r : Bool) → Place rows n k found → ReadAt (records_of (take n rows)) (unwrap_or found n) place place' r → Found (held e rows n) k place place' r
  found_at k (Some i) place place' r at f =
      let x : Row K R = record { key = k; value = place } in
      let front : length (take n rows) ≡ n = length-take-le n rows h.fits in
      let s = lookup_row e equal rows n i x k h at.within (at.key x) in
      record {
        answer = f.answer ∙ lt-ltb i _ (omega (arith, at.within, front, length-map (take n rows) (λ y. y.value))) ∙ sym (ap is_some s);
        filled = f.filled ∙ get_or-map (λ y. y.value) (take n rows) i x place (omega (arith, at.within, front)) ∙ ap (λ y. y.value) (get_or-take n rows i x at.within) ∙ sym (ap (λ o. unwrap_or o place) s);
      }
  found_at k None place place' r b f =
      let past : length (records_of (take n rows)) ≤ n = omega (arith, length-take-le n rows h.fits, length-map (take n rows) (λ y. y.value)) in
      let s = lookup_absent e equal rows n k b in
      record {
        answer = f.answer ∙ le-ltb n _ past ∙ sym (ap is_some s);
        filled = f.filled ∙ get_or_past (records_of (take n rows)) n place past ∙ sym (ap (λ o. unwrap_or o place) s);
      }

  -- ---- putting: a key's row is written over
  module _ (i : ℕ) (x : Row K R) (at : Here rows n x.key i) where
    a : i < n
    a = at.within

    over_here : (d : Row K R) → (get_or rows i d).key ≡ x.key
    over_here d = at.key d

    pub over_keys : (j : ℕ) (d : Row K R) → (get_or (set rows i x) j d).key ≡ (get_or rows j d).key
    over_keys j d =
        ⊎_elim (λ r. ap (λ y. y.key) r.1 ∙ sym (over_here d) ∙ ap (λ m. (get_or rows m d).key) (sym r.0))
        (λ r. ap (λ y. y.key) r.1) (row_set rows i j x d (let l = h.fits in omega arith))

    pub over_dense : Dense (set rows i x) n
    over_dense = record {
      fits = let l = h.fits in omega (arith, length-set rows i x);
      apart = λ u v d m o q. h.apart u v d m o (sym (over_keys u d) ∙ q ∙ over_keys v d);
    }

    over_lookups : (q : K) → lookup e (take n (set rows i x)) q ≡ cond (e q x.key) (Some x.value) (lookup e (take n rows) q)
    over_lookups q =
        let here = get_or-set_same rows i x x (let l = h.fits in omega arith) in
        lookup_by_key e equal (take n rows) (take n (set rows i x)) x.key q (Some x.value)
        (lookup_row e equal (set rows i x) n i x x.key over_dense a (ap (λ y. y.key) here) ∙ ap (λ y. Some y.value) here)
        (λ ne. lookup_kept e equal rows (set rows i x) n n q x h over_dense
        (λ j b r. (j, b, get_or-set_other rows i j x x (λ z. ne (sym r ∙ ap (λ m. (get_or rows m x).key) z ∙ over_here x))))
        (λ b j d o r. b j d o (sym (over_keys j d) ∙ r)))

    pub put_over : (room : ℕ) → Put e room (held e rows n) x.key x.value true (held e (set rows i x) n)
    put_over room =
        let s = lookup_row e equal rows n i x x.key h a (over_here x) in
        record {
          answer = sym (ap (λ o. is_some o || ltb n room) s);
          records = over_lookups;
          counted = sym (ap (λ o. n + cond (not (is_some o)) 1 0) s ∙ omega arith);
        }

  -- ---- putting: a row is added
  module _ (x : Row K R) (a : n < length rows) (b : Absent rows n x.key) where
    new_apart : (u v : ℕ) (d : Row K R) → u < v → v < n + 1 → (get_or (set rows n x) u d).key ≡ (get_or (set rows n x) v d).key → ⊥
    new_apart u v d m o q =
        let before = get_or-set_other rows n u x d (omega arith) in
        ⊎_elim (λ r. b u d (omega (arith, r.0)) (sym (ap (λ y. y.key) before) ∙ q ∙ ap (λ y. y.key) r.1))
        (λ r. let ne : v ≢ n = r.0 in h.apart u v d m (omega arith) (sym (ap (λ y. y.key) before) ∙ q ∙ ap (λ y. y.key) r.1))
        (row_set rows n v x d a)

    pub new_dense : Dense (set rows n x) (n + 1)
    new_dense = record { fits = omega (arith, length-set rows n x); apart = new_apart }

    new_lookups : (q : K) → lookup e (take (n + 1) (set rows n x)) q ≡ cond (e q x.key) (Some x.value) (lookup e (take n rows) q)
    new_lookups q =
        let here = get_or-set_same rows n x x a in
        lookup_by_key e equal (take n rows) (take (n + 1) (set rows n x)) x.key q (Some x.value)
        (lookup_row e equal (set rows n x) (n + 1) n x x.key new_dense (omega arith) (ap (λ y. y.key) here) ∙ ap (λ y. Some y.value) here)
        (λ ne. lookup_kept e equal rows (set rows n x) n (n + 1) q x h new_dense
        (λ j o r. (j, omega arith, get_or-set_other rows n j x x (omega arith)))
        (λ c j d o r. ⊎_elim (λ t. ne (sym r ∙ ap (λ y. y.key) t.1))
        (λ t. let no' : j ≢ n = t.0 in c j d (omega arith) (sym (ap (λ y. y.key) t.1) ∙ r))
        (row_set rows n j x d a)))

    pub put_new : Put e (length rows) (held e rows n) x.key x.value true (held e (set rows n x) (n + 1))
    put_new =
        let s = lookup_absent e equal rows n x.key b in
        record {
          answer = sym (ap (λ o. is_some o || ltb n (length rows)) s ∙ lt-ltb n (length rows) a);
          records = new_lookups;
          counted = sym (ap (λ o. n + cond (not (is_some o)) 1 0) s);
        }

  -- ---- putting: there is no room
  pub put_full : (k : K) (v : R) → length rows ≤ n → Absent rows n k → Put e (length rows) (held e rows n) k v false (held e rows n)
  put_full k v a b =
      let s = lookup_absent e equal rows n k b in
      record {
        answer = sym (ap (λ o. is_some o || ltb n (length rows)) s ∙ le-ltb n (length rows) a);
        records = λ q. refl;
        counted = omega arith;
      }

  -- ---- removing: the last row takes the place of the one that goes
  module _ (i : ℕ) (k : K) (x : Row K R) (at : Here rows n k i) (last : (d : Row K R) → x ≡ get_or rows (n - 1) d) where
    b : i < n
    b = at.within

    less_here : (d : Row K R) → (get_or rows i d).key ≡ k
    less_here d = at.key d

    in_rows : i < length rows
    in_rows = let l = h.fits in omega arith

    less_apart : (u v : ℕ) (d : Row K R) → u < v → v < n - 1 → (get_or (set rows i x) u d).key ≡ (get_or (set rows i x) v d).key → ⊥
    less_apart u v d m o q =
        ⊎_elim
        (λ r. let same : u ≡ i = r.0 in
        let other = get_or-set_other rows i v x d (omega arith) in
        h.apart v (n - 1) d o (omega arith) (sym (ap (λ y. y.key) other) ∙ sym q ∙ ap (λ y. y.key) r.1 ∙ ap (λ y. y.key) (last d)))
        (λ r. ⊎_elim
        (λ t. h.apart u (n - 1) d (omega arith) (omega arith) (sym (ap (λ y. y.key) r.1) ∙ q ∙ ap (λ y. y.key) t.1 ∙ ap (λ y. y.key) (last d)))
        (λ t. h.apart u v d m (omega arith) (sym (ap (λ y. y.key) r.1) ∙ q ∙ ap (λ y. y.key) t.1))
        (row_set rows i v x d in_rows))
        (row_set rows i u x d in_rows)

    pub less_dense : Dense (set rows i x) (n - 1)
    less_dense = record { fits = let l = h.fits in omega (arith, length-set rows i x); apart = less_apart }

    gone : Absent (set rows i x) (n - 1) k
    gone j d o r =
        ⊎_elim
        (λ t. let same : j ≡ i = t.0 in
        h.apart i (n - 1) d (omega arith) (omega arith) (less_here d ∙ sym r ∙ ap (λ y. y.key) t.1 ∙ ap (λ y. y.key) (last d)))
        (λ t. let ne : j ≢ i = t.0 in
        let k' : (get_or rows j d).key ≡ k = sym (ap (λ y. y.key) t.1) ∙ r in
        ⊎_elim (λ z. h.apart j i d z b (k' ∙ sym (less_here d))) (λ z. h.apart i j d (omega arith) (omega arith) (less_here d ∙ sym k')) (cases_lt j i))
        (row_set rows i j x d in_rows)

    less_lookups : (q : K) → lookup e (take (n - 1) (set rows i x)) q ≡ cond (e q k) None (lookup e (take n rows) q)
    less_lookups q =
        lookup_by_key e equal (take n rows) (take (n - 1) (set rows i x)) k q None
        (lookup_absent e equal (set rows i x) (n - 1) k gone)
        (λ ne. lookup_kept e equal rows (set rows i x) n (n - 1) q x h less_dense
        (λ j o r. let apart : j ≢ i = λ z. ne (sym r ∙ ap (λ m. (get_or rows m x).key) z ∙ less_here x) in
        ⊎_elim (λ (z : j ≡ n - 1). (i, omega arith, get_or-set_same rows i x x in_rows ∙ last x ∙ ap (λ m. get_or rows m x) (sym z)))
        (λ z. (j, omega arith, get_or-set_other rows i j x x apart))
        (cases_eq j (n - 1)))
        (λ c j d o r. ⊎_elim (λ t. c (n - 1) d (omega arith) (sym (ap (λ y. y.key) (last d)) ∙ sym (ap (λ y. y.key) t.1) ∙ r))
        (λ t. c j d (omega arith) (sym (ap (λ y. y.key) t.1) ∙ r))
        (row_set rows i j x d in_rows)))

    pub removed_one : Removed e (held e rows n) k true (held e (set rows i x) (n - 1))
    removed_one =
        let s = lookup_row e equal rows n i x k h b (less_here x) in
        record { answer = sym (ap is_some s); records = less_lookups; counted = omega arith }

  -- ---- removing: the key is not there
  pub removed_none : (k : K) → Absent rows n k → Removed e (held e rows n) k false (held e rows n)
  removed_none k b =
      let s = lookup_absent e equal rows n k b in
      record {
        answer = sym (ap is_some s);
        records = λ q. lookup_by_key e equal (take n rows) (take n rows) k q None s (λ ne. refl);
        counted = omega arith;
      }
