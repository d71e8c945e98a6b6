-- The chain that a place is on, and chains when rows enter them, leave them and are written.
use Rattle.std.proofs.Common.{◌≡◌, ℕ, ◌+◌, ◌-◌, ◌<◌, ◌≤◌, Bool, true, ltb, ◌≢◌, List, length, get_or, set, Decides, sym, refl, ap, ◌∙◌, subst, ⊎_elim, mod-lt, arith}
use Rattle.std.proofs.lemmas.List.{length-map, get_or-map, get_or-set_other, get_or_default, length-set, map-set}
use Rattle.std.proofs.Math.Seq.{map-set_same}
use Rattle.std.proofs.lemmas.Bool.{cases_eq, cases_lt, cond-true, cond-false, lt-ltb, le-ltb}
use Rattle.stores.specs.declared.row.Row.{Row}
use Rattle.stores.proofs.Numbered.{some_row}
use Rattle.chained_store.specs.Buckets.{hashes, bucket_of, chain_of}
use Rattle.chained_store.specs.Chains.{LinksLead, LinksPassNone, Chains, Below}
use Rattle.chained_store.specs.Entering.{Before, Leads, But, With}
use Rattle.stores.specs.Functions.{Removed}
use Rattle.stores.specs.Places.{Here}
use Rattle.stores.specs.Rows.{Dense, held}
use Rattle.stores.proofs.Changes.{less_dense, removed_one}
use Rattle.chained_store.proofs.Relinking.{unlinked_lead, unlinked_pass, linked_lead, linked_pass}

pub bucket_in : (hash room w : ℕ) → room < w → bucket_of hash room w < w
bucket_in hash room w a = let m = mod-lt hash {m = w - room} (omega arith) in omega arith

module _ {K R : Type 0} (digest : K → ℕ) (rows : List (Row K R)) (w : ℕ) where
  len : length (hashes digest rows) ≡ length rows
  len = length-map rows (λ x. digest x.key)

  pub chain_of_bucket : (p : ℕ) → length rows ≤ p → chain_of (hashes digest rows) w p ≡ p
  chain_of_bucket p a = cond-false (ltb p (length (hashes digest rows))) _ _ (le-ltb p (length (hashes digest rows)) (omega (arith, len)))

  pub chain_of_row : (i : ℕ) (x : Row K R) → i < length rows → x ≡ get_or rows i x → chain_of (hashes digest rows) w i ≡ bucket_of (digest x.key) (length rows) w
  chain_of_row i x a r =
      cond-true (ltb i (length (hashes digest rows))) _ _ (lt-ltb i (length (hashes digest rows)) (omega (arith, len)))
      ∙ ap (λ n. bucket_of (get_or (hashes digest rows) i 0) n w) len
      ∙ ap (λ h. bucket_of h (length rows) w) (get_or-map (λ y. digest y.key) rows i x 0 a ∙ ap (λ y. digest y.key) (sym r))

module _ {K R : Type 0} (digest : K → ℕ) (rows : List (Row K R)) (links : List ℕ) where
  -- the same rows, said otherwise
  pub chains_like : (A B : ℕ → Type 0) → ((j : ℕ) → A j → B j) → ((j : ℕ) → B j → A j) → Chains digest rows links A → Chains digest rows links B
  chains_like A B to from c = record {
    wide = c.wide;
    low = λ j b. c.low j (from j b);
    lead = λ p j w. (let s = c.lead p j (w.0, λ a. from p (w.1 a), w.2) in (s.0, to j s.1, s.2));
    pass = λ p j w. c.pass p j (w.0, λ a. from p (w.1 a), from j w.2, w.3, w.4);
  }

  -- other rows of the same buckets
  pub chains_rows : (rows' : List (Row K R)) (A : ℕ → Type 0) → length rows' ≡ length rows
      → ((p : ℕ) → (p < length rows → A p) → chain_of (hashes digest rows') (length links) p ≡ chain_of (hashes digest rows) (length links) p) → Chains digest rows links A → Chains digest rows' links A
  chains_rows rows' A len' same c = record {
    wide = let a = c.wide in omega arith;
    low = λ j a. (let b = c.low j a in omega arith);
    lead = λ p j w. (let own : p < length rows → A p = λ a. w.1 (omega arith) in
        let s = c.lead p j (w.0, own, w.2) in (s.0, s.1, same j (λ _. s.1) ∙ s.2 ∙ sym (same p own)));
    pass = λ p j w. (let own : p < length rows → A p = λ a. w.1 (omega arith) in
        c.pass p j (w.0, own, w.2, w.3, sym (same j (λ _. w.2)) ∙ w.4 ∙ same p own));
  }

  pub leads_live : (n x : ℕ) → Chains digest rows links (Below n) → Leads digest rows links n x
  leads_live n x c p j w = c.lead p j (w.0, w.1, w.3)

  pub leads_out : (n x : ℕ) → Chains digest rows links (But n x) → Leads digest rows links n x
  leads_out n x c p j w = let ne : p ≢ x = (let a = w.2 in omega arith) in let s = c.lead p j (w.0, λ a. (w.1 a, ne), w.3) in (s.0, s.1.0, s.2)

  pub unlinked : (n x p : ℕ) → x < n → Chains digest rows links (Below n) → Before digest rows links n x p → Chains digest rows (set links p (get_or links x 0)) (But n x)
  unlinked n x p a c b =
      let at : get_or links p 0 ≡ x + 1 = (let m = c.pass p x (b.within, b.used, a, b.after, sym b.chain) in let k = b.next in omega arith) in
      let len' = length-set links p (get_or links x 0) in
      let less : (j : ℕ) → (j < n) × (j ≢ x) → (j < n) × (j ≢ x) = λ j r. r in
      let keep : (j : ℕ) → j < n → j ≢ x → (j < n) × (j ≢ x) = λ j r s. (r, s) in
      record {
        wide = let k = c.wide in omega arith;
        low = λ j r. c.low j r.0;
        lead = subst (λ w. LinksLead (chain_of (hashes digest rows) w) (length rows) (But n x) (set links p (get_or links x 0))) (sym len')
            (unlinked_lead (chain_of (hashes digest rows) (length links)) (length rows) (chain_of_bucket digest rows (length links)) (Below n) links c.lead c.pass (But n x) p x b.within b.used at less keep);
        pass = subst (λ w. LinksPassNone (chain_of (hashes digest rows) w) (length rows) (But n x) (set links p (get_or links x 0))) (sym len')
            (unlinked_pass (chain_of (hashes digest rows) (length links)) (length rows) (chain_of_bucket digest rows (length links)) (Below n) links c.lead c.pass (But n x) p x b.within b.used at less keep);
      }

  pub linked : (n x p : ℕ) → x < length rows → Chains digest rows links (But n x) → Before digest rows links n x p → Chains digest rows (set (set links x (get_or links p 0)) p (x + 1)) (With n x)
  linked n x p a c b =
      let ne : p ≢ x = (let k = b.after in omega arith) in
      let op : p < length rows → (p < n) × (p ≢ x) = λ r. (b.used r, ne) in
      let at : get_or links p 0 ≤ x = ⊎_elim (λ e. absurd ((c.lead p x (b.within, op, e)).1.1 refl)) (λ (f : get_or links p 0 ≢ x + 1). (let k = b.next in omega arith)) (cases_eq (get_or links p 0) (x + 1)) in
      let here : x ≢ x → x < n = λ r. absurd (r refl) in
      let more : (j : ℕ) → (j < n) × (j ≢ x) → (j ≢ x → j < n) = λ j r s. r.0 in
      let less : (j : ℕ) → (j ≢ x → j < n) → j ≢ x → (j < n) × (j ≢ x) = λ j r s. (r s, s) in
      let len' : length (set (set links x (get_or links p 0)) p (x + 1)) ≡ length links = length-set (set links x (get_or links p 0)) p (x + 1) ∙ length-set links x (get_or links p 0) in
      record {
        wide = let k = c.wide in omega arith;
        low = λ j r. ⊎_elim (λ (e : j ≡ x). omega arith) (λ f. c.low j (r f, f)) (cases_eq j x);
        lead = subst (λ w. LinksLead (chain_of (hashes digest rows) w) (length rows) (With n x) (set (set links x (get_or links p 0)) p (x + 1))) (sym len')
            (linked_lead (chain_of (hashes digest rows) (length links)) (length rows) (chain_of_bucket digest rows (length links)) (But n x) links c.lead c.pass (With n x) p x b.within op b.after b.chain at here more less);
        pass = subst (λ w. LinksPassNone (chain_of (hashes digest rows) w) (length rows) (With n x) (set (set links x (get_or links p 0)) p (x + 1))) (sym len')
            (linked_pass (chain_of (hashes digest rows) (length links)) (length rows) (chain_of_bucket digest rows (length links)) (But n x) links c.lead c.pass (With n x) p x b.within op b.after b.chain at here more less);
      }

  -- one step along a chain
  pub link_falls : (n p : ℕ) → Chains digest rows links (Below n) → p < length links → (p < length rows → p < n) → (get_or links p 0 ≤ n) × (get_or links p 0 ≤ p)
  link_falls n p c a own =
      ⊎_elim
      (λ (z : 0 < get_or links p 0). (let e : get_or links p 0 ≡ (get_or links p 0 - 1) + 1 = omega arith in
      let s = c.lead p (get_or links p 0 - 1) (a, own, e) in (omega (arith, s.1), omega (arith, s.0))))
      (λ z. (omega arith, omega arith))
      (cases_lt 0 (get_or links p 0))

  pub chain_of_key : (j : ℕ) (d : Row K R) (k : K) → j < length rows → (get_or rows j d).key ≡ k → chain_of (hashes digest rows) (length links) j ≡ bucket_of (digest k) (length rows) (length links)
  chain_of_key j d k a e =
      chain_of_row digest rows (length links) j (get_or rows j d) a (get_or_default rows j d (get_or rows j d) a)
      ∙ ap (λ y. bucket_of (digest y) (length rows) (length links)) e

-- what a store keeps
module _ {K R : Type 0} (digest : K → ℕ) (rows : List (Row K R)) (links : List ℕ) where
  -- a row that is in no chain is written
  pub chains_set : (n i : ℕ) (x : Row K R) → i < length rows → Chains digest rows links (But n i) → Chains digest (set rows i x) links (But n i)
  chains_set n i x a c =
      let hs = hashes digest rows in
      let v = digest x.key in
      chains_rows digest rows links (set rows i x) (But n i) (length-set rows i x)
      (λ p own. let ne : p ≢ i = ⊎_elim (λ b. (own b).1) (λ b. omega arith) (cases_lt p (length rows)) in
      rw (map-set (λ y. digest y.key) rows i x, length-set hs i v, get_or-set_other hs i p v 0 ne) refl) c

  pub chains_skip : (n : ℕ) → Chains digest rows links (Below n) → Chains digest rows links (But n n)
  chains_skip n c = chains_like digest rows links (Below n) (But n n) (λ j a. (a, omega arith)) (λ j a. a.0) c

  pub chains_last : (n : ℕ) → Chains digest rows links (But n (n - 1)) → Chains digest rows links (Below (n - 1))
  chains_last n c = chains_like digest rows links (But n (n - 1)) (Below (n - 1)) (λ j a. (let b : j ≢ n - 1 = a.1 in let d = a.0 in omega arith)) (λ j a. (omega arith, omega arith)) c

  pub chains_more : (n : ℕ) → Chains digest rows links (With n n) → Chains digest rows links (Below (n + 1))
  chains_more n c = chains_like digest rows links (With n n) (Below (n + 1)) (λ j a. ⊎_elim (λ (e : j ≡ n). omega arith) (λ f. omega (arith, a f)) (cases_eq j n)) (λ j a f. omega arith) c

  pub chains_back : (n i : ℕ) → i < n → Chains digest rows links (With n i) → Chains digest rows links (Below n)
  chains_back n i b c = chains_like digest rows links (With n i) (Below n) (λ j a. ⊎_elim (λ (e : j ≡ i). omega arith) (λ f. a f) (cases_eq j i)) (λ j a f. a) c

  -- a key's row is written over
  pub chains_over : (n i : ℕ) (x : Row K R) → Here rows n x.key i → Chains digest rows links (Below n) → Chains digest (set rows i x) links (Below n)
  chains_over n i x at c =
      chains_rows digest rows links (set rows i x) (Below n) (length-set rows i x)
      (λ p own. ap (λ hs. chain_of hs (length links) p) (map-set_same (λ y. digest y.key) rows i x x (ap digest (sym (at.key x))))) c

-- the last row has taken the place of the one that goes; the rows after it are given by what they equal
module _ {K R : Type 0} (e : K → K → Bool) (equal : (x y : K) → Decides (e x y) (x ≡ y)) (rows : List (Row K R)) (n : ℕ) (h : Dense rows n)
    (i : ℕ) (k : K) (at : Here rows n k i) (rows' : List (Row K R)) (same : (d : Row K R) → rows' ≡ set rows i (get_or rows (n - 1) d)) where
  row : Row K R
  row = some_row rows (omega (arith, h.fits, at.within))

  last : (d : Row K R) → get_or rows (n - 1) row ≡ get_or rows (n - 1) d
  last d = get_or_default rows (n - 1) row d (omega (arith, h.fits, at.within))

  pub less_rows : Dense rows' (n - 1)
  less_rows = rw (same row) (less_dense e equal rows n h i k (get_or rows (n - 1) row) at last)

  pub less_removed : Removed e (held e rows n) k true (held e rows' (n - 1))
  less_removed = rw (same row) (removed_one e equal rows n h i k (get_or rows (n - 1) row) at last)

  pub less_room : length rows' ≡ length rows
  less_room = ap length (same row) ∙ length-set rows i (get_or rows (n - 1) row)
