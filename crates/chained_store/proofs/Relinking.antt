-- The links when a row is taken out of its chain, or put into it. The idea: two places with a link to one row would be on one chain, and the later would pass over the earlier.
use Rattle.std.proofs.Common.{◌≡◌, ℕ, ◌+◌, ◌<◌, ◌≤◌, ◌≢◌, ◌⊎◌, List, length, get_or, set, sym, ap, ◌∙◌, subst, inl, inr, ⊎_elim, arith}
use Rattle.std.proofs.lemmas.List.{get_or-set_same, get_or-set_other, length-set}
use Rattle.std.proofs.lemmas.Bool.{cases_eq, cases_lt}
use Rattle.chained_store.specs.Chains.{LinksLead, LinksPassNone}

-- a link after a write
pub link_set : (l : List ℕ) (i j v : ℕ) → i < length l → ((j ≡ i) × (get_or (set l i v) j 0 ≡ v)) ⊎ ((j ≢ i) × (get_or (set l i v) j 0 ≡ get_or l j 0))
link_set l i j v a =
    ⊎_elim (λ p. inl (p, ap (λ m. get_or (set l i v) m 0) p ∙ get_or-set_same l i v 0 a))
    (λ ne. inr (ne, get_or-set_other l i j v 0 ne))
    (cases_eq j i)

module _ (h : ℕ → ℕ) (room : ℕ) (top : (p : ℕ) → room ≤ p → h p ≡ p) (A : ℕ → Type 0)
    (links : List ℕ) (lead : LinksLead h room A links) (pass : LinksPassNone h room A links) where
  -- of two places on a chain, the later one's link does not pass over the earlier
  pub passes : (p q : ℕ) → q < length links → (p < room → A p) → (q < room → A q) → h p ≡ h q → p < q → p < get_or links q 0
  passes p q b op oq e lt =
      ⊎_elim (λ a. pass q p (b, oq, op a, lt, e))
      (λ a. let t = top p a in let u = top q (omega arith) in omega arith)
      (cases_lt p room)

  -- the row x leaves the chain: the link to it, at p, becomes its own
  module _ (A' : ℕ → Type 0) (p x : ℕ) (b : p < length links) (op : p < room → A p) (at : get_or links p 0 ≡ x + 1)
      (less : (j : ℕ) → A' j → A j × (j ≢ x)) (keep : (j : ℕ) → A j → j ≢ x → A' j) where
    here : (x < p) × A x × (h x ≡ h p)
    here = lead p x (b, op, at)

    x_in : x < length links
    x_in = let k = here.0 in omega arith

    pub unlinked_lead : LinksLead h room A' (set links p (get_or links x 0))
    unlinked_lead q j w =
        let k = here.0 in
        let qb : q < length links = omega (arith, w.0, length-set links p (get_or links x 0)) in
        ⊎_elim
        (λ r. let s = lead x j (x_in, λ _. here.1, sym r.1 ∙ w.2) in
        let s0 = s.0 in let r0 = r.0 in
        let ne : j ≢ x = omega arith in
        (omega arith, keep j s.1 ne, s.2 ∙ here.2 ∙ ap h (sym r.0)))
        (λ r. let oq : q < room → A q = λ a. (less q (w.1 a)).0 in
        let s = lead q j (qb, oq, sym r.1 ∙ w.2) in
        let s0 = s.0 in let at' : get_or links q 0 ≡ j + 1 = sym r.1 ∙ w.2 in
        let ne : j ≢ x = λ z. (let e : h p ≡ h q = sym here.2 ∙ ap h (sym z) ∙ s.2 in
        let r0 : q ≢ p = r.0 in
        ⊎_elim (λ lt. let m = passes p q qb op oq e lt in omega arith)
        (λ le. let m = passes q p b oq op (sym e) (omega arith) in omega arith)
        (cases_lt p q)) in
        (s.0, keep j s.1 ne, s.2))
        (link_set links p q (get_or links x 0) b)

    pub unlinked_pass : LinksPassNone h room A' (set links p (get_or links x 0))
    unlinked_pass q j w =
        let qb : q < length links = omega (arith, w.0, length-set links p (get_or links x 0)) in
        let aj = less j w.2 in
        let ne : j ≢ x = aj.1 in
        ⊎_elim
        (λ r. let r0 = r.0 in let r1 = r.1 in
        let e : h j ≡ h p = w.4 ∙ ap h r.0 in
        let jq : j < q = w.3 in
        let m = pass p j (b, op, aj.0, omega arith, e) in
        let jx : j < x = omega arith in
        let n = pass x j (x_in, λ _. here.1, aj.0, jx, e ∙ sym here.2) in
        omega arith)
        (λ r. let r1 = r.1 in
        let n = pass q j (qb, λ a. (less q (w.1 a)).0, aj.0, w.3, w.4) in omega arith)
        (link_set links p q (get_or links x 0) b)

  -- the row x enters the chain after the place p
  module _ (A' : ℕ → Type 0) (p x : ℕ) (b : p < length links) (op : p < room → A p) (after : x < p) (chain : h p ≡ h x) (at : get_or links p 0 ≤ x)
      (here : A' x) (more : (j : ℕ) → A j → A' j) (less : (j : ℕ) → A' j → j ≢ x → A j) where
    -- a link after both writes
    link_at : (q : ℕ) → ((q ≡ p) × (get_or (set (set links x (get_or links p 0)) p (x + 1)) q 0 ≡ x + 1)) ⊎ (((q ≡ x) × (get_or (set (set links x (get_or links p 0)) p (x + 1)) q 0 ≡ get_or links p 0)) ⊎ ((q ≢ p) × (q ≢ x) × (get_or (set (set links x (get_or links p 0)) p (x + 1)) q 0 ≡ get_or links q 0)))
    link_at q =
        ⊎_elim (λ r. inl r)
        (λ r. inr (⊎_elim (λ s. inl (s.0, r.1 ∙ s.1)) (λ s. inr (r.0, s.0, r.1 ∙ s.1)) (link_set links x q (get_or links p 0) (omega arith))))
        (link_set (set links x (get_or links p 0)) p q (x + 1) (omega (arith, length-set links x (get_or links p 0))))

    same_length : length (set (set links x (get_or links p 0)) p (x + 1)) ≡ length links
    same_length = length-set _ _ _ ∙ length-set _ _ _

    pub linked_lead : LinksLead h room A' (set (set links x (get_or links p 0)) p (x + 1))
    linked_lead q j w =
        let qb : q < length links = omega (arith, w.0, same_length) in
        let w2 = w.2 in
        ⊎_elim
        (λ r. let r0 = r.0 in let r1 = r.1 in
        let e : j ≡ x = omega arith in
        (omega arith, subst A' (sym e) here, ap h e ∙ sym chain ∙ ap h (sym r.0)))
        (⊎_elim
        (λ r. let r0 = r.0 in let at' : get_or links p 0 ≡ j + 1 = sym r.1 ∙ w.2 in
        let s = lead p j (b, op, at') in
        (omega arith, more j s.1, s.2 ∙ chain ∙ ap h (sym r.0)))
        (λ r. let s = lead q j (qb, λ a. less q (w.1 a) r.1, sym r.2 ∙ w.2) in
        (s.0, more j s.1, s.2)))
        (link_at q)

    pub linked_pass : LinksPassNone h room A' (set (set links x (get_or links p 0)) p (x + 1))
    linked_pass q j w =
        let qb : q < length links = omega (arith, w.0, same_length) in
        let jq : j < q = w.3 in
        ⊎_elim
        (λ r. let r0 = r.0 in let r1 = r.1 in
        ⊎_elim (λ (z : j ≡ x). omega arith)
        (λ ne. let m = pass p j (b, op, less j w.2 ne, omega arith, w.4 ∙ ap h r.0) in omega arith)
        (cases_eq j x))
        (⊎_elim
        (λ r. let r0 = r.0 in let r1 = r.1 in
        let ne : j ≢ x = omega arith in
        let m = pass p j (b, op, less j w.2 ne, omega arith, w.4 ∙ ap h r.0 ∙ sym chain) in omega arith)
        (λ r. let r2 = r.2 in let np : q ≢ p = r.0 in
        let oq : q < room → A q = λ a. less q (w.1 a) r.1 in
        ⊎_elim
        (λ (z : j ≡ x). let e : h p ≡ h q = chain ∙ ap h (sym z) ∙ w.4 in
        ⊎_elim (λ lt. let m = passes p q qb op oq e lt in omega arith)
        (λ le. let m = passes q p b oq op (sym e) (omega arith) in omega arith)
        (cases_lt p q))
        (λ ne. let m = pass q j (qb, oq, less j w.2 ne, w.3, w.4) in omega arith)
        (cases_eq j x)))
        (link_at q)
