-- Following a chain: to the row of a key, and to the place before a row.
use Rattle.std.proofs.Common.{◌≡◌, ℕ, ◌+◌, ◌-◌, ◌<◌, ◌≤◌, ◌≢◌, List, length, get_or, sym, ap, ◌∙◌, arith}
use Rattle.std.proofs.lemmas.List.{get_or_default}
use Rattle.stores.specs.declared.row.Row.{Row}
use Rattle.chained_store.specs.Buckets.{chain_of, hashes, bucket_of}
use Rattle.chained_store.specs.Chains.{Chains, Below}
use Rattle.chained_store.specs.Entering.{Leads}
use Rattle.chained_store.proofs.Buckets.{bucket_in, chain_of_bucket, chain_of_row, chain_of_key, link_falls}

-- the link is to a row of the key's bucket, and each row that has the key is on what is left of the chain
pub record Seeking {K R : Type 0} (digest : K → ℕ) (rows : List (Row K R)) (links : List ℕ) (n : ℕ) (k : K) (link : ℕ) : Type 0 where
  pub low : link ≤ n
  pub chain : (i : ℕ) → link ≡ i + 1 → chain_of (hashes digest rows) (length links) i ≡ bucket_of (digest k) (length rows) (length links)
  pub ahead : (j : ℕ) (d : Row K R) → j < n → (get_or rows j d).key ≡ k → j < link

-- the place is on the chain of the row x, and after x
pub record Nearing {K R : Type 0} (digest : K → ℕ) (rows : List (Row K R)) (links : List ℕ) (n x p : ℕ) : Type 0 where
  pub within : p < length links
  pub used : p < length rows → p < n
  pub after : x < p
  pub chain : chain_of (hashes digest rows) (length links) p ≡ chain_of (hashes digest rows) (length links) x

module _ {K R : Type 0} (digest : K → ℕ) (rows : List (Row K R)) (links : List ℕ) (n : ℕ) where
  pub seek_first : (k : K) → Chains digest rows links (Below n) → Seeking digest rows links n k (get_or links (bucket_of (digest k) (length rows) (length links)) 0)
  seek_first k s =
      let p = bucket_of (digest k) (length rows) (length links) in
      let a : p < length links = bucket_in (digest k) (length rows) (length links) s.wide in
      let own : p < length rows → p < n = λ z. absurd (omega arith) in
      let t = chain_of_bucket digest rows (length links) p (omega arith) in
      record {
        low = (link_falls digest rows links n p s a own).0;
        chain = λ i e. (s.lead p i (a, own, e)).2 ∙ t;
        ahead = λ j d z q. (let f : j < length rows = s.low j z in s.pass p j (a, own, z, omega arith, chain_of_key digest rows links j d k f q ∙ sym t));
      }

  -- the row i that a link is to
  module _ (link i : ℕ) (to : (1 ≤ link) × (i ≡ link - 1)) (k : K) (s : Chains digest rows links (Below n)) (w : Seeking digest rows links n k link) where
    in_use : i < n
    in_use = omega (arith, to.0, to.1, w.low)

    pub row_there : i < length rows
    row_there = s.low i in_use

    pub link_there : i < length links
    link_there = omega (arith, row_there, s.wide)

    own : i < length rows → i < n
    own _ = in_use

    chain : chain_of (hashes digest rows) (length links) i ≡ bucket_of (digest k) (length rows) (length links)
    chain = w.chain i (omega (arith, to.0, to.1))

    pub seek_falls : get_or links i 0 < link
    seek_falls = omega (arith, to.0, to.1, (link_falls digest rows links n i s link_there own).1)

    pub seek_next : ((d : Row K R) → (get_or rows i d).key ≢ k) → Seeking digest rows links n k (get_or links i 0)
    seek_next other = record {
      low = (link_falls digest rows links n i s link_there own).0;
      chain = λ j e. (s.lead i j (link_there, own, e)).2 ∙ chain;
      ahead = λ j d y q. (let m = w.ahead j d y q in
          let ne : j ≢ i = λ e. other d (ap (λ v. (get_or rows v d).key) (sym e) ∙ q) in
          let b : j < i = omega (arith, to.0, to.1) in
          s.pass i j (link_there, own, y, b, chain_of_key digest rows links j d k (s.low j y) q ∙ sym chain));
    }

  module _ (x : ℕ) where
    pub near_first : (d : Row K R) → x < length rows → length rows < length links → Nearing digest rows links n x (bucket_of (digest (get_or rows x d).key) (length rows) (length links))
    near_first d a wide =
        let hash = digest (get_or rows x d).key in
        let p = bucket_of hash (length rows) (length links) in
        record {
          within = bucket_in hash (length rows) (length links) wide;
          used = λ b. absurd (omega arith);
          after = omega arith;
          chain = chain_of_bucket digest rows (length links) p (omega arith) ∙ sym (chain_of_row digest rows (length links) x (get_or rows x d) a (get_or_default rows x d (get_or rows x d) a));
        }

    -- the row i that the link at the place is to
    module _ (p i : ℕ) (leads : Leads digest rows links n x) (w : Nearing digest rows links n x p) (to : (1 ≤ get_or links p 0) × (i ≡ get_or links p 0 - 1)) (far : x < i) where
      down : (i < p) × (i < n) × (chain_of (hashes digest rows) (length links) i ≡ chain_of (hashes digest rows) (length links) p)
      down = leads p i (w.within, w.used, w.after, omega (arith, to.0, to.1))

      pub near_falls : i < p
      near_falls = down.0

      pub near_next : Nearing digest rows links n x i
      near_next = record {
        within = omega (arith, down.0, w.within);
        used = λ _. down.1;
        after = far;
        chain = down.2 ∙ w.chain;
      }
