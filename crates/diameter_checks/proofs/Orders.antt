-- The offsets of a list rise.
use Rattle.std.proofs.Common.{◌≡◌, ℕ, zero, suc, ◌+◌, ◌-◌, ◌<◌, ◌≤◌, Bool, true, false, cond, List, [], ◌∷◌, length, drop, sym, refl, ap, ◌∙◌, subst, ⊎_elim, arith}
use Rattle.std.proofs.lemmas.Bool.{cases_lt}
use Rattle.std.proofs.lemmas.List.{length-drop, length-take-le}
use Rattle.diameter_headers.specs.Framing.{framed, padded, data_of}
use Rattle.diameter_headers.specs.Headers.{length_of, header_len}
use Rattle.diameter.specs.Listing.{Listing, done, fault, more, append, members, kind_in, entry_at, level, listed, listing}
use Rattle.diameter_checks.specs.Order.{Rising}
use Rattle.diameter.specs.Values.{value_of}
use Rattle.diameter_headers.specs.declared.place.Kind.{Kind}
use Rattle.diameter_headers.specs.declared.place.Kind.TheVariants.{Unknown, Number, Octets, Group}
use Rattle.diameter.proofs.Levels.{framed_is, header_least, level_done}

rising_wider : {P : Type 0} (lo hi from to : ℕ) (l : Listing P) → from ≤ lo → hi ≤ to → Rising lo hi l → Rising from to l
unfolding Rising
rising_wider lo hi from to done a b s = tt
rising_wider lo hi from to (fault at) a b s = (omega (arith, s.0), omega (arith, s.1))
rising_wider lo hi from to (more e v l) a b s = (omega (arith, s.0), omega (arith, s.1), rising_wider (e.offset + 1) hi (e.offset + 1) to l (omega arith) b s.2)

rising_then : {P : Type 0} (lo mid hi : ℕ) (l k : Listing P) → lo ≤ mid → mid ≤ hi → Rising lo mid l → Rising mid hi k → Rising lo hi (append l k)
unfolding Rising append
rising_then lo mid hi done k a b s t = rising_wider mid hi lo hi k a (omega arith) t
rising_then lo mid hi (fault at) k a b s t = (s.0, omega (arith, s.1))
rising_then lo mid hi (more e v l) k a b s t = (s.0, omega (arith, s.1), rising_then (e.offset + 1) mid hi l k (omega (arith, s.1)) b s.2 t)

module _ {P : Type 0} (kinds : P → ℕ → ℕ → Kind P) (inner : P → ℕ → ℕ → List ℕ → Listing P) (rises : (q : P) (parent at : ℕ) (ys : List ℕ) → Rising at (at + length ys) (inner q parent at ys)) where
  members_rise : (k : Kind P) (at start hi : ℕ) (ys : List ℕ) → start + length ys ≤ hi → Rising start hi (members inner k at start ys)
  unfolding Rising
  members_rise Unknown at start hi ys fits = tt
  members_rise Number at start hi ys fits = tt
  members_rise Octets at start hi ys fits = tt
  members_rise (Group q) at start hi ys fits = rising_wider start (start + length ys) start hi (inner q at start ys) (omega arith) fits (rises q at start ys)

  level_rises : (p : P) (parent skip at : ℕ) (xs : List ℕ) → Rising (at + skip) (at + length xs) (level kinds inner p parent skip at xs)
  unfolding Rising level entry_at
  level_rises p parent skip at [] = tt
  level_rises p parent zero at (x ∷ xs) = go (framed (kind_in kinds p (x ∷ xs)) (x ∷ xs)) refl (level_rises p parent (padded (length_of (x ∷ xs)) - 1) (at + 1) xs)
    where
      go : (b : Bool) → framed (kind_in kinds p (x ∷ xs)) (x ∷ xs) ≡ b → Rising (at + 1 + (padded (length_of (x ∷ xs)) - 1)) (at + 1 + length xs) (level kinds inner p parent (padded (length_of (x ∷ xs)) - 1) (at + 1) xs) → Rising (at + 0) (at + length (x ∷ xs)) (cond b (more (entry_at kinds p parent at (x ∷ xs)) (value_of (kind_in kinds p (x ∷ xs)) (data_of (x ∷ xs))) (append (members inner (kind_in kinds p (x ∷ xs)) at (at + header_len (x ∷ xs)) (data_of (x ∷ xs))) (level kinds inner p parent (padded (length_of (x ∷ xs)) - 1) (at + 1) xs))) (fault at))
      go false is after = (omega arith, omega arith)
      go true is after =
          let l = x ∷ xs in
          let k = kind_in kinds p l in
          let f = framed_is k l is in
          let whole = f.whole in
          let covers = f.covers in
          let least = header_least l in
          let long : length (data_of l) ≡ length_of l - header_len l = length-take-le (length_of l - header_len l) (drop (header_len l) l) (omega (arith, length-drop (header_len l) l)) in
          let mid = at + padded (length_of l) in
          let m = members inner k at (at + header_len l) (data_of l) in
          let rest = level kinds inner p parent (padded (length_of l) - 1) (at + 1) xs in (
            omega arith,
            omega arith,
            rising_then (at + 1) mid (at + length l) m rest (omega arith) (omega arith)
                (rising_wider (at + header_len l) mid (at + 1) mid m (omega arith) (omega arith) (members_rise k at (at + header_len l) mid (data_of l) (omega arith)))
                (rising_wider (at + 1 + (padded (length_of l) - 1)) (at + 1 + length xs) mid (at + length l) rest (omega arith) (omega arith) after),
          )
  level_rises p parent (suc skip) at (x ∷ xs) = rising_wider (at + 1 + skip) (at + 1 + length xs) (at + suc skip) (at + length (x ∷ xs)) (level kinds inner p parent skip (at + 1) xs) (omega arith) (omega arith) (level_rises p parent skip (at + 1) xs)

listed_rises : {P : Type 0} (kinds : P → ℕ → ℕ → Kind P) (depth : ℕ) (p : P) (parent at : ℕ) (xs : List ℕ) → Rising at (at + length xs) (listed kinds depth p parent at xs)
unfolding Rising listed
listed_rises kinds zero p parent at xs = tt
listed_rises kinds (suc depth) p parent at xs = rising_wider (at + 0) (at + length xs) at (at + length xs) (level kinds (listed kinds depth) p parent 0 at xs) (omega arith) (omega arith) (level_rises kinds (listed kinds depth) (listed_rises kinds depth) p parent 0 at xs)

-- a message with less than a header has no AVPs
listing_short : {P : Type 0} (kinds : P → ℕ → ℕ → Kind P) (rank : P → ℕ) (p : P) (m : List ℕ) → length m < 20 → listing kinds rank p m ≡ done
unfolding listing listed
listing_short kinds rank p m short = level_done kinds (listed kinds (rank p)) p 0 20 (drop 20 m) (length-drop 20 m ∙ omega arith)

rising_done : (P : Type 0) (lo hi : ℕ) → Rising {P = P} lo hi done
unfolding Rising
rising_done P lo hi = tt

rising_from : {P : Type 0} (kinds : P → ℕ → ℕ → Kind P) (rank : P → ℕ) (p : P) (m : List ℕ) → Rising 20 (20 + length (drop 20 m)) (listing kinds rank p m)
unfolding listing
rising_from kinds rank p m = listed_rises kinds (suc (rank p)) p 0 20 (drop 20 m)

whole_length : (m : List ℕ) → 20 ≤ length m → 20 + length (drop 20 m) ≡ length m
whole_length m long = ap (λ n. 20 + n) (length-drop 20 m) ∙ omega arith

pub listing_rises : {P : Type 0} (kinds : P → ℕ → ℕ → Kind P) (rank : P → ℕ) (p : P) (m : List ℕ) → Rising 20 (length m) (listing kinds rank p m)
listing_rises kinds rank p m =
    ⊎_elim
    (λ short. subst (Rising 20 (length m)) (sym (listing_short kinds rank p m short)) (rising_done _ 20 (length m)))
    (λ long. subst (λ n. Rising 20 n (listing kinds rank p m)) (whole_length m long) (rising_from kinds rank p m))
    (cases_lt (length m) 20)
