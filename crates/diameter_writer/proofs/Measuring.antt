-- What one turn of the measuring loop keeps.
use Rattle.std.proofs.Common.{◌≡◌, ℕ, ◌+◌, ◌^◌, ◌<◌, ◌≤◌, true, false, ◌&&◌, List, [], ◌∷◌, length, get_or, drop, None, sym, refl, ap, ◌∙◌, subst, add-one, arith, length-append, drop-cons}
use Rattle.std.proofs.lemmas.Bool.{and_parts, false≢true}
use Rattle.std.proofs.lemmas.List.{drop_all}
use Rattle.diameter_headers.specs.Framing.{padded}
use Rattle.diameter_headers.specs.declared.place.Kind.{Kind}
use Rattle.diameter_writer.specs.Encoding.{encode_avp, encode_avps, fits_at, length_for, vendor_for}
use Rattle.diameter_writer.specs.Measures.{Typed, Measured, Unmeasured}
use Rattle.diameter_writer.specs.Messages.{all_fit, message_len}
use Rattle.diameter_writer.specs.declared.avp.Avp.{Avp}
use Rattle.diameter_writer.proofs.Writes.{encode_length}

pub encodes_more : (a : Avp) (rest : List Avp) → length (encode_avps (a ∷ rest)) ≡ padded (length_for a) + length (encode_avps rest)
unfolding encode_avps
encodes_more a rest = length-append (encode_avp a) (encode_avps rest) ∙ ap (λ n. n + length (encode_avps rest)) (encode_length a)

-- the AVP at a place of the list, as a loop over it reads it
abbrev pub item : List Avp → ℕ → Avp
item l i = get_or l i (record { code = 0; mandatory = false; vendor = None; octets = record { ref_ptr = (0, 0); now = [] } })

-- what is left from i on begins with the AVP at i
pub left_from : (l : List Avp) (i : ℕ) → i < length l → drop i l ≡ item l i ∷ drop (i + 1) l
left_from l i h = drop-cons l i _ h ∙ ap (λ n. item l i ∷ drop n l) (sym (add-one i))

module _ {P : Type 0} (kinds : P → ℕ → ℕ → Kind P) (p : P) (avps : List Avp) where
  -- i AVPs are measured: what is left decides
  pub record Counting (i total : ℕ) : Type 0 where
    pub sum : message_len avps ≡ total + length (encode_avps (drop i avps))
    pub fits : all_fit kinds p avps ≡ all_fit kinds p (drop i avps)
    pub typed : Typed (drop i avps) → Typed avps
    pub small : total < 2 ^ 24

  pub counted_none : Counting 0 20
  counted_none = record { sum = refl; fits = refl; typed = λ t. t; small = omega arith }

  module _ (i total : ℕ) (t : Counting i total) (inside : i < length avps) where
    abbrev a : Avp
    a = item avps i

    left : drop i avps ≡ a ∷ drop (i + 1) avps
    left = left_from avps i inside

    sum_more : message_len avps ≡ total + (padded (length_for a) + length (encode_avps (drop (i + 1) avps)))
    sum_more = t.sum ∙ ap (λ l. total + length (encode_avps l)) left ∙ ap (λ n. total + n) (encodes_more a (drop (i + 1) avps))

    fits_more : all_fit kinds p avps ≡ (fits_at kinds p a && all_fit kinds p (drop (i + 1) avps))
    unfolding all_fit
    fits_more = t.fits ∙ ap (all_fit kinds p) left

    pub counted_more : fits_at kinds p a ≡ true → a.code < 2 ^ 32 → vendor_for a < 2 ^ 32 → (next : ℕ) → next ≡ total + padded (length_for a) → next < 2 ^ 24 → Counting (i + 1) next
    unfolding Typed
    counted_more fit code vendor next is small = record {
      sum = sum_more ∙ omega arith;
      fits = fits_more ∙ ap (λ b. b && all_fit kinds p (drop (i + 1) avps)) fit;
      typed = λ rest. t.typed (subst Typed (sym left) (code, vendor, rest));
      small = small;
    }

    pub too_long : 2 ^ 24 ≤ total + padded (length_for a) → Unmeasured kinds p avps
    too_long long = λ small fit. omega (arith, sum_more)

    pub no_fit : fits_at kinds p a ≡ false → Unmeasured kinds p avps
    no_fit bad = λ small fit. false≢true (sym bad ∙ (and_parts _ _ (sym fits_more ∙ fit)).0)

  pub counted_all : (total : ℕ) → Counting (length avps) total → Measured kinds p avps total
  unfolding all_fit Typed encode_avps
  counted_all total t =
      let none : drop (length avps) avps ≡ [] = drop_all (length avps) avps (omega arith) in
      record {
        total = sym (t.sum ∙ ap (λ l. total + length (encode_avps l)) none ∙ omega arith);
        small = t.small;
        fits = t.fits ∙ ap (all_fit kinds p) none;
        typed = t.typed (subst Typed (sym none) tt);
      }
