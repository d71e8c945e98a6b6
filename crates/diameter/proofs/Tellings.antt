-- What was read from a part of the message is told of the cursor's octets.
use Rattle.std.proofs.Common.{◌≡◌, ℕ, ◌+◌, ◌-◌, List, take, drop, ap, ◌∙◌, subst, arith}
use Rattle.std.specs.List.{between}
use Rattle.std.proofs.lemmas.Slice.{between_is}
use Rattle.diameter_headers.specs.Framing.{Framed, padded, data_of}
use Rattle.diameter_headers.specs.Headers.{AvpHeaderOf, length_of}
use Rattle.diameter.specs.Listing.{kind_in, entry_at}
use Rattle.diameter.specs.Reading.{Told, window}
use Rattle.diameter.specs.Values.{held, value_of}
use Rattle.diameter.specs.declared.entry.Item.{Item}
use Rattle.diameter_headers.specs.declared.headers.AvpHeader.{AvpHeader}
use Rattle.diameter_headers.specs.declared.place.Kind.{Kind}

pub window_is : (m : List ℕ) (position end : ℕ) → between position end m ≡ window m position end
unfolding window
window_is m position end = between_is m position end

module _ {P : Type 0} (kinds : P → ℕ → ℕ → Kind P) (p : P) (parent : ℕ) (m : List ℕ) (position end : ℕ) where
  pub told : (h : AvpHeader) (k : Kind P) (i : Item) (gap : ℕ) (part : List ℕ) → part ≡ window m position end → Framed (kind_in kinds p part) part → AvpHeaderOf part h → k ≡ kind_in kinds p part → gap ≡ padded h.length - h.length → held i ≡ value_of k (take (h.length - h.header) (drop h.header part)) → Told kinds p parent m (record { position = position; end = end }) (record { position = position + h.length + gap; end = end }) (record { place = p; parent = parent; offset = position; code = h.code; vendor = h.vendor; flags = h.flags; kind = k; start = position + h.header; end = position + h.length }) i
  unfolding entry_at
  told h k i gap part is framed of ki gap_is value =
      let next : position + h.length + gap ≡ position + padded h.length = omega arith in
      let entry : record { place = p; parent = parent; offset = position; code = h.code; vendor = h.vendor; flags = h.flags; kind = k; start = position + h.header; end = position + h.length } ≡ entry_at kinds p parent position part = λ j. record { place = p; parent = parent; offset = position; code = of.code j; vendor = of.vendor j; flags = of.flags j; kind = ki j; start = position + of.header j; end = position + of.length j } in
      record {
        framed = subst (λ l. Framed (kind_in kinds p l) l) is framed;
        entry = entry ∙ ap (entry_at kinds p parent position) is;
        value = value ∙ (λ j. value_of (ki j) (take (of.length j - of.header j) (drop (of.header j) part))) ∙ ap (λ l. value_of (kind_in kinds p l) (data_of l)) is;
        after = (λ j. record { position = (next ∙ ap (λ n. position + padded n) of.length) j; end = end }) ∙ ap (λ l. record { position = position + padded (length_of l); end = end }) is;
      }
