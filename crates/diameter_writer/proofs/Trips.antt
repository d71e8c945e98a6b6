-- What is written is read again.
use Rattle.std.proofs.Common.{◌≡◌, ℕ, ◌+◌, ◌-◌, ◌/◌, ◌%◌, ◌^◌, ◌<◌, Bool, true, false, cond, not, eqb, leb, List, [], ◌∷◌, ◌++◌, length, get_or, take, drop, replicate, is_some, Some, None, Option, unwrap_or, sym, refl, ap, ◌∙◌, append_assoc, arith, length-append, le-leb}
use lib.Bits.{bit_and}
use Rattle.std.proofs.lemmas.Bool.{and_parts}
use Rattle.std.proofs.lemmas.Nat.{from_be_bytes-to_be_bytes_4}
use Rattle.std.proofs.lemmas.List.{take_at, drop_at}
use Rattle.diameter_headers.specs.Framing.{Framed, padded, fitting}
use Rattle.diameter_headers.specs.Headers as read
use Rattle.diameter.specs.Listing.{Listing, more, append, members, listed, listing, level, entry_at, kind_in}
use Rattle.diameter_headers.specs.Octets.{be3, be4}
use Rattle.diameter.specs.Values.{value_of}
use Rattle.diameter_headers.specs.declared.place.Kind.{Kind}
use Rattle.diameter.proofs.Levels.{level_more, level_done}
use Rattle.diameter_writer.specs.Encoding.{encode_avp, encode_avps, fits_at, flags_for, header_len_for, length_for, quad, triple, vendor_for, vendor_part}
use Rattle.diameter_writer.specs.Measures.{FieldsTyped, Typed}
use Rattle.diameter_writer.specs.Messages.{all_fit, encode_message, message_len}
use Rattle.diameter_writer.specs.Written.{ReadsAs, entry_for, kind_for, written}
use Rattle.diameter_writer.specs.declared.avp.Avp.{Avp}
use Rattle.diameter_writer.specs.declared.message.MessageFields.{MessageFields}
use Rattle.diameter_writer.proofs.Measuring.{encodes_more}
use Rattle.diameter_writer.proofs.Writes.{encode_length}

be4_quad : (n : ℕ) → n < 2 ^ 32 → be4 (n / 16777216 % 256) (n / 65536 % 256) (n / 256 % 256) (n % 256) ≡ n
be4_quad n h = omega (arith, from_be_bytes-to_be_bytes_4 n h)

be3_triple : (n : ℕ) → n < 2 ^ 24 → be3 (n / 65536 % 256) (n / 256 % 256) (n % 256) ≡ n
be3_triple n h = omega arith

-- the flag V tells whether there is a vendor
plain_is : (v : Option ℕ) (m : Bool) → eqb (bit_and (cond (is_some v) 128 0 + cond m 64 0) 128) 0 ≡ not (is_some v)
plain_is None true = refl
plain_is None false = refl
plain_is (Some v) true = refl
plain_is (Some v) false = refl

header_is : (v : Option ℕ) → ◌≡◌ {A = ℕ} (cond (not (is_some v)) 8 12) (cond (is_some v) 12 8)
header_is None = refl
header_is (Some v) = refl

module _ (c0 c1 c2 c3 f l0 l1 l2 : ℕ) (w rest : List ℕ) where
  -- an AVP, by the octets before its vendor
  abbrev from : Option ℕ → List ℕ
  from v = c0 ∷ c1 ∷ c2 ∷ c3 ∷ f ∷ l0 ∷ l1 ∷ l2 ∷ ((vendor_part v ++ w) ++ rest)

  after_header : (v : Option ℕ) → drop (cond (is_some v) 12 8) (from v) ≡ w ++ rest
  after_header None = refl
  after_header (Some v) = refl

  vendor_read : (v : Option ℕ) → unwrap_or v 0 < 2 ^ 32 → cond (not (is_some v)) 0 (read.four (from v) 8) ≡ unwrap_or v 0
  vendor_read None small = refl
  vendor_read (Some v) small = be4_quad v small

module _ {P : Type 0} (kinds : P → ℕ → ℕ → Kind P) (inner : P → ℕ → ℕ → List ℕ → Listing P) (p : P) where
  -- an AVP that was written comes first in the list, and the list goes on after it
  pub trip : (a : Avp) (at : ℕ) (rest : List ℕ) → a.code < 2 ^ 32 → vendor_for a < 2 ^ 32 → length_for a < 2 ^ 24 → fits_at kinds p a ≡ true → level kinds inner p 0 0 at (encode_avp a ++ rest) ≡ more (entry_for kinds (λ _. 0) p at a) (value_of (kind_for kinds (λ _. 0) p a) a.octets.now) (append (members inner (kind_for kinds (λ _. 0) p a) at (at + header_len_for a) a.octets.now) (level kinds inner p 0 0 (at + length (encode_avp a)) rest))
  unfolding encode_avp entry_at
  trip a at rest code vendor small fits =
      let n = length_for a in
      let octets = a.octets.now in
      let fill : List ℕ = replicate (padded n - n) 0 in
      let w = octets ++ fill in
      let xs = encode_avp a ++ rest in
      let q = quad a.code in
      let t = triple n in
      let pc : read.code_of xs ≡ a.code = be4_quad a.code code in
      let pl : read.length_of xs ≡ n = be3_triple n small in
      let pp : read.plain xs ≡ not (is_some a.vendor) = plain_is a.vendor a.mandatory in
      let ph : read.header_len xs ≡ header_len_for a = ap (λ b. cond b 8 12) pp ∙ header_is a.vendor in
      let pv : read.vendor_of xs ≡ vendor_for a = ap (λ b. cond b 0 (read.four xs 8)) pp ∙ vendor_read (get_or q 0 0) (get_or q 1 0) (get_or q 2 0) (get_or q 3 0) (flags_for a) (get_or t 0 0) (get_or t 1 0) (get_or t 2 0) w rest a.vendor vendor in
      let pt : drop (read.header_len xs) xs ≡ w ++ rest = ap (λ k. drop k xs) ph ∙ after_header (get_or q 0 0) (get_or q 1 0) (get_or q 2 0) (get_or q 3 0) (flags_for a) (get_or t 0 0) (get_or t 1 0) (get_or t 2 0) w rest a.vendor in
      let pn : read.length_of xs - read.header_len xs ≡ length octets = (λ i. pl i - ph i) ∙ omega arith in
      let po : take (read.length_of xs - read.header_len xs) (drop (read.header_len xs) xs) ≡ octets = (λ i. take (pn i) (pt i)) ∙ ap (take (length octets)) (append_assoc octets fill rest) ∙ take_at octets (fill ++ rest) (length octets) refl in
      let pk : kind_in kinds p xs ≡ kind_for kinds (λ _. 0) p a = λ i. kinds p (pc i) (pv i) in
      let long = encode_length a in
      let both = length-append (encode_avp a) rest in
      let pad = ap padded pl in
      let f : Framed (kind_in kinds p xs) xs = record {
        begun = omega (arith, long, both);
        covers = omega (arith, pl, ph);
        whole = omega (arith, pad, long, both);
        fits = (λ i. fitting (pk i) (pn i)) ∙ fits;
      } in
      let pe : entry_at kinds p 0 at xs ≡ entry_for kinds (λ _. 0) p at a = λ i. record { place = p; parent = 0; offset = at; code = pc i; vendor = pv i; flags = flags_for a; kind = pk i; start = at + ph i; end = at + pl i } in
      let end : padded (read.length_of xs) ≡ length (encode_avp a) = pad ∙ sym long in
      level_more kinds inner p 0 at xs f
      ∙ (λ i. more (pe i) (value_of (pk i) (po i)) (append (members inner (pk i) at (at + ph i) (po i)) (level kinds inner p 0 0 (at + end i) (drop (end i) xs))))
      ∙ ap (λ l. more (entry_for kinds (λ _. 0) p at a) (value_of (kind_for kinds (λ _. 0) p a) octets) (append (members inner (kind_for kinds (λ _. 0) p a) at (at + header_len_for a) octets) (level kinds inner p 0 0 (at + length (encode_avp a)) l))) (drop_at (encode_avp a) rest (length (encode_avp a)) refl)

module _ {P : Type 0} (kinds : P → ℕ → ℕ → Kind P) (rank : P → ℕ) (p : P) where
  -- AVPs that were written one after the other are listed one after the other
  trips : (l : List Avp) (at : ℕ) → Typed l → all_fit kinds p l ≡ true → length (encode_avps l) < 2 ^ 24 → level kinds (listed kinds (rank p)) p 0 0 at (encode_avps l) ≡ written kinds rank p at l
  unfolding Typed all_fit encode_avps written
  trips [] at typed fits small = level_done kinds (listed kinds (rank p)) p 0 at [] refl
  trips (a ∷ rest) at typed fits small =
      let more-long = encodes_more a rest in
      let fit = and_parts (fits_at kinds p a) (all_fit kinds p rest) fits in
      trip kinds (listed kinds (rank p)) p a at (encode_avps rest) typed.0 typed.1 (omega arith) fit.0
      ∙ ap (λ l. more (entry_for kinds rank p at a) (value_of (kind_for kinds rank p a) a.octets.now) (append (members (listed kinds (rank p)) (kind_for kinds rank p a) at (at + header_len_for a) a.octets.now) l)) (trips rest (at + length (encode_avp a)) typed.2 fit.1 (omega arith))

  -- a message that was written reads as what it was written from
  pub reads_as : (f : MessageFields) (avps : List Avp) → f.command < 2 ^ 24 → FieldsTyped f → message_len avps < 2 ^ 24 → Typed avps → all_fit kinds p avps ≡ true → ReadsAs kinds rank p f avps (encode_message f avps)
  unfolding encode_message listing listed
  reads_as f avps command t small typed fits =
      let m = encode_message f avps in
      let long : length m ≡ message_len avps = omega arith in
      let has : leb 20 (length m) ≡ true = le-leb 20 (length m) (omega arith) in
      record {
        header =
            ap (λ b. cond b (Some (read.header_in m)) None) has
            ∙ ap Some (λ i. record { version = f.version; length = (be3_triple (message_len avps) small ∙ sym long) i; flags = f.flags; command = be3_triple f.command command i; application = be4_quad f.application t.application i; hop_by_hop = be4_quad f.hop_by_hop t.hop_by_hop i; end_to_end = be4_quad f.end_to_end t.end_to_end i });
        listed_avps = trips avps 20 typed fits (omega arith);
      }
