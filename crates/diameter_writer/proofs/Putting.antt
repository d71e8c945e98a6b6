-- What one turn of the writing loop keeps.
use Rattle.std.proofs.Common.{◌≡◌, ℕ, ◌+◌, ◌<◌, ◌≤◌, List, length, drop, sym, ap, ◌∙◌, subst, arith}
use Rattle.std.proofs.lemmas.List.{drop_all}
use Rattle.diameter_headers.specs.Framing.{padded}
use Rattle.diameter_writer.specs.Encoding.{encode_avp, encode_avps, length_for}
use Rattle.diameter_writer.specs.Outputs.{Put}
use Rattle.diameter_writer.specs.declared.avp.Avp.{Avp}
use Rattle.diameter_writer.specs.declared.output.Output.{Output}
use Rattle.diameter_writer.proofs.Measuring.{encodes_more, item, left_from}
use Rattle.diameter_writer.proofs.Writes.{encode_length, put_more, put_none, wrote_length}

module _ (start : Output) (avps : List Avp) where
  -- i AVPs are written: to write the rest completes them
  pub record Putting (now : Output) (i : ℕ) : Type 0 where
    pub room : now.end + length (encode_avps (drop i avps)) ≤ length now.octets.now
    pub goes : (new : Output) → Put now (encode_avps (drop i avps)) new → Put start (encode_avps avps) new

  module _ (now : Output) (i : ℕ) (t : Putting now i) (inside : i < length avps) where
    rest_length : length (encode_avps (drop i avps)) ≡ padded (length_for (item avps i)) + length (encode_avps (drop (i + 1) avps))
    rest_length = ap (λ l. length (encode_avps l)) (left_from avps i inside) ∙ encodes_more (item avps i) (drop (i + 1) avps)

    pub item_room : now.end + padded (length_for (item avps i)) ≤ length now.octets.now
    item_room = omega (arith, rest_length, t.room)

    pub item_put : (mid : Output) → Put now (encode_avp (item avps i)) mid → Putting mid (i + 1)
    unfolding encode_avps
    item_put mid p = record {
      room = omega (arith, rest_length, t.room, p.end, encode_length (item avps i), wrote_length now.octets.now now.end (encode_avp (item avps i)) mid.octets.now p.wrote);
      goes = λ new q. t.goes new (subst (λ l. Put now (encode_avps l) new) (sym (left_from avps i inside)) (put_more now (encode_avp (item avps i)) mid (encode_avps (drop (i + 1) avps)) new p q));
    }

  pub all_put : (now : Output) (i : ℕ) → length avps ≤ i → Putting now i → Put start (encode_avps avps) now
  unfolding encode_avps
  all_put now i all t = t.goes now (subst (λ l. Put now (encode_avps l) now) (sym (drop_all i avps all)) (put_none now))
