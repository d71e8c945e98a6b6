use Rattle.std.proofs.Common.{◌^◌, ◌<◌, ◌≤◌, ◌++◌, cond, length, drop, Some, None, sym, ap, ◌∙◌, arith, rules}
use Rattle.diameter_writer.specs.Measures.{FieldsTyped}
use Rattle.diameter_writer.specs.Messages.{encode_message, message_len}
use Rattle.diameter_writer.proofs.Trips.{reads_as}
use Rattle.diameter_writer.proofs.Wholes.{message_length, put_message, writable_is}
use Rattle.diameter_writer.proofs.Writes.{put_more}
use Rattle.diameter_writer.proofs.write.write_message.Goals as goal

pub returns : goal.returns
returns g c =
    let m = c.in_ok-total.ensures in
    let f = c.args.fields in
    let avps = c.args.avps.now in
    let small : message_len avps < 2 ^ 24 = omega (arith, m.total, m.small) in
    let fits : message_len avps ≤ length c.args.out.now = omega (arith, m.total, c.if-total-out.false) in
    let typed : FieldsTyped f = search rules in
    let can = writable_is g.P.Place.kinds c.args.place f avps (length c.args.out.now) c.if-fields.false small fits m.fits in
    record {
      value = ap Some (m.total ∙ sym (message_length f avps)) ∙ sym (ap (λ b. cond b (Some (length (encode_message f avps))) None) can);
      after =
          (search rules)
          ∙ put_message f avps c.new-output.result c.in_ok-total.total c.put_avps.new.self c.new-output.ensures.end m.total (put_more _ _ _ _ _ c.put_header.ensures c.put_avps.ensures)
          ∙ ap (λ l. encode_message f avps ++ drop (length (encode_message f avps)) l) c.new-output.ensures.octets;
      reads = λ _. reads_as g.P.Place.kinds g.P.Place.rank c.args.place f avps c.if-fields.false typed small m.typed m.fits;
    }
