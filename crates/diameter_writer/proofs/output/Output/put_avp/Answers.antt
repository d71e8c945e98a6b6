use Rattle.std.proofs.Common.{ℕ, ◌-◌, ◌≤◌, subst, arith}
use Rattle.std.proofs.lemmas.List.{take-replicate}
use Rattle.diameter_headers.specs.Framing.{padded}
use Rattle.diameter_writer.specs.Encoding.{encode_avp, length_for}
use Rattle.diameter_writer.specs.Outputs.{Put}
use Rattle.diameter_writer.proofs.Writes.{put_more}
use Rattle.diameter_writer.proofs.output.Output.put_avp.Goals as goal

pub returns : goal.returns
unfolding encode_avp
returns c =
    let n = length_for c.args.avp.now in
    let few : padded n - n ≤ 3 = omega arith in
    let zeros = take-replicate {X = ℕ} (padded n - n) 3 0 few in
    subst (λ l. Put c.args.self.now l c.put-4.new.self) (simp (c.to_be_bytes.ensures, c.to_be_bytes-2.ensures, c.flags.ensures, c.padding.ensures, c.length-length.ensures.value, zeros))
    (put_more _ _ _ _ _ c.put.ensures (put_more _ _ _ _ _ c.put-2.ensures (put_more _ _ _ _ _ c.put_vendor.ensures (put_more _ _ _ _ _ c.put-3.ensures c.put-4.ensures))))
