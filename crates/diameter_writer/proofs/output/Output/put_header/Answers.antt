use Rattle.std.proofs.Common.{subst}
use Rattle.diameter_writer.specs.Outputs.{Put}
use Rattle.diameter_writer.proofs.Writes.{put_more}
use Rattle.diameter_writer.proofs.output.Output.put_header.Goals as goal

pub returns : goal.returns
returns c =
    subst (λ l. Put c.args.self.now l c.put-5.new.self) (simp (c.to_be_bytes.ensures, c.to_be_bytes-2.ensures, c.to_be_bytes-3.ensures, c.to_be_bytes-4.ensures, c.to_be_bytes-5.ensures))
    (put_more _ _ _ _ _ c.put.ensures (put_more _ _ _ _ _ c.put-2.ensures (put_more _ _ _ _ _ c.put-3.ensures (put_more _ _ _ _ _ c.put-4.ensures c.put-5.ensures))))
