use Rattle.std.proofs.Common.{◌<◌, length, ◌∙◌, arith}
use Rattle.chained_store.proofs.Buckets.{chains_set, chains_back}
use Rattle.chained_store.proofs.linked.Linked.replace.Goals as goal

pub link-requires-clause-chains : goal.link-requires-clause-chains
link-requires-clause-chains g c =
    let t = c.unlink.new.self in
    let s = c.args.self.now in
    let i = c.args.i in
    let a : i < length t.rows.now = rw c.unlink.ensures.rows (s.chains.low i c.requires) in
    rw (c.write.ensures.rows, c.write.ensures.links, c.write.ensures.used, c.unlink.ensures.used)
    (chains_set g.K.Key.digest t.rows.now t.links.now s.table.used i c.args.row a c.unlink.ensures.chains)

pub invariant_of-self : goal.invariant_of-self
invariant_of-self g c =
    let t = c.link.new.self in
    let same = c.write.ensures.used ∙ c.unlink.ensures.used in
    record { chains = rw c.link.ensures.used (chains_back g.K.Key.digest t.rows.now t.links.now c.write.new.self.used c.args.i (let p = c.requires in omega (arith, same)) c.link.ensures.chains) }
