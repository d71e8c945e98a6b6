use Rattle.chained_store.proofs.Buckets.{chains_skip, chains_set, chains_more}
use Rattle.chained_store.proofs.linked.Linked.push.Goals as goal

pub link-requires-clause-chains : goal.link-requires-clause-chains
link-requires-clause-chains g c =
    let t = c.args.self.now.table in
    chains_set g.K.Key.digest t.rows.now t.links.now t.used t.used c.args.row c.requires (chains_skip g.K.Key.digest t.rows.now t.links.now t.used c.args.self.now.chains)

pub invariant_of-self : goal.invariant_of-self
invariant_of-self g c =
    let t = c.link.new.self in
    let n = c.args.self.now.table.used in
    record { chains = rw c.link.ensures.used (chains_more g.K.Key.digest t.rows.now t.links.now n c.link.ensures.chains) }
