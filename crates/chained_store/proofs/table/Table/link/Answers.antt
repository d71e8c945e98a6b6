use Rattle.chained_store.proofs.Buckets.{leads_out, linked}
use Rattle.chained_store.proofs.table.Table.link.Goals as goal

pub before-p-requires-clause-leads : goal.before-p-requires-clause-leads
before-p-requires-clause-leads g c =
    let s = c.args.self.now in
    leads_out g.K.Key.digest s.rows.now s.links.now s.used c.args.x c.requires.chains

pub returns-clause-chains : goal.returns-clause-chains
returns-clause-chains g c =
    let s = c.args.self.now in
    linked g.K.Key.digest s.rows.now s.links.now s.used c.args.x c.before-p.result c.requires.row c.requires.chains c.before-p.ensures
