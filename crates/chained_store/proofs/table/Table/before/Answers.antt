use Rattle.chained_store.proofs.Following.{near_first, near_next, near_falls}
use Rattle.chained_store.proofs.table.Table.before.Goals as goal

pub loop-i-init : goal.loop-i-init
loop-i-init g c =
    let s = c.args.self.now in
    rw c.bucket-p.ensures (near_first g.K.Key.digest s.rows.now s.links.now s.used c.args.x c.index-self-x.result c.requires.row c.requires.wide)

pub loop-i-smaller : goal.loop-i-smaller
loop-i-smaller g c =
    let s = c.args.self.now in
    near_falls g.K.Key.digest s.rows.now s.links.now s.used c.args.x c.loop-i.p c.in-Some.i c.requires.leads c.loop-i.invariant c.in-Some.ensures c.if-i-x.true

pub loop-i-preserved : goal.loop-i-preserved
loop-i-preserved g c =
    let s = c.args.self.now in
    near_next g.K.Key.digest s.rows.now s.links.now s.used c.args.x c.loop-i.p c.in-Some.i c.requires.leads c.loop-i.invariant c.in-Some.ensures c.if-i-x.true
