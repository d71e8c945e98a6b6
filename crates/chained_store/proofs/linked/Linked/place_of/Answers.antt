use Rattle.std.proofs.Common.{sym, ap, ◌∙◌, arith}
use Rattle.std.proofs.lemmas.List.{get_or_default}
use Rattle.std.proofs.lemmas.Bool.{both_ways}
use Rattle.chained_store.proofs.Following.{seek_first, seek_next, seek_falls, row_there}
use Rattle.chained_store.proofs.linked.Linked.place_of.Goals as goal

pub loop-i-init : goal.loop-i-init
loop-i-init g c =
    let s = c.args.self.now in
    rw c.bucket.ensures (seek_first g.K.Key.digest s.table.rows.now s.table.links.now s.table.used c.args.key.now s.chains)

pub loop-i-smaller : goal.loop-i-smaller
loop-i-smaller g c =
    let s = c.args.self.now in
    omega (arith, seek_falls g.K.Key.digest s.table.rows.now s.table.links.now s.table.used c.loop-i.link c.in-Some.i c.in-Some.ensures c.args.key.now s.chains c.loop-i.invariant)

pub loop-i-preserved : goal.loop-i-preserved
loop-i-preserved g c =
    let s = c.args.self.now in
    let there = row_there g.K.Key.digest s.table.rows.now s.table.links.now s.table.used c.loop-i.link c.in-Some.i c.in-Some.ensures c.args.key.now s.chains c.loop-i.invariant in
    seek_next g.K.Key.digest s.table.rows.now s.table.links.now s.table.used c.loop-i.link c.in-Some.i c.in-Some.ensures c.args.key.now s.chains c.loop-i.invariant
    (λ d p. both_ways _ (sym c.if-is_like.ensures) ((g.met.K.Key.equal _ _).1 (ap (λ x. x.key) (get_or_default s.table.rows.now c.in-Some.i c.index-rows-i.result d there) ∙ p)))
