use Rattle.stores.proofs.Changes.{removed_none}
use Rattle.chained_store.proofs.Buckets.{less_rows, less_removed, less_room}
use Rattle.chained_store.proofs.chained.ChainedStore.remove.Goals as goal

pub invariant_of-self : goal.invariant_of-self
invariant_of-self g c =
    let s = c.args.self.now in
    let t = s.linked.table in
    record { dense = rw c.swap_remove.ensures.used (less_rows g.K.Key.alike g.met.K.Key.equal t.rows.now t.used s.dense c.in-Some.i c.args.key.now c.in-Some.ensures c.swap_remove.new.self.table.rows.now c.swap_remove.ensures.rows) }

pub returns-clause-removed : goal.returns-clause-removed
returns-clause-removed g c =
    let s = c.args.self.now in
    let t = s.linked.table in
    rw c.swap_remove.ensures.used (less_removed g.K.Key.alike g.met.K.Key.equal t.rows.now t.used s.dense c.in-Some.i c.args.key.now c.in-Some.ensures c.swap_remove.new.self.table.rows.now c.swap_remove.ensures.rows)

pub returns-clause-room : goal.returns-clause-room
returns-clause-room g c =
    let s = c.args.self.now in
    let t = s.linked.table in
    less_room g.K.Key.alike g.met.K.Key.equal t.rows.now t.used s.dense c.in-Some.i c.args.key.now c.in-Some.ensures c.swap_remove.new.self.table.rows.now c.swap_remove.ensures.rows

pub returns-in_default-clause-removed : goal.returns-in_default-clause-removed
returns-in_default-clause-removed g c =
    let s = c.args.self.now in
    let t = s.linked.table in
    removed_none g.K.Key.alike g.met.K.Key.equal t.rows.now t.used s.dense c.args.key.now c.in_default.ensures
