use Rattle.std.proofs.Common.{rules}
use Rattle.stores.proofs.Changes.{over_dense, put_over, put_new, put_full}
use Rattle.chained_store.proofs.Buckets.{chains_over}
use Rattle.chained_store.proofs.chained.ChainedStore.put.Goals as goal

pub invariant_of-self : goal.invariant_of-self
invariant_of-self g c =
    let s = c.args.self.now in
    let t = s.linked.table in (
      (chains_over g.K.Key.digest t.rows.now t.links.now t.used c.in-Some.i (record { key = c.args.key; value = c.args.value }) c.in-Some.ensures s.linked.chains, _),
      (over_dense g.K.Key.alike g.met.K.Key.equal t.rows.now t.used s.dense c.in-Some.i (record { key = c.args.key; value = c.args.value }) c.in-Some.ensures, _),
    )

pub returns-in-Some-clause-put : goal.returns-in-Some-clause-put
returns-in-Some-clause-put g c =
    let s = c.args.self.now in
    let t = s.linked.table in
    put_over g.K.Key.alike g.met.K.Key.equal t.rows.now t.used s.dense c.in-Some.i (record { key = c.args.key; value = c.args.value }) c.in-Some.ensures _

pub returns-in-None-clause-put : goal.returns-in-None-clause-put
returns-in-None-clause-put g c =
    let s = c.args.self.now in
    let t = s.linked.table in
    rw (c.push.ensures.rows, c.push.ensures.used)
    (put_new g.K.Key.alike g.met.K.Key.equal t.rows.now t.used s.dense (record { key = c.args.key; value = c.args.value }) (search rules) c.in-None.ensures)

pub returns-in-None-2-clause-put : goal.returns-in-None-2-clause-put
returns-in-None-2-clause-put g c =
    let s = c.args.self.now in
    let t = s.linked.table in
    put_full g.K.Key.alike g.met.K.Key.equal t.rows.now t.used s.dense c.args.key c.args.value (search rules) c.in-None-2.ensures
