use Rattle.std.proofs.Common.{arith}
use Rattle.stores.proofs.Changes.{put_over, put_new, put_full}
use Rattle.flat_store.proofs.flat.FlatStore.put.Goals as goal

pub returns-in-Some-clause-put : goal.returns-in-Some-clause-put
returns-in-Some-clause-put g c =
    let s = c.args.self.now in
    put_over g.K.Key.alike g.met.K.Key.equal s.rows.now s.used s.dense c.in-Some.i (record { key = c.args.key; value = c.args.value }) c.in-Some.ensures _

pub returns-in-None-clause-put : goal.returns-in-None-clause-put
returns-in-None-clause-put g c =
    let s = c.args.self.now in
    put_new g.K.Key.alike g.met.K.Key.equal s.rows.now s.used s.dense (record { key = c.args.key; value = c.args.value }) (omega arith) c.in-None.ensures

pub returns-in-None-2-clause-put : goal.returns-in-None-2-clause-put
returns-in-None-2-clause-put g c =
    let s = c.args.self.now in
    put_full g.K.Key.alike g.met.K.Key.equal s.rows.now s.used s.dense c.args.key c.args.value c.if-self-room.false c.in-None-2.ensures
