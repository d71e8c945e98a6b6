use Rattle.stores.proofs.Changes.{found_at}
use Rattle.chained_store.proofs.chained.ChainedStore.find.Goals as goal

pub returns : goal.returns
returns g c =
    let s = c.args.self.now in
    found_at g.K.Key.alike g.met.K.Key.equal s.linked.table.rows.now s.linked.table.used s.dense c.args.key.now c.place_of.result c.args.place.now c.read_record.new.place c.read_record.result c.place_of.ensures (rw c.unwrap_or-i.ensures at c.read_record.ensures)
