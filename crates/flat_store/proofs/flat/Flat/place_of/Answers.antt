use Rattle.stores.proofs.Lookups.{place_found}
use Rattle.flat_store.proofs.flat.Flat.place_of.Goals as goal

pub returns : goal.returns
returns g c =
    let s = c.args.self.now in
    place_found g.K.Key.alike g.met.K.Key.equal s.rows.now s.used c.args.key.now s.dense.fits c.position.result c.position.ensures
