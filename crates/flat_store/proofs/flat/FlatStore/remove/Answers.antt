use Rattle.std.proofs.Common.{◌-◌, arith}
use Rattle.std.proofs.lemmas.List.{get_or_default}
use Rattle.stores.proofs.Changes.{less_dense, removed_one, removed_none}
use Rattle.flat_store.proofs.flat.FlatStore.remove.Goals as goal

pub invariant_of-self : goal.invariant_of-self
invariant_of-self g c =
    let s = c.args.self.now in
    record { dense = less_dense g.K.Key.alike g.met.K.Key.equal s.rows.now s.used s.dense c.in-Some.i c.args.key.now _ c.in-Some.ensures (λ d. get_or_default s.rows.now (s.used - 1) c.index-self-last.result d (let l = s.dense.fits in let a = c.in-Some.ensures.within in omega arith)) }

pub returns-clause-removed : goal.returns-clause-removed
returns-clause-removed g c =
    let s = c.args.self.now in
    removed_one g.K.Key.alike g.met.K.Key.equal s.rows.now s.used s.dense c.in-Some.i c.args.key.now _ c.in-Some.ensures (λ d. get_or_default s.rows.now (s.used - 1) c.index-self-last.result d (let l = s.dense.fits in let a = c.in-Some.ensures.within in omega arith))

pub returns-in_default-clause-removed : goal.returns-in_default-clause-removed
returns-in_default-clause-removed g c =
    let s = c.args.self.now in
    removed_none g.K.Key.alike g.met.K.Key.equal s.rows.now s.used s.dense c.args.key.now c.in_default.ensures
