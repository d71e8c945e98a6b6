use Rattle.std.proofs.Common.{◌≡◌, sym, ◌∙◌}
use Rattle.stores.proofs.Counts.{counts_alike}
use Rattle.stores_demo.proofs.pair.Pair.remove_bearer.Goals as goal

pub invariant_of-self : goal.invariant_of-self
invariant_of-self g c =
    let p = c.args.self.now in
    let a = c.remove_bearer.new.store in
    let b = c.remove_bearer-2.new.store in
    let same : (q : g.row.K.Denot) → (g.A.Store.holds a).at q ≡ (g.B.Store.holds b).at q = λ q. cc (c.remove_bearer.ensures.cleared.records q, p.records q, c.remove_bearer-2.ensures.cleared.records q) in
    record {
      records = same;
      counts = counts_alike _ _ _ _ (g.met.A.Store.numbers a) (g.met.B.Store.numbers b) same;
      rooms = c.remove_bearer.ensures.room ∙ p.rooms ∙ sym c.remove_bearer-2.ensures.room;
    }
