use Rattle.std.proofs.Common.{◌≡◌, ◌≤◌, length, sym, ap, subst}
use Rattle.diameter.proofs.Steps.{read_within}
use Rattle.diameter.proofs.reader.Reader.next.Goals as goal

pub invariant_of-self : goal.invariant_of-self
invariant_of-self g c =
    let self = c.args.self.now in
    let m = c.site.result.message.now in
    let same : m ≡ self.message.now = ap (λ x. x.now) c.site.ensures.message in
    let w = read_within g.P.Place.kinds _ _ m self.cursor c.read_avp.new.cursor c.read_avp.result (record { ordered = self.ordered; inside = subst (λ l. self.cursor.end ≤ length l) (sym same) self.inside }) c.read_avp.ensures in
    record { ordered = w.ordered; inside = subst (λ l. c.read_avp.new.cursor.end ≤ length l) same w.inside }
