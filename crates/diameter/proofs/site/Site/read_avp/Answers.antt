use Rattle.std.proofs.Common.{sym, refl, subst, arith}
use Rattle.std.specs.List.{between}
use Rattle.diameter_headers.specs.Framing.{Framed}
use Rattle.diameter.specs.Listing.{kind_in}
use Rattle.diameter.proofs.Tellings.{told, window_is}
use Rattle.diameter.proofs.site.Site.read_avp.Goals as goal

pub returns-in_default : goal.returns-in_default
returns-in_default g c =
    let m = c.args.self.now.message.now in
    let p = c.args.cursor.now.position in
    let e = c.args.cursor.now.end in
    record {
      some = omega (arith, c.requires.ordered);
      broken = λ framed. c.in_default.ensures (subst (λ l. Framed (kind_in g.P.Place.kinds c.args.self.now.place l) l) (sym (window_is m p e)) framed);
      fault = c.at.ensures;
      same = refl;
    }

pub returns : goal.returns
returns g c =
    let m = c.args.self.now.message.now in
    let p = c.args.cursor.now.position in
    let e = c.args.cursor.now.end in
    let found = c.in-Some.ensures in
    told g.P.Place.kinds c.args.self.now.place c.args.self.now.parent m p e c.in-Some.avp c.in-Some.kind c.item_of-item.result c.padding.result (between p e m) (window_is m p e) found.0 found.1 found.2 c.padding.ensures c.item_of-item.ensures
