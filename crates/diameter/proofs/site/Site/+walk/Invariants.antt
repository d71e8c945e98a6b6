use Rattle.std.proofs.Common.{◌-◌}
use Rattle.diameter.proofs.Going.{Going}
use Rattle.diameter.proofs.site.Site.+walk.Given as goal

abbrev pub decreases-walk : goal.decreases-walk
decreases-walk g l = g.P.Place.rank l.self.now.place

abbrev pub invariant-loop-entry : goal.invariant-loop-entry
invariant-loop-entry g l = Going g.P.Place.kinds g.P.Place.rank g.V.Visitor.shows l.self.place l.self.parent l.self.message.now l.initial.visitor l.initial.cursor l.visitor l.cursor

abbrev pub decreases-loop-entry : goal.decreases-loop-entry
decreases-loop-entry g l = l.cursor.end - l.cursor.position
