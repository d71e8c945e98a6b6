use Rattle.std.proofs.Common.{◌≡◌, ℕ, suc, Err, sym, ap, ◌∙◌, subst, arith, rules}
use Rattle.std.proofs.lemmas.Result.{IfOk-from_err, err_from_is_err_and}
use Rattle.diameter.specs.Reading.{Within, Told, ahead}
use Rattle.diameter.specs.Visiting.{Shown}
use Rattle.diameter_headers.specs.declared.place.Kind.TheVariants.{Group}
use Rattle.diameter.proofs.Going.{Going, finished, broke, refused, passed, entered, failed}
use Rattle.diameter.proofs.Steps.{Lies, told_lies, told_kind}
use Rattle.diameter.proofs.site.Site.+walk.Given.{Over}
use Rattle.diameter.proofs.site.Site.+walk.Goals as goal
use Rattle.diameter.proofs.site.Site.+walk.Goals.{In-Some}

told_here : (g : Over) (t : ℕ) (c : In-Some g t) → Told g.P.Place.kinds c.args.self.now.place c.args.self.now.parent c.args.self.now.message.now c.loop-entry.cursor c.read_avp.new.cursor c.in-Some.entry c.in-Some.item
told_here g t c = rw c.in-Some.is at c.in_ok-entry.ensures

-- where the AVP lies, and how deep a group is
lies_here : (g : Over) (t : ℕ) (c : In-Some g t) → Lies c.loop-entry.cursor c.read_avp.new.cursor c.in-Some.entry c.args.self.now.message.now
lies_here g t c = told_lies g.P.Place.kinds g.P.Place.rank c.args.self.now.place c.args.self.now.parent c.args.self.now.message.now c.loop-entry.cursor c.read_avp.new.cursor c.loop-entry.invariant.within c.in-Some.entry c.in-Some.item (told_here g t c)

deep_here : (g : Over) (t : ℕ) (c : In-Some g t) (q : g.row.P.Denot) → c.in-Some.entry.kind ≡ Group q → suc (g.P.Place.rank q) ≡ g.P.Place.rank c.args.self.now.place
deep_here g t c q is = g.met.P.Place.falls c.args.self.now.place q _ _ (sym (told_kind g.P.Place.kinds g.P.Place.rank c.args.self.now.place c.args.self.now.parent c.args.self.now.message.now c.loop-entry.cursor c.read_avp.new.cursor c.loop-entry.invariant.within c.in-Some.entry c.in-Some.item (told_here g t c)) ∙ is)

pub returns-in_err-entry : goal.returns-in_err-entry
returns-in_err-entry g t c =
    let p = err_from_is_err_and c.from_residual.result c.from_residual.ensures.1 in
    let bad = c.in_err-entry.ensures in
    let i = c.loop-entry.invariant in
    record {
      shown = subst (λ r. Shown g.V.Visitor.shows c.args.visitor.now (ahead g.P.Place.kinds g.P.Place.rank c.args.self.now.place c.args.self.now.parent c.args.self.now.message.now c.args.cursor.now) r c.loop-entry.visitor) (sym (p.1 ∙ ap Err p.2)) (broke _ _ _ _ _ _ _ _ _ _ _ i _ bad);
      end = ap (λ x. x.end) bad.same ∙ i.end;
      within = subst (Within c.args.self.now.message.now) (sym bad.same) i.within;
      all = IfOk-from_err c.from_residual.result _ c.from_residual.ensures.0;
    }

pub returns-in-Err : goal.returns-in-Err
returns-in-Err g t c =
    let here = (goal.at.returns-in-Err g t c).In-Some in
    let told = told_here g t here in
    let lies = lies_here g t here in
    let i = c.loop-entry.invariant in
    record {
      shown = subst (λ f. Shown g.V.Visitor.shows c.args.visitor.now (ahead g.P.Place.kinds g.P.Place.rank c.args.self.now.place c.args.self.now.parent c.args.self.now.message.now c.args.cursor.now) (Err f) c.show.new.self) (sym c.at.ensures) (refused _ _ _ _ _ _ _ _ _ _ _ i c.in-Some.entry c.in-Some.item told _ c.in-Err.refusal c.in-Err.ensures);
      end = lies.same ∙ i.end;
      within = lies.within;
      all = tt;
    }

pub walk-requires : goal.walk-requires
walk-requires g t c κs within =
    let here = (goal.at.walk-requires g t c).In-Some in
    let lies = lies_here g t here in
    let deep = deep_here g t here c.in-Group.inner c.in-Group.is in
    search rules

pub returns-in_err-walk : goal.returns-in_err-walk
returns-in_err-walk g t c =
    let p = err_from_is_err_and c.from_residual-in_err-walk.result c.from_residual-in_err-walk.ensures.1 in
    let here = (goal.at.returns-in_err-walk g t c).In-Some in
    let told = told_here g t here in
    let lies = lies_here g t here in
    let deep = deep_here g t here c.in-Group.inner c.in-Group.is in
    let i = c.loop-entry.invariant in
    record {
      shown = subst (λ r. Shown g.V.Visitor.shows c.args.visitor.now (ahead g.P.Place.kinds g.P.Place.rank c.args.self.now.place c.args.self.now.parent c.args.self.now.message.now c.args.cursor.now) r c.walk.new.visitor) (sym (p.1 ∙ ap Err p.2)) (failed _ _ _ _ _ _ _ _ _ _ _ i c.in-Some.entry c.in-Some.item told _ c.in-Group.inner c.in-Group.is deep _ _ c.in_default-show.ensures c.in_err-walk.ensures.shown);
      end = ap (λ x. x.end) c.drop-inside.ensures ∙ lies.same ∙ i.end;
      within = subst (Within c.args.self.now.message.now) (sym c.drop-inside.ensures) lies.within;
      all = IfOk-from_err c.from_residual-in_err-walk.result _ c.from_residual-in_err-walk.ensures.0;
    }

pub loop-entry-smaller-in-Group : goal.loop-entry-smaller-in-Group
loop-entry-smaller-in-Group g t c =
    let lies = lies_here g t (goal.at.loop-entry-smaller-in-Group g t c).In-Some in
    let back = c.drop-inside-in-Group.ensures in
    let position = ap (λ x. x.position) back in
    let end = ap (λ x. x.end) back in
    omega (arith, lies.within.ordered)

pub loop-entry-preserved-in-Group : goal.loop-entry-preserved-in-Group
loop-entry-preserved-in-Group g t c =
    let here = (goal.at.loop-entry-preserved-in-Group g t c).In-Some in
    let told = told_here g t here in
    let deep = deep_here g t here c.in-Group.inner c.in-Group.is in
    subst (Going g.P.Place.kinds g.P.Place.rank g.V.Visitor.shows c.args.self.now.place c.args.self.now.parent c.args.self.now.message.now c.args.visitor.now c.args.cursor.now c.walk.new.visitor) (sym c.drop-inside-in-Group.ensures)
    (entered _ _ _ _ _ _ _ _ _ _ _ c.loop-entry.invariant c.in-Some.entry c.in-Some.item told _ c.in-Group.inner c.in-Group.is deep _ c.in_default-show.ensures c.in_ok-walk.ensures.shown)

pub loop-entry-smaller : goal.loop-entry-smaller
loop-entry-smaller g t c =
    let lies = lies_here g t (goal.at.loop-entry-smaller g t c).In-Some in
    omega (arith, lies.within.ordered)

pub loop-entry-preserved : goal.loop-entry-preserved
loop-entry-preserved g t c =
    let told = told_here g t (goal.at.loop-entry-preserved g t c).In-Some in
    passed _ _ _ _ _ _ _ _ _ _ _ c.loop-entry.invariant c.in-Some.entry c.in-Some.item told _ c.in_default-show.ensures c.in_default-kind.not-Group

pub returns : goal.returns
returns g t c =
    let i = c.loop-entry.invariant in
    let ended = rw c.in_default.is at c.in_ok-entry.ensures in
    record {
      shown = finished _ _ _ _ _ _ _ _ _ _ _ i ended;
      end = ap (λ x. x.end) ended.same ∙ i.end;
      within = subst (Within c.args.self.now.message.now) (sym ended.same) i.within;
      all = ap (λ x. x.position) ended.same ∙ ended.end ∙ sym (ap (λ x. x.end) ended.same);
    }
