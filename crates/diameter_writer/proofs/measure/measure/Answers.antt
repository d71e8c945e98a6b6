use Rattle.std.proofs.Common.{◌≡◌, ◌+◌, ◌^◌, ◌≤◌, length, sym, ◌∙◌, subst, arith}
use Rattle.diameter_headers.specs.Framing.{padded}
use Rattle.diameter_writer.specs.Encoding.{length_for}
use Rattle.diameter_writer.proofs.Measuring.{Counting, item, counted_more, counted_all, too_long, no_fit}
use Rattle.diameter_writer.proofs.measure.measure.Goals as goal
use Rattle.diameter_writer.proofs.measure.measure.Goals.{then-not-fits_at-via-then-not-fits_at, then-not-fits_at-via-else-not-fits_at+then-total-ge-THREE_OCTET_LIMIT}

pub returns-then-not-fits_at : goal.returns-then-not-fits_at
returns-then-not-fits_at g c = elim c.then-not-fits_at.branch [
  | then-not-fits_at-via-then-not-fits_at w ↦ no_fit _ _ _ _ _ c.loop-avp.invariant c.loop-avp-test.true (sym c.fits_at.ensures.value ∙ w.if-not-fits_at.true)
  | then-not-fits_at-via-else-not-fits_at+then-total-ge-THREE_OCTET_LIMIT w ↦
      let long : 2 ^ 24 ≤ c.loop-avp.total + padded (length_for (item c.args.avps.now c.loop-avp.avp-index)) = omega (arith, c.length-length.ensures.value) in
      too_long _ _ _ _ _ c.loop-avp.invariant c.loop-avp-test.true long
]

pub loop-avp-preserved : goal.loop-avp-preserved
loop-avp-preserved g c =
    let next : c.loop-avp.total + (c.length-length.result + c.padding.result) ≡ c.loop-avp.total + padded (length_for (item c.args.avps.now c.loop-avp.avp-index)) = omega (arith, c.length-length.ensures.value) in
    counted_more _ _ _ _ _ c.loop-avp.invariant c.loop-avp-test.true (sym c.fits_at.ensures.value ∙ c.if-not-fits_at.false) c.fits_at.ensures.typed.0 c.fits_at.ensures.typed.1 _ next c.if-total-ge-THREE_OCTET_LIMIT.false

pub returns : goal.returns
returns g c =
    let all : c.loop-avp.avp-index ≡ length c.args.avps.now = omega (arith, c.loop-avp-test.false, c.loop-avp.auto.avp-index-end) in
    counted_all _ _ _ _ (subst (λ i. Counting g.P.Place.kinds c.args.place c.args.avps.now i c.loop-avp.total) all c.loop-avp.invariant)
