use Rattle.std.proofs.Common.{sym, ◌∙◌}
use Rattle.hex_text.proofs.Digits.{blank_more, no_digit, first_half, second_half, read_whole, read_half}
use Rattle.hex_text.proofs.hex.read_hex.Goals as goal
use Rattle.hex_text.proofs.hex.read_hex.Goals.{in-None, in-Some-half+in_ok-push-in-Some-half}

pub loop-at-preserved-then-is_blank : goal.loop-at-preserved-then-is_blank
loop-at-preserved-then-is_blank c = blank_more _ _ _ _ c.loop-at.invariant c.loop-at-test.true (sym c.is_blank.ensures ∙ c.if-is_blank.true)

pub returns-in_default : goal.returns-in_default
returns-in_default c = no_digit _ _ _ _ c.loop-at.invariant c.loop-at-test.true (sym c.is_blank.ensures ∙ c.if-is_blank.false) c.in_default.ensures.value

pub loop-at-preserved : goal.loop-at-preserved
loop-at-preserved c =
    let here = c.loop-at-test.true in
    let shown = sym c.is_blank.ensures ∙ c.if-is_blank.false in
    let digit = c.in-Some.ensures in
    elim c.match-half.branch [
      | in-None w ↦ rw (w.octets-is, w.half-is) (first_half _ _ _ _ c.loop-at.invariant here shown c.in-Some.digit digit.value digit.small w.in-None.is)
      | in-Some-half+in_ok-push-in-Some-half w ↦ rw (w.octets-is, w.half-is) (second_half _ _ _ _ c.loop-at.invariant here shown c.in-Some.digit w.in-Some-half.high digit.value w.in-Some-half.is _ w.in_ok-push-in-Some-half.ensures.items)
    ]

pub returns-in-None-half : goal.returns-in-None-half
returns-in-None-half c = read_whole _ _ _ _ c.loop-at.invariant c.loop-at-test.false c.in-None-half.is

pub returns-in-Some-half-2 : goal.returns-in-Some-half-2
returns-in-Some-half-2 c = read_half _ _ _ _ c.loop-at.invariant c.loop-at-test.false _ c.in-Some-half-2.is
