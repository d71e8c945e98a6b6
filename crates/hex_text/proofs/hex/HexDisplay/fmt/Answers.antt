use Rattle.std.proofs.Common.{◌≡◌, ℕ, List, ◌++◌, rules, sym, ap, ◌∙◌, append_assoc}
use Rattle.std.specs.Slice.Iter.{chunks_rest}
use Rattle.std.proofs.Output.{has_written_append}
use Rattle.std.proofs.lemmas.Grind.{flat_map-append}
use Rattle.std.proofs.lemmas.Str.{IsUtf8-from_ascii}
use Rattle.hex_text.specs.Hex.{digits_of, hex_text}
use Rattle.hex_text.proofs.hex.HexDisplay.fmt.Goals as goal

pub unreachable-requires : goal.unreachable-requires
unreachable-requires g c = c.in_default.ensures.cases.0 (IsUtf8-from_ascii _ c.put_digits.ensures.ascii)

pub loop-part-preserved : goal.loop-part-preserved
loop-part-preserved g c =
    let part = c.in-Some.part.now in
    let rest = chunks_rest c.next.new.self in
    let steps = c.in-Some.ensures.steps in
    let shown : c.in-Ok.digits.now ≡ hex_text part = c.in-Ok.ensures.cases.0 ∙ c.put_digits.ensures.digits in (
      search rules,
      tt,
      steps.0 ∙ c.loop-part.invariant.2,
      c.put_digits.ensures.size ∙ c.loop-part.invariant.3,
      λ plain.
          let so_far = c.loop-part.invariant.4 plain in (
            so_far.0 ++ c.in-Ok.digits.now,
            has_written_append _ _ _ _ _ _ so_far.1 (search rules),
            append_assoc so_far.0 _ _
                ∙ ap (λ (t : List ℕ). so_far.0 ++ t) (ap (λ (t : List ℕ). t ++ hex_text rest) shown ∙ sym (flat_map-append digits_of part rest) ∙ ap hex_text (sym steps.1.0))
                ∙ so_far.2,
          ),
    )
