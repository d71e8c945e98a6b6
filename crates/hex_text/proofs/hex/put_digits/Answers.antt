use Rattle.std.proofs.Common.{◌≡◌, ◌++◌, ◌∷◌, [], get_or, take, sym, ap, ◌∙◌, rules, arith}
use Rattle.std.specs.Str.{IsAscii}
use Rattle.std.proofs.lemmas.List.{take_more, flat_map_more}
use Rattle.std.proofs.lemmas.Str.{IsAscii-append}
use Rattle.std.proofs.lemmas.Str.Ascii.{IsAscii-from_all}
use Rattle.hex_text.specs.Hex.{digits_of, hex_text}
use Rattle.hex_text.proofs.Pairs.{pair_more}
use Rattle.hex_text.proofs.hex.put_digits.Goals as goal

pub loop-i-preserved : goal.loop-i-preserved
loop-i-preserved c =
    let xs = c.args.octets.now in
    let i = c.loop-i.i in
    let x = get_or xs i 0 in
    let a = c.hex_digit.result in
    let b = c.hex_digit-in-loop-i.result in
    let two = pair_more c.loop-i.place i a b (omega arith) in
    let digits : a ∷ b ∷ [] ≡ digits_of x = search rules in
    let pair : IsAscii (a ∷ b ∷ []) = IsAscii-from_all (a ∷ b ∷ []) (search rules) in (
      two
          ∙ ap (λ t. t ++ (a ∷ b ∷ [])) c.loop-i.invariant.0
          ∙ ap (λ t. hex_text (take i xs) ++ t) digits
          ∙ flat_map_more digits_of [] (take i xs) x
          ∙ ap hex_text (sym (take_more xs i 0 c.loop-i-test.true)),
      rw two (IsAscii-append _ _ c.loop-i.invariant.1 pair),
      search rules,
    )
