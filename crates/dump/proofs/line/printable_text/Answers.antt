use Rattle.std.proofs.Common.{◌≡◌, ◌<◌, ℕ, true, rules, arith}
use Rattle.std.specs.Str.{IsUtf8}
use Rattle.std.proofs.lemmas.Str.{IsUtf8-from_ascii}
use Rattle.std.proofs.lemmas.List.Sums.{AllPass-from_list_all}
use Rattle.std.proofs.lemmas.Str.Ascii.{IsAscii-from_all}
use Rattle.std.proofs.lemmas.Bool.Decides.{nat_tests}
use Rattle.dump.specs.Lines.{all_printable, printable}
use Rattle.dump.proofs.line.printable_text.Goals as goal

below : (c : ℕ) → printable c ≡ true → c < 128
below c is = grind (arith, nat_tests)

pub returns-then-all_printable : goal.returns-then-all_printable
returns-then-all_printable c =
    let ys = c.args.octets.now in
    let all : all_printable ys ≡ true = search rules in
    let utf8 : IsUtf8 ys = IsUtf8-from_ascii ys (IsAscii-from_all ys (λ k d inside. below _ (AllPass-from_list_all printable ys all k d inside))) in
    rw c.ok.ensures.value (search rules)
