-- The order of two lists of octets from octet i on.
use Rattle.std.proofs.Common.{◌≡◌, ℕ, ◌+◌, ◌<◌, ◌≤◌, List, [], ◌∷◌, length, get_or, drop, Less, Greater, ◌∙◌}
use Rattle.std.proofs.lemmas.List.{at_drop_more, at_drop_all, drop_more, drop_all}
use Rattle.std.proofs.lemmas.Bool.Decides.{nat_tests}
use Rattle.names.specs.Order.{lexical}

pub lexical_longer : (a b : List ℕ) (i : ℕ) → i < length a → length b ≤ i → lexical (drop i a) (drop i b) ≡ Greater
lexical_longer a b i h k =
    at_drop_more (λ xs. lexical xs (drop i b)) a i 0 h ∙ at_drop_all (λ ys. lexical (get_or a i 0 ∷ drop (i + 1) a) ys) b i k

pub lexical_shorter : (a b : List ℕ) (i : ℕ) → length a ≤ i → i < length b → lexical (drop i a) (drop i b) ≡ Less
lexical_shorter a b i h k =
    at_drop_all (λ xs. lexical xs (drop i b)) a i h ∙ at_drop_more (λ ys. lexical [] ys) b i 0 k

pub ruleset steps = (drop_more, drop_all, lexical_longer, lexical_shorter, nat_tests)
