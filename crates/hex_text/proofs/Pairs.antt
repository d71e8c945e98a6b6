-- Two elements written at the end of a front.
use Rattle.std.proofs.Common.{◌≡◌, ℕ, ◌+◌, ◌*◌, ◌<◌, List, [], ◌∷◌, ◌++◌, length, take, set, ap, ◌∙◌, append_assoc, arith}
use Rattle.std.proofs.lemmas.List.{take_more_set, length-set}

-- one addition after another is the addition of both
pub chain : {X : Type 0} (was a mid b now : List X) → mid ≡ was ++ a → now ≡ mid ++ b → now ≡ was ++ (a ++ b)
chain was a mid b now first second = second ∙ ap (λ l. l ++ b) first ∙ append_assoc was a b

pub pair_more : {X : Type 0} (xs : List X) (i : ℕ) (a b : X) → 2 * i + 1 < length xs → take (2 * (i + 1)) (set (set xs (2 * i) a) (2 * i + 1) b) ≡ take (2 * i) xs ++ (a ∷ b ∷ [])
pair_more xs i a b inside =
    let one = set xs (2 * i) a in
    let both = set one (2 * i + 1) b in
    let n : 2 * (i + 1) ≡ 2 * i + 1 + 1 = omega arith in
    chain (take (2 * i) xs) (a ∷ []) (take (2 * i + 1) one) (b ∷ []) (take (2 * (i + 1)) both)
    (take_more_set xs (2 * i) a (omega (arith, inside)))
    (ap (λ m. take m both) n ∙ take_more_set one (2 * i + 1) b (omega (arith, inside, length-set xs (2 * i) a)))
