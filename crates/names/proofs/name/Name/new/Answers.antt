use Rattle.std.proofs.Common.{◌≡◌, ℕ, ◌+◌, ◌-◌, ◌≤◌, List, ◌++◌, zero, suc, length, get_or, drop, replicate, refl, ap, ◌∙◌, arith, length-append, length-drop}
use Rattle.std.proofs.lemmas.List.{get_or-append_right, get_or-drop, length-replicate}
use Rattle.names.proofs.name.Name.new.Goals as goal

zeros : (n k : ℕ) → get_or {A = ℕ} (replicate n 0) k 0 ≡ 0
zeros zero k = refl
zeros (suc n) zero = refl
zeros (suc n) (suc k) = zeros n k

-- octets over the first of n zeros
all_stay : (xs : List ℕ) (m n : ℕ) → length xs ≡ m → m ≤ n → length (xs ++ drop m (replicate n 0)) ≡ n
all_stay xs m n e h = grind (arith, length-append, length-drop, length-replicate)

zero_after : (xs : List ℕ) (m n k : ℕ) → length xs ≡ m → m ≤ k → get_or (xs ++ drop m (replicate n 0)) k 0 ≡ 0
zero_after xs m n k e h = get_or-append_right xs (drop m (replicate n 0)) m k 0 e h ∙ get_or-drop m (replicate n 0) (k - m) 0 ∙ zeros n (m + (k - m))

pub invariant_of-result-clause-whole : goal.invariant_of-result-clause-whole
invariant_of-result-clause-whole c = all_stay c.copy_from_slice.new.self (length c.args.octets.now) 32 (ap length c.copy_from_slice.ensures.after) (omega arith)

pub invariant_of-result-clause-tail : goal.invariant_of-result-clause-tail
invariant_of-result-clause-tail c k h = zero_after c.copy_from_slice.new.self (length c.args.octets.now) 32 k (ap length c.copy_from_slice.ensures.after) (omega arith)
