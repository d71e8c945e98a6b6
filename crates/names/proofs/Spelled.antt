-- A name is known by its octets.
use Rattle.std.proofs.Common.{◌≡◌, ℕ, ◌≤◌, length, get_or, sym, ap, ◌∙◌, ⊎_elim, arith}
use mathlib.Core.HLevel.{is_prop→PathP, Π_prop}
use native.Mathlib.Nat.{ℕ_set}
use native.Mathlib.Bridge.{le_prop}
use Rattle.std.proofs.lemmas.List.{get_or-take, length-take-le, get_or_default, same_lists}
use Rattle.std.proofs.lemmas.Bool.{cases_lt}
use Rattle.std.specs.Prelude.{Decides}
use Rattle.std.specs.Str.{bytes_eq}
use Rattle.std.proofs.lemmas.Slice.Eq.{bytes_eq-Decides}
use Rattle.std.proofs.lemmas.Bool.Decides.{Decides-like}
use Rattle.names.specs.declared.name.Name.{Name}
use Rattle.names.specs.Spelling.{spelling}

-- an invariant has one proof, so that two names with the same fields are one
by_fields : (x y : Name) → x.len ≡ y.len → x.octets ≡ y.octets → x ≡ y
by_fields x y p q = λ i. record {
  len = p i;
  octets = q i;
  some = is_prop→PathP (λ i. 1 ≤ p i) (λ i. le_prop) x.some y.some i;
  most = is_prop→PathP (λ i. p i ≤ 32) (λ i. le_prop) x.most y.most i;
  whole = is_prop→PathP (λ i. length (q i) ≡ 32) (λ i. ℕ_set _ _) x.whole y.whole i;
  tail = is_prop→PathP (λ i. (k : ℕ) → p i ≤ k → get_or (q i) k 0 ≡ 0) (λ i. Π_prop (λ k. Π_prop (λ _. ℕ_set _ _))) x.tail y.tail i;
}

spelling_length : (x : Name) → length (spelling x) ≡ x.len
spelling_length x = length-take-le x.len x.octets (let a = x.most in let b = x.whole in omega arith)

-- an octet of the name, which past its length is 0
same_octet : (x y : Name) → spelling x ≡ spelling y → x.len ≡ y.len → (k : ℕ) → get_or x.octets k 0 ≡ get_or y.octets k 0
same_octet x y e l k =
    ⊎_elim
    (λ a. sym (get_or-take x.len x.octets k 0 a) ∙ ap (λ s. get_or s k 0) e ∙ get_or-take y.len y.octets k 0 (omega arith))
    (λ a. x.tail k a ∙ sym (y.tail k (omega arith)))
    (cases_lt k x.len)

pub same_name : (x y : Name) → spelling x ≡ spelling y → x ≡ y
same_name x y e =
    let l : x.len ≡ y.len = sym (spelling_length x) ∙ ap length e ∙ spelling_length y in
    by_fields x y l
    (same_lists x.octets y.octets (x.whole ∙ sym y.whole)
    (λ k d a. get_or_default x.octets k d 0 a ∙ same_octet x y e l k ∙ get_or_default y.octets k 0 d (let b = x.whole in let c = y.whole in omega arith)))

pub name_equal : (x y : Name) → Decides (bytes_eq (spelling x) (spelling y)) (x ≡ y)
name_equal x y = Decides-like (bytes_eq (spelling x) (spelling y)) (same_name x y) (ap spelling) (bytes_eq-Decides (spelling x) (spelling y))
