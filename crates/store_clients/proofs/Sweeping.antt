-- A sweep over the keys of any store, from the last number down.
use Rattle.std.proofs.Common.{◌≡◌, ℕ, ◌<◌, ◌≤◌, Bool, true, false, ◌⊎◌, List, length, get_or, None}
use Rattle.stores.specs.Maps.{Map}

-- what a key has is what it had, or it was the bearer's and is gone
abbrev pub Kept : {K R : Type 0} → (K → ℕ) → ℕ → Map K R → Map K R → Type 0
Kept {K} owner bearer m m' = (q : K) → (m'.at q ≡ m.at q) ⊎ ((owner q ≡ bearer) × (m'.at q ≡ None))

module _ {S K R : Type 0} (holds : S → Map K R) (most : S → ℕ) (keys : S → List K) (owner : K → ℕ) (bearer : ℕ) where
  -- the store s is what is left of s₀ when the numbers from n on are done
  pub record Sweeping (s₀ s : S) (n : ℕ) (met : Bool) : Type 0 where
    pub room : most s ≡ most s₀
    pub kept : Kept owner bearer (holds s₀) (holds s)
    pub count : (holds s).count ≤ (holds s₀).count
    pub fewer : met ≡ true → (holds s).count < (holds s₀).count
    pub clear : met ≡ false → (s ≡ s₀) × ((i : ℕ) (d : K) → n ≤ i → i < length (keys s₀) → owner (get_or (keys s₀) i d) ≡ bearer → ⊥)
