-- The keys that the demonstration uses, by their numbers.
use Rattle.std.specs.Prelude.{◌≡◌, ℕ, ◌/◌, ◌%◌, ◌<◌, cond, List, [], ◌∷◌, ◌==◌, slice_index_or}
use Rattle.names.specs.Spelling.{spelling}
use Rattle.keys.specs.declared.activation.ActivationKey.{ActivationKey}
use Rattle.keys.specs.declared.activation.NameKind.TheVariants.{Rule, Group}
use Rattle.keys.specs.declared.rule.RuleKey.{RuleKey}

-- one of three bearers, and a name of its own
pub record RuleSample (n : ℕ) (k : RuleKey) : Type 0 where
  pub bearer : k.bearer ≡ n % 3
  pub name : spelling k.name ≡ 114 ∷ n ∷ []

-- two in a row differ only in whose name it is
pub record ActivationSample (n : ℕ) (k : ActivationKey) : Type 0 where
  pub bearer : k.bearer ≡ n / 2 % 3
  pub kind : k.kind ≡ cond (n % 2 == 0) Rule Group
  pub name : spelling k.name ≡ 114 ∷ (n / 2) ∷ []

-- the first n keys are the samples of their numbers
abbrev pub Samples : {K : Type 0} → (ℕ → K → Type 0) → List K → ℕ → Type 0
Samples {K} sample ks n = (i : ℕ) (d : K) → i < n → sample i (slice_index_or ks i d)
