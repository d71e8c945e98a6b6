-- Both kinds of key are alike exactly when they are equal. It is proved here, where the keys can name it.
use Rattle.std.specs.Prelude.{◌≡◌, ℕ, Bool, true, ◌&&◌, Decides, ◌==◌, refl}
use Rattle.std.proofs.Common.{sym, ap, ◌∙◌}
use Rattle.std.proofs.lemmas.Bool.{false≢true}
use Rattle.std.proofs.lemmas.Bool.Decides.{Decides-and, Decides-like, Decides-eqb, same_from_decides}
use Rattle.names.specs.declared.name.Name.{Name}
use Rattle.names.proofs.Spelled.{name_equal}
use Rattle.keys.specs.Keys.{like_name, like_kind, like_rule, like_activation}
use Rattle.keys.specs.declared.activation.ActivationKey.{ActivationKey}
use Rattle.keys.specs.declared.activation.NameKind.{NameKind}
use Rattle.keys.specs.declared.activation.NameKind.TheVariants.{Rule, Group}
use Rattle.keys.specs.declared.rule.RuleKey.{RuleKey}

-- a test that decides equality hashes alike, whatever the hash
pub equal_hashes : {K : Type 0} {alike : K → K → Bool} → (digest : K → ℕ) → ((x y : K) → Decides (alike x y) (x ≡ y)) → (x y : K) → alike x y ≡ true → digest x ≡ digest y
equal_hashes digest equal x y e = ap digest ((equal x y).0 e)

-- a test that decides equality is the one defined
pub names_alike : (x y : Name) (r : Bool) → Decides r (x ≡ y) → r ≡ like_name x y
names_alike x y r d = same_from_decides r (like_name x y) d (name_equal x y)

-- a part more that is alike
pub also : (part r rest : Bool) → part ≡ true → r ≡ rest → r ≡ (part && rest)
also part r rest p e = e ∙ sym (ap (λ b. b && rest) p)

pub kind_equal : (x y : NameKind) → Decides (like_kind x y) (x ≡ y)
kind_equal Rule Rule = (λ e. refl, λ e. refl)
kind_equal Rule Group = (λ e. absurd (false≢true e), λ e. ap (like_kind Rule) (sym e))
kind_equal Group Rule = (λ e. absurd (false≢true e), λ e. ap (like_kind Group) (sym e))
kind_equal Group Group = (λ e. refl, λ e. refl)

pub rule_equal : (x y : RuleKey) → Decides (like_rule x y) (x ≡ y)
rule_equal x y =
    Decides-like (like_rule x y) (λ p i. record { bearer = p.0 i; name = p.1 i }) (λ e. (ap (λ k. k.bearer) e, ap (λ k. k.name) e))
    (Decides-and (x.bearer == y.bearer) (like_name x.name y.name) (Decides-eqb x.bearer y.bearer) (name_equal x.name y.name))

pub activation_equal : (x y : ActivationKey) → Decides (like_activation x y) (x ≡ y)
activation_equal x y =
    Decides-like (like_activation x y) (λ p i. record { bearer = p.0 i; kind = p.1.0 i; name = p.1.1 i }) (λ e. (ap (λ k. k.bearer) e, (ap (λ k. k.kind) e, ap (λ k. k.name) e)))
    (Decides-and (x.bearer == y.bearer) (like_kind x.kind y.kind && like_name x.name y.name) (Decides-eqb x.bearer y.bearer)
    (Decides-and (like_kind x.kind y.kind) (like_name x.name y.name) (kind_equal x.kind y.kind) (name_equal x.name y.name)))
