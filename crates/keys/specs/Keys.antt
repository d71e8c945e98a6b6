-- When two keys are alike, part by part.
use Rattle.std.specs.Prelude.{Bool, true, false, ◌&&◌, ◌==◌}
use Rattle.std.specs.Str.{bytes_eq}
use Rattle.names.specs.Spelling.{spelling}
use Rattle.names.specs.declared.name.Name.{Name}
use Rattle.keys.specs.declared.activation.ActivationKey.{ActivationKey}
use Rattle.keys.specs.declared.activation.NameKind.{NameKind}
use Rattle.keys.specs.declared.activation.NameKind.TheVariants.{Rule, Group}
use Rattle.keys.specs.declared.rule.RuleKey.{RuleKey}

abbrev pub like_name : Name → Name → Bool
like_name x y = bytes_eq (spelling x) (spelling y)

abbrev pub like_kind : NameKind → NameKind → Bool
like_kind Rule Rule = true
like_kind Rule Group = false
like_kind Group Rule = false
like_kind Group Group = true

abbrev pub like_rule : RuleKey → RuleKey → Bool
like_rule x y = x.bearer == y.bearer && like_name x.name y.name

abbrev pub like_activation : ActivationKey → ActivationKey → Bool
like_activation x y = x.bearer == y.bearer && (like_kind x.kind y.kind && like_name x.name y.name)
