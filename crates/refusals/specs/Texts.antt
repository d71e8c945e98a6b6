-- A refusal as text, with its number and its Diameter code.
use Rattle.std.specs.Prelude.{ℕ, List, ◌++◌, codes, decimal}
use Rattle.refusals.specs.Meanings.{meaning}
use Rattle.refusals.specs.declared.refusal.Refusal.{Refusal}

abbrev pub refusal_text : Refusal → List ℕ
refusal_text refusal = codes "refusal " ++ (decimal (meaning refusal).number ++ (codes ", Diameter code " ++ decimal (meaning refusal).code))
