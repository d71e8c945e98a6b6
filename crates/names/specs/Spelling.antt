-- The octets that a name is spelled with: as many of those it holds as its length says.
use Rattle.std.specs.Prelude.{ℕ, List, take}
use Rattle.names.specs.declared.name.Name.{Name}

abbrev pub spelling : Name → List ℕ
spelling n = take n.len n.octets
