-- The hash of a bearer and a name: each octet is added to 31 times what came before, in 64 bits.
use Rattle.std.specs.Prelude.{ℕ, ◌+◌, ◌*◌, ◌%◌, ◌^◌, List, fold}
use Rattle.names.specs.Spelling.{spelling}
use Rattle.names.specs.declared.name.Name.{Name}

abbrev pub mixed : ℕ → ℕ → ℕ
mixed hash octet = ((hash * 31) % 2 ^ 64 + octet) % 2 ^ 64

abbrev pub mixed_all : ℕ → List ℕ → ℕ
mixed_all = fold mixed

abbrev pub name_digest : ℕ → Name → ℕ
name_digest bearer name = mixed_all bearer (spelling name)
