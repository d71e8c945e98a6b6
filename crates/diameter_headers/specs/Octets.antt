-- Numbers in octets, the first octet the highest.
use Rattle.std.specs.Prelude.{ℕ, ◌+◌, ◌*◌}

abbrev pub be3 : ℕ → ℕ → ℕ → ℕ
be3 a b c = a * 65536 + b * 256 + c

abbrev pub be4 : ℕ → ℕ → ℕ → ℕ → ℕ
be4 a b c d = a * 16777216 + b * 65536 + c * 256 + d
