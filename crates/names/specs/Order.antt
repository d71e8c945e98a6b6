-- The order of names: octet by octet, and a shorter name that begins a longer one comes first, as slices of octets are ordered.
-- TotalOrder is what any order must be: what ties is equal, turning two round turns the answer round, and what comes first of the first comes first.
use Rattle.std.specs.Prelude.{◌≡◌, ℕ, List}
use Rattle.std.specs.declared.cmp.Ordering.{Ordering}
use Rattle.std.specs.declared.cmp.Ordering.TheVariants.{Less, Equal}
use Rattle.std.specs.Ordering.{ordering_reverse, nat_cmp, on}
use Rattle.std.specs.Cmp.Lexicographic.{slice_cmp}
use Rattle.names.specs.declared.name.Name.{Name}
use Rattle.names.specs.Spelling.{spelling}

abbrev pub lexical : List ℕ → List ℕ → Ordering
lexical = slice_cmp nat_cmp

abbrev pub by_name : Name → Name → Ordering
by_name = on spelling lexical

abbrev pub turned : Ordering → Ordering
turned = ordering_reverse

pub record TotalOrder {X : Type 0} (f : X → X → Ordering) : Type 0 where
  pub itself : (x : X) → f x x ≡ Equal
  pub ties : (x y : X) → f x y ≡ Equal → x ≡ y
  pub turns : (x y : X) → f y x ≡ turned (f x y)
  pub chain : (x y z : X) → f x y ≡ Less → f y z ≡ Less → f x z ≡ Less
