-- The data of an AVP: a number, or octets, or the octets of a group.
use Rattle.std.specs.Prelude.{ℕ, List}
use Rattle.diameter_headers.specs.Headers.{four}
use Rattle.diameter.specs.declared.entry.Item.{Item}
use Rattle.diameter.specs.declared.entry.Item.TheVariants as item
use Rattle.diameter_headers.specs.declared.place.Kind.{Kind}
use Rattle.diameter_headers.specs.declared.place.Kind.TheVariants.{Unknown, Number, Octets, Group}

pub data Value : Type 0 where
  number : ℕ → Value
  octets : List ℕ → Value
  group : List ℕ → Value

-- what the octets ys are to an AVP of a kind
abbrev pub value_of : {P : Type 0} → Kind P → List ℕ → Value
value_of Unknown ys = octets ys
value_of Number ys = number (four ys 0)
value_of Octets ys = octets ys
value_of (Group q) ys = group ys

-- what an item that borrows the message holds
abbrev pub held : Item → Value
held (item.Number n) = number n
held (item.Octets part) = octets part.now
held (item.Group part) = group part.now
