-- The order of names is total.
use Rattle.std.specs.Cmp.{IsTotalOrder}
use Rattle.std.specs.Cmp.Lexicographic.{on_texts}
use Rattle.std.proofs.lemmas.Cmp.{tied_itself}
use Rattle.std.proofs.lemmas.Map.Lookups.{exact_bytes}
use Rattle.names.specs.Spelling.{spelling}
use Rattle.names.proofs.Spelled.{same_name}
use Rattle.names.specs.Order.{by_name, TotalOrder}

pub names_are_ordered : TotalOrder by_name
names_are_ordered =
    let o : IsTotalOrder by_name = on_texts spelling in
    record {
      itself = tied_itself o;
      ties = λ x y e. same_name x y (exact_bytes (spelling x) (spelling y) e);
      turns = λ x y. o.antisymm y x;
      chain = o.trans;
    }
