-- `stock::scan` meets its contract.
use Rattle.std.proofs.Common.{◌≡◌, option_map}
use Rattle.stock.specs.Stock.{books_of}
use Rattle.stock.specs.Scan.{scanned}
use Rattle.stock.proofs.scan.Given as goal

abbrev pub invariant-loop-part : goal.invariant-loop-part
invariant-loop-part l = record {
  size_is : l.part-iterator.size ≡ l.size;
  found_is : scanned l.last (books_of l.size l.part-iterator.rest.now) (option_map (λ b. b.part.now) l.found) ≡ scanned l.last (books_of l.size l.stock) (option_map (λ b. b.part.now) l.initial.found);
}
