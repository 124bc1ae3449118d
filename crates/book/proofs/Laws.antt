-- All that is proved of books and draws.
use Rattle.book.specs.Theorems.{Laws}
use Rattle.book.proofs.Places.{places}
use Rattle.book.proofs.Sizes.{sizes}
use Rattle.book.proofs.Draws.{cursor}
use Rattle.book.proofs.Books.{books, values}

pub laws : Laws
laws = record { places = places; sizes = sizes; cursor = cursor; books = books; values = values }
