-- The pool that a book of nodes is.
--   pool_of b        what a book over a slice of records holds
-- Assumes nothing.
use Rattle.numbering.specs.declared.book.Book.{Book}
use Rattle.nodes.specs.declared.node.Node.{Node}
use Rattle.nodes.specs.Entering.{Held, held}

abbrev pub pool_of : Book Node → Held
pool_of b = held b.items.now b.count
