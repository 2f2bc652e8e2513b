use Rattle.numbering.specs.Numbering.{pages}
use Rattle.numbering.proofs.Numbering.{numbered-means}
use Rattle.numbering.proofs.book.Book.number.Goals as goal

pub returns-clause-means : goal.returns-clause-means
returns-clause-means g c =
    let before = c.args.self.now in
    let after = c.enter.new.self in
    numbered-means g.T.Same.equal g.met.T.Same.exact c.args.thing (pages before.items.now before.count) c.enter.result (pages after.items.now after.count) c.enter.ensures.whole
