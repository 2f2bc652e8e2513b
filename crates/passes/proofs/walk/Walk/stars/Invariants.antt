-- Going on from here is going on from the base.
use Rattle.std.proofs.Common.{◌≡◌, ◌-◌, length}
use Rattle.grammar.specs.Grammar.{starred}
use Rattle.passes.proofs.Turning.{Growing}
use Rattle.passes.proofs.walk.Walk.stars.Given as goal

abbrev pub invariant-loop-part : goal.invariant-loop-part
invariant-loop-part g l = Growing g.S.Sink.step l.self.reader.now l.self.levels starred (record { node = l.node; next = l.self.first }) (g.S.Sink.pool l.initial.sink) l.part (g.S.Sink.pool l.sink) × (g.S.Sink.memory l.sink ≡ g.S.Sink.memory l.initial.sink)

abbrev pub decreases-loop-part : goal.decreases-loop-part
decreases-loop-part g l = length l.self.reader.now.text.now - l.part.next.place
