-- Each call takes a token or binds tighter; going on from here is going on from the left operand.
use Rattle.std.proofs.Common.{◌≡◌, ◌+◌, ◌-◌, ◌*◌, length}
use Rattle.passes.specs.Passing.{level_of}
use Rattle.passes.proofs.Depths.{operand_depth, group_depth}
use Rattle.passes.proofs.Turning.{Growing}
use Rattle.passes.proofs.walk.Walk.+readers.Given as goal

abbrev pub decreases-enclosed : goal.decreases-enclosed
decreases-enclosed g l = 16 * (length l.self.reader.now.text.now - l.self.first.place)

abbrev pub decreases-base : goal.decreases-base
decreases-base g l = 16 * (length l.self.reader.now.text.now - l.self.first.place) + 1

abbrev pub decreases-repeated : goal.decreases-repeated
decreases-repeated g l = 16 * (length l.self.reader.now.text.now - l.self.first.place) + 2

abbrev pub decreases-prefix : goal.decreases-prefix
decreases-prefix g l = 16 * (length l.self.reader.now.text.now - l.self.first.place) + 3

abbrev pub decreases-operand : goal.decreases-operand
decreases-operand g l = 16 * (length l.self.reader.now.text.now - l.self.first.place) + operand_depth l.binary

abbrev pub decreases-group : goal.decreases-group
decreases-group g l = 16 * (length l.self.reader.now.text.now - l.self.first.place) + group_depth l.binary

abbrev pub decreases-grow : goal.decreases-grow
decreases-grow g l = 16 * (length l.self.reader.now.text.now - l.self.first.place) + 15

abbrev pub invariant-grow-loop-binary : goal.invariant-grow-loop-binary
invariant-grow-loop-binary g l = Growing g.S.Sink.step l.self.reader.now l.self.levels (level_of l.binary) (record { node = l.node; next = l.self.first }) (g.S.Sink.pool l.initial.sink) l.part (g.S.Sink.pool l.sink) × (g.S.Sink.memory l.sink ≡ g.S.Sink.memory l.initial.sink)

abbrev pub decreases-grow-loop-binary : goal.decreases-grow-loop-binary
decreases-grow-loop-binary g l = length l.self.reader.now.text.now - l.part.next.place
