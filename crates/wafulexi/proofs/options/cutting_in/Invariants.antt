use Rattle.std.proofs.Common.{◌≡◌, length, None}
use Rattle.std.specs.Vec.Iter.{into_iter_items}
use Rattle.wafulexi.specs.Options.{no_options, taken}
use Rattle.wafulexi.proofs.options.cutting_in.Given as goal

-- the words so far and those that are left make what all words make
abbrev pub invariant-loop-word : goal.invariant-loop-word
invariant-loop-word l = taken no_options None (into_iter_items l.fn.words) ≡ taken l.options None (into_iter_items l.words)

abbrev pub decreases-loop-word : goal.decreases-loop-word
decreases-loop-word l = length (into_iter_items l.words)
