-- Worked readings.
--   pool n         a pool of n nodes, with nothing in it
--   places         32 places for atoms
--   answer t n     what reading the text t into a pool of n nodes answers
--   WorkedTexts    readings worked out by hand
-- Assumes nothing.
use Rattle.std.specs.Prelude.{◌≡◌, ℕ, List, Ok, Err, codes, Result, replicate}
use Prim.Native.String.{String as Text}
use Rattle.refusals.specs.Questions.{refusing}
use Rattle.refusals.specs.declared.Question.TheVariants.{TextLength, BracketClosed, GrammarAllows, NodeRoom}
use Rattle.refusals.specs.declared.Refusal.{Refusal}
use Rattle.nodes.specs.declared.node.Node.{Node}
use Rattle.nodes.specs.Records.{none_node}
use Rattle.surveys.specs.declared.entry.Entry.{Entry}
use Rattle.reader.specs.declared.source.Reading.{Reading}
use Rattle.reader.specs.Reading.{read_text}

abbrev pub pool : ℕ → List Node
pool n = replicate n none_node

abbrev pub places : List Entry
places = replicate 32 (record { place = 0; length = 0 })

abbrev pub answer : Text → ℕ → Result Reading Refusal
answer t n = (read_text (codes t) (pool n) places).0

pub record WorkedTexts : Type 0 where
  pub no_text : answer "" 10 ≡ Err (refusing TextLength 0)
  pub open_bracket : answer "[61" 10 ≡ Err (refusing BracketClosed 0)
  pub nothing_behind : answer "[61]|" 10 ≡ Err (refusing GrammarAllows 5)
  pub nothing_inside : answer "()" 10 ≡ Err (refusing GrammarAllows 1)
  pub just_fits : answer "[61][62]|[61][63]" 10 ≡ Ok (record { root = 9; nodes = 10; atoms = 3 })
  pub one_too_few : answer "[61][62]|[61][63]" 9 ≡ Err (refusing NodeRoom 9)
