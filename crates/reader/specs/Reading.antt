-- What reading a text answers, and what it leaves.
--   room_asked t p a      the questions about the length t of a text, the size p of a pool and the places a for atoms
--   passing f             whether all was answered with yes
--   Outcome               an answer, the pool's records afterwards, and the places for atoms afterwards
--   first_held items      the pool that reading begins with: the first four nodes afresh
--   slice h               a pool's records, as a slice has them
--   filled new es         places for atoms with the entries new
--   read_text text items es   reading a text into a slice of records and places for atoms. after_asking, after_parsing,
--                         after_entering and rooted are its steps, each given what the step before found
-- Assumes nothing.
use Rattle.std.specs.Prelude.{ℕ, Bool, ◌&&◌, List, [], ◌∷◌, ◌++◌, length, drop, Some, None, Ok, Err, Option, Result, nat_le}
use Rattle.languages.specs.Rules.{Rule}
use Rattle.refusals.specs.Questions.{first_no, refusing}
use Rattle.refusals.specs.declared.Question.TheVariants.{TextLength, ReadingRoom}
use Rattle.refusals.specs.declared.Refusal.{Refusal}
use Rattle.grammar.specs.Lexing.{lexed}
use Rattle.grammar.specs.Parsing.{parsed_text}
use Rattle.nodes.specs.declared.node.Node.{Node}
use Rattle.nodes.specs.Entering.{Held, Out, held}
use Rattle.nodes.specs.Records.{first_nodes}
use Rattle.nodes.specs.Trees.{entered_tree}
use Rattle.surveys.specs.declared.entry.Entry.{Entry}
use Rattle.reader.specs.declared.source.Reading.{Reading}
use Rattle.surveys.specs.Entries.{entries}

abbrev pub room_asked : ℕ → ℕ → ℕ → List (Bool × Refusal)
room_asked t p a =
    (nat_le 1 t && nat_le t 4096, refusing TextLength 0)
    ∷ (nat_le 4 p && (nat_le p 4096 && nat_le 32 a), refusing ReadingRoom 0)
    ∷ []

abbrev pub passing : Option Refusal → Result (Unit {0}) Refusal
passing None = Ok tt
passing (Some f) = Err f

abbrev pub Outcome : Type 0
Outcome = Result Reading Refusal × List Node × List Entry

abbrev pub first_held : List Node → Held
first_held items = held (first_nodes ++ drop 4 items) 4

abbrev pub slice : Held → List Node
slice h = h.used ++ (h.past ++ h.beyond)

abbrev pub filled : List Entry → List Entry → List Entry
filled new es = new ++ drop (length new) es

abbrev pub rooted : List Entry → List Entry → Result ℕ Refusal → Held → Outcome
rooted new es (Ok n) h = (Ok (record { root = n; nodes = h.count; atoms = length new }), slice h, filled new es)
rooted new es (Err f) h = (Err f, slice h, filled new es)

abbrev pub after_entering : List Entry → List Entry → Out → Outcome
after_entering new es o = rooted new es o.0 o.1

abbrev pub after_parsing : List ℕ → List Node → List Entry → Result Rule Refusal → Outcome
after_parsing text items es (Ok r) = after_entering (entries (lexed text)) es (entered_tree r (first_held items))
after_parsing text items es (Err f) = (Err f, items, es)

abbrev pub after_asking : List ℕ → List Node → List Entry → Option Refusal → Outcome
after_asking text items es None = after_parsing text items es (parsed_text text)
after_asking text items es (Some f) = (Err f, items, es)

abbrev pub read_text : List ℕ → List Node → List Entry → Outcome
read_text text items es = after_asking text items es (first_no (room_asked (length text) (length items) (length es)))
