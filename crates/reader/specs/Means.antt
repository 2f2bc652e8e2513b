-- What reading means, in the words of the grammar and of languages.
--   Fits text items es   the text and the caller's memory have the sizes that reading asks for
--   Untold a             a is no refusal of the text: a reading, or the refusal that the pool is full
--   Stands text items r  r stands for the text's rule: the nodes in use are sound, the root is one of them, and its
--                        language is that of the one rule that the grammar gives the text
--   Given text a items   if a is a reading, it stands for the text's rule in the pool items; if the pool is full, its
--                        size is the refusal's place, and all of it is sound
--   Named text a es      if a is a reading, or the refusal of a full pool, the entries es speak of the text's atoms, by number
--   Left a same          if a is a refusal of anything but a full pool, all is the same as before
--   Wrong text a         if a is the grammar's refusal of a token, or of the end, it is the first such
--   ReadingMeans text items es o   what the outcome o says, and what it leaves, where items and es were there before
-- Assumes nothing.
use Rattle.std.specs.Prelude.{◌≡◌, ℕ, ◌<◌, ◌≤◌, ◌⊎◌, ◌↔◌, List, length, take, Ok, Err, Result, IfErr}
use Rattle.languages.specs.Rules.{Rule, Same}
use Rattle.refusals.specs.declared.Question.TheVariants.{GrammarAllows, NodeRoom}
use Rattle.refusals.specs.declared.Refusal.{Refusal}
use Rattle.grammar.specs.Atoms.{atoms, number_of, tokens}
use Rattle.grammar.specs.FirstWrong.{FirstWrong}
use Rattle.grammar.specs.Grammar.{Written}
use Rattle.grammar.specs.Lexing.{lexed}
use Rattle.nodes.specs.declared.node.Node.{Node}
use Rattle.nodes.specs.Soundness.{Sound}
use Rattle.nodes.specs.Meaning.{meaning}
use Rattle.surveys.specs.Entries.{texts_in}
use Rattle.surveys.specs.declared.entry.Entry.{Entry}
use Rattle.reader.specs.declared.source.Reading.{Reading}
use Rattle.reader.specs.Reading.{Outcome}

pub record Fits (text : List ℕ) (items : List Node) (es : List Entry) : Type 0 where
  pub some : 1 ≤ length text
  pub short : length text ≤ 4096
  pub first : 4 ≤ length items
  pub most : length items ≤ 4096
  pub places : 32 ≤ length es

abbrev pub Untold : Result Reading Refusal → Type 0
Untold a = IfErr a (λ f. f.question ≡ NodeRoom)

pub record Stands (text : List ℕ) (items : List Node) (r : Reading) : Type 0 where
  pub rule : Rule
  pub written : Written text rule
  pub only : (other : Rule) → Written text other → other ≡ rule
  pub sound : Sound (take r.nodes items)
  pub there : r.root < r.nodes
  pub within : r.nodes ≤ length items
  pub means : Same (meaning (take r.nodes items) r.root) rule

abbrev pub Given : List ℕ → Result Reading Refusal → List Node → Type 0
Given text (Ok r) items = Stands text items r
Given text (Err f) items = f.question ≡ NodeRoom → (f.place ≡ length items) × Sound items

abbrev pub Named : List ℕ → Result Reading Refusal → List Entry → Type 0
Named text (Ok r) es = (r.atoms ≡ length (atoms (lexed text))) × (texts_in text (take r.atoms es) ≡ atoms (lexed text))
Named text (Err f) es = f.question ≡ NodeRoom → texts_in text (take (length (atoms (lexed text))) es) ≡ atoms (lexed text)

abbrev pub Left : Result Reading Refusal → Type 0 → Type 0
Left a same = IfErr a (λ f. (f.question ≡ NodeRoom) ⊎ same)

-- The refusal of a token by the grammar comes at the first that nothing of the grammar goes on with.
abbrev pub Wrong : List ℕ → Result Reading Refusal → Type 0
Wrong text a = IfErr a (λ f. f.question ≡ GrammarAllows → FirstWrong (number_of (atoms (lexed text))) f.place (tokens text))

pub record ReadingMeans (text : List ℕ) (items : List Node) (es : List Entry) (o : Outcome) : Type 0 where
  -- Where the sizes fit, the text is not refused exactly when it writes a rule within the limits.
  pub accepts : Fits text items es → Untold o.0 ↔ ((r : Rule) × Written text r)
  -- A reading stands for that rule; a full pool is sound, all of it, and its size is the place told.
  pub given : Given text o.0 o.1
  -- The atom entries speak of the text's atoms, each of the one of its number.
  pub named : Named text o.0 o.2
  -- The token that the grammar refuses is the first that no rule's tokens go on with; the end, if no rule ends there.
  pub wrong : Wrong text o.0
  -- Any refusal but that of a full pool leaves the pool and the atom list as they were.
  pub left : Left o.0 ((o.1 ≡ items) × (o.2 ≡ es))
