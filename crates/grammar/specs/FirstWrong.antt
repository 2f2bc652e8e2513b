-- Where a text that the grammar does not allow goes wrong: at its first token that nothing written goes on with.
--   Begins names us    some tokens that begin with us write a rule, however many levels they open
--   FirstWrong names p ts  what is wrong with ts is at the place p: the tokens before it begin something written and
--                      with the token there they do not, or they end there and write nothing
--   FirstWrongIsTold   a text that the grammar does not allow is refused at that place
-- Assumes nothing.
use Rattle.std.specs.Prelude.{◌≡◌, ℕ, List, [], ◌∷◌, ◌++◌, Err}
use Rattle.languages.specs.Rules.{Rule}
use Rattle.refusals.specs.Questions.{refusing}
use Rattle.refusals.specs.declared.Question.TheVariants.{GrammarAllows}
use Rattle.grammar.specs.Tokens.{Token, Spot, Lexed, end, token, before, tokens_in}
use Rattle.grammar.specs.Lexing.{lexed}
use Rattle.grammar.specs.Atoms.{atoms, number_of, tokens}
use Rattle.grammar.specs.Grammar.{alternatives, Writes}
use Rattle.grammar.specs.Parsing.{parsed_text}

abbrev pub Begins : (List ℕ → ℕ) → List Token → Type 0
Begins names us = (n : ℕ) × (vs : List Token) × (r : Rule) × Writes names n alternatives (us ++ vs) r

pub data FirstWrong (names : List ℕ → ℕ) (p : ℕ) (ts : Lexed) : Type 0 where
  at_token : (spots : List Spot) (t : Token) (rest : Lexed) → ts ≡ before spots (token t p rest) → Begins names (tokens_in spots) → ¬ (Begins names (tokens_in spots ++ (t ∷ []))) → FirstWrong names p ts
  at_end : (spots : List Spot) → ts ≡ before spots (end p) → Begins names (tokens_in spots) → ((n : ℕ) (r : Rule) → ¬ (Writes names n alternatives (tokens_in spots) r)) → FirstWrong names p ts

abbrev pub FirstWrongIsTold : Type 0
FirstWrongIsTold = (text : List ℕ) (p : ℕ) → parsed_text text ≡ Err (refusing GrammarAllows p) → FirstWrong (number_of (atoms (lexed text))) p (tokens text)
