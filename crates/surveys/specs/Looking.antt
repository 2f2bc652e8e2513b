-- The tokens of a text as reading meets them.
--   after s at         the tokens from the place at on, a bracket that would be one atom too many refused
--   standing s l       the tokens that begin with the lexeme l
--   told s r           what looking for a token tells: the tokens that begin with it, or why none can be told
--   Lies text at l     l is a lexeme of the text from the place at on: a token takes a byte at least
--   LiesAt text at r   what is told lies there
--   Stands text l      l is a lexeme of the text. StandsBy is its step, for a token, or none, from place to place
-- Assumes nothing.
use Rattle.std.specs.Prelude.{◌≡◌, ℕ, ◌<◌, ◌≤◌, List, length, Some, None, Ok, Err, Option, Result, IfOk}
use Rattle.refusals.specs.declared.Refusal.{Refusal}
use Rattle.grammar.specs.declared.token.Lexeme.{Lexeme}
use Rattle.grammar.specs.Atoms.{within}
use Rattle.grammar.specs.Lexing.{lexed_from, onward_by}
use Rattle.grammar.specs.Sighting.{token_of}
use Rattle.grammar.specs.Tokens.{Token, Lexed, bad}
use Rattle.surveys.specs.declared.reader.Reader.{Reader}

abbrev pub after : Reader → ℕ → Lexed
after s at = within s.horizon (lexed_from s.text.now at)

abbrev pub standing : Reader → Lexeme → Lexed
standing s l = onward_by (after s) (token_of l.token) l.place l.after

abbrev pub told : Reader → Result Lexeme Refusal → Lexed
told s (Ok l) = standing s l
told s (Err r) = bad r

abbrev pub StandsBy : List ℕ → Option Token → ℕ → ℕ → Type 0
StandsBy text None p q = (p ≡ length text) × (q ≡ length text)
StandsBy text (Some t) p q = (p < q) × (q ≤ length text)

abbrev pub Stands : List ℕ → Lexeme → Type 0
Stands text l = StandsBy text (token_of l.token) l.place l.after

abbrev pub Lies : List ℕ → ℕ → Lexeme → Type 0
Lies text at l = Stands text l × (at ≤ length text → at ≤ l.place)

abbrev pub LiesAt : List ℕ → ℕ → Result Lexeme Refusal → Type 0
LiesAt text at r = IfOk r (Lies text at)
