-- The tokens of a text one after the other.
--   Over r       r tells no token: the end of the text, or that none can be told
--   Moves s o t  the step from s to t: over the token o, or none: it stays where no token follows
-- Assumes nothing.
use Rattle.std.specs.Prelude.{◌≡◌, Some, None, Ok, IfOk, IsSome, Option, Result}
use Rattle.refusals.specs.declared.Refusal.{Refusal}
use Rattle.grammar.specs.declared.token.Lexeme.{Lexeme}
use Rattle.grammar.specs.Lexing.{Piece, lexed_at}
use Rattle.grammar.specs.Sighting.{sighted, token_of}
use Rattle.surveys.specs.Looking.{Stands}
use Rattle.surveys.specs.declared.lexemes.Lexemes.{Lexemes}

abbrev pub Over : Result Piece Refusal → Type 0
Over r = IfOk r (λ x. x.0 ≡ None)

abbrev pub Moves : Lexemes → Option Lexeme → Lexemes → Type 0
Moves s (Some l) t = (sighted (Ok l) ≡ lexed_at s.text.now s.at) × Stands s.text.now l × IsSome (token_of l.token) × (t.text.now ≡ s.text.now) × (t.at ≡ l.after)
Moves s None t = Over (lexed_at s.text.now s.at) × (t.text.now ≡ s.text.now) × (t.at ≡ s.at)
