-- What the code's tokens stand for.
--   token_of t    the token that t is; none for the end of the text
--   piece_of l    a lexeme as a piece of the text
--   sighted r     what looking for a token answers
-- Assumes nothing.
use Rattle.std.specs.Prelude.{Some, None, Ok, Err, Option, Result}
use Rattle.refusals.specs.declared.Refusal.{Refusal}
use Rattle.grammar.specs.declared.token.Lexeme.{Lexeme}
use Rattle.grammar.specs.declared.token.Token.{Token as Code}
use Rattle.grammar.specs.declared.token.Token.TheVariants.{Bar, Ampersand, Bang, Asterisk, Opening, Closing, Nought, One, Dot, Bracket, End}
use Rattle.grammar.specs.Tokens.{Token, bar, ampersand, bang, asterisk, opening, closing, nought, one, dot, bracket}
use Rattle.grammar.specs.Lexing.{Piece}

abbrev pub token_of : Code → Option Token
token_of Bar = Some bar
token_of Ampersand = Some ampersand
token_of Bang = Some bang
token_of Asterisk = Some asterisk
token_of Opening = Some opening
token_of Closing = Some closing
token_of Nought = Some nought
token_of One = Some one
token_of Dot = Some dot
token_of (Bracket s) = Some (bracket s.now)
token_of End = None

abbrev pub piece_of : Lexeme → Piece
piece_of l = (token_of l.token, l.place, l.after)

abbrev pub sighted : Result Lexeme Refusal → Result Piece Refusal
sighted (Ok l) = Ok (piece_of l)
sighted (Err r) = Err r
