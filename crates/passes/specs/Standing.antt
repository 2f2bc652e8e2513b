-- Lexemes of a text.
--   stands_prop text l    that l is one of the text has one proof at most. stands_by_prop is its step
-- Assumes nothing.
use Rattle.std.specs.Prelude.{ℕ, List, Some, None, Option}
use Rattle.std.proofs.Props.{props}
use Rattle.grammar.specs.declared.token.Lexeme.{Lexeme}
use Rattle.grammar.specs.Sighting.{token_of}
use Rattle.grammar.specs.Tokens.{Token}
use Rattle.surveys.specs.Looking.{Stands, StandsBy}

stands_by_prop : (text : List ℕ) (o : Option Token) (p q : ℕ) → IsProp (StandsBy text o p q)
stands_by_prop text None p q = hlevel props
stands_by_prop text (Some t) p q = hlevel props

pub stands_prop : (text : List ℕ) (l : Lexeme) → IsProp (Stands text l)
stands_prop text l = stands_by_prop text (token_of l.token) l.place l.after
