-- The tokens that a sign alone is.
--   sign_byte t    the byte that the token t begins with; 0 at the end
-- Assumes nothing.
use Rattle.std.proofs.Common.{◌≡◌, ℕ, arith}
use Rattle.grammar.specs.declared.token.Token.{Token as Code}
use Rattle.grammar.specs.declared.token.Token.TheVariants.{Bang, Asterisk, Opening, Closing}
use Rattle.grammar.specs.Sighting.{token_of}
use Rattle.grammar.specs.Tokens.{sign_of}

abbrev pub sign_byte : Code → ℕ
sign_byte t = sign_of (token_of t)

pub is_bang : (t : Code) → sign_byte t ≡ 33 → t ≡ Bang
is_bang t e = grind arith

pub is_opening : (t : Code) → sign_byte t ≡ 40 → t ≡ Opening
is_opening t e = grind arith

pub is_closing : (t : Code) → sign_byte t ≡ 41 → t ≡ Closing
is_closing t e = grind arith

pub is_asterisk : (t : Code) → sign_byte t ≡ 42 → t ≡ Asterisk
is_asterisk t e = grind arith
