-- The tokens of a rule text, and a text as the tokens that it is made of.
--   Token            a token: one of nine signs, or a bracket with the bytes between its ends
--   Spot             a token and its place, that of its first byte
--   Lexed            tokens up to the end of the text, or up to where no token can be told; `end` has the text's length
--   before spots ts the tokens of ts behind those of spots
--   tokens_in spots  the tokens without their places
--   sign t           the byte that t begins with
--   begins t         t can begin an operand
--   head, rest       the first token, if there is one, and what comes behind it
--   place ts         the place of the first token; at the end the text's length
--   sign_of, begins_some  sign and begins of a first token; 0 and no where there is none
--   leads b ts       the first token of ts is the one with the sign b
--   opens ts         the first token of ts can begin an operand
-- Assumes nothing.
use Rattle.std.specs.Prelude.{ℕ, Bool, true, false, List, [], ◌∷◌, map, Some, None, Option, ◌==◌}
use Rattle.refusals.specs.declared.Refusal.{Refusal}

pub data Token : Type 0 where
  bar ampersand bang asterisk opening closing nought one dot : Token
  bracket : List ℕ → Token

abbrev pub Spot : Type 0
Spot = Token × ℕ

pub data Lexed : Type 0 where
  end : ℕ → Lexed
  bad : Refusal → Lexed
  token : Token → ℕ → Lexed → Lexed

abbrev pub before : List Spot → Lexed → Lexed
before [] ts = ts
before (s ∷ spots) ts = token s.0 s.1 (before spots ts)

abbrev pub tokens_in : List Spot → List Token
tokens_in spots = map (λ s. s.0) spots

abbrev pub sign : Token → ℕ
sign bar = 124
sign ampersand = 38
sign bang = 33
sign asterisk = 42
sign opening = 40
sign closing = 41
sign nought = 48
sign one = 49
sign dot = 46
sign (bracket s) = 91

abbrev pub begins : Token → Bool
begins bar = false
begins ampersand = false
begins bang = true
begins asterisk = false
begins opening = true
begins closing = false
begins nought = true
begins one = true
begins dot = true
begins (bracket s) = true

abbrev pub head : Lexed → Option Token
head (end p) = None
head (bad r) = None
head (token t p ts) = Some t

abbrev pub rest : Lexed → Lexed
rest (end p) = end p
rest (bad r) = bad r
rest (token t p ts) = ts

abbrev pub place : Lexed → ℕ
place (end p) = p
place (bad r) = r.place
place (token t p ts) = p

abbrev pub sign_of : Option Token → ℕ
sign_of None = 0
sign_of (Some t) = sign t

abbrev pub leads : ℕ → Lexed → Bool
leads b ts = sign_of (head ts) == b

abbrev pub begins_some : Option Token → Bool
begins_some None = false
begins_some (Some t) = begins t

abbrev pub opens : Lexed → Bool
opens ts = begins_some (head ts)
