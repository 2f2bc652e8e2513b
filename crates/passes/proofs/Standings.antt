-- The tokens that begin with a lexeme.
-- Assumes nothing.
use Rattle.std.proofs.Common.{◌≡◌, ℕ, suc, ◌<◌, ◌≤◌, eqb, List, length, Some, None, Option, refl, ap, arith}
use Rattle.refusals.specs.Questions.{refusing}
use Rattle.refusals.specs.declared.Question.TheVariants.{GrammarAllows}
use Rattle.grammar.specs.declared.token.Lexeme.{Lexeme}
use Rattle.grammar.specs.Lexing.{onward_by}
use Rattle.grammar.specs.Parsing.{joins, unexpected}
use Rattle.grammar.specs.Sighting.{token_of}
use Rattle.grammar.specs.Tokens.{Token, Lexed, begins_some, head, leads, place, rest, sign_of}
use Rattle.nodes.specs.Entering.{Held}
use Rattle.passes.specs.declared.binary.Binary.{Binary}
use Rattle.surveys.specs.declared.reader.Reader.{Reader}
use Rattle.surveys.specs.Looking.{Stands, StandsBy, after, standing}
use Rattle.passes.specs.Passing.{Answer, joins_with, level_of, over}

head_on : (f : ℕ → Lexed) (o : Option Token) (p q : ℕ) → head (onward_by f o p q) ≡ o
head_on f None p q = refl
head_on f (Some t) p q = refl

place_on : (f : ℕ → Lexed) (o : Option Token) (p q : ℕ) → place (onward_by f o p q) ≡ p
place_on f None p q = refl
place_on f (Some t) p q = refl

unexpected_on : (f : ℕ → Lexed) (o : Option Token) (p q : ℕ) → unexpected (onward_by f o p q) ≡ refusing GrammarAllows p
unexpected_on f None p q = refl
unexpected_on f (Some t) p q = refl

over_on : (f : ℕ → Lexed) (o : Option Token) (p q : ℕ) (h : Held) (F : Lexed → Answer) → over (onward_by f o p q) h F ≡ F (onward_by f o p q)
over_on f None p q h F = refl
over_on f (Some t) p q h F = refl

-- A sign says that a token is there.
rest_signed : (f : ℕ → Lexed) (o : Option Token) (p q b : ℕ) → sign_of o ≡ suc b → rest (onward_by f o p q) ≡ f q
rest_signed f None p q b e = absurd (omega arith)
rest_signed f (Some t) p q b e = refl

taken_by : (text : List ℕ) (o : Option Token) (p q b : ℕ) → sign_of o ≡ suc b → StandsBy text o p q → (p < q) × (q ≤ length text)
taken_by text None p q b e h = absurd (omega arith)
taken_by text (Some t) p q b e h = h

in_text : (text : List ℕ) (o : Option Token) (p q : ℕ) → StandsBy text o p q → (p ≤ q) × (q ≤ length text)
in_text text None p q h = let a = h.0 in let b = h.1 in (omega arith, omega arith)
in_text text (Some t) p q h = let a = h.0 in (omega arith, h.1)

-- The same for lexemes.
pub lies_in : (text : List ℕ) (l : Lexeme) → Stands text l → (l.place ≤ l.after) × (l.after ≤ length text)
lies_in text l h = in_text text (token_of l.token) l.place l.after h

pub lies_taken : (text : List ℕ) (l : Lexeme) (b : ℕ) → sign_of (token_of l.token) ≡ suc b → Stands text l → (l.place < l.after) × (l.after ≤ length text)
lies_taken text l b e h = taken_by text (token_of l.token) l.place l.after b e h

module _ (s : Reader) (l : Lexeme) where
  pub head-standing : head (standing s l) ≡ token_of l.token
  head-standing = head_on (after s) (token_of l.token) l.place l.after

  pub leads-standing : (b : ℕ) → leads b (standing s l) ≡ eqb (sign_of (token_of l.token)) b
  leads-standing b = ap (λ o. eqb (sign_of o) b) head-standing

  pub place-standing : place (standing s l) ≡ l.place
  place-standing = place_on (after s) (token_of l.token) l.place l.after

  pub unexpected-standing : unexpected (standing s l) ≡ refusing GrammarAllows l.place
  unexpected-standing = unexpected_on (after s) (token_of l.token) l.place l.after

  pub over-standing : (h : Held) (F : Lexed → Answer) → over (standing s l) h F ≡ F (standing s l)
  over-standing h F = over_on (after s) (token_of l.token) l.place l.after h F

  pub rest-standing : (b : ℕ) → sign_of (token_of l.token) ≡ suc b → rest (standing s l) ≡ after s l.after
  rest-standing b e = rest_signed (after s) (token_of l.token) l.place l.after b e

  pub joins-standing : (b : Binary) → joins (level_of b) (standing s l) ≡ joins_with b (token_of l.token)
  joins-standing Binary.Or = ap (λ o. eqb (sign_of o) 124) head-standing
  joins-standing Binary.And = ap (λ o. eqb (sign_of o) 38) head-standing
  joins-standing Binary.Sequence = ap begins_some head-standing
