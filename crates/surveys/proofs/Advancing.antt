-- Going on to the next token of a text.
-- Assumes nothing.
use Rattle.std.proofs.Common.{◌≡◌, ℕ, Bool, true, false, cond, ◌&&◌, eqb, List, Some, None, Ok, Err, Option, Result, sym, refl, ap, ◌∙◌}
use Rattle.std.proofs.lemmas.Bool.{cond-true, cond-false, false≢true}
use Rattle.refusals.specs.Questions.{refusing}
use Rattle.refusals.specs.declared.Question.TheVariants.{AtomCount}
use Rattle.refusals.specs.declared.Refusal.{Refusal}
use Rattle.grammar.specs.declared.token.Lexeme.{Lexeme}
use Rattle.grammar.specs.Atoms.{beyond, counted, counted_by, within}
use Rattle.grammar.specs.Lexing.{Piece, lexed_at, lexed_from, onward, onward_by}
use Rattle.grammar.specs.Sighting.{sighted, token_of}
use Rattle.grammar.specs.Tokens.{Token, Lexed, sign_of}
use Rattle.grammar.proofs.Cutting.{lexed_from_step}
use Rattle.surveys.specs.declared.reader.Reader.{Reader}
use Rattle.surveys.specs.Looking.{after, told}

-- What is sighted tells the tokens from there on.
pub sighted_on : (text : List ℕ) (at : ℕ) (r : Result Lexeme Refusal) → sighted r ≡ lexed_at text at → lexed_from text at ≡ onward (lexed_from text) (sighted r)
sighted_on text at r seen = lexed_from_step text at ∙ ap (onward (lexed_from text)) (sym seen)

-- The token from a place on, a bracket at the horizon refused.
pub counted_bad : (s : Reader) (at : ℕ) (e : Refusal) → sighted (Err e) ≡ lexed_at s.text.now at → ◌≡◌ {A = Result Piece Refusal} (Err e) (counted s.horizon (lexed_at s.text.now at))
counted_bad s at e seen = ap (counted s.horizon) seen

beyond_counted : (h : ℕ) (o : Option Token) (p q : ℕ) → (eqb (sign_of o) 91 && eqb p h) ≡ true → counted_by h o p q ≡ Err (refusing AtomCount p)
beyond_counted h None p q is = absurd (false≢true is)
beyond_counted h (Some t) p q is = cond-true _ _ _ is

passed_counted : (h : ℕ) (o : Option Token) (p q : ℕ) → (eqb (sign_of o) 91 && eqb p h) ≡ false → counted_by h o p q ≡ Ok (o, p, q)
passed_counted h None p q is = refl
passed_counted h (Some t) p q is = cond-false _ _ _ is

module _ (s : Reader) (at : ℕ) (l : Lexeme) (seen : sighted (Ok l) ≡ lexed_at s.text.now at) where
  pub counted_refused : (eqb (sign_of (token_of l.token)) 91 && eqb l.place s.horizon) ≡ true → ◌≡◌ {A = Result Piece Refusal} (Err (refusing AtomCount l.place)) (counted s.horizon (lexed_at s.text.now at))
  counted_refused is = sym (beyond_counted s.horizon (token_of l.token) l.place l.after is) ∙ ap (counted s.horizon) seen

  pub counted_token : (eqb (sign_of (token_of l.token)) 91 && eqb l.place s.horizon) ≡ false → sighted (Ok l) ≡ counted s.horizon (lexed_at s.text.now at)
  counted_token is = sym (passed_counted s.horizon (token_of l.token) l.place l.after is) ∙ ap (counted s.horizon) seen

cond_of : {A B : Type 0} (b : Bool) (f : A → B) (x y : A) → cond b (f x) (f y) ≡ f (cond b x y)
cond_of true f x y = refl
cond_of false f x y = refl

-- Refusing brackets goes token by token, as cutting does.
within_by : (h : ℕ) (f : ℕ → Lexed) (o : Option Token) (p q : ℕ) → within h (onward_by f o p q) ≡ onward (λ to. within h (f to)) (counted_by h o p q)
unfolding within
within_by h f None p q = refl
within_by h f (Some t) p q = cond_of (beyond h t p) (onward (λ to. within h (f to))) (Err (refusing AtomCount p)) (Ok (Some t, p, q))

within_onward : (h : ℕ) (f : ℕ → Lexed) (x : Result Piece Refusal) → within h (onward f x) ≡ onward (λ to. within h (f to)) (counted h x)
unfolding within
within_onward h f (Ok x) = within_by h f x.0 x.1 x.2
within_onward h f (Err r) = refl

-- So what the first token is tells those from there on.
pub told_after : (s : Reader) (at : ℕ) (r : Result Lexeme Refusal) → sighted r ≡ counted s.horizon (lexed_at s.text.now at) → told s r ≡ after s at
told_after s at r is = told_onward r ∙ ap (onward (after s)) is ∙ sym step
  where
    told_onward : (r : Result Lexeme Refusal) → told s r ≡ onward (after s) (sighted r)
    told_onward (Ok l) = refl
    told_onward (Err e) = refl

    step : after s at ≡ onward (after s) (counted s.horizon (lexed_at s.text.now at))
    step = ap (within s.horizon) (lexed_from_step s.text.now at) ∙ within_onward s.horizon (lexed_from s.text.now) (lexed_at s.text.now at)
