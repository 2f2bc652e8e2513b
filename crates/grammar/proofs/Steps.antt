-- The small steps of reading, taken back: what stood there if a step came to a rule.
-- Assumes nothing.
use Rattle.std.proofs.Common.{◌≡◌, ℕ, true, List, [], ◌∷◌, ◌++◌, Some, None, Ok, Err, Option, refl, ap, ◌∙◌, arith}
use Rattle.std.proofs.lemmas.List.{map-append}
use Rattle.std.proofs.lemmas.Bool.{eqb-true}
use Rattle.refusals.specs.declared.Refusal.{Refusal}
use Rattle.languages.specs.Rules.{Rule}
use Rattle.grammar.specs.Tokens.{Token, bar, ampersand, bang, asterisk, opening, closing, nought, one, dot, bracket, Spot, Lexed, end, bad, token, before, tokens_in, head, rest, place, sign_of, leads}
use Rattle.grammar.specs.Lexing.{bare}
use Rattle.grammar.specs.Parsing.{Read, then, past}

pub err_never : (r : Refusal) (x : Rule × Lexed) → ◌≡◌ {A = Read} (Err r) (Ok x) → ⊥
err_never r x h = grind arith

pub ok_parts : (r q : Rule) (ts us : Lexed) → ◌≡◌ {A = Read} (Ok (r, ts)) (Ok (q, us)) → (r ≡ q) × (ts ≡ us)
ok_parts r q ts us h =
    let e : ◌≡◌ {A = Rule × Lexed} (r, ts) (q, us) = cc in
    (ap (λ x. x.0) e, ap (λ x. x.1) e)

pub then_ok : (m : Read) (f : Rule → Lexed → Read) (y : Rule × Lexed) → then m f ≡ Ok y → (x : Rule × Lexed) × (m ≡ Ok x) × (f x.0 x.1 ≡ Ok y)
then_ok (Ok x) f y h = (x, refl, h)
then_ok (Err r) f y h = absurd (err_never r y h)

pub past_ok : (ts : Lexed) (f : Lexed → Read) (y : Rule × Lexed) → past ts f ≡ Ok y → f ts ≡ Ok y
past_ok (end p) f y h = h
past_ok (bad r) f y h = absurd (err_never r y h)
past_ok (token t p ts) f y h = h

head-is : (ts : Lexed) (t : Token) → head ts ≡ Some t → ts ≡ token t (place ts) (rest ts)
head-is (end p) t h = cc
head-is (bad r) t h = cc
head-is (token u p ts) t h = cc

-- A sign tells its token.
signed_is : (o : Option Token) (b : ℕ) (t : Token) → bare b ≡ Some t → sign_of o ≡ b → o ≡ Some t
signed_is None b t is h = ap bare h ∙ is
signed_is (Some bar) b t is h = ap bare h ∙ is
signed_is (Some ampersand) b t is h = ap bare h ∙ is
signed_is (Some bang) b t is h = ap bare h ∙ is
signed_is (Some asterisk) b t is h = ap bare h ∙ is
signed_is (Some opening) b t is h = ap bare h ∙ is
signed_is (Some closing) b t is h = ap bare h ∙ is
signed_is (Some nought) b t is h = ap bare h ∙ is
signed_is (Some one) b t is h = ap bare h ∙ is
signed_is (Some dot) b t is h = ap bare h ∙ is
signed_is (Some (bracket s)) b t is h = let never : ◌≡◌ {A = Option Token} None (Some t) = ap bare h ∙ is in cc

pub leads-is : (b : ℕ) (t : Token) (ts : Lexed) → bare b ≡ Some t → leads b ts ≡ true → ts ≡ token t (place ts) (rest ts)
leads-is b t ts is h = head-is ts t (signed_is (head ts) b t is (eqb-true (sign_of (head ts)) b h))

pub before-append : (s u : List Spot) (ts : Lexed) → before (s ++ u) ts ≡ before s (before u ts)
before-append [] u ts = refl
before-append (x ∷ s) u ts = ap (token x.0 x.1) (before-append s u ts)

pub tokens_in-append : (s u : List Spot) → tokens_in (s ++ u) ≡ tokens_in s ++ tokens_in u
tokens_in-append s u = map-append (λ x. x.0) s u
