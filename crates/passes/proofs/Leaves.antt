-- A form of one token.
-- Assumes nothing.
use Rattle.std.proofs.Common.{◌≡◌, ℕ, zero, suc, ◌+◌, ◌<◌, ◌≤◌, List, length, Some, None, Ok, Err, Option, Result, sym, refl, ap, ◌∙◌, arith}
use Rattle.refusals.specs.Questions.{refusing}
use Rattle.refusals.specs.declared.Question.TheVariants.{GrammarAllows}
use Rattle.refusals.specs.declared.Refusal.{Refusal}
use Rattle.grammar.specs.declared.token.Lexeme.{Lexeme}
use Rattle.grammar.specs.declared.token.Token.TheVariants.{Opening}
use Rattle.grammar.specs.Grammar.{bases}
use Rattle.grammar.specs.Lexing.{onward_by}
use Rattle.grammar.specs.Sighting.{token_of}
use Rattle.grammar.specs.Tokens.{Token, bar, ampersand, bang, asterisk, opening, closing, nought, one, dot, bracket, Lexed, leads, sign_of}
use Rattle.nodes.specs.declared.form.Form.{Form}
use Rattle.nodes.specs.Entering.{Held, Out}
use Rattle.surveys.specs.declared.reader.Reader.{Reader}
use Rattle.passes.specs.Going.{size}
use Rattle.surveys.specs.Looking.{Lies, Stands, StandsBy, after, standing, told}
use Rattle.passes.specs.Passing.{Step, Answer, Reads, answered, basing, leaf_in, names_of, over, read_into, grow_into, with}
use Rattle.passes.proofs.Signs.{is_opening}
use Rattle.passes.proofs.Standings.{over-standing}

-- What a form of one token comes to.
abbrev alone : Step → Form → Held → Lexed → Answer
alone step f h us = with (step f h) (λ q i. (Ok (q, us), i))

form_is : (f g : Form) → ◌≡◌ {A = Option Form} (Some f) (Some g) → f ≡ g
form_is f g e = cc

form_never : {A : Type 0} (f : Form) → ◌≡◌ {A = Option Form} None (Some f) → A
form_never f e = absurd (grind arith)

basing_leaf : (rd : Reads) (step : Step) (names : List ℕ → ℕ) (n : ℕ) (F : ℕ → Lexed) (o : Option Token) (p q : ℕ) (h : Held) (f : Form) → leaf_in names o ≡ Some f → basing rd step names n (onward_by F o p q) h (leads 40 (onward_by F o p q)) ≡ over (F q) h (alone step f h)
basing_leaf rd step names n F None p q h f e = form_never f e
basing_leaf rd step names n F (Some bar) p q h f e = form_never f e
basing_leaf rd step names n F (Some ampersand) p q h f e = form_never f e
basing_leaf rd step names n F (Some bang) p q h f e = form_never f e
basing_leaf rd step names n F (Some asterisk) p q h f e = form_never f e
basing_leaf rd step names n F (Some opening) p q h f e = form_never f e
basing_leaf rd step names n F (Some closing) p q h f e = form_never f e
basing_leaf rd step names n F (Some nought) p q h f e = ap (λ g. over (F q) h (alone step g h)) (form_is _ f e)
basing_leaf rd step names n F (Some one) p q h f e = ap (λ g. over (F q) h (alone step g h)) (form_is _ f e)
basing_leaf rd step names n F (Some dot) p q h f e = ap (λ g. over (F q) h (alone step g h)) (form_is _ f e)
basing_leaf rd step names n F (Some (bracket s)) p q h f e = ap (λ g. over (F q) h (alone step g h)) (form_is _ f e)

module _ (step : Step) (s : Reader) (n : ℕ) (l : Lexeme) (h : Held) (f : Form) (is : leaf_in (names_of s) (token_of l.token) ≡ Some f) where
  single_by : (r : Result Lexeme Refusal) → told s r ≡ after s l.after → (k : ℕ) → read_into (suc k) step (names_of s) n bases (standing s l) h ≡ over (told s r) h (alone step f h)
  unfolding read_into grow_into
  single_by r e k = basing_leaf (read_into k step (names_of s)) step (names_of s) n (after s) (token_of l.token) l.place l.after h f is ∙ ap (λ ts. over ts h (alone step f h)) (sym e)

  pub single_refused : (e : Refusal) → told s (Err e) ≡ after s l.after → (k : ℕ) → size s l bases < k → ◌≡◌ {A = Answer} (answered s (Err e), h) (read_into k step (names_of s) n bases (standing s l) h)
  single_refused e t zero m = absurd (omega arith)
  single_refused e t (suc k) m = sym (single_by (Err e) t k)

  pub single_done : (next : Lexeme) (o : Out) → told s (Ok next) ≡ after s l.after → o ≡ step f h → (k : ℕ) → size s l bases < k → with o (λ q i. (Ok (q, standing s next), i)) ≡ read_into k step (names_of s) n bases (standing s l) h
  single_done next o t e zero m = absurd (omega arith)
  single_done next o t e (suc k) m = sym (single_by (Ok next) t k ∙ over-standing s next h (alone step f h) ∙ ap (λ x. with x (λ q i. (Ok (q, standing s next), i))) (sym e))

leaf_taken : (text : List ℕ) (names : List ℕ → ℕ) (o : Option Token) (p q : ℕ) (f : Form) → leaf_in names o ≡ Some f → StandsBy text o p q → (p < q) × (q ≤ length text)
leaf_taken text names None p q f e h = form_never f e
leaf_taken text names (Some t) p q f e h = h

pub single_onward : (s : Reader) (l next : Lexeme) (f : Form) → leaf_in (names_of s) (token_of l.token) ≡ Some f → Stands s.text.now l → Lies s.text.now l.after next → Stands s.text.now next × (l.place + 1 ≤ next.place)
single_onward s l next f e h lies =
    let in-it = leaf_taken s.text.now (names_of s) (token_of l.token) l.place l.after f e h in
    let far = lies.1 in-it.1 in
    let first = in-it.0 in
    (lies.0, omega arith)

-- No form at all.
basing_none : (rd : Reads) (step : Step) (names : List ℕ → ℕ) (n : ℕ) (F : ℕ → Lexed) (o : Option Token) (p q : ℕ) (h : Held) → (sign_of o ≡ 40 → ⊥) → leaf_in names o ≡ None → basing rd step names n (onward_by F o p q) h (leads 40 (onward_by F o p q)) ≡ (Err (refusing GrammarAllows p), h)
basing_none rd step names n F None p q h s e = refl
basing_none rd step names n F (Some bar) p q h s e = refl
basing_none rd step names n F (Some ampersand) p q h s e = refl
basing_none rd step names n F (Some bang) p q h s e = refl
basing_none rd step names n F (Some asterisk) p q h s e = refl
basing_none rd step names n F (Some opening) p q h s e = absurd (s refl)
basing_none rd step names n F (Some closing) p q h s e = refl
basing_none rd step names n F (Some nought) p q h s e = form_never _ (sym e)
basing_none rd step names n F (Some one) p q h s e = form_never _ (sym e)
basing_none rd step names n F (Some dot) p q h s e = form_never _ (sym e)
basing_none rd step names n F (Some (bracket b)) p q h s e = form_never _ (sym e)

pub base_refused : (step : Step) (s : Reader) (n : ℕ) (l : Lexeme) (h : Held) → (l.token ≡ Opening → ⊥) → leaf_in (names_of s) (token_of l.token) ≡ None → (k : ℕ) → size s l bases < k → ◌≡◌ {A = Answer} (Err (refusing GrammarAllows l.place), h) (read_into k step (names_of s) n bases (standing s l) h)
unfolding read_into grow_into
base_refused step s n l h never e zero m = absurd (omega arith)
base_refused step s n l h never e (suc k) m = sym (basing_none (read_into k step (names_of s)) step (names_of s) n (after s) (token_of l.token) l.place l.after h (λ e. never (is_opening l.token e)) e)
