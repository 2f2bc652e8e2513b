-- Going on from a part, turn by turn.
--   Growing step s n X x h y g   going on from x with the pool h is going on from y with the pool g
-- Assumes nothing.
use Rattle.std.proofs.Common.{◌≡◌, ℕ, zero, suc, ◌<◌, ◌≤◌, Bool, true, false, eqb, length, Ok, Err, sym, ap, ◌∙◌, arith}
use Rattle.std.proofs.lemmas.Bool.{eq-eqb, ne_eqb}
use Rattle.refusals.specs.declared.Refusal.{Refusal}
use Rattle.grammar.specs.declared.token.Lexeme.{Lexeme}
use Rattle.grammar.specs.declared.token.Token.TheVariants.{Asterisk}
use Rattle.grammar.specs.Grammar.{Level, starred}
use Rattle.grammar.specs.Tokens.{Lexed}
use Rattle.nodes.specs.declared.form.Form.TheVariants as Form
use Rattle.nodes.specs.Entering.{Held, Out}
use Rattle.passes.specs.declared.part.Part.{Part}
use Rattle.surveys.specs.declared.reader.Reader.{Reader}
use Rattle.passes.specs.Going.{size_on}
use Rattle.surveys.specs.Looking.{Lies, Stands, after, standing, told}
use Rattle.passes.specs.Passing.{Step, Answer, grow_into, names_of, over, read_into, starring, with}
use Rattle.passes.proofs.Signs.{is_asterisk, sign_byte}
use Rattle.passes.proofs.Standings.{leads-standing, lies_in, lies_taken, over-standing, rest-standing}

-- Going on from a part, at a bound of the depth.
abbrev pub going_on : Step → Reader → ℕ → Level → ℕ → Part → Held → Answer
going_on step s n X k x h = grow_into k step (names_of s) n X x.node (standing s x.next) h

pub record Growing (step : Step) (s : Reader) (n : ℕ) (X : Level) (x : Part) (h : Held) (y : Part) (g : Held) : Type 0 where
  pub so_far : (k : ℕ) → size_on s x.next < k → (j : ℕ) × (size_on s y.next < j) × (going_on step s n X k x h ≡ going_on step s n X j y g)
  pub stands : Stands s.text.now y.next
  pub far : x.next.place ≤ y.next.place

module _ (step : Step) (s : Reader) (n : ℕ) (X : Level) (x : Part) (h : Held) where
  module _ (y : Part) (g : Held) (so : Growing step s n X x h y g) where
    on_by : (z : Part) (i : Held) → y.next.place < z.next.place → z.next.place ≤ length s.text.now → ((j : ℕ) → size_on s y.next < suc j → going_on step s n X (suc j) y g ≡ going_on step s n X j z i) → (k j : ℕ) → size_on s y.next < j → going_on step s n X k x h ≡ going_on step s n X j y g → (j : ℕ) × (size_on s z.next < j) × (going_on step s n X k x h ≡ going_on step s n X j z i)
    on_by z i far most step k zero m e = absurd (omega arith)
    on_by z i far most step k (suc j) m e = (j, omega arith, e ∙ step j m)

    pub growing_more : (z : Part) (i : Held) → Stands s.text.now z.next → y.next.place < z.next.place → ((j : ℕ) → size_on s y.next < suc j → going_on step s n X (suc j) y g ≡ going_on step s n X j z i) → Growing step s n X x h z i
    growing_more z i stands far step =
        let lies = lies_in s.text.now z.next stands in
        let a = lies.0 in
        let b = lies.1 in
        let before = so.far in
        record { so_far = λ k m. let w = so.so_far k m in on_by z i far (omega arith) step k w.0 w.1 w.2; stands = stands; far = omega arith }

    exit_by : (a : Answer) → ((j : ℕ) → size_on s y.next < suc j → going_on step s n X (suc j) y g ≡ a) → (k j : ℕ) → size_on s y.next < j → going_on step s n X k x h ≡ going_on step s n X j y g → a ≡ going_on step s n X k x h
    exit_by a step k zero m e = absurd (omega arith)
    exit_by a step k (suc j) m e = sym (e ∙ step j m)

    pub growing_exit : (a : Answer) → ((j : ℕ) → size_on s y.next < suc j → going_on step s n X (suc j) y g ≡ a) → (k : ℕ) → size_on s x.next < k → a ≡ going_on step s n X k x h
    growing_exit a step k m = let w = so.so_far k m in exit_by a step k w.0 w.1 w.2

-- A star behind a part.
module _ (step : Step) (s : Reader) (n : ℕ) (x : Part) (h : Held) where
  starring_by : (j : ℕ) (b : Bool) → eqb (sign_byte x.next.token) 42 ≡ b → going_on step s n starred (suc j) x h ≡ starring (grow_into j step (names_of s)) step n x.node (standing s x.next) h b
  unfolding read_into grow_into
  starring_by j b e = ap (starring (grow_into j step (names_of s)) step n x.node (standing s x.next) h) (leads-standing s x.next 42 ∙ e)

  pub star_none : (x.next.token ≡ Asterisk → ⊥) → (j : ℕ) → going_on step s n starred (suc j) x h ≡ (Ok (x.node, standing s x.next), h)
  star_none never j = starring_by j false (ne_eqb _ 42 (λ e. never (is_asterisk x.next.token e)))

  abbrev star_on : ℕ → Lexed → Out → Answer
  star_on j us o = with o (λ q i. grow_into j step (names_of s) n starred q us i)

  pub star_refused : x.next.token ≡ Asterisk → (e : Refusal) → told s (Err e) ≡ after s x.next.after → (j : ℕ) → going_on step s n starred (suc j) x h ≡ (Err e, h)
  star_refused is e t j =
      starring_by j true (eq-eqb _ 42 (ap sign_byte is)) ∙ ap (λ ts. over ts h (λ us. star_on j us (step (Form.Star x.node) h))) (rest-standing s x.next 41 (ap sign_byte is) ∙ sym t)

  pub star_one : x.next.token ≡ Asterisk → (next : Lexeme) (o : Out) → told s (Ok next) ≡ after s x.next.after → o ≡ step (Form.Star x.node) h → (j : ℕ) → going_on step s n starred (suc j) x h ≡ star_on j (standing s next) o
  star_one is next o t e j =
      starring_by j true (eq-eqb _ 42 (ap sign_byte is)) ∙ ap (λ ts. over ts h (λ us. star_on j us (step (Form.Star x.node) h))) (rest-standing s x.next 41 (ap sign_byte is) ∙ sym t)
      ∙ over-standing s next h (λ us. star_on j us (step (Form.Star x.node) h)) ∙ ap (star_on j (standing s next)) (sym e)

-- What comes behind a sign is further on.
pub on_by_sign : (s : Reader) (l next : Lexeme) (b : ℕ) → sign_byte l.token ≡ suc b → Stands s.text.now l → Lies s.text.now l.after next → (l.place < next.place) × (next.place ≤ length s.text.now)
on_by_sign s l next b is h lies =
    let taken = lies_taken s.text.now l b is h in
    let far = lies.1 taken.1 in
    let first = taken.0 in
    let in-it = lies_in s.text.now next lies.0 in
    let a = in-it.0 in
    let z = in-it.1 in
    (omega arith, omega arith)
