-- Reading that enters nodes enters the rule that the grammar's reader reads, where that reads one.
--   placed o us   a node entered, with the tokens behind its text
-- Assumes nothing.
use Rattle.std.proofs.Common.{◌≡◌, ℕ, zero, suc, Bool, true, false, List, Ok, Err, Result, sym, refl, ap, ◌∙◌}
use Rattle.refusals.specs.declared.Refusal.{Refusal}
use Rattle.languages.specs.Rules.{Rule, none, empty, any, atom, sequence, or, and, star, not}
use Rattle.grammar.specs.Grammar.{Level, alternatives, conjunctions, sequences, prefixes, starred, bases}
use Rattle.grammar.specs.Parsing as Parsing
use Rattle.grammar.specs.Parsing.{Read, ahead, bases_by, closed, closed_by, grown_by, joins, more_by, not_by, past, read, more, then}
use Rattle.grammar.specs.Tokens.{bar, ampersand, bang, asterisk, opening, closing, nought, one, dot, bracket, Lexed, end, bad, token, leads, rest}
use Rattle.grammar.proofs.Steps.{err_never, ok_parts, then_ok, past_ok}
use Rattle.nodes.specs.declared.form.Form.{Form}
use Rattle.nodes.specs.Entering.{Held, Out, bind, entered, bind_by}
use Rattle.nodes.specs.Trees.{entered_tree}
use Rattle.passes.specs.declared.binary.Binary.{Binary}
use Rattle.reader.proofs.Checking.{over-opens}
use Rattle.passes.specs.Passing.{Answer, Grows, Reads, basing, go, grow_by, grow_into, growing, inside, joining, level_of, negating, onset_of, over, read_by, read_into, shut, starring, tighter, with}

abbrev pub placed : Out → Lexed → Answer
placed o us = with o (λ n h. (Ok (n, us), h))

-- The laws of going on.
go-placed : (o : Out) (vs : Lexed) (f : ℕ → Lexed → Held → Answer) → go (placed o vs) f ≡ with o (λ l g. f l vs g)
go-placed o vs f = by o.0 o.1
  where
    by : (a : Result ℕ Refusal) (h : Held) → go (bind_by a h (λ n g. (Ok (n, vs), g))) f ≡ bind_by a h (λ l g. f l vs g)
    by (Ok n) h = refl
    by (Err e) h = refl

with-bind : (o : Out) (f : ℕ → Held → Out) (g : ℕ → Held → Answer) → with (bind o f) g ≡ with o (λ l h. with (f l h) g)
with-bind o f g = by o.0 o.1
  where
    by : (a : Result ℕ Refusal) (h : Held) → with (bind (a, h) f) g ≡ bind_by a h (λ l i. with (f l i) g)
    by (Ok n) h = refl
    by (Err e) h = refl

with_same : (o : Out) (f g : ℕ → Held → Answer) → ((l : ℕ) (h : Held) → f l h ≡ g l h) → with o f ≡ with o g
with_same o f g same = by o.0 o.1
  where
    by : (a : Result ℕ Refusal) (h : Held) → bind_by a h f ≡ bind_by a h g
    by (Ok n) h = same n h
    by (Err e) h = refl

-- What the grammar's reader passes over is there.
over_ok : (ts : Lexed) (f : Lexed → Read) (y : Rule × Lexed) (h : Held) (F : Lexed → Answer) → past ts f ≡ Ok y → over ts h F ≡ F ts
over_ok (end p) f y h F e = refl
over_ok (bad r) f y h F e = absurd (err_never r y e)
over_ok (token t p ts) f y h F e = refl

-- A form of two operands, as a rule.
abbrev make_of : Binary → Rule → Rule → Rule
make_of Binary.Or r q = or r q
make_of Binary.And r q = and r q
make_of Binary.Sequence r q = sequence r q

made_of : (b : Binary) (r q : Rule) (h : Held) → entered_tree (make_of b r q) h ≡ bind (entered_tree r h) (λ l g. bind (entered_tree q g) (λ m i. entered (joining b l m) i))
made_of Binary.Or r q h = refl
made_of Binary.And r q h = refl
made_of Binary.Sequence r q h = refl

-- One step, from the steps below it.
module _ (names : List ℕ → ℕ) (rd : Reads) (mr : Grows) (RD : Parsing.Reads) (MR : Parsing.Grows)
    (rd-enters : (n : ℕ) (X : Level) (ts : Lexed) (r : Rule) (us : Lexed) (h : Held) → RD n X ts ≡ Ok (r, us) → rd n X ts h ≡ placed (entered_tree r h) us)
    (mr-enters : (n : ℕ) (X : Level) (q : Rule) (ts : Lexed) (r : Rule) (us : Lexed) (h : Held) → MR n X q ts ≡ Ok (r, us) → with (entered_tree q h) (λ l g. mr n X l ts g) ≡ placed (entered_tree r h) us) where
  after_first : (n : ℕ) (Y : Level) (ts : Lexed) (q : Rule) (vs : Lexed) (h : Held) (f : ℕ → Lexed → Held → Answer) → RD n Y ts ≡ Ok (q, vs) → go (rd n Y ts h) f ≡ with (entered_tree q h) (λ l g. f l vs g)
  after_first n Y ts q vs h f e = ap (λ a. go a f) (rd-enters n Y ts q vs h e) ∙ go-placed (entered_tree q h) vs f

  begun : (n : ℕ) (X Y : Level) (ts : Lexed) (r : Rule) (us : Lexed) (h : Held) → then (RD n Y ts) (MR n X) ≡ Ok (r, us) → go (rd n Y ts h) (mr n X) ≡ placed (entered_tree r h) us
  begun n X Y ts r us h e =
      let first = then_ok (RD n Y ts) (MR n X) (r, us) e in
      let m = first.0 in
      after_first n Y ts m.0 m.1 h (mr n X) first.1 ∙ mr-enters n X m.0 m.1 r us h first.2

  operand : (n : ℕ) (b : Binary) (q : Rule) (ts : Lexed) (r : Rule) (us : Lexed) (h : Held) → ((g : Held) (F : Lexed → Answer) → over (onset_of b ts) g F ≡ F (onset_of b ts)) → then (RD n (tighter b) (onset_of b ts)) (λ p vs. MR n (level_of b) (make_of b q p) vs) ≡ Ok (r, us) → with (entered_tree q h) (λ l g. growing rd mr entered n b l ts g true) ≡ placed (entered_tree r h) us
  operand n b q ts r us h there e =
      let first = then_ok (RD n (tighter b) (onset_of b ts)) (λ p vs. MR n (level_of b) (make_of b q p) vs) (r, us) e in
      let p = first.0.0 in
      let vs = first.0.1 in
      let M : ℕ → Held → Answer = λ x i. mr n (level_of b) x vs i in
      with_same (entered_tree q h) _ (λ l g. with (bind (entered_tree p g) (λ m i. entered (joining b l m) i)) M)
      (λ l g. there g _ ∙ after_first n (tighter b) (onset_of b ts) p vs g _ first.1 ∙ sym (with-bind (entered_tree p g) (λ m i. entered (joining b l m) i) M))
      ∙ sym (with-bind (entered_tree q h) (λ l g. bind (entered_tree p g) (λ m i. entered (joining b l m) i)) M)
      ∙ ap (λ o. with o M) (sym (made_of b q p h))
      ∙ mr-enters n (level_of b) (make_of b q p) vs r us h first.2

  stays : (q r : Rule) (ts us : Lexed) (h : Held) → ◌≡◌ {A = Read} (Ok (q, ts)) (Ok (r, us)) → placed (entered_tree q h) ts ≡ placed (entered_tree r h) us
  stays q r ts us h e =
      let same = ok_parts q r ts us e in
      ap (λ x. placed (entered_tree x h) ts) same.0 ∙ ap (placed (entered_tree r h)) same.1

  growing_enters : (n : ℕ) (b : Binary) (q : Rule) (ts : Lexed) (r : Rule) (us : Lexed) (h : Held) (t : Bool) → joins (level_of b) ts ≡ t → grown_by RD MR n (level_of b) q ts t ≡ Ok (r, us) → with (entered_tree q h) (λ l g. growing rd mr entered n b l ts g t) ≡ placed (entered_tree r h) us
  growing_enters n b q ts r us h false is e = stays q r ts us h e
  growing_enters n Binary.Or q ts r us h true is e = operand n Binary.Or q ts r us h (λ g F. over_ok (rest ts) _ (r, us) g F e) (past_ok (rest ts) _ (r, us) e)
  growing_enters n Binary.And q ts r us h true is e = operand n Binary.And q ts r us h (λ g F. over_ok (rest ts) _ (r, us) g F e) (past_ok (rest ts) _ (r, us) e)
  growing_enters n Binary.Sequence q ts r us h true is e = operand n Binary.Sequence q ts r us h (λ g F. over-opens ts g F is) e

  starring_enters : (n : ℕ) (q : Rule) (ts : Lexed) (r : Rule) (us : Lexed) (h : Held) (t : Bool) → grown_by RD MR n starred q ts t ≡ Ok (r, us) → with (entered_tree q h) (λ l g. starring mr entered n l ts g t) ≡ placed (entered_tree r h) us
  starring_enters n q ts r us h false e = stays q r ts us h e
  starring_enters n q ts r us h true e =
      let M : ℕ → Held → Answer = λ x i. mr n starred x (rest ts) i in
      with_same (entered_tree q h) _ (λ l g. with (entered (Form.Star l) g) M) (λ l g. over_ok (rest ts) _ (r, us) g _ e)
      ∙ sym (with-bind (entered_tree q h) (λ l g. entered (Form.Star l) g) M)
      ∙ mr-enters n starred (star q) (rest ts) r us h (past_ok (rest ts) _ (r, us) e)

  grow_enters : (n : ℕ) (X : Level) (q : Rule) (ts : Lexed) (r : Rule) (us : Lexed) (h : Held) → more_by RD MR n X q ts ≡ Ok (r, us) → with (entered_tree q h) (λ l g. grow_by rd mr entered n X l ts g) ≡ placed (entered_tree r h) us
  grow_enters n alternatives q ts r us h e = growing_enters n Binary.Or q ts r us h (joins alternatives ts) refl e
  grow_enters n conjunctions q ts r us h e = growing_enters n Binary.And q ts r us h (joins conjunctions ts) refl e
  grow_enters n sequences q ts r us h e = growing_enters n Binary.Sequence q ts r us h (joins sequences ts) refl e
  grow_enters n prefixes q ts r us h e = stays q r ts us h e
  grow_enters n starred q ts r us h e = starring_enters n q ts r us h (joins starred ts) e
  grow_enters n bases q ts r us h e = stays q r ts us h e

  inside_ok : (n : ℕ) (ts : Lexed) (h : Held) (f : ℕ → Lexed → Answer) (F : ℕ → Lexed → Read) (y : Rule × Lexed) (a : Answer) → ((m : ℕ) → F m (rest ts) ≡ Ok y → f m (rest ts) ≡ a) → Parsing.entered n ts F ≡ Ok y → inside n ts h f ≡ a
  inside_ok zero ts h f F y a same e = absurd (err_never _ y e)
  inside_ok (suc n) ts h f F y a same e = over_ok (rest ts) (F n) y h (f n) e ∙ same n (past_ok (rest ts) (F n) y e)

  negating_enters : (n : ℕ) (ts : Lexed) (r : Rule) (us : Lexed) (h : Held) (t : Bool) → not_by RD n ts t ≡ Ok (r, us) → negating rd entered n ts h t ≡ placed (entered_tree r h) us
  negating_enters n ts r us h false e = rd-enters n starred ts r us h e
  negating_enters n ts r us h true e =
      inside_ok n ts h _ _ (r, us) (placed (entered_tree r h) us) (λ m is.
      let first = then_ok (RD m prefixes (rest ts)) (λ q vs. Ok (not q, vs)) (r, us) is in
      let q = first.0.0 in
      let vs = first.0.1 in
      after_first m prefixes (rest ts) q vs h _ first.1 ∙ sym (with-bind (entered_tree q h) (λ l g. entered (Form.Not l) g) (λ x i. (Ok (x, vs), i))) ∙ stays (not q) r vs us h first.2) e

  shut_enters : (q : Rule) (ts : Lexed) (r : Rule) (us : Lexed) (h : Held) (t : Bool) → closed_by q ts t ≡ Ok (r, us) → with (entered_tree q h) (λ l g. shut l ts g t) ≡ placed (entered_tree r h) us
  shut_enters q ts r us h false e = absurd (err_never _ (r, us) e)
  shut_enters q ts r us h true e =
      with_same (entered_tree q h) _ (λ l g. (Ok (l, rest ts), g)) (λ l g. over_ok (rest ts) _ (r, us) g _ e) ∙ stays q r (rest ts) us h (past_ok (rest ts) _ (r, us) e)

  leaf_enters : (q : Rule) (f : Form) (ts : Lexed) (r : Rule) (us : Lexed) (h : Held) → entered_tree q h ≡ entered f h → ahead q ts ≡ Ok (r, us) → over ts h (λ vs. with (entered f h) (λ x i. (Ok (x, vs), i))) ≡ placed (entered_tree r h) us
  leaf_enters q f ts r us h same e =
      over_ok ts _ (r, us) h _ e ∙ ap (λ o. placed o ts) (sym same) ∙ stays q r ts us h (past_ok ts _ (r, us) e)

  basing_enters : (n : ℕ) (ts : Lexed) (r : Rule) (us : Lexed) (h : Held) → bases_by RD names n ts ≡ Ok (r, us) → basing rd entered names n ts h (leads 40 ts) ≡ placed (entered_tree r h) us
  basing_enters n (end p) r us h e = absurd (err_never _ (r, us) e)
  basing_enters n (bad f) r us h e = absurd (err_never _ (r, us) e)
  basing_enters n (token bar p ts) r us h e = absurd (err_never _ (r, us) e)
  basing_enters n (token ampersand p ts) r us h e = absurd (err_never _ (r, us) e)
  basing_enters n (token bang p ts) r us h e = absurd (err_never _ (r, us) e)
  basing_enters n (token asterisk p ts) r us h e = absurd (err_never _ (r, us) e)
  basing_enters n (token opening p ts) r us h e =
      inside_ok n (token opening p ts) h _ _ (r, us) (placed (entered_tree r h) us) (λ m is.
      let first = then_ok (RD m alternatives ts) closed (r, us) is in
      let q = first.0.0 in
      let vs = first.0.1 in
      after_first m alternatives ts q vs h _ first.1 ∙ shut_enters q vs r us h (leads 41 vs) first.2) e
  basing_enters n (token closing p ts) r us h e = absurd (err_never _ (r, us) e)
  basing_enters n (token nought p ts) r us h e = leaf_enters none Form.None ts r us h refl e
  basing_enters n (token one p ts) r us h e = leaf_enters empty Form.Empty ts r us h refl e
  basing_enters n (token dot p ts) r us h e = leaf_enters any Form.Any ts r us h refl e
  basing_enters n (token (bracket s) p ts) r us h e = leaf_enters (atom (names s)) (Form.Atom (names s)) ts r us h refl e

  read_enters : (n : ℕ) (X : Level) (ts : Lexed) (r : Rule) (us : Lexed) (h : Held) → Parsing.read_by RD MR names n X ts ≡ Ok (r, us) → read_by rd mr entered names n X ts h ≡ placed (entered_tree r h) us
  read_enters n alternatives ts r us h e = begun n alternatives conjunctions ts r us h e
  read_enters n conjunctions ts r us h e = begun n conjunctions sequences ts r us h e
  read_enters n sequences ts r us h e = begun n sequences prefixes ts r us h e
  read_enters n prefixes ts r us h e = negating_enters n ts r us h (leads 33 ts) e
  read_enters n starred ts r us h e = begun n starred bases ts r us h e
  read_enters n bases ts r us h e = basing_enters n ts r us h e

mutual
  unfolding read_into grow_into read more

  pub enters : (k : ℕ) (names : List ℕ → ℕ) (n : ℕ) (X : Level) (ts : Lexed) (r : Rule) (us : Lexed) (h : Held) → read k names n X ts ≡ Ok (r, us) → read_into k entered names n X ts h ≡ placed (entered_tree r h) us
  enters zero names n X ts r us h e = absurd (err_never _ (r, us) e)
  enters (suc k) names n X ts r us h e = read_enters names (read_into k entered names) (grow_into k entered names) (read k names) (more k names) (enters k names) (enters_on k names) n X ts r us h e

  pub enters_on : (k : ℕ) (names : List ℕ → ℕ) (n : ℕ) (X : Level) (q : Rule) (ts : Lexed) (r : Rule) (us : Lexed) (h : Held) → more k names n X q ts ≡ Ok (r, us) → with (entered_tree q h) (λ l g. grow_into k entered names n X l ts g) ≡ placed (entered_tree r h) us
  enters_on zero names n X q ts r us h e = absurd (err_never _ (r, us) e)
  enters_on (suc k) names n X q ts r us h e = grow_enters names (read_into k entered names) (grow_into k entered names) (read k names) (more k names) (enters k names) (enters_on k names) n X q ts r us h e
