-- What each reader of the cycle comes to, from what those that it calls come to.
-- Assumes nothing.
use Rattle.std.proofs.Common.{◌≡◌, ℕ, zero, suc, ◌+◌, ◌<◌, ◌≤◌, Bool, true, false, eqb, Ok, Err, Result, sym, refl, subst, ap, ◌∙◌, arith}
use Rattle.std.proofs.lemmas.Bool.{eq-eqb, eqb-true, ne_eqb}
use Rattle.refusals.specs.Questions.{refusing}
use Rattle.refusals.specs.declared.Question.TheVariants.{GrammarAllows, LevelsOpen}
use Rattle.refusals.specs.declared.Refusal.{Refusal}
use Rattle.grammar.specs.declared.token.Lexeme.{Lexeme}
use Rattle.grammar.specs.declared.token.Token.TheVariants.{Bang, Opening, Closing}
use Rattle.grammar.specs.Grammar.{Level, alternatives, conjunctions, sequences, prefixes, starred, bases}
use Rattle.grammar.specs.Parsing.{joins}
use Rattle.grammar.specs.Sighting.{token_of}
use Rattle.grammar.specs.Tokens.{Lexed, end, bad, token, leads, place, rest}
use Rattle.nodes.specs.declared.form.Form.TheVariants as Form
use Rattle.nodes.specs.Entering.{Held, Out}
use Rattle.passes.specs.declared.binary.Binary.{Binary}
use Rattle.passes.specs.declared.part.Part.{Part}
use Rattle.passes.specs.declared.walk.Walk.{Walk}
use Rattle.surveys.specs.declared.reader.Reader.{Reader}
use Rattle.passes.specs.Going.{Behind, Goes, GoesFrom, Grown, GrownFrom, InsideOf, deeper, deeper_by, rank, size, size_on, told_inside}
use Rattle.surveys.specs.Looking.{Lies, Stands, after, standing, told}
use Rattle.passes.specs.Passing.{Step, Answer, answered, basing, go, grow_into, growing, inside, joining, joins_with, level_of, names_of, negating, onset, onset_of, opened, over, read_into, shut, tighter, with}
use Rattle.passes.proofs.Standings.{joins-standing, leads-standing, lies_in, over-standing, place-standing, rest-standing, unexpected-standing}
use Rattle.passes.proofs.Signs.{is_bang, is_closing, sign_byte}
use Rattle.passes.proofs.Turning.{going_on, on_by_sign}

-- Reading a form from a lexeme on, at a bound of the depth.
abbrev pub reading : Step → Reader → ℕ → Level → ℕ → Lexeme → Held → Answer
reading step s n X k l h = read_into k step (names_of s) n X (standing s l) h

abbrev pub reading_from : Step → Walk → Level → ℕ → Held → Answer
reading_from step w X k h = reading step w.reader.now w.levels X k w.first h

rank_most : (X : Level) → rank X ≤ 5
rank_most alternatives = omega arith
rank_most conjunctions = omega arith
rank_most sequences = omega arith
rank_most prefixes = omega arith
rank_most starred = omega arith
rank_most bases = omega arith

behind_weaker : (s : Reader) (p q : ℕ) (r : Result Part Refusal) → p ≤ q → Behind s q r → Behind s p r
behind_weaker s p q (Ok x) h b = let far = b.1 in (b.0, omega arith)
behind_weaker s p q (Err e) h b = tt

module _ (step : Step) (s : Reader) (n : ℕ) (X : Level) (l : Lexeme) (h : Held) where
  answer_by : (a : Answer) → ((k : ℕ) → size s l X < suc k → reading step s n X (suc k) l h ≡ a) → (k : ℕ) → size s l X < k → a ≡ reading step s n X k l h
  answer_by a step zero m = absurd (omega arith)
  answer_by a step (suc k) m = sym (step k m)

  pub goes_by : (r : Result Part Refusal) (g : Held) → ((k : ℕ) → size s l X < suc k → reading step s n X (suc k) l h ≡ (answered s r, g)) → Behind s (l.place + 1) r → Goes step s n X l h r g
  goes_by r g step onward = record { answer = answer_by (answered s r, g) step; onward = onward }

-- A form that begins with one that binds tighter.
module _ (step : Step) (s : Reader) (n : ℕ) (X Y : Level) (l : Lexeme) (h : Held) (lower : rank Y < rank X)
    (by : (k : ℕ) → reading step s n X (suc k) l h ≡ go (reading step s n Y k l h) (grow_into k step (names_of s) n X)) where
  first_refused : (e : Refusal) (g : Held) → Goes step s n Y l h (Err e) g → Goes step s n X l h (Err e) g
  first_refused e g first = goes_by step s n X l h (Err e) g (λ k m. by k ∙ ap (λ a. go a (grow_into k step (names_of s) n X)) (sym (first.answer k (omega arith)))) tt

  first_grown : (x : Part) (g : Held) (r : Result Part Refusal) (i : Held) → Goes step s n Y l h (Ok x) g → Grown step s n X x g r i → Goes step s n X l h r i
  first_grown x g r i first grown =
      let far = first.onward.1 in
      let lies = lies_in s.text.now x.next first.onward.0 in
      let a = lies.0 in
      let b = lies.1 in
      goes_by step s n X l h r i
      (λ k m. by k ∙ ap (λ a. go a (grow_into k step (names_of s) n X)) (sym (first.answer k (omega arith))) ∙ sym (grown.answer k (omega arith)))
      (behind_weaker s (l.place + 1) x.next.place r far grown.onward)

lower_of : (b : Binary) → rank (tighter b) < rank (level_of b)
lower_of Binary.Or = omega arith
lower_of Binary.And = omega arith
lower_of Binary.Sequence = omega arith

module _ (step : Step) (s : Reader) (n : ℕ) (l : Lexeme) (h : Held) where
  group_by : (b : Binary) (k : ℕ) → reading step s n (level_of b) (suc k) l h ≡ go (reading step s n (tighter b) k l h) (grow_into k step (names_of s) n (level_of b))
  unfolding read_into grow_into
  group_by Binary.Or k = refl
  group_by Binary.And k = refl
  group_by Binary.Sequence k = refl

  pub group_refused : (b : Binary) (e : Refusal) (g : Held) → Goes step s n (tighter b) l h (Err e) g → Goes step s n (level_of b) l h (Err e) g
  group_refused b = first_refused step s n (level_of b) (tighter b) l h (lower_of b) (group_by b)

  pub group_grown : (b : Binary) (x : Part) (g : Held) (r : Result Part Refusal) (i : Held) → Goes step s n (tighter b) l h (Ok x) g → Grown step s n (level_of b) x g r i → Goes step s n (level_of b) l h r i
  group_grown b = first_grown step s n (level_of b) (tighter b) l h (lower_of b) (group_by b)

  repeated_by : (k : ℕ) → reading step s n starred (suc k) l h ≡ go (reading step s n bases k l h) (grow_into k step (names_of s) n starred)
  unfolding read_into grow_into
  repeated_by k = refl

  pub repeated_refused : (e : Refusal) (g : Held) → Goes step s n bases l h (Err e) g → Goes step s n starred l h (Err e) g
  repeated_refused = first_refused step s n starred bases l h (omega arith) repeated_by

  pub repeated_grown : (x : Part) (g : Held) (r : Result Part Refusal) (i : Held) → Goes step s n bases l h (Ok x) g → Grown step s n starred x g r i → Goes step s n starred l h r i
  repeated_grown = first_grown step s n starred bases l h (omega arith) repeated_by

-- One more operand.
onset-standing : (s : Reader) (l : Lexeme) (b : Binary) → joins_with b (token_of l.token) ≡ true → onset_of b (standing s l) ≡ onset b s l
onset-standing s l Binary.Or is = rest-standing s l 123 (eqb-true _ 124 is)
onset-standing s l Binary.And is = rest-standing s l 37 (eqb-true _ 38 is)
onset-standing s l Binary.Sequence is = refl

growing_by : (step : Step) (s : Reader) (n : ℕ) (b : Binary) (y : Part) (g : Held) (j : ℕ) → going_on step s n (level_of b) (suc j) y g ≡ growing (read_into j step (names_of s)) (grow_into j step (names_of s)) step n b y.node (standing s y.next) g (joins (level_of b) (standing s y.next))
unfolding read_into grow_into
growing_by step s n Binary.Or y g j = refl
growing_by step s n Binary.And y g j = refl
growing_by step s n Binary.Sequence y g j = refl

module _ (step : Step) (s : Reader) (n : ℕ) (b : Binary) (y : Part) (g : Held) where
  joined_by : (j : ℕ) (t : Bool) → joins_with b (token_of y.next.token) ≡ t → going_on step s n (level_of b) (suc j) y g ≡ growing (read_into j step (names_of s)) (grow_into j step (names_of s)) step n b y.node (standing s y.next) g t
  joined_by j t is = growing_by step s n b y g j ∙ ap (growing (read_into j step (names_of s)) (grow_into j step (names_of s)) step n b y.node (standing s y.next) g) (joins-standing s y.next b ∙ is)

  pub turn_none : joins_with b (token_of y.next.token) ≡ false → (j : ℕ) → going_on step s n (level_of b) (suc j) y g ≡ (Ok (y.node, standing s y.next), g)
  turn_none is j = joined_by j false is

  -- What is done with the operand.
  abbrev pub turned : ℕ → ℕ → Lexed → Held → Answer
  turned j m vs i = with (step (joining b y.node m) i) (λ q o. grow_into j step (names_of s) n (level_of b) q vs o)

  turn_by : joins_with b (token_of y.next.token) ≡ true → (r : Result Lexeme Refusal) → told s r ≡ onset b s y.next → (j : ℕ) → going_on step s n (level_of b) (suc j) y g ≡ over (told s r) g (λ us. go (read_into j step (names_of s) n (tighter b) us g) (turned j))
  turn_by is r t j =
      joined_by j true is ∙ ap (λ ts. over ts g (λ us. go (read_into j step (names_of s) n (tighter b) us g) (turned j))) (onset-standing s y.next b is ∙ sym t)

  pub turn_refused : joins_with b (token_of y.next.token) ≡ true → (e : Refusal) → told s (Err e) ≡ onset b s y.next → (j : ℕ) → going_on step s n (level_of b) (suc j) y g ≡ (Err e, g)
  turn_refused is e t j = turn_by is (Err e) t j

  pub turn_operand : joins_with b (token_of y.next.token) ≡ true → (start : Lexeme) → told s (Ok start) ≡ onset b s y.next → y.next.place ≤ start.place → (r : Result Part Refusal) (i : Held) → Goes step s n (tighter b) start g r i → (j : ℕ) → size_on s y.next < suc j → going_on step s n (level_of b) (suc j) y g ≡ go (answered s r, i) (turned j)
  turn_operand is start t far r i goes j m =
      let most = rank_most (tighter b) in
      turn_by is (Ok start) t j ∙ over-standing s start g (λ us. go (read_into j step (names_of s) n (tighter b) us g) (turned j)) ∙ ap (λ a. go a (turned j)) (sym (goes.answer j (omega arith)))

  pub turn_put : joins_with b (token_of y.next.token) ≡ true → (start : Lexeme) → told s (Ok start) ≡ onset b s y.next → y.next.place ≤ start.place → (x : Part) (i : Held) → Goes step s n (tighter b) start g (Ok x) i → (o : Out) → o ≡ step (joining b y.node x.node) i → (j : ℕ) → size_on s y.next < suc j → going_on step s n (level_of b) (suc j) y g ≡ with o (λ q u. grow_into j step (names_of s) n (level_of b) q (standing s x.next) u)
  turn_put is start t far x i goes o put j m =
      turn_operand is start t far (Ok x) i goes j m ∙ ap (λ o. with o (λ q u. grow_into j step (names_of s) n (level_of b) q (standing s x.next) u)) (sym put)

-- What is read from a walk at another token, or inside of a walk.
abbrev pub At : Walk → Walk → Lexeme → Type 0
At w v l = (stands : Stands w.reader.now.text.now l) × (v ≡ record w { first = l; stands = stands })

module _ {step : Step} {X : Level} {h : Held} {r : Result Part Refusal} {g : Held} (w v : Walk) where
  pub goes_at : (l : Lexeme) → At w v l → GoesFrom step v X h r g → Goes step w.reader.now w.levels X l h r g
  goes_at l at goes = subst (λ v. GoesFrom step v X h r g) at.1 goes

  pub grown_at : (x : Part) → At w v x.next → GrownFrom step v X x.node h r g → Grown step w.reader.now w.levels X x h r g
  grown_at x at grown = subst (λ v. GrownFrom step v X x.node h r g) at.1 grown

  pub goes_inside : InsideOf w (Ok v) → GoesFrom step v X h r g → Goes step w.reader.now v.levels X v.first h r g
  goes_inside lies goes = subst (λ s. Goes step s.now v.levels X v.first h r g) lies.0 goes

-- A form that opens a level.
over-deeper_by : (n : ℕ) (us : Lexed) (h : Held) (f : ℕ → Lexed → Answer) → over us h (f n) ≡ go (deeper_by (Ok n) us, h) (λ m us _. f m us)
over-deeper_by n (end p) h f = refl
over-deeper_by n (bad r) h f = refl
over-deeper_by n (token t p us) h f = refl

inside-deeper_by : (n p : ℕ) (ts us : Lexed) (h : Held) (f : ℕ → Lexed → Answer) → place ts ≡ p → rest ts ≡ us → inside n ts h f ≡ go (deeper_by (opened n p) us, h) (λ m us _. f m us)
inside-deeper_by zero p ts us h f at on = ap (λ p. (Err (refusing LevelsOpen p), h)) at
inside-deeper_by (suc n) p ts us h f at on = ap (λ us. over us h (f n)) on ∙ over-deeper_by n us h f

module _ (step : Step) (w : Walk) (X Y : Level) (h : Held) (b : ℕ) (is : sign_byte w.first.token ≡ suc b) (F : ℕ → Lexed → Held → Answer)
    (by : (k : ℕ) → reading_from step w X (suc k) h ≡ inside w.levels (standing w.reader.now w.first) h (λ m us. go (read_into k step (names_of w.reader.now) m Y us h) F)) where
  abbrev opened_on : ℕ → ℕ → Lexed → Answer
  opened_on k m us = go (read_into k step (names_of w.reader.now) m Y us h) F

  open_by : (r : Result Walk Refusal) → told_inside w.reader.now r ≡ deeper w → (k : ℕ) → reading_from step w X (suc k) h ≡ go (told_inside w.reader.now r, h) (λ m us _. opened_on k m us)
  open_by r t k =
      by k
      ∙ inside-deeper_by w.levels w.first.place (standing w.reader.now w.first) (after w.reader.now w.first.after) h (opened_on k) (place-standing w.reader.now w.first) (rest-standing w.reader.now w.first b is)
      ∙ ap (λ r. go (r, h) (λ m us _. opened_on k m us)) (sym t)

  open_refused : (e : Refusal) → Err e ≡ deeper w → GoesFrom step w X h (Err e) h
  open_refused e t = goes_by step w.reader.now w.levels X w.first h (Err e) h (λ k m. open_by (Err e) t k) tt

  module _ (v : Walk) (t : told_inside w.reader.now (Ok v) ≡ deeper w) (lies : InsideOf w (Ok v)) (r : Result Part Refusal) (g : Held) (goes : GoesFrom step v Y h r g) where
    open_part : (k : ℕ) → size w.reader.now w.first X < suc k → reading_from step w X (suc k) h ≡ go (answered w.reader.now r, g) F
    open_part k enough =
        let on = on_by_sign w.reader.now w.first v.first b is w.stands lies.1 in
        let far = on.0 in
        let in-it = on.1 in
        let most = rank_most Y in
        let here = goes_inside w v lies goes in
        open_by (Ok v) t k ∙ ap (λ a. go a F) (sym (here.answer k (omega arith)))

    open_onward : Behind w.reader.now (w.first.place + 1) r
    open_onward =
        let on = on_by_sign w.reader.now w.first v.first b is w.stands lies.1 in
        let far = on.0 in
        let here = goes_inside w v lies goes in
        behind_weaker w.reader.now (w.first.place + 1) (v.first.place + 1) r (omega arith) here.onward

-- Signs `!`.
module _ (step : Step) (w : Walk) (h : Held) where
  negating_by : (k : ℕ) (t : Bool) → eqb (sign_byte w.first.token) 33 ≡ t → reading_from step w prefixes (suc k) h ≡ negating (read_into k step (names_of w.reader.now)) step w.levels (standing w.reader.now w.first) h t
  unfolding read_into grow_into
  negating_by k t e = ap (negating (read_into k step (names_of w.reader.now)) step w.levels (standing w.reader.now w.first) h) (leads-standing w.reader.now w.first 33 ∙ e)

  pub prefix_plain : (w.first.token ≡ Bang → ⊥) → (r : Result Part Refusal) (g : Held) → GoesFrom step w starred h r g → GoesFrom step w prefixes h r g
  prefix_plain never r g goes =
      goes_by step w.reader.now w.levels prefixes w.first h r g (λ k m. negating_by k false (ne_eqb _ 33 (λ e. never (is_bang w.first.token e))) ∙ sym (goes.answer k (omega arith))) goes.onward

  abbrev negated : ℕ → Lexed → Held → Answer
  negated m vs g = with (step (Form.Not m) g) (λ q i. (Ok (q, vs), i))

  module _ (bang : w.first.token ≡ Bang) where
    bang_by : (k : ℕ) → reading_from step w prefixes (suc k) h ≡ inside w.levels (standing w.reader.now w.first) h (λ m us. go (read_into k step (names_of w.reader.now) m prefixes us h) negated)
    bang_by k = negating_by k true (eq-eqb _ 33 (ap sign_byte bang))

    pub prefix_refused : (e : Refusal) → Err e ≡ deeper w → GoesFrom step w prefixes h (Err e) h
    prefix_refused = open_refused step w prefixes prefixes h 32 (ap sign_byte bang) negated bang_by

    module _ (v : Walk) (t : told_inside w.reader.now (Ok v) ≡ deeper w) (lies : InsideOf w (Ok v)) where
      prefix_by : (r : Result Part Refusal) (g : Held) → GoesFrom step v prefixes h r g → (k : ℕ) → size w.reader.now w.first prefixes < suc k → reading_from step w prefixes (suc k) h ≡ go (answered w.reader.now r, g) negated
      prefix_by = open_part step w prefixes prefixes h 32 (ap sign_byte bang) negated bang_by v t lies

      pub prefix_stopped : (e : Refusal) (g : Held) → GoesFrom step v prefixes h (Err e) g → GoesFrom step w prefixes h (Err e) g
      prefix_stopped e g goes = goes_by step w.reader.now w.levels prefixes w.first h (Err e) g (prefix_by (Err e) g goes) tt

      module _ (x : Part) (g : Held) (goes : GoesFrom step v prefixes h (Ok x) g) where
        pub prefix_full : (e : Refusal) (i : Held) → ◌≡◌ {A = Out} (Err e, i) (step (Form.Not x.node) g) → GoesFrom step w prefixes h (Err e) i
        prefix_full e i put = goes_by step w.reader.now w.levels prefixes w.first h (Err e) i (λ k m. prefix_by (Ok x) g goes k m ∙ ap (λ o. with o (λ q j. (Ok (q, standing w.reader.now x.next), j))) (sym put)) tt

        pub prefix_done : (q : ℕ) (i : Held) → ◌≡◌ {A = Out} (Ok q, i) (step (Form.Not x.node) g) → GoesFrom step w prefixes h (Ok (record { node = q; next = x.next })) i
        prefix_done q i put =
            goes_by step w.reader.now w.levels prefixes w.first h (Ok (record { node = q; next = x.next })) i
            (λ k m. prefix_by (Ok x) g goes k m ∙ ap (λ o. with o (λ q j. (Ok (q, standing w.reader.now x.next), j))) (sym put))
            (open_onward step w prefixes prefixes h 32 (ap sign_byte bang) negated bang_by v t lies (Ok x) g goes)

-- Parentheses.
module _ (step : Step) (w : Walk) (h : Held) (opening : w.first.token ≡ Opening) where
  abbrev shutting : ℕ → Lexed → Held → Answer
  shutting m vs g = shut m vs g (leads 41 vs)

  basing_by : (k : ℕ) → reading_from step w bases (suc k) h ≡ inside w.levels (standing w.reader.now w.first) h (λ m us. go (read_into k step (names_of w.reader.now) m alternatives us h) shutting)
  unfolding read_into grow_into
  basing_by k = ap (basing (read_into k step (names_of w.reader.now)) step (names_of w.reader.now) w.levels (standing w.reader.now w.first) h) (leads-standing w.reader.now w.first 40 ∙ eq-eqb _ 40 (ap sign_byte opening))

  pub enclosed_refused : (e : Refusal) → Err e ≡ deeper w → GoesFrom step w bases h (Err e) h
  enclosed_refused = open_refused step w bases alternatives h 39 (ap sign_byte opening) shutting basing_by

  module _ (v : Walk) (t : told_inside w.reader.now (Ok v) ≡ deeper w) (lies : InsideOf w (Ok v)) where
    enclosed_by : (r : Result Part Refusal) (g : Held) → GoesFrom step v alternatives h r g → (k : ℕ) → size w.reader.now w.first bases < suc k → reading_from step w bases (suc k) h ≡ go (answered w.reader.now r, g) shutting
    enclosed_by = open_part step w bases alternatives h 39 (ap sign_byte opening) shutting basing_by v t lies

    pub enclosed_stopped : (e : Refusal) (g : Held) → GoesFrom step v alternatives h (Err e) g → GoesFrom step w bases h (Err e) g
    enclosed_stopped e g goes = goes_by step w.reader.now w.levels bases w.first h (Err e) g (enclosed_by (Err e) g goes) tt

    module _ (x : Part) (g : Held) (goes : GoesFrom step v alternatives h (Ok x) g) where
      shut_by : (k : ℕ) → size w.reader.now w.first bases < suc k → (b : Bool) → eqb (sign_byte x.next.token) 41 ≡ b → reading_from step w bases (suc k) h ≡ shut x.node (standing w.reader.now x.next) g b
      shut_by k m b e = enclosed_by (Ok x) g goes k m ∙ ap (shut x.node (standing w.reader.now x.next) g) (leads-standing w.reader.now x.next 41 ∙ e)

      pub enclosed_open : (x.next.token ≡ Closing → ⊥) → GoesFrom step w bases h (Err (refusing GrammarAllows x.next.place)) g
      enclosed_open never =
          goes_by step w.reader.now w.levels bases w.first h _ g (λ k m. shut_by k m false (ne_eqb _ 41 (λ e. never (is_closing x.next.token e))) ∙ ap (λ r. (Err r, g)) (unexpected-standing w.reader.now x.next)) tt

      module _ (closing : x.next.token ≡ Closing) where
        closed_by_lem : (r : Result Lexeme Refusal) → told w.reader.now r ≡ after w.reader.now x.next.after → (k : ℕ) → size w.reader.now w.first bases < suc k → reading_from step w bases (suc k) h ≡ over (told w.reader.now r) g (λ us. (Ok (x.node, us), g))
        closed_by_lem r u k m =
            shut_by k m true (eq-eqb _ 41 (ap sign_byte closing)) ∙ ap (λ ts. over ts g (λ us. (Ok (x.node, us), g))) (rest-standing w.reader.now x.next 40 (ap sign_byte closing) ∙ sym u)

        pub enclosed_bad : (e : Refusal) → told w.reader.now (Err e) ≡ after w.reader.now x.next.after → GoesFrom step w bases h (Err e) g
        enclosed_bad e u = goes_by step w.reader.now w.levels bases w.first h (Err e) g (closed_by_lem (Err e) u) tt

        pub enclosed_done : (next : Lexeme) → told w.reader.now (Ok next) ≡ after w.reader.now x.next.after → Lies w.reader.now.text.now x.next.after next → GoesFrom step w bases h (Ok (record { node = x.node; next = next })) g
        enclosed_done next u further =
            let behind = open_onward step w bases alternatives h 39 (ap sign_byte opening) shutting basing_by v t lies (Ok x) g goes in
            let far = behind.1 in
            let inner = lies_in w.reader.now.text.now x.next behind.0 in
            let a = inner.0 in
            let b = further.1 inner.1 in
            goes_by step w.reader.now w.levels bases w.first h (Ok (record { node = x.node; next = next })) g (λ k m. closed_by_lem (Ok next) u k m ∙ over-standing w.reader.now next g (λ us. (Ok (x.node, us), g))) (further.0, omega arith)
