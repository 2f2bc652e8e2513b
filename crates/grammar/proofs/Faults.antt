-- Where reading refuses some tokens, the machine fails there, or they end where it may not end.
--   Fault f s ts    f is the refusal of what the machine, from the state s, first finds wrong with ts
--   Room f n ts     if f says that too many levels are open, then ts is short enough for n of them
--   Fit X ts        what is read as a form of the level X begins with no `!`, if such a form cannot
-- Assumes nothing.
use Rattle.std.proofs.Common.{◌≡◌, ℕ, zero, suc, ◌+◌, ◌*◌, ◌<◌, ◌≤◌, Bool, true, false, List, [], ◌∷◌, length, Ok, Err, sym, refl, ap, ◌∙◌, subst, true≢false, arith}
use mathlib.Core.Bool.{false≢true}
use Rattle.std.proofs.lemmas.List.{length-map}
use Rattle.languages.specs.Rules.{Rule, none, empty, any, atom, sequence, or, and, star}
use Rattle.refusals.specs.Questions.{numbered, refusing}
use Rattle.refusals.specs.declared.Question.TheVariants.{GrammarAllows, LevelsOpen}
use Rattle.refusals.specs.declared.Refusal.{Refusal}
use Rattle.grammar.specs.Tokens.{Token, bar, ampersand, bang, asterisk, opening, closing, nought, one, dot, bracket, Spot, Lexed, end, bad, token, before, tokens_in, rest, place, leads, opens}
use Rattle.grammar.specs.Grammar.{Level, alternatives, conjunctions, sequences, prefixes, starred, bases}
use Rattle.grammar.specs.Parsing.{Read, then, past, ahead, entered, joins, grown_by, not_by, closed_by, closed, base_by, bases_by, read_by, read, more, whole, wholly}
use Rattle.grammar.proofs.Cutting.{size}
use Rattle.grammar.proofs.Steps.{leads-is}
use Rattle.grammar.proofs.Sound.{Taken, read_sound}
use Rattle.grammar.proofs.Beginning.{begun, begun_some, Stops}
use Rattle.grammar.proofs.Complete.{rank}
use Rattle.grammar.proofs.Scanning.{State, failed, wants, has, done, step, scan, alive, ended, alive_back, due_done, written_scans}
use Rattle.grammar.proofs.Stopping.{read_stops}

size_spots : (spots : List Spot) (us : Lexed) → size (before spots us) ≡ length spots + size us
size_spots [] us = omega arith
size_spots (s ∷ spots) us = omega (arith, size_spots spots us)

abbrev Fit : Level → Lexed → Type 0
Fit alternatives ts = Unit {0}
Fit conjunctions ts = Unit {0}
Fit sequences ts = Unit {0}
Fit prefixes ts = Unit {0}
Fit starred ts = leads 33 ts ≡ false
Fit bases ts = leads 33 ts ≡ false

module _ (f : Refusal) where
  abbrev pub FaultBy : State → ℕ → Type 0 → Type 0
  FaultBy failed p later = f ≡ refusing GrammarAllows p
  FaultBy (wants d) p later = later
  FaultBy (has d) p later = later

  abbrev pub Fault : State → Lexed → Type 0
  Fault s (end p) = (ended s ≡ false) × (f ≡ refusing GrammarAllows p)
  Fault s (bad e) = f ≡ e
  Fault s (token t p ts) = FaultBy (step s t) p (Fault (step s t) ts)

  abbrev pub Room : ℕ → Lexed → Type 0
  Room n ts = numbered f.question ≡ 6 → size ts ≤ n

  err_same : (e : Refusal) → ◌≡◌ {A = Read} (Err e) (Err f) → f ≡ e
  err_same e h = cc

  ok_never : (x : Rule × Lexed) → ◌≡◌ {A = Read} (Ok x) (Err f) → ⊥
  ok_never x h = grind arith

  then_err : {C : Type 0} (m : Read) (g : Rule → Lexed → Read) → (m ≡ Err f → C) → ((x : Rule × Lexed) → m ≡ Ok x → g x.0 x.1 ≡ Err f → C) → then m g ≡ Err f → C
  then_err (Ok x) g a b h = b x refl h
  then_err (Err e) g a b h = a h

  past_fault : (s : State) (ts : Lexed) (g : Lexed → Read) → (g ts ≡ Err f → Fault s ts) → past ts g ≡ Err f → Fault s ts
  past_fault s (end p) g go h = go h
  past_fault s (bad e) g go h = err_same e h
  past_fault s (token t p ts) g go h = go h

  ahead_fault : (s : State) (r : Rule) (ts : Lexed) → ahead r ts ≡ Err f → Fault s ts
  ahead_fault s r ts h = past_fault s ts _ (λ z. absurd (ok_never _ z)) h

  -- What is wrong behind some tokens, over which the machine goes, is wrong with all.
  fault_by : (s : State) (p : ℕ) (later : Type 0) → alive s ≡ true → later → FaultBy s p later
  fault_by failed p later a h = absurd (false≢true a)
  fault_by (wants d) p later a h = h
  fault_by (has d) p later a h = h

  on_fault : (s : State) (spots : List Spot) (us : Lexed) → alive (scan s (tokens_in spots)) ≡ true → Fault (scan s (tokens_in spots)) us → Fault s (before spots us)
  on_fault s [] us a h = h
  on_fault s (x ∷ spots) us a h =
      fault_by (step s x.0) x.1 _ (alive_back (step s x.0) (tokens_in spots) a) (on_fault (step s x.0) spots us a h)

  operand_due : (d : ℕ) (ts : Lexed) → opens ts ≡ true → Fault (wants d) ts → Fault (has d) ts
  operand_due d (end p) is h = absurd (false≢true is)
  operand_due d (bad e) is h = absurd (false≢true is)
  operand_due d (token t p ts) is h = subst (λ s. FaultBy s p (Fault s ts)) (sym (due_done d t is)) h

  -- Behind a rule that goes on no further only `)` can stand.
  stopped_fault : (s : State) (t : Token) (p : ℕ) (ts : Lexed) → Stops alternatives (token t p ts) → (t ≡ closing → Fault s (token t p ts)) → Fault s (token t p ts)
  stopped_fault s bar p ts stops h = absurd (true≢false stops.0)
  stopped_fault s ampersand p ts stops h = absurd (true≢false stops.1.0)
  stopped_fault s bang p ts stops h = absurd (true≢false stops.1.1.0)
  stopped_fault s asterisk p ts stops h = absurd (true≢false stops.1.1.1)
  stopped_fault s opening p ts stops h = absurd (true≢false stops.1.1.0)
  stopped_fault s closing p ts stops h = h refl
  stopped_fault s nought p ts stops h = absurd (true≢false stops.1.1.0)
  stopped_fault s one p ts stops h = absurd (true≢false stops.1.1.0)
  stopped_fault s dot p ts stops h = absurd (true≢false stops.1.1.0)
  stopped_fault s (bracket b) p ts stops h = absurd (true≢false stops.1.1.0)

  closed_fault : (d : ℕ) (q : Rule) (ts : Lexed) (b : Bool) → leads 41 ts ≡ b → Stops alternatives ts → closed_by q ts b ≡ Err f → Fault (has (suc d)) ts
  closed_fault d q ts true is stops h = subst (Fault (has (suc d))) (sym (leads-is 41 closing ts refl is)) (ahead_fault (has d) q (rest ts) h)
  closed_fault d q (end p) false is stops h = (refl, err_same _ h)
  closed_fault d q (bad e) false is stops h = err_same e h
  closed_fault d q (token t p ts) false is stops h =
      stopped_fault (has (suc d)) t p ts stops (λ e. absurd (true≢false (sym (ap (λ u. leads 41 (token u p ts)) e) ∙ is)))

  left_fault : (q : Rule) (ts : Lexed) → Stops alternatives ts → whole q ts ≡ Err f → Fault (has 0) ts
  left_fault q (end p) stops h = absurd (grind arith)
  left_fault q (bad e) stops h = cc
  left_fault q (token t p ts) stops h = stopped_fault (has 0) t p ts stops (λ e. subst (λ u. Fault (has 0) (token u p ts)) (sym e) (cc))

  module _ (names : List ℕ → ℕ) where
    taken_fault : (n d : ℕ) (X : Level) (ts : Lexed) (r : Rule) (us : Lexed) → Taken names n X ts r us → Fault (has d) us → Fault (wants d) ts
    taken_fault n d X ts r us taken h =
        let e = written_scans names taken.2 d in
        subst (Fault (wants d)) (sym taken.1) (on_fault (wants d) taken.0 us (ap alive e) (subst (λ s. Fault s us) (sym e) h))

    taken_less : (n : ℕ) (X : Level) (ts : Lexed) (r : Rule) (us : Lexed) → Taken names n X ts r us → size us < size ts
    taken_less n X ts r us taken =
        omega (arith, ap size taken.1, size_spots taken.0 us, length-map taken.0 (λ s. s.0), begun_some X (tokens_in taken.0) (begun names taken.2))

    module _ (k : ℕ)
        (rd-fault : (n d : ℕ) (X : Level) (ts : Lexed) → 8 * size ts + rank X < k → Room n ts → Fit X ts → read k names n X ts ≡ Err f → Fault (wants d) ts)
        (mr-fault : (n d : ℕ) (X : Level) (l : Rule) (ts : Lexed) → 8 * size ts + rank X < k → Room n ts → more k names n X l ts ≡ Err f → Fault (has d) ts) where
      -- One operand, and then as many as there are.
      operand_fault : (n d : ℕ) (X Y : Level) (make : Rule → Rule) (ts : Lexed) → rank X ≤ 5 → 8 * size ts + rank Y < k → Room n ts → Fit Y ts → then (read k names n Y ts) (λ q vs. more k names n X (make q) vs) ≡ Err f → Fault (wants d) ts
      operand_fault n d X Y make ts low enough room fit h =
          then_err (read k names n Y ts) (λ q vs. more k names n X (make q) vs) (rd-fault n d Y ts enough room fit)
          (λ x ok l.
          let taken = read_sound names k n Y ts x.0 x.1 ok in
          let less = taken_less n Y ts x.0 x.1 taken in
          taken_fault n d Y ts x.0 x.1 taken (mr-fault n d X (make x.0) x.1 (omega arith) (λ z. omega (arith, room z)) l))
          h

      -- The same behind a sign.
      signed_fault : (n d : ℕ) (X Y : Level) (t : Token) (make : Rule → Rule) (ts : Lexed) → ts ≡ token t (place ts) (rest ts) → done d t ≡ wants d → rank X ≤ 5 → 8 * size ts + rank X < k + 1 → rank Y ≤ 5 → Fit Y (rest ts) → Room n ts → past (rest ts) (λ us. then (read k names n Y us) (λ q vs. more k names n X (make q) vs)) ≡ Err f → Fault (has d) ts
      signed_fault n d X Y t make ts is to low enough lower fit room h =
          let shorter : size ts ≡ suc (size (rest ts)) = ap size is in
          let later = past_fault (wants d) (rest ts) _ (operand_fault n d X Y make (rest ts) low (omega arith) (λ z. omega (arith, room z)) fit) h in
          subst (Fault (has d)) (sym is) (subst (λ s. FaultBy s (place ts) (Fault s (rest ts))) (sym to) later)

      grown_fault : (n d : ℕ) (X : Level) (l : Rule) (ts : Lexed) (b : Bool) → joins X ts ≡ b → 8 * size ts + rank X < k + 1 → Room n ts → grown_by (read k names) (more k names) n X l ts b ≡ Err f → Fault (has d) ts
      grown_fault n d X l ts false is enough room h = absurd (ok_never _ h)
      grown_fault n d alternatives l ts true is enough room h = signed_fault n d alternatives conjunctions bar (or l) ts (leads-is 124 bar ts refl is) refl (omega arith) enough (omega arith) tt room h
      grown_fault n d conjunctions l ts true is enough room h = signed_fault n d conjunctions sequences ampersand (and l) ts (leads-is 38 ampersand ts refl is) refl (omega arith) enough (omega arith) tt room h
      grown_fault n d sequences l ts true is enough room h = operand_due d ts is (operand_fault n d sequences prefixes (sequence l) ts (omega arith) (omega arith) room tt h)
      grown_fault n d prefixes l ts true is enough room h = absurd (ok_never _ h)
      grown_fault n d starred l ts true is enough room h =
          let at = leads-is 42 asterisk ts refl is in
          let shorter : size ts ≡ suc (size (rest ts)) = ap size at in
          subst (Fault (has d)) (sym at) (past_fault (has d) (rest ts) _ (mr-fault n d starred (star l) (rest ts) (omega arith) (λ z. omega (arith, room z))) h)
      grown_fault n d bases l ts true is enough room h = absurd (ok_never _ h)

      deep_never : (p s : ℕ) → (numbered f.question ≡ 6 → suc s ≤ 0) → ◌≡◌ {A = Read} (Err (refusing LevelsOpen p)) (Err f) → ⊥
      deep_never p s room h = omega (arith, room (ap (λ e. numbered e.question) (err_same _ h)))

      not_fault : (n d : ℕ) (ts : Lexed) (b : Bool) → leads 33 ts ≡ b → 8 * size ts + 2 < k + 1 → Room n ts → not_by (read k names) n ts b ≡ Err f → Fault (wants d) ts
      not_fault n d ts false is enough room h = rd-fault n d starred ts (omega arith) room is h
      not_fault zero d ts true is enough room h =
          let shorter : size ts ≡ suc (size (rest ts)) = ap size (leads-is 33 bang ts refl is) in
          absurd (deep_never (place ts) (size (rest ts)) (λ z. omega (arith, room z)) h)
      not_fault (suc n) d ts true is enough room h =
          let at = leads-is 33 bang ts refl is in
          let shorter : size ts ≡ suc (size (rest ts)) = ap size at in
          subst (Fault (wants d)) (sym at) (past_fault (wants d) (rest ts) _
          (then_err (read k names n prefixes (rest ts)) _ (rd-fault n d prefixes (rest ts) (omega arith) (λ z. omega (arith, room z)) tt) (λ x ok l. absurd (ok_never _ l))) h)

      enclosed_fault : (n d p : ℕ) (ts : Lexed) → 8 * suc (size ts) < k + 1 → Room n (token opening p ts) → entered n (token opening p ts) (λ m us. then (read k names m alternatives us) closed) ≡ Err f → Fault (wants (suc d)) ts
      enclosed_fault zero d p ts enough room h = absurd (deep_never p (size ts) room h)
      enclosed_fault (suc n) d p ts enough room h =
          past_fault (wants (suc d)) ts _
          (then_err (read k names n alternatives ts) closed (rd-fault n (suc d) alternatives ts (omega arith) (λ z. omega (arith, room z)) tt)
          (λ x ok l. taken_fault n (suc d) alternatives ts x.0 x.1 (read_sound names k n alternatives ts x.0 x.1 ok)
          (closed_fault d x.0 x.1 (leads 41 x.1) refl (read_stops names k n alternatives ts x.0 x.1 ok) l))) h

      base_fault : (n d : ℕ) (t : Token) (p : ℕ) (ts : Lexed) → 8 * suc (size ts) < k + 1 → Room n (token t p ts) → leads 33 (token t p ts) ≡ false → base_by (read k names) names n t p ts ≡ Err f → Fault (wants d) (token t p ts)
      base_fault n d bar p ts enough room fit h = err_same _ h
      base_fault n d ampersand p ts enough room fit h = err_same _ h
      base_fault n d bang p ts enough room fit h = absurd (true≢false fit)
      base_fault n d asterisk p ts enough room fit h = err_same _ h
      base_fault n d opening p ts enough room fit h = enclosed_fault n d p ts enough room h
      base_fault n d closing p ts enough room fit h = err_same _ h
      base_fault n d nought p ts enough room fit h = ahead_fault (has d) none ts h
      base_fault n d one p ts enough room fit h = ahead_fault (has d) empty ts h
      base_fault n d dot p ts enough room fit h = ahead_fault (has d) any ts h
      base_fault n d (bracket s) p ts enough room fit h = ahead_fault (has d) (atom (names s)) ts h

      bases_fault : (n d : ℕ) (ts : Lexed) → 8 * size ts < k + 1 → Room n ts → leads 33 ts ≡ false → bases_by (read k names) names n ts ≡ Err f → Fault (wants d) ts
      bases_fault n d (end p) enough room fit h = (refl, err_same _ h)
      bases_fault n d (bad e) enough room fit h = err_same e h
      bases_fault n d (token t p ts) enough room fit h = base_fault n d t p ts enough room fit h

      step_fault : (n d : ℕ) (X : Level) (ts : Lexed) → 8 * size ts + rank X < k + 1 → Room n ts → Fit X ts → read_by (read k names) (more k names) names n X ts ≡ Err f → Fault (wants d) ts
      step_fault n d alternatives ts enough room fit h = operand_fault n d alternatives conjunctions (λ q. q) ts (omega arith) (omega arith) room tt h
      step_fault n d conjunctions ts enough room fit h = operand_fault n d conjunctions sequences (λ q. q) ts (omega arith) (omega arith) room tt h
      step_fault n d sequences ts enough room fit h = operand_fault n d sequences prefixes (λ q. q) ts (omega arith) (omega arith) room tt h
      step_fault n d prefixes ts enough room fit h = not_fault n d ts (leads 33 ts) refl enough room h
      step_fault n d starred ts enough room fit h = operand_fault n d starred bases (λ q. q) ts (omega arith) (omega arith) room fit h
      step_fault n d bases ts enough room fit h = bases_fault n d ts (omega arith) room fit h

    mutual
      unfolding read more

      read_fault : (k n d : ℕ) (X : Level) (ts : Lexed) → 8 * size ts + rank X < k → Room n ts → Fit X ts → read k names n X ts ≡ Err f → Fault (wants d) ts
      read_fault zero n d X ts enough room fit h = absurd (omega arith)
      read_fault (suc k) n d X ts enough room fit h = step_fault k (read_fault k) (more_fault k) n d X ts (omega arith) room fit h

      more_fault : (k n d : ℕ) (X : Level) (l : Rule) (ts : Lexed) → 8 * size ts + rank X < k → Room n ts → more k names n X l ts ≡ Err f → Fault (has d) ts
      more_fault zero n d X l ts enough room h = absurd (omega arith)
      more_fault (suc k) n d X l ts enough room h = grown_fault k (read_fault k) (more_fault k) n d X l ts (joins X ts) refl (omega arith) room h

    -- And for a whole rule.
    rule_fault_by : (k n : ℕ) (ts : Lexed) (m : Read) → read k names n alternatives ts ≡ m → 8 * size ts + 5 < k → Room n ts → wholly m ≡ Err f → Fault (wants 0) ts
    rule_fault_by k n ts (Err e) is enough room h = read_fault k n 0 alternatives ts enough room tt (is ∙ cc)
    rule_fault_by k n ts (Ok x) is enough room h =
        taken_fault n 0 alternatives ts x.0 x.1 (read_sound names k n alternatives ts x.0 x.1 is) (left_fault x.0 x.1 (read_stops names k n alternatives ts x.0 x.1 is) h)

    pub rule_fault : (k n : ℕ) (ts : Lexed) → 8 * size ts + 5 < k → Room n ts → wholly (read k names n alternatives ts) ≡ Err f → Fault (wants 0) ts
    rule_fault k n ts enough room h = rule_fault_by k n ts (read k names n alternatives ts) refl enough room h
