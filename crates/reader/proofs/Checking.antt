-- Reading that only checks a text answers as the grammar's reader does, whatever its atoms are numbered, and writes
-- nothing.
--   numbered m   what the grammar's reader answers, with the node 0 in place of the rule
-- Assumes nothing.
use Rattle.std.proofs.Common.{◌≡◌, ℕ, zero, suc, Bool, true, false, List, Ok, Err, Result, refl, ap, ◌∙◌}
use Rattle.std.proofs.lemmas.Bool.{false≢true}
use Rattle.refusals.specs.declared.Refusal.{Refusal}
use Rattle.languages.specs.Rules.{Rule, none, empty, any, atom}
use Rattle.languages.specs.Rules as Rules
use Rattle.grammar.specs.Grammar.{Level, alternatives, conjunctions, sequences, prefixes, starred, bases}
use Rattle.grammar.specs.Parsing as Parsing
use Rattle.grammar.specs.Parsing.{Read, ahead, bases_by, closed_by, grown_by, joins, more_by, not_by, past, read, more, then}
use Rattle.grammar.specs.Tokens.{bar, ampersand, bang, asterisk, opening, closing, nought, one, dot, bracket, Lexed, end, bad, token, leads, opens, rest}
use Rattle.nodes.specs.Entering.{Held}
use Rattle.passes.specs.declared.binary.Binary.{Binary}
use Rattle.passes.specs.Passing.{Answer, Grows, Reads, basing, checked, go, grow_by, grow_into, growing, inside, level_of, negating, over, read_by, read_into, shut, starring}

abbrev pub numbered : Read → Result (ℕ × Lexed) Refusal
numbered (Ok x) = Ok (0, x.1)
numbered (Err r) = Err r

-- The answer with the pool as it was.
abbrev kept : Read → Held → Answer
kept m h = (numbered m, h)

go-then : (m : Read) (h : Held) (f : ℕ → Lexed → Held → Answer) (F : Rule → Lexed → Read) → ((r : Rule) (vs : Lexed) → f 0 vs h ≡ kept (F r vs) h) → go (kept m h) f ≡ kept (then m F) h
go-then (Ok x) h f F same = same x.0 x.1
go-then (Err r) h f F same = refl

over-past : (ts : Lexed) (h : Held) (f : Lexed → Answer) (F : Lexed → Read) → ((us : Lexed) → f us ≡ kept (F us) h) → over ts h f ≡ kept (past ts F) h
over-past (end p) h f F same = same (end p)
over-past (bad r) h f F same = refl
over-past (token t p ts) h f F same = same (token t p ts)

pub over-opens : (ts : Lexed) (h : Held) (f : Lexed → Answer) → opens ts ≡ true → over ts h f ≡ f ts
over-opens (end p) h f is = refl
over-opens (bad r) h f is = absurd (false≢true is)
over-opens (token t p ts) h f is = refl

inside-entered : (n : ℕ) (ts : Lexed) (h : Held) (f : ℕ → Lexed → Answer) (F : ℕ → Lexed → Read) → ((m : ℕ) (us : Lexed) → f m us ≡ kept (F m us) h) → inside n ts h f ≡ kept (Parsing.entered n ts F) h
inside-entered zero ts h f F same = refl
inside-entered (suc n) ts h f F same = over-past (rest ts) h (f n) (F n) (same n)

-- One step, from the steps below it.
module _ (names others : List ℕ → ℕ) (rd : Reads) (mr : Grows) (RD : Parsing.Reads) (MR : Parsing.Grows)
    (rd-kept : (n : ℕ) (X : Level) (ts : Lexed) (h : Held) → rd n X ts h ≡ kept (RD n X ts) h)
    (mr-kept : (n : ℕ) (X : Level) (r : Rule) (ts : Lexed) (h : Held) → mr n X 0 ts h ≡ kept (MR n X r ts) h) where
  after_first : (n : ℕ) (Y : Level) (us : Lexed) (h : Held) (f : ℕ → Lexed → Held → Answer) (F : Rule → Lexed → Read) → ((r : Rule) (vs : Lexed) → f 0 vs h ≡ kept (F r vs) h) → go (rd n Y us h) f ≡ kept (then (RD n Y us) F) h
  after_first n Y us h f F same = ap (λ a. go a f) (rd-kept n Y us h) ∙ go-then (RD n Y us) h f F same

  growing-kept : (n : ℕ) (b : Binary) (r : Rule) (ts : Lexed) (h : Held) (t : Bool) → joins (level_of b) ts ≡ t → growing rd mr checked n b 0 ts h t ≡ kept (grown_by RD MR n (level_of b) r ts t) h
  growing-kept n b r ts h false is = refl
  growing-kept n Binary.Or r ts h true is =
      over-past (rest ts) h _ _ (λ us. after_first n conjunctions us h _ _ (λ q vs. mr-kept n alternatives (Rules.or r q) vs h))
  growing-kept n Binary.And r ts h true is =
      over-past (rest ts) h _ _ (λ us. after_first n sequences us h _ _ (λ q vs. mr-kept n conjunctions (Rules.and r q) vs h))
  growing-kept n Binary.Sequence r ts h true is =
      over-opens ts h _ is ∙ after_first n prefixes ts h _ _ (λ q vs. mr-kept n sequences (Rules.sequence r q) vs h)

  starring-kept : (n : ℕ) (r : Rule) (ts : Lexed) (h : Held) (t : Bool) → starring mr checked n 0 ts h t ≡ kept (grown_by RD MR n starred r ts t) h
  starring-kept n r ts h false = refl
  starring-kept n r ts h true = over-past (rest ts) h _ _ (λ us. mr-kept n starred (Rules.star r) us h)

  grow_kept : (n : ℕ) (X : Level) (r : Rule) (ts : Lexed) (h : Held) → grow_by rd mr checked n X 0 ts h ≡ kept (more_by RD MR n X r ts) h
  grow_kept n alternatives r ts h = growing-kept n Binary.Or r ts h (joins alternatives ts) refl
  grow_kept n conjunctions r ts h = growing-kept n Binary.And r ts h (joins conjunctions ts) refl
  grow_kept n sequences r ts h = growing-kept n Binary.Sequence r ts h (joins sequences ts) refl
  grow_kept n prefixes r ts h = refl
  grow_kept n starred r ts h = starring-kept n r ts h (joins starred ts)
  grow_kept n bases r ts h = refl

  negating-kept : (n : ℕ) (ts : Lexed) (h : Held) (t : Bool) → negating rd checked n ts h t ≡ kept (not_by RD n ts t) h
  negating-kept n ts h false = rd-kept n starred ts h
  negating-kept n ts h true = inside-entered n ts h _ _ (λ m us. after_first m prefixes us h _ _ (λ r vs. refl))

  shut-kept : (r : Rule) (ts : Lexed) (h : Held) (t : Bool) → shut 0 ts h t ≡ kept (closed_by r ts t) h
  shut-kept r ts h true = over-past (rest ts) h _ _ (λ us. refl)
  shut-kept r ts h false = refl

  leaf_kept : (r : Rule) (ts : Lexed) (h : Held) → over ts h (λ us. (Ok (0, us), h)) ≡ kept (ahead r ts) h
  leaf_kept r ts h = over-past ts h _ _ (λ us. refl)

  basing-kept : (n : ℕ) (ts : Lexed) (h : Held) → basing rd checked names n ts h (leads 40 ts) ≡ kept (bases_by RD others n ts) h
  basing-kept n (end p) h = refl
  basing-kept n (bad r) h = refl
  basing-kept n (token bar p ts) h = refl
  basing-kept n (token ampersand p ts) h = refl
  basing-kept n (token bang p ts) h = refl
  basing-kept n (token asterisk p ts) h = refl
  basing-kept n (token opening p ts) h =
      inside-entered n (token opening p ts) h _ _ (λ m us. after_first m alternatives us h _ _ (λ r vs. shut-kept r vs h (leads 41 vs)))
  basing-kept n (token closing p ts) h = refl
  basing-kept n (token nought p ts) h = leaf_kept none ts h
  basing-kept n (token one p ts) h = leaf_kept empty ts h
  basing-kept n (token dot p ts) h = leaf_kept any ts h
  basing-kept n (token (bracket s) p ts) h = leaf_kept (atom (others s)) ts h

  read_kept : (n : ℕ) (X : Level) (ts : Lexed) (h : Held) → read_by rd mr checked names n X ts h ≡ kept (Parsing.read_by RD MR others n X ts) h
  read_kept n alternatives ts h = after_first n conjunctions ts h _ _ (λ r vs. mr-kept n alternatives r vs h)
  read_kept n conjunctions ts h = after_first n sequences ts h _ _ (λ r vs. mr-kept n conjunctions r vs h)
  read_kept n sequences ts h = after_first n prefixes ts h _ _ (λ r vs. mr-kept n sequences r vs h)
  read_kept n prefixes ts h = negating-kept n ts h (leads 33 ts)
  read_kept n starred ts h = after_first n bases ts h _ _ (λ r vs. mr-kept n starred r vs h)
  read_kept n bases ts h = basing-kept n ts h

mutual
  unfolding read_into grow_into read more

  pub checks : (k : ℕ) (names others : List ℕ → ℕ) (n : ℕ) (X : Level) (ts : Lexed) (h : Held) → read_into k checked names n X ts h ≡ (numbered (read k others n X ts), h)
  checks zero names others n X ts h = refl
  checks (suc k) names others n X ts h = read_kept names others (read_into k checked names) (grow_into k checked names) (read k others) (more k others) (checks k names others) (checks_on k names others) n X ts h

  pub checks_on : (k : ℕ) (names others : List ℕ → ℕ) (n : ℕ) (X : Level) (r : Rule) (ts : Lexed) (h : Held) → grow_into k checked names n X 0 ts h ≡ (numbered (more k others n X r ts), h)
  checks_on zero names others n X r ts h = refl
  checks_on (suc k) names others n X r ts h = grow_kept names others (read_into k checked names) (grow_into k checked names) (read k others) (more k others) (checks k names others) (checks_on k names others) n X r ts h
