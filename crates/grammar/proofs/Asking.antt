-- Whatever reading a text refuses, it is a question about the text that it asks.
--   Asks f          f is the refusal of a question about the text
--   Asking ts       where no token can be told in ts, such a question is asked
--   Fine x          reading goes on with such tokens, or ends with such a question
-- Assumes nothing.
use Rattle.std.proofs.Common.{◌≡◌, ℕ, zero, suc, ◌+◌, ◌*◌, Bool, true, false, eqb, ltb, List, length, get_or, Some, None, Ok, Err, Option, Result, refl}
use Rattle.std.proofs.lemmas.Bool.{cond_both}
use Rattle.languages.specs.Rules.{Rule}
use Rattle.refusals.specs.Questions.{layered}
use Rattle.refusals.specs.declared.Layer.TheVariants.{Text}
use Rattle.refusals.specs.declared.Refusal.{Refusal}
use Rattle.grammar.specs.Tokens.{Token, bar, ampersand, bang, asterisk, opening, closing, nought, one, dot, bracket, Lexed, end, bad, token, rest, leads}
use Rattle.grammar.specs.Lexing.{Piece, bare, bare_at, closing_at, start_at, lexed_at, onward_by, onward, lex_from, lexed}
use Rattle.grammar.specs.Atoms.{beyond, within, tokens, atoms, number_of, horizon_in}
use Rattle.grammar.specs.Grammar.{Level, alternatives, conjunctions, sequences, prefixes, starred, bases}
use Rattle.grammar.specs.Parsing.{Read, then, past, ahead, unexpected, entered, joins, Reads, Grows, grown_by, not_by, closed_by, base_by, bases_by, read_by, read, more, whole, wholly, parsed_text}

abbrev pub Asks : Refusal → Type 0
Asks f = layered f.question ≡ Text

abbrev Asking : Lexed → Type 0
Asking (end p) = Unit {0}
Asking (bad f) = Asks f
Asking (token t p ts) = Asking ts

abbrev Fine : Read → Type 0
Fine (Ok x) = Asking x.1
Fine (Err f) = Asks f

abbrev Told : Result Piece Refusal → Type 0
Told (Ok x) = Unit {0}
Told (Err f) = Asks f

bare-told : (start : ℕ) (o : Option Token) → Told (bare_at start o)
bare-told start (Some t) = tt
bare-told start None = refl

told : (text : List ℕ) (at : ℕ) → Told (lexed_at text at)
told text at = cond_both (ltb (start_at text at) (length text)) _ _ Told
    (λ e. cond_both (eqb (get_or text (start_at text at) 0) 91) _ _ Told
    (λ f. cond_both (ltb (closing_at text (start_at text at + 1)) (length text)) _ _ Told (λ g. tt) (λ g. refl))
    (λ f. bare-told (start_at text at) (bare (get_or text (start_at text at) 0))))
    (λ e. tt)

onward_by_asking : (f : ℕ → Lexed) → ((q : ℕ) → Asking (f q)) → (o : Option Token) (p q : ℕ) → Asking (onward_by f o p q)
onward_by_asking f later None p q = tt
onward_by_asking f later (Some t) p q = later q

onward_asking : (f : ℕ → Lexed) → ((q : ℕ) → Asking (f q)) → (x : Result Piece Refusal) → Told x → Asking (onward f x)
onward_asking f later (Err e) h = h
onward_asking f later (Ok x) h = onward_by_asking f later x.0 x.1 x.2

lexed_asking : (k : ℕ) (text : List ℕ) (at : ℕ) → Asking (lex_from k text at)
unfolding lex_from
lexed_asking zero text at = tt
lexed_asking (suc k) text at = onward_asking (lex_from k text) (lexed_asking k text) (lexed_at text at) (told text at)

within_asking : (h : ℕ) (ts : Lexed) → Asking ts → Asking (within h ts)
unfolding within
within_asking h (end p) a = tt
within_asking h (bad f) a = a
within_asking h (token t p ts) a = cond_both (beyond h t p) _ _ Asking (λ e. refl) (λ e. within_asking h ts a)

rest_asking : (ts : Lexed) → Asking ts → Asking (rest ts)
rest_asking (end p) a = tt
rest_asking (bad f) a = a
rest_asking (token t p ts) a = a

past_fine : (ts : Lexed) (f : Lexed → Read) → Asking ts → ((us : Lexed) → Asking us → Fine (f us)) → Fine (past ts f)
past_fine (end p) f a go = go (end p) tt
past_fine (bad e) f a go = a
past_fine (token t p ts) f a go = go (token t p ts) a

then_fine : (x : Read) (f : Rule → Lexed → Read) → Fine x → ((r : Rule) (ts : Lexed) → Asking ts → Fine (f r ts)) → Fine (then x f)
then_fine (Ok x) f a go = go x.0 x.1 a
then_fine (Err e) f a go = a

unexpected_asks : (ts : Lexed) → Asking ts → Asks (unexpected ts)
unexpected_asks (end p) a = refl
unexpected_asks (bad f) a = a
unexpected_asks (token t p ts) a = refl

ahead_fine : (r : Rule) (ts : Lexed) → Asking ts → Fine (ahead r ts)
ahead_fine r ts a = past_fine ts _ a (λ us b. b)

entered_fine : (n : ℕ) (ts : Lexed) (f : ℕ → Lexed → Read) → Asking ts → ((m : ℕ) (us : Lexed) → Asking us → Fine (f m us)) → Fine (entered n ts f)
entered_fine zero ts f a go = refl
entered_fine (suc n) ts f a go = past_fine (rest ts) (f n) (rest_asking ts a) (go n)

closed_fine : (r : Rule) (ts : Lexed) → Asking ts → (b : Bool) → Fine (closed_by r ts b)
closed_fine r ts a true = ahead_fine r (rest ts) (rest_asking ts a)
closed_fine r ts a false = unexpected_asks ts a

module _ (rd : Reads) (mr : Grows)
    (reads : (n : ℕ) (X : Level) (ts : Lexed) → Asking ts → Fine (rd n X ts))
    (grows : (n : ℕ) (X : Level) (r : Rule) (ts : Lexed) → Asking ts → Fine (mr n X r ts)) where
  grown_fine : (n : ℕ) (X : Level) (r : Rule) (ts : Lexed) → Asking ts → (b : Bool) → Fine (grown_by rd mr n X r ts b)
  grown_fine n X r ts a false = a
  grown_fine n alternatives r ts a true = past_fine (rest ts) _ (rest_asking ts a) (λ us b. then_fine (rd n conjunctions us) _ (reads n conjunctions us b) (λ q vs c. grows n alternatives (Rule.or r q) vs c))
  grown_fine n conjunctions r ts a true = past_fine (rest ts) _ (rest_asking ts a) (λ us b. then_fine (rd n sequences us) _ (reads n sequences us b) (λ q vs c. grows n conjunctions (Rule.and r q) vs c))
  grown_fine n sequences r ts a true = then_fine (rd n prefixes ts) _ (reads n prefixes ts a) (λ q vs c. grows n sequences (Rule.sequence r q) vs c)
  grown_fine n prefixes r ts a true = a
  grown_fine n starred r ts a true = past_fine (rest ts) _ (rest_asking ts a) (λ us b. grows n starred (Rule.star r) us b)
  grown_fine n bases r ts a true = a

  not_fine : (n : ℕ) (ts : Lexed) → Asking ts → (b : Bool) → Fine (not_by rd n ts b)
  not_fine n ts a false = reads n starred ts a
  not_fine n ts a true = entered_fine n ts _ a (λ m us b. then_fine (rd m prefixes us) _ (reads m prefixes us b) (λ r vs c. c))

  base_fine : (names : List ℕ → ℕ) (n : ℕ) (t : Token) (p : ℕ) (ts : Lexed) → Asking ts → Fine (base_by rd names n t p ts)
  base_fine names n bar p ts a = refl
  base_fine names n ampersand p ts a = refl
  base_fine names n bang p ts a = refl
  base_fine names n asterisk p ts a = refl
  base_fine names n opening p ts a = entered_fine n (token opening p ts) _ a (λ m us b. then_fine (rd m alternatives us) _ (reads m alternatives us b) (λ r vs c. closed_fine r vs c (leads 41 vs)))
  base_fine names n closing p ts a = refl
  base_fine names n nought p ts a = ahead_fine Rule.none ts a
  base_fine names n one p ts a = ahead_fine Rule.empty ts a
  base_fine names n dot p ts a = ahead_fine Rule.any ts a
  base_fine names n (bracket s) p ts a = ahead_fine (Rule.atom (names s)) ts a

  bases_fine : (names : List ℕ → ℕ) (n : ℕ) (ts : Lexed) → Asking ts → Fine (bases_by rd names n ts)
  bases_fine names n (end p) a = refl
  bases_fine names n (bad f) a = a
  bases_fine names n (token t p ts) a = base_fine names n t p ts a

  step_fine : (names : List ℕ → ℕ) (n : ℕ) (X : Level) (ts : Lexed) → Asking ts → Fine (read_by rd mr names n X ts)
  step_fine names n alternatives ts a = then_fine (rd n conjunctions ts) _ (reads n conjunctions ts a) (grows n alternatives)
  step_fine names n conjunctions ts a = then_fine (rd n sequences ts) _ (reads n sequences ts a) (grows n conjunctions)
  step_fine names n sequences ts a = then_fine (rd n prefixes ts) _ (reads n prefixes ts a) (grows n sequences)
  step_fine names n prefixes ts a = not_fine n ts a (leads 33 ts)
  step_fine names n starred ts a = then_fine (rd n bases ts) _ (reads n bases ts a) (grows n starred)
  step_fine names n bases ts a = bases_fine names n ts a

mutual
  unfolding read more

  read_fine : (k : ℕ) (names : List ℕ → ℕ) (n : ℕ) (X : Level) (ts : Lexed) → Asking ts → Fine (read k names n X ts)
  read_fine zero names n X ts a = unexpected_asks ts a
  read_fine (suc k) names n X ts a = step_fine (read k names) (more k names) (read_fine k names) (more_fine k names) names n X ts a

  more_fine : (k : ℕ) (names : List ℕ → ℕ) (n : ℕ) (X : Level) (r : Rule) (ts : Lexed) → Asking ts → Fine (more k names n X r ts)
  more_fine zero names n X r ts a = unexpected_asks ts a
  more_fine (suc k) names n X r ts a = grown_fine (read k names) (more k names) (read_fine k names) (more_fine k names) n X r ts a (joins X ts)

abbrev pub Refuses : Result Rule Refusal → Type 0
Refuses (Ok r) = Unit {0}
Refuses (Err f) = Asks f

whole_refuses : (r : Rule) (ts : Lexed) → Asking ts → Refuses (whole r ts)
whole_refuses r (end p) a = tt
whole_refuses r (bad f) a = a
whole_refuses r (token t p ts) a = refl

wholly_refuses : (x : Read) → Fine x → Refuses (wholly x)
wholly_refuses (Ok x) a = whole_refuses x.0 x.1 a
wholly_refuses (Err f) a = a

pub text_asks : (text : List ℕ) → Refuses (parsed_text text)
text_asks text =
    let names = number_of (atoms (lexed text)) in
    let asking = within_asking (horizon_in text) (lexed text) (lexed_asking (suc (length text)) text 0) in
    wholly_refuses (read (8 * suc (length text)) names 32 alternatives (tokens text)) (read_fine (8 * suc (length text)) names 32 alternatives (tokens text) asking)
