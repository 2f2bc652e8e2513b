-- Reading a rule off its tokens, in the order of the text. Each token is looked at as soon as the one before it is
-- taken, so that what is wrong with a token is told before anything of a later one.
--   Read              a rule and what is left of the tokens, or a refusal
--   then, past        go on after a rule is read; look at what comes next
--   ahead r ts        the rule r is read, once the token behind it is looked at
--   unexpected ts     the first token of ts cannot stand there
--   entered n ts f    open one level more, if one of n is left, at the first token of ts
--   joins X ts        the first token of ts goes on a form of the level X
--   read k names n X ts    read a form of the level X where n levels are left; k is above the depth of calls
--   more k names n X r ts  go on from r, a form of the level X, as far as it goes
--   read_by, more_by  one step of each, given how to take the steps below it: Reads and Grows. grown_by, not_by,
--                     bases_by, base_by, closed and closed_by are their parts: with an operand or a star more, at a
--                     `!`, at a base and by its first token, and at the `)` of a rule in parentheses
--   whole, wholly     the rule, if nothing is left behind it
--   parsed k names ts, parsed_text text  the rule of some tokens, and of a text
-- Assumes nothing.
use Rattle.std.specs.Prelude.{ℕ, zero, suc, ◌*◌, Bool, true, false, List, length, Ok, Err, Result}
use Rattle.languages.specs.Rules.{Rule, none, empty, any, atom, sequence, or, and, star, not}
use Rattle.refusals.specs.Questions.{refusing}
use Rattle.refusals.specs.declared.Question.TheVariants.{GrammarAllows, LevelsOpen}
use Rattle.refusals.specs.declared.Refusal.{Refusal}
use Rattle.grammar.specs.Tokens.{Token, opening, nought, one, dot, bracket, Lexed, end, bad, token, rest, place, leads, opens}
use Rattle.grammar.specs.Lexing.{lexed}
use Rattle.grammar.specs.Atoms.{atoms, number_of, tokens}
use Rattle.grammar.specs.Grammar.{Level, alternatives, conjunctions, sequences, prefixes, starred, bases}

abbrev pub Read : Type 0
Read = Result (Rule × Lexed) Refusal

abbrev pub then : Read → (Rule → Lexed → Read) → Read
then (Ok x) f = f x.0 x.1
then (Err r) f = Err r

abbrev pub past : Lexed → (Lexed → Read) → Read
past (end p) f = f (end p)
past (bad r) f = Err r
past (token t p ts) f = f (token t p ts)

abbrev pub ahead : Rule → Lexed → Read
ahead r ts = past ts (λ us. Ok (r, us))

abbrev pub unexpected : Lexed → Refusal
unexpected (end p) = refusing GrammarAllows p
unexpected (bad r) = r
unexpected (token t p ts) = refusing GrammarAllows p

abbrev pub entered : ℕ → Lexed → (ℕ → Lexed → Read) → Read
entered zero ts f = Err (refusing LevelsOpen (place ts))
entered (suc n) ts f = past (rest ts) (f n)

abbrev pub joins : Level → Lexed → Bool
joins alternatives ts = leads 124 ts
joins conjunctions ts = leads 38 ts
joins sequences ts = opens ts
joins prefixes ts = false
joins starred ts = leads 42 ts
joins bases ts = false

-- What one step of reading may use: reading a form, and going on from one.
abbrev pub Reads : Type 0
Reads = ℕ → Level → Lexed → Read

abbrev pub Grows : Type 0
Grows = ℕ → Level → Rule → Lexed → Read

abbrev pub grown_by : Reads → Grows → ℕ → Level → Rule → Lexed → Bool → Read
grown_by rd mr n X r ts false = Ok (r, ts)
grown_by rd mr n alternatives r ts true = past (rest ts) (λ us. then (rd n conjunctions us) (λ q vs. mr n alternatives (or r q) vs))
grown_by rd mr n conjunctions r ts true = past (rest ts) (λ us. then (rd n sequences us) (λ q vs. mr n conjunctions (and r q) vs))
grown_by rd mr n sequences r ts true = then (rd n prefixes ts) (λ q vs. mr n sequences (sequence r q) vs)
grown_by rd mr n prefixes r ts true = Ok (r, ts)
grown_by rd mr n starred r ts true = past (rest ts) (λ us. mr n starred (star r) us)
grown_by rd mr n bases r ts true = Ok (r, ts)

abbrev pub more_by : Reads → Grows → ℕ → Level → Rule → Lexed → Read
more_by rd mr n X r ts = grown_by rd mr n X r ts (joins X ts)

abbrev pub not_by : Reads → ℕ → Lexed → Bool → Read
not_by rd n ts false = rd n starred ts
not_by rd n ts true = entered n ts (λ m us. then (rd m prefixes us) (λ r vs. Ok (not r, vs)))

abbrev pub closed_by : Rule → Lexed → Bool → Read
closed_by r ts true = ahead r (rest ts)
closed_by r ts false = Err (unexpected ts)

abbrev pub closed : Rule → Lexed → Read
closed r ts = closed_by r ts (leads 41 ts)

abbrev pub base_by : Reads → (List ℕ → ℕ) → ℕ → Token → ℕ → Lexed → Read
base_by rd names n opening p ts = entered n (token opening p ts) (λ m us. then (rd m alternatives us) closed)
base_by rd names n nought p ts = ahead none ts
base_by rd names n one p ts = ahead empty ts
base_by rd names n dot p ts = ahead any ts
base_by rd names n (bracket s) p ts = ahead (atom (names s)) ts
base_by rd names n t p ts = Err (refusing GrammarAllows p)

abbrev pub bases_by : Reads → (List ℕ → ℕ) → ℕ → Lexed → Read
bases_by rd names n (end p) = Err (refusing GrammarAllows p)
bases_by rd names n (bad r) = Err r
bases_by rd names n (token t p ts) = base_by rd names n t p ts

abbrev pub read_by : Reads → Grows → (List ℕ → ℕ) → ℕ → Level → Lexed → Read
read_by rd mr names n alternatives ts = then (rd n conjunctions ts) (mr n alternatives)
read_by rd mr names n conjunctions ts = then (rd n sequences ts) (mr n conjunctions)
read_by rd mr names n sequences ts = then (rd n prefixes ts) (mr n sequences)
read_by rd mr names n prefixes ts = not_by rd n ts (leads 33 ts)
read_by rd mr names n starred ts = then (rd n bases ts) (mr n starred)
read_by rd mr names n bases ts = bases_by rd names n ts

unfoldable mutual
  pub read : ℕ → (List ℕ → ℕ) → ℕ → Level → Lexed → Read
  read zero names n X ts = Err (unexpected ts)
  read (suc k) names n X ts = read_by (read k names) (more k names) names n X ts

  pub more : ℕ → (List ℕ → ℕ) → ℕ → Level → Rule → Lexed → Read
  more zero names n X r ts = Err (unexpected ts)
  more (suc k) names n X r ts = more_by (read k names) (more k names) n X r ts

abbrev pub whole : Rule → Lexed → Result Rule Refusal
whole r (end p) = Ok r
whole r (bad f) = Err f
whole r (token t p ts) = Err (refusing GrammarAllows p)

abbrev pub wholly : Read → Result Rule Refusal
wholly (Ok x) = whole x.0 x.1
wholly (Err f) = Err f

abbrev pub parsed : ℕ → (List ℕ → ℕ) → Lexed → Result Rule Refusal
parsed k names ts = wholly (read k names 32 alternatives ts)

abbrev pub parsed_text : List ℕ → Result Rule Refusal
parsed_text text = parsed (8 * suc (length text)) (number_of (atoms (lexed text))) (tokens text)
