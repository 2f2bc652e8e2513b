-- Reading a text into a pool in the order of the text, as the code goes. It is the grammar's reader with nodes in place
-- of rules.
--   Answer           a node and the tokens behind its text, or a refusal; and the pool afterwards
--   Step             what entering a form does to the pool, and which node it gives
--   checked          the step of a text that is only checked: nothing is written, and the node is 0
--   go, with, over   go on after a part is read; after a form is entered; once the next token is looked at
--   level_of b       the level of a form of two operands
--   tighter b        the level of its operands
--   joining b l m    the form over two nodes
--   joins_with b t   the token t, if there is one, says that another operand follows
--   onset_of b ts    the tokens from the next operand on, where ts are those behind the last
--   onset b s l      the same where l is the lexeme behind the last
--   leaf_in names t  the form that the token t alone is, if it is one
--   opened n p       how many of n levels are left behind a token at the place p that opens one
--   inside n ts h f  open one level more, if one of n is left, at the first token of ts
--   read_into k step names n X ts h     read a form of the level X into the pool h, as the grammar's read does
--   grow_into k step names n X l ts h   go on from the node l, as the grammar's more does
--   read_by, grow_by    one step of each, given how to take the steps below it: Reads and Grows. growing, starring,
--                    negating, basing, leafed and shut are their parts: with an operand more, with a star more, at a
--                    `!`, at a base, at one that is a token alone, and at the `)` of one in parentheses
--   names_of s       how a reader numbers a bracket
--   answered s r     what reading answers, in these words
--   LiesFrom text p r   the lexeme that r gives is one of the text, at the place p or later
--   ended a          the node answered, if nothing is left behind its text. ended_of and ended_by are its steps
--   passed_into step s h                a pass over the whole text
--   settled r        whether it came to its end
-- Assumes nothing.
use Rattle.std.specs.Prelude.{ℕ, zero, suc, ◌*◌, ◌≤◌, Bool, true, false, List, length, Some, None, Ok, Err, Option, Result, ◌==◌, IfOk}
use Rattle.refusals.specs.Questions.{refusing}
use Rattle.refusals.specs.declared.Question.TheVariants.{GrammarAllows, LevelsOpen}
use Rattle.refusals.specs.declared.Refusal.{Refusal}
use Rattle.grammar.specs.declared.token.Lexeme.{Lexeme}
use Rattle.grammar.specs.Atoms.{number_of}
use Rattle.grammar.specs.Grammar.{Level, alternatives, conjunctions, sequences, prefixes, starred, bases}
use Rattle.grammar.specs.Parsing.{joins, unexpected}
use Rattle.grammar.specs.Tokens.{Token, nought, one, dot, bracket, Lexed, end, bad, token, begins_some, head, leads, place, rest, sign_of}
use Rattle.nodes.specs.declared.form.Form.{Form}
use Rattle.nodes.specs.Entering.{Held, Out, bind}
use Rattle.passes.specs.declared.binary.Binary.{Binary}
use Rattle.passes.specs.declared.part.Part.{Part}
use Rattle.surveys.specs.declared.reader.Reader.{Reader}
use Rattle.surveys.specs.Entries.{listed, texts_in}
use Rattle.surveys.specs.Looking.{Stands, after, standing}

abbrev pub Answer : Type 0
Answer = Result (ℕ × Lexed) Refusal × Held

abbrev pub Step : Type 0
Step = Form → Held → Out

abbrev pub checked : Step
checked f h = (Ok 0, h)

abbrev pub go : Answer → (ℕ → Lexed → Held → Answer) → Answer
go a f = bind a (λ x h. f x.0 x.1 h)

abbrev pub with : Out → (ℕ → Held → Answer) → Answer
with o f = bind o f

abbrev pub over : Lexed → Held → (Lexed → Answer) → Answer
over (end p) h f = f (end p)
over (bad r) h f = (Err r, h)
over (token t p ts) h f = f (token t p ts)

abbrev pub level_of : Binary → Level
level_of Binary.Or = alternatives
level_of Binary.And = conjunctions
level_of Binary.Sequence = sequences

abbrev pub tighter : Binary → Level
tighter Binary.Or = conjunctions
tighter Binary.And = sequences
tighter Binary.Sequence = prefixes

abbrev pub joining : Binary → ℕ → ℕ → Form
joining Binary.Or l m = Form.Or l m
joining Binary.And l m = Form.And l m
joining Binary.Sequence l m = Form.Sequence l m

abbrev pub joins_with : Binary → Option Token → Bool
joins_with Binary.Or t = sign_of t == 124
joins_with Binary.And t = sign_of t == 38
joins_with Binary.Sequence t = begins_some t

abbrev pub onset_of : Binary → Lexed → Lexed
onset_of Binary.Or ts = rest ts
onset_of Binary.And ts = rest ts
onset_of Binary.Sequence ts = ts

abbrev pub onset : Binary → Reader → Lexeme → Lexed
onset Binary.Or s l = after s l.after
onset Binary.And s l = after s l.after
onset Binary.Sequence s l = standing s l

abbrev pub leaf_in : (List ℕ → ℕ) → Option Token → Option Form
leaf_in names (Some nought) = Some Form.None
leaf_in names (Some one) = Some Form.Empty
leaf_in names (Some dot) = Some Form.Any
leaf_in names (Some (bracket s)) = Some (Form.Atom (names s))
leaf_in names o = None

abbrev pub names_of : Reader → List ℕ → ℕ
names_of s = number_of (texts_in s.text.now (listed s.atoms))

-- What one step may use: reading a form, and going on from one.
abbrev pub Reads : Type 0
Reads = ℕ → Level → Lexed → Held → Answer

abbrev pub Grows : Type 0
Grows = ℕ → Level → ℕ → Lexed → Held → Answer

abbrev pub growing : Reads → Grows → Step → ℕ → Binary → ℕ → Lexed → Held → Bool → Answer
growing rd mr step n b l ts h false = (Ok (l, ts), h)
growing rd mr step n b l ts h true =
    over (onset_of b ts) h (λ us. go (rd n (tighter b) us h) (λ m vs g. with (step (joining b l m) g) (λ q i. mr n (level_of b) q vs i)))

abbrev pub starring : Grows → Step → ℕ → ℕ → Lexed → Held → Bool → Answer
starring mr step n l ts h false = (Ok (l, ts), h)
starring mr step n l ts h true = over (rest ts) h (λ us. with (step (Form.Star l) h) (λ q i. mr n starred q us i))

abbrev pub grow_by : Reads → Grows → Step → ℕ → Level → ℕ → Lexed → Held → Answer
grow_by rd mr step n alternatives l ts h = growing rd mr step n Binary.Or l ts h (joins alternatives ts)
grow_by rd mr step n conjunctions l ts h = growing rd mr step n Binary.And l ts h (joins conjunctions ts)
grow_by rd mr step n sequences l ts h = growing rd mr step n Binary.Sequence l ts h (joins sequences ts)
grow_by rd mr step n prefixes l ts h = (Ok (l, ts), h)
grow_by rd mr step n starred l ts h = starring mr step n l ts h (joins starred ts)
grow_by rd mr step n bases l ts h = (Ok (l, ts), h)

abbrev pub opened : ℕ → ℕ → Result ℕ Refusal
opened zero p = Err (refusing LevelsOpen p)
opened (suc n) p = Ok n

abbrev pub inside : ℕ → Lexed → Held → (ℕ → Lexed → Answer) → Answer
inside zero ts h f = (Err (refusing LevelsOpen (place ts)), h)
inside (suc n) ts h f = over (rest ts) h (f n)

abbrev pub negating : Reads → Step → ℕ → Lexed → Held → Bool → Answer
negating rd step n ts h false = rd n starred ts h
negating rd step n ts h true = inside n ts h (λ m us. go (rd m prefixes us h) (λ l vs g. with (step (Form.Not l) g) (λ q i. (Ok (q, vs), i))))

abbrev pub shut : ℕ → Lexed → Held → Bool → Answer
shut l ts h true = over (rest ts) h (λ us. (Ok (l, us), h))
shut l ts h false = (Err (unexpected ts), h)

abbrev pub leafed : Step → Lexed → Held → Option Form → Answer
leafed step ts h (Some f) = over (rest ts) h (λ us. with (step f h) (λ q i. (Ok (q, us), i)))
leafed step ts h None = (Err (unexpected ts), h)

abbrev pub basing : Reads → Step → (List ℕ → ℕ) → ℕ → Lexed → Held → Bool → Answer
basing rd step names n ts h true = inside n ts h (λ m us. go (rd m alternatives us h) (λ l vs g. shut l vs g (leads 41 vs)))
basing rd step names n ts h false = leafed step ts h (leaf_in names (head ts))

abbrev pub read_by : Reads → Grows → Step → (List ℕ → ℕ) → ℕ → Level → Lexed → Held → Answer
read_by rd mr step names n alternatives ts h = go (rd n conjunctions ts h) (mr n alternatives)
read_by rd mr step names n conjunctions ts h = go (rd n sequences ts h) (mr n conjunctions)
read_by rd mr step names n sequences ts h = go (rd n prefixes ts h) (mr n sequences)
read_by rd mr step names n prefixes ts h = negating rd step n ts h (leads 33 ts)
read_by rd mr step names n starred ts h = go (rd n bases ts h) (mr n starred)
read_by rd mr step names n bases ts h = basing rd step names n ts h (leads 40 ts)

unfoldable mutual
  pub read_into : ℕ → Step → (List ℕ → ℕ) → ℕ → Level → Lexed → Held → Answer
  read_into zero step names n X ts h = (Err (unexpected ts), h)
  read_into (suc k) step names n X ts h = read_by (read_into k step names) (grow_into k step names) step names n X ts h

  pub grow_into : ℕ → Step → (List ℕ → ℕ) → ℕ → Level → ℕ → Lexed → Held → Answer
  grow_into zero step names n X l ts h = (Err (unexpected ts), h)
  grow_into (suc k) step names n X l ts h = grow_by (read_into k step names) (grow_into k step names) step n X l ts h

abbrev pub answered : Reader → Result Part Refusal → Result (ℕ × Lexed) Refusal
answered s (Ok x) = Ok (x.node, standing s x.next)
answered s (Err r) = Err r

abbrev pub LiesFrom : List ℕ → ℕ → Result Lexeme Refusal → Type 0
LiesFrom text p r = IfOk r (λ l. Stands text l × (p ≤ l.place))

-- A pass over a whole text: a form, and then the end.
abbrev pub ended_by : ℕ → Lexed → Result ℕ Refusal
ended_by n (end p) = Ok n
ended_by n (bad r) = Err r
ended_by n (token t p ts) = Err (refusing GrammarAllows p)

abbrev pub ended_of : Result (ℕ × Lexed) Refusal → Result ℕ Refusal
ended_of (Ok x) = ended_by x.0 x.1
ended_of (Err r) = Err r

abbrev pub ended : Answer → Out
ended a = (ended_of a.0, a.1)

abbrev pub passed_into : Step → Reader → Held → Out
passed_into step s h = ended (read_into (8 * suc (length s.text.now)) step (names_of s) 32 alternatives (after s 0) h)

-- Whether a pass came to its end.
abbrev pub settled : {A : Type 0} → Result A Refusal → Result (Unit {0}) Refusal
settled (Ok x) = Ok tt
settled (Err f) = Err f
