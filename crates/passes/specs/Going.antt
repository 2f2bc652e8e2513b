-- What each reader of the cycle promises.
--   rank X              how deep a form of the level X may call before a token is taken
--   size s l X          a bound of the depth of calls of reading a form of the level X from the lexeme l on
--   size_on s l         the same for going on where l comes next
--   Behind s p r        the lexeme behind the part that r gives is one of the text, at the place p or later
--   Goes step s n X l h r g    reading a form of the level X from l on, with n levels left, answers r and turns the pool h
--                       into g, where a form is entered by step; it takes a token at least
--   Grown step s n X x h r g   the same for going on from the part x
--   GoesFrom step w X h r g    the same as Goes from where the walk w stands
--   GrownFrom step w X l h r g     the same as Grown from the node l, where the walk w stands behind it
--   deeper_by r ts      how many levels are left, by r, and the tokens ts behind the one that opens a level; or a refusal
--   deeper w            the same where the token of the walk w opens a level
--   told_inside s r     what opening a level answers, in these words
--   InsideOf w r        a walk inside of w reads the same text, further on
-- Assumes nothing.
use Rattle.std.specs.Prelude.{◌≡◌, ℕ, ◌+◌, ◌-◌, ◌*◌, ◌<◌, ◌≤◌, length, Ok, Err, Result, IfOk}
use Rattle.refusals.specs.declared.Refusal.{Refusal}
use Rattle.grammar.specs.declared.token.Lexeme.{Lexeme}
use Rattle.grammar.specs.Grammar.{Level, alternatives, conjunctions, sequences, prefixes, starred, bases}
use Rattle.nodes.specs.Entering.{Held}
use Rattle.passes.specs.declared.part.Part.{Part}
use Rattle.passes.specs.declared.walk.Walk.{Walk}
use Rattle.surveys.specs.declared.reader.Reader.{Reader}
use Rattle.grammar.specs.Tokens.{Lexed, end, bad, token}
use Rattle.surveys.specs.Looking.{Lies, Stands, after, standing}
use Rattle.passes.specs.Passing.{Answer, Step, answered, grow_into, names_of, opened, read_into}

abbrev pub rank : Level → ℕ
rank alternatives = 5
rank conjunctions = 4
rank sequences = 3
rank prefixes = 2
rank starred = 1
rank bases = 0

abbrev pub size : Reader → Lexeme → Level → ℕ
size s l X = 8 * (length s.text.now - l.place) + rank X

abbrev pub size_on : Reader → Lexeme → ℕ
size_on s l = 8 * (length s.text.now - l.place) + 7

abbrev pub Behind : Reader → ℕ → Result Part Refusal → Type 0
Behind s p r = IfOk r (λ x. Stands s.text.now x.next × (p ≤ x.next.place))

pub record Goes (step : Step) (s : Reader) (n : ℕ) (X : Level) (l : Lexeme) (h : Held) (r : Result Part Refusal) (g : Held) : Type 0 where
  -- for every bound of the depth that is large enough
  pub answer : (k : ℕ) → size s l X < k → ◌≡◌ {A = Answer} (answered s r, g) (read_into k step (names_of s) n X (standing s l) h)
  pub onward : Behind s (l.place + 1) r

pub record Grown (step : Step) (s : Reader) (n : ℕ) (X : Level) (x : Part) (h : Held) (r : Result Part Refusal) (g : Held) : Type 0 where
  pub answer : (k : ℕ) → size_on s x.next < k → ◌≡◌ {A = Answer} (answered s r, g) (grow_into k step (names_of s) n X x.node (standing s x.next) h)
  pub onward : Behind s x.next.place r

abbrev pub GoesFrom : Step → Walk → Level → Held → Result Part Refusal → Held → Type 0
GoesFrom step w X h r g = Goes step w.reader.now w.levels X w.first h r g

abbrev pub GrownFrom : Step → Walk → Level → ℕ → Held → Result Part Refusal → Held → Type 0
GrownFrom step w X l h r g = Grown step w.reader.now w.levels X (record { node = l; next = w.first }) h r g

-- Opening a level.
abbrev pub deeper_by : Result ℕ Refusal → Lexed → Result (ℕ × Lexed) Refusal
deeper_by (Err r) ts = Err r
deeper_by (Ok n) (bad r) = Err r
deeper_by (Ok n) (end p) = Ok (n, end p)
deeper_by (Ok n) (token t p ts) = Ok (n, token t p ts)

abbrev pub deeper : Walk → Result (ℕ × Lexed) Refusal
deeper w = deeper_by (opened w.levels w.first.place) (after w.reader.now w.first.after)

abbrev pub told_inside : Reader → Result Walk Refusal → Result (ℕ × Lexed) Refusal
told_inside s (Ok v) = Ok (v.levels, standing s v.first)
told_inside s (Err r) = Err r

abbrev pub InsideOf : Walk → Result Walk Refusal → Type 0
InsideOf w (Ok v) = (v.reader ≡ w.reader) × Lies w.reader.now.text.now w.first.after v.first
InsideOf w (Err r) = Unit {0}
