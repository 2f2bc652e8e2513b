-- Entering a form into a pool: what is answered, and the pool afterwards.
--   Held            a pool: the nodes used, the places left behind them, what stands past the largest pool, the count
--   held items n    the pool that a slice of records with the count n is
--   Out, bind       an answer with the pool afterwards; bind goes on with what is answered, and hands a refusal up.
--                   bind_by is its step
--   recorded p f    the record of the form f over the nodes p
--   interned h x    the first node equal to x, else x in the next place, else the refusal. interned_by and appended are
--                   its steps
--   kept f h        the record of f, interned with no rule asked
--   joined j l r    the form over l and r of the kind that j joins: an or, or an and
--   joints j f      the parts of the form f, if it is of that kind
--   members j p k n the members of node n: an or node's are its left, then its right's members; any other node is its
--                   own one member. And nodes alike. k bounds the depth. members_by is its step
--   merge xs ys     the smaller first member first, equal ones once. weave is its step
--   chained j xs h  the node whose members are xs, entered from the last member on
--   merged j l r h  the node whose members are those of l and r, merged
--   is_star f       the form f is a star
--   negated n f h   entering not of node n, which is read as the form f
--   entered f h     entering the form f with all its rules
-- Assumes nothing.
use Rattle.std.specs.Prelude.{ℕ, zero, suc, ◌+◌, Bool, true, false, cond, not, ◌&&◌, ◌||◌, List, [], ◌∷◌, ◌++◌, length, take, drop, Some, None, Ok, Err, Option, Result, ◌==◌, nat_lt}
use Rattle.numbering.specs.Finding.{first_equal}
use Rattle.refusals.specs.Questions.{refusing}
use Rattle.refusals.specs.declared.Question.TheVariants.{NodeRoom}
use Rattle.refusals.specs.declared.Refusal.{Refusal}
use Rattle.nodes.specs.declared.node.Node.{Node}
use Rattle.nodes.specs.declared.node.NodeKind.TheVariants as Kind
use Rattle.nodes.specs.declared.form.Form.{Form}
use Rattle.nodes.specs.declared.merging.Join.{Join}
use Rattle.nodes.specs.Records.{same_node, none_node, empty_node, any_node}
use Rattle.nodes.specs.Reading.{form_at, nullable_at}

pub record Held : Type 0 where
  pub used : List Node
  pub past : List Node
  pub beyond : List Node
  pub count : ℕ

unfoldable pub held : List Node → ℕ → Held
held items n = record { used = take n (take 4096 items); past = drop n (take 4096 items); beyond = drop 4096 items; count = n }

abbrev pub Out : Type 0
Out = Result ℕ Refusal × Held

abbrev pub bind_by : {A B : Type 0} → Result A Refusal → Held → (A → Held → Result B Refusal × Held) → Result B Refusal × Held
bind_by (Ok n) h f = f n h
bind_by (Err e) h f = (Err e, h)

abbrev pub bind : {A B : Type 0} → Result A Refusal × Held → (A → Held → Result B Refusal × Held) → Result B Refusal × Held
bind o f = bind_by o.0 o.1 f

abbrev pub recorded : List Node → Form → Node
recorded p Form.None = none_node
recorded p Form.Empty = empty_node
recorded p Form.Any = any_node
recorded p (Form.Atom k) = record { kind = Kind.Atom; left = k; right = 0; nullable = false }
recorded p (Form.Sequence l r) = record { kind = Kind.Sequence; left = l; right = r; nullable = nullable_at p l && nullable_at p r }
recorded p (Form.Or l r) = record { kind = Kind.Or; left = l; right = r; nullable = nullable_at p l || nullable_at p r }
recorded p (Form.And l r) = record { kind = Kind.And; left = l; right = r; nullable = nullable_at p l && nullable_at p r }
recorded p (Form.Star l) = record { kind = Kind.Star; left = l; right = 0; nullable = true }
recorded p (Form.Not l) = record { kind = Kind.Not; left = l; right = 0; nullable = not (nullable_at p l) }

abbrev pub appended : Held → Node → List Node → Out
appended h x [] = (Err (refusing NodeRoom (length h.used)), h)
appended h x (y ∷ ys) = (Ok (length h.used), record { used = h.used ++ (x ∷ []); past = ys; beyond = h.beyond; count = h.count + 1 })

abbrev pub interned_by : Held → Node → Option ℕ → Out
interned_by h x (Some n) = (Ok n, h)
interned_by h x None = appended h x h.past

unfoldable pub interned : Held → Node → Out
interned h x = interned_by h x (first_equal same_node h.used x)

abbrev pub kept : Form → Held → Out
kept f h = interned h (recorded h.used f)

abbrev pub joined : Join → ℕ → ℕ → Form
joined Join.Or l r = Form.Or l r
joined Join.And l r = Form.And l r

-- The parts of a form of the kind that j joins.
abbrev pub joints : Join → Form → Option (ℕ × ℕ)
joints Join.Or (Form.Or l r) = Some (l, r)
joints Join.And (Form.And l r) = Some (l, r)
joints j f = None

abbrev pub members_by : (ℕ → List ℕ) → ℕ → Option (ℕ × ℕ) → List ℕ
members_by rest n None = n ∷ []
members_by rest n (Some lr) = lr.0 ∷ rest lr.1

unfoldable pub members : Join → List Node → ℕ → ℕ → List ℕ
members j p zero n = n ∷ []
members j p (suc k) n = members_by (members j p k) n (joints j (form_at p n))

abbrev pub weave : ℕ → (List ℕ → List ℕ) → List ℕ → List ℕ
weave x rest [] = x ∷ rest []
weave x rest (y ∷ ys) = cond (nat_lt x y) (x ∷ rest (y ∷ ys)) (cond (x == y) (x ∷ rest ys) (y ∷ weave x rest ys))

abbrev pub merge : List ℕ → List ℕ → List ℕ
merge [] ys = ys
merge (x ∷ xs) ys = weave x (merge xs) ys

abbrev pub chained : Join → List ℕ → Held → Out
chained j [] h = (Ok 0, h)
chained j (x ∷ []) h = (Ok x, h)
chained j (x ∷ y ∷ ys) h = bind (chained j (y ∷ ys) h) (λ r g. kept (joined j x r) g)

unfoldable pub merged : Join → ℕ → ℕ → Held → Out
merged j l r h = chained j (merge (members j h.used (suc l) l) (members j h.used (suc r) r)) h

abbrev pub is_star : Form → Bool
is_star (Form.Star l) = true
is_star f = false

-- Not of what is read as a form: a not is undone.
abbrev pub negated : ℕ → Form → Held → Out
negated n (Form.Not l) h = (Ok l, h)
negated n f h = kept (Form.Not n) h

abbrev pub entered : Form → Held → Out
entered Form.None h = (Ok 0, h)
entered Form.Empty h = (Ok 1, h)
entered Form.Any h = (Ok 2, h)
entered (Form.Atom k) h = kept (Form.Atom k) h
entered (Form.Sequence l r) h =
    cond (l == 0 || r == 0) (Ok 0, h) (cond (l == 1) (Ok r, h) (cond (r == 1) (Ok l, h) (kept (Form.Sequence l r) h)))
entered (Form.Or l r) h =
    cond (l == 0) (Ok r, h) (cond (r == 0) (Ok l, h) (cond (l == 3 || r == 3) (Ok 3, h) (merged Join.Or l r h)))
entered (Form.And l r) h =
    cond (l == 3) (Ok r, h) (cond (r == 3) (Ok l, h) (cond (l == 0 || r == 0) (Ok 0, h) (merged Join.And l r h)))
entered (Form.Star l) h = cond (nat_lt l 2) (Ok 1, h) (cond (is_star (form_at h.used l)) (Ok l, h) (kept (Form.Star l) h))
entered (Form.Not l) h = negated l (form_at h.used l) h
