-- What entering keeps in every pool with nothing past the largest, sound or not: only a full pool is refused, and the
-- count is that of the nodes used.
--   Whole h         the count of h is the number of nodes used, and nothing stands past the largest pool
--   Full a h        if a is a refusal, it is that of a full pool: its place is the number of nodes used, and no place is
--                   left behind them
--   Orderly o       both, of an outcome
-- Assumes nothing.
use Rattle.std.proofs.Common.{◌≡◌, ℕ, suc, Bool, cond, ◌||◌, eqb, ltb, List, [], ◌∷◌, length, Some, None, Ok, Err, Option, Result, refl, arith}
use Rattle.std.proofs.lemmas.List.{length_push}
use Rattle.std.proofs.lemmas.Bool.{cond_both}
use Rattle.languages.specs.Rules.{Rule}
use Rattle.numbering.specs.Finding.{first_equal}
use Rattle.refusals.specs.declared.Question.TheVariants.{NodeRoom}
use Rattle.refusals.specs.declared.Refusal.{Refusal}
use Rattle.nodes.specs.declared.node.Node.{Node}
use Rattle.nodes.specs.declared.form.Form.{Form}
use Rattle.nodes.specs.declared.merging.Join.{Join}
use Rattle.nodes.specs.Records.{same_node}
use Rattle.nodes.specs.Reading.{form_at}
use Rattle.nodes.specs.Entering.{Held, Out, bind_by, bind, recorded, appended, interned_by, interned, kept, joined, members, merge, chained, merged, is_star, negated, entered}
use Rattle.nodes.specs.Trees.{entered_tree}

abbrev pub Whole : Held → Type 0
Whole h = (h.count ≡ length h.used) × (h.beyond ≡ [])

abbrev pub Full : Result ℕ Refusal → Held → Type 0
Full (Ok n) h = Unit {0}
Full (Err f) h = (f.question ≡ NodeRoom) × (f.place ≡ length h.used) × (h.past ≡ [])

abbrev pub Orderly : Out → Type 0
Orderly o = Full o.0 o.1 × Whole o.1

orderly_bind : (a : Result ℕ Refusal) (g : Held) (f : ℕ → Held → Out) → Orderly (a, g) → ((n : ℕ) → Whole g → Orderly (f n g)) → Orderly (bind_by a g f)
orderly_bind (Ok n) g f o step = step n o.1
orderly_bind (Err e) g f o step = o

orderly_interned : (h : Held) (x : Node) → Whole h → Orderly (interned h x)
unfolding interned
orderly_interned h x whole = found (first_equal same_node h.used x)
  where
    next : (ys : List Node) → h.past ≡ ys → Orderly (appended h x ys)
    next [] none = ((refl, refl, none), whole)
    next (y ∷ ys) more = (tt, let e = length_push h.used x in (omega (arith, e, whole.0), whole.1))

    found : (o : Option ℕ) → Orderly (interned_by h x o)
    found (Some n) = (tt, whole)
    found None = next h.past refl

orderly_kept : (f : Form) (h : Held) → Whole h → Orderly (kept f h)
orderly_kept f h whole = orderly_interned h (recorded h.used f) whole

orderly_chained : (j : Join) (xs : List ℕ) (h : Held) → Whole h → Orderly (chained j xs h)
orderly_chained j [] h whole = (tt, whole)
orderly_chained j (x ∷ []) h whole = (tt, whole)
orderly_chained j (x ∷ y ∷ ys) h whole =
    orderly_bind (chained j (y ∷ ys) h).0 (chained j (y ∷ ys) h).1 (λ r g. kept (joined j x r) g) (orderly_chained j (y ∷ ys) h whole)
    (λ r c. orderly_kept (joined j x r) (chained j (y ∷ ys) h).1 c)

orderly_merged : (j : Join) (l r : ℕ) (h : Held) → Whole h → Orderly (merged j l r h)
unfolding merged
orderly_merged j l r h whole = orderly_chained j (merge (members j h.used (suc l) l) (members j h.used (suc r) r)) h whole

orderly_negated : (l : ℕ) (f : Form) (h : Held) → Whole h → Orderly (negated l f h)
orderly_negated l Form.None h whole = orderly_kept (Form.Not l) h whole
orderly_negated l Form.Empty h whole = orderly_kept (Form.Not l) h whole
orderly_negated l Form.Any h whole = orderly_kept (Form.Not l) h whole
orderly_negated l (Form.Atom k) h whole = orderly_kept (Form.Not l) h whole
orderly_negated l (Form.Sequence a b) h whole = orderly_kept (Form.Not l) h whole
orderly_negated l (Form.Or a b) h whole = orderly_kept (Form.Not l) h whole
orderly_negated l (Form.And a b) h whole = orderly_kept (Form.Not l) h whole
orderly_negated l (Form.Star a) h whole = orderly_kept (Form.Not l) h whole
orderly_negated l (Form.Not a) h whole = (tt, whole)

-- Whichever way a test goes.
either : (b : Bool) (x y : Out) → Orderly x → Orderly y → Orderly (cond b x y)
either b x y o q = cond_both b x y Orderly (λ e. o) (λ e. q)

pub orderly_entered : (f : Form) (h : Held) → Whole h → Orderly (entered f h)
orderly_entered Form.None h whole = (tt, whole)
orderly_entered Form.Empty h whole = (tt, whole)
orderly_entered Form.Any h whole = (tt, whole)
orderly_entered (Form.Atom k) h whole = orderly_kept (Form.Atom k) h whole
orderly_entered (Form.Sequence l r) h whole =
    either (eqb l 0 || eqb r 0) _ _ (tt, whole) (either (eqb l 1) _ _ (tt, whole) (either (eqb r 1) _ _ (tt, whole) (orderly_kept (Form.Sequence l r) h whole)))
orderly_entered (Form.Or l r) h whole =
    either (eqb l 0) _ _ (tt, whole) (either (eqb r 0) _ _ (tt, whole) (either (eqb l 3 || eqb r 3) _ _ (tt, whole) (orderly_merged Join.Or l r h whole)))
orderly_entered (Form.And l r) h whole =
    either (eqb l 3) _ _ (tt, whole) (either (eqb r 3) _ _ (tt, whole) (either (eqb l 0 || eqb r 0) _ _ (tt, whole) (orderly_merged Join.And l r h whole)))
orderly_entered (Form.Star l) h whole =
    either (ltb l 2) _ _ (tt, whole) (either (is_star (form_at h.used l)) _ _ (tt, whole) (orderly_kept (Form.Star l) h whole))
orderly_entered (Form.Not l) h whole = orderly_negated l (form_at h.used l) h whole

orderly_two : (form : ℕ → ℕ → Form) (o : Out) (next : Held → Out) → Orderly o → ((g : Held) → Whole g → Orderly (next g)) →
    Orderly (bind o (λ l g. bind (next g) (λ r i. entered (form l r) i)))
orderly_two form o next first more = orderly_bind o.0 o.1 _ first (λ l c.
    orderly_bind (next o.1).0 (next o.1).1 _ (more o.1 c) (λ r d. orderly_entered (form l r) (next o.1).1 d))

pub orderly_tree : (t : Rule) (h : Held) → Whole h → Orderly (entered_tree t h)
orderly_tree Rule.none h whole = (tt, whole)
orderly_tree Rule.empty h whole = (tt, whole)
orderly_tree Rule.any h whole = (tt, whole)
orderly_tree (Rule.atom k) h whole = orderly_entered (Form.Atom k) h whole
orderly_tree (Rule.sequence r q) h whole = orderly_two Form.Sequence (entered_tree r h) (entered_tree q) (orderly_tree r h whole) (orderly_tree q)
orderly_tree (Rule.or r q) h whole = orderly_two Form.Or (entered_tree r h) (entered_tree q) (orderly_tree r h whole) (orderly_tree q)
orderly_tree (Rule.and r q) h whole = orderly_two Form.And (entered_tree r h) (entered_tree q) (orderly_tree r h whole) (orderly_tree q)
orderly_tree (Rule.star r) h whole = orderly_bind (entered_tree r h).0 (entered_tree r h).1 _ (orderly_tree r h whole) (λ l c. orderly_entered (Form.Star l) (entered_tree r h).1 c)
orderly_tree (Rule.not r) h whole = orderly_bind (entered_tree r h).0 (entered_tree r h).1 _ (orderly_tree r h whole) (λ l c. orderly_entered (Form.Not l) (entered_tree r h).1 c)
