-- A pool as the book over its first places: what is read there, and what numbering a record there comes to.
-- Assumes nothing.
use Rattle.std.proofs.Common.{◌≡◌, ℕ, zero, suc, ◌-◌, ◌<◌, ◌≤◌, false, eqb, List, [], ◌∷◌, ◌++◌, length, get_or, take, drop, Some, None, Ok, Err, Option, Result, sym, refl, ap, ◌∙◌, ◌⊎◌, inl, inr, arith}
use Rattle.std.proofs.lemmas.List.{length-take, length-append, length-drop, get_or_past}
use Rattle.std.proofs.lemmas.Bool.{ne_eqb}
use Rattle.std.proofs.lemmas.Option.{unwrap_or-slice_get}
use Rattle.std.specs.List.{slice_get}
use Rattle.std.specs.Option.{unwrap_or, UnwrapsOrElse}
use Rattle.refusals.specs.Questions.{refusing}
use Rattle.refusals.specs.declared.Question.TheVariants.{NodeRoom}
use Rattle.refusals.specs.declared.Refusal.{Refusal}
use Rattle.numbering.specs.Finding.{first_equal}
use Rattle.numbering.specs.Numbering as book
use Rattle.numbering.specs.Numbering.{Pages, pages, placed, unless_found, numbered}
use Rattle.numbering.proofs.Finding.{nth_take}
use Rattle.numbering.proofs.Numbering.{numbered-means}
use Rattle.nodes.specs.declared.node.Node.{Node}
use Rattle.nodes.specs.declared.node.NodeKind.TheVariants as Kind
use Rattle.nodes.specs.Records.{same_node, none_node}
use Rattle.nodes.specs.Reading.{at}
use Rattle.nodes.specs.Entering.{Held, Out, held, appended, interned_by, interned}
use Rattle.nodes.specs.Sameness.{node_from, same_exact, derived_eq, derived_same}

take_comm : {X : Type 0} (m n : ℕ) (xs : List X) → take m (take n xs) ≡ take n (take m xs)
take_comm zero zero xs = refl
take_comm zero (suc n) xs = refl
take_comm (suc m) zero xs = refl
take_comm (suc m) (suc n) [] = refl
take_comm (suc m) (suc n) (x ∷ xs) = ap (λ ys. x ∷ ys) (take_comm m n xs)

-- A node's default is the record of node 0.
abbrev IsDefault : Node → Type 0
IsDefault x = (x.kind ≡ Kind.None) × ((x.left ≡ 0) × ((x.right ≡ 0) × (x.nullable ≡ false)))

default_none : (x : Node) → IsDefault x → x ≡ none_node
default_none x d = node_from x none_node d.0 d.1.0 d.1.1.0 d.1.1.1

unwrapped : (o : Option Node) (x : Node) → UnwrapsOrElse o IsDefault x → x ≡ unwrap_or o none_node
unwrapped (Some y) x e = e
unwrapped None x d = default_none x d

-- What a book shows at a place within the largest pool.
module _ (items : List Node) (count n : ℕ) where
  read_within : n < 4096 → get_or (held items count).used n none_node ≡ unwrap_or (slice_get (take count items) n) none_node
  unfolding held
  read_within h =
      sym (unwrap_or-slice_get (take count (take 4096 items)) n none_node)
      ∙ ap (λ o. unwrap_or o none_node) (ap (λ xs. slice_get xs n) (take_comm count 4096 items) ∙ nth_take (take count items) 4096 n h)

  pub read_default : (x : Node) → IsDefault x → (n ≡ 0) ⊎ (4096 ≤ n) → x ≡ at (held items count).used n
  unfolding held
  read_default x d (inl zeroth) = rw zeroth (default_none x d)
  read_default x d (inr past) =
      let short : length (take count (take 4096 items)) ≤ n = simp length-take (omega arith) in
      let later : eqb n 0 ≡ false = ne_eqb n 0 (λ e. omega arith) in
      rw (later, get_or_past (take count (take 4096 items)) n none_node short) (default_none x d)

  pub read_as : (x : Node) → UnwrapsOrElse (slice_get (take count items) n) IsDefault x → ¬ (n ≡ 0) → n < 4096 → x ≡ at (held items count).used n
  read_as x d later h = rw (ne_eqb n 0 later) (unwrapped (slice_get (take count items) n) x d ∙ sym (read_within h))

take-size : {X : Type 0} (m : ℕ) (xs : List X) → take (length (take m xs)) xs ≡ take m xs
take-size zero xs = refl
take-size (suc m) [] = refl
take-size (suc m) (x ∷ xs) = ap (λ ys. x ∷ ys) (take-size m xs)

drop-size : {X : Type 0} (m : ℕ) (xs : List X) → drop (length (take m xs)) xs ≡ drop m xs
drop-size zero xs = refl
drop-size (suc m) [] = refl
drop-size (suc m) (x ∷ xs) = drop-size m xs

-- As many put back as were taken.
take_back : {X : Type 0} (m : ℕ) (xs ys : List X) → length ys ≡ length (take m xs) → take m (ys ++ drop m xs) ≡ ys
take_back zero xs [] e = refl
take_back zero xs (y ∷ ys) e = absurd (omega arith)
take_back (suc m) [] [] e = refl
take_back (suc m) [] (y ∷ ys) e = absurd (omega arith)
take_back (suc m) (x ∷ xs) [] e = absurd (omega arith)
take_back (suc m) (x ∷ xs) (y ∷ ys) e = ap (λ zs. y ∷ zs) (take_back m xs ys (omega arith))

drop_back : {X : Type 0} (m : ℕ) (xs ys : List X) → length ys ≡ length (take m xs) → drop m (ys ++ drop m xs) ≡ drop m xs
drop_back zero xs [] e = refl
drop_back zero xs (y ∷ ys) e = absurd (omega arith)
drop_back (suc m) [] [] e = refl
drop_back (suc m) [] (y ∷ ys) e = absurd (omega arith)
drop_back (suc m) (x ∷ xs) [] e = absurd (omega arith)
drop_back (suc m) (x ∷ xs) (y ∷ ys) e = drop_back m xs ys (omega arith)

-- The pool that the pages of its book and what stands past the largest pool make.
abbrev held_of : Pages Node → List Node → Held
held_of pg b = record { used = pg.used; past = pg.past; beyond = b; count = pg.count }

held_back : (items ys : List Node) (n : ℕ) → length ys ≡ length (take 4096 items) → held (ys ++ drop 4096 items) n ≡ held_of (pages ys n) (drop 4096 items)
unfolding held
held_back items ys n e = rw (take_back 4096 items ys e, drop_back 4096 items ys e)

abbrev answered : ℕ → Option ℕ → Result ℕ Refusal
answered size (Some i) = Ok i
answered size None = Err (refusing NodeRoom size)

abbrev answered_out : Pages Node → List Node → book.Out Node → Out
answered_out pg b o = (answered (length pg.used) o.0, held_of o.1 b)

module _ (x : Node) (pg : Pages Node) (b : List Node) where
  appended-is : (past : List Node) → appended (held_of pg b) x past ≡ answered_out pg b (placed x pg past)
  appended-is [] = refl
  appended-is (y ∷ ys) = refl

  interned_by-is : (o : Option ℕ) → interned_by (held_of pg b) x o ≡ answered_out pg b (unless_found x pg o)
  interned_by-is (Some i) = refl
  interned_by-is None = appended-is pg.past

-- Numbering a record in the book over the first k places, as many as the pool has, left ys there and the count m.
module _ (items : List Node) (n : ℕ) (x : Node) (ys : List Node) (m k : ℕ) (size : k ≡ length (take 4096 items)) (kept : length ys ≡ length (take k items)) where
  whole : take k items ≡ take 4096 items
  whole = rw size (take-size 4096 items)

  after : held (ys ++ drop k items) m ≡ held_of (pages ys m) (drop 4096 items)
  after = rw size (rw (drop-size 4096 items) (held_back items ys m (kept ∙ ap length whole)))

  before : (o : Option ℕ) → ◌≡◌ {A = book.Out Node} (o, pages ys m) (numbered same_node (pages (take k items) n) x) →
      interned (held items n) x ≡ answered_out (pages (take 4096 items) n) (drop 4096 items) (o, pages ys m)
  unfolding held interned
  before o is =
      interned_by-is x (pages (take 4096 items) n) (drop 4096 items) (first_equal same_node (take n (take 4096 items)) x)
      ∙ ap (answered_out (pages (take 4096 items) n) (drop 4096 items)) (ap (λ xs. numbered same_node (pages xs n) x) (sym whole) ∙ sym is)

  module _ (o : Option ℕ) (by : ◌≡◌ {A = book.Out Node} (o, pages ys m) (numbered derived_eq (pages (take k items) n) x)) where
    is : ◌≡◌ {A = book.Out Node} (o, pages ys m) (numbered same_node (pages (take k items) n) x)
    is = by ∙ ap (λ same. numbered same (pages (take k items) n) x) derived_same

    pub interned_found : (i : ℕ) → o ≡ Some i → ◌≡◌ {A = Out} (Ok i, held (ys ++ drop k items) m) (interned (held items n) x)
    interned_found i found =
        rw after (sym (before o is ∙ rw found refl))

    pub number_below : (i : ℕ) → o ≡ Some i → i < 4096
    number_below i found =
        let f = (numbered-means same_node same_exact x (pages (take k items) n) (Some i) (pages ys m) (ap (λ t. (t, pages ys m)) (sym found) ∙ is)).answer in
        let long = length-append f.before (x ∷ f.behind) in
        let all : length (take m ys) ≡ length (f.before ++ (x ∷ f.behind)) = ap length f.parts in
        omega (arith, long, all, f.place, length-take m ys, kept, length-take k items, size, length-take 4096 items)

    pub interned_full : o ≡ None → ◌≡◌ {A = Out} (Err (refusing NodeRoom k), held (ys ++ drop k items) m) (interned (held items n) x)
    interned_full none =
        let a = (numbered-means same_node same_exact x (pages (take k items) n) None (pages ys m) (ap (λ t. (t, pages ys m)) (sym none) ∙ is)).answer in
        let full : length (take 4096 items) - n ≡ 0 = sym (length-drop n (take 4096 items)) ∙ ap length (ap (drop n) (sym whole) ∙ a.1) in
        let all : length (take n (take 4096 items)) ≡ k = omega (arith, length-take n (take 4096 items)) in
        rw (after, ← all) (sym (before o is ∙ rw none refl))
