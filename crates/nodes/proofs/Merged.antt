-- Merging members keeps the language: the members of both nodes, in any order and each once, join to the two nodes joined.
--   rule_join j      or, or and, of two rules
--   unit j           the rule that changes nothing where it is joined
--   all j p xs       the rules that the nodes xs of p mean, joined
-- Assumes nothing.
use Rattle.std.proofs.Common.{◌≡◌, ℕ, zero, suc, ◌<◌, eqb, ltb, ◌⊎◌, List, [], ◌∷◌, length, Some, None, Option, sym, refl, ap, ◌∙◌, inl, inr, arith}
use Rattle.std.specs.List.{AllByRecursion}
use Rattle.std.proofs.lemmas.Bool.{cond_both, eqb-true}
use Rattle.languages.specs.Rules.{Rule, Same}
use Rattle.languages.proofs.Joining.{Joins, joins_second, joins_again}
use Rattle.languages.proofs.Laws.{same_refl, same_sym, same_trans, same_or, same_and, or_twice, or_turned, or_grouped, and_twice, and_turned, and_grouped, or_none, none_or, and_all, all_and}
use Rattle.nodes.specs.declared.node.Node.{Node}
use Rattle.nodes.specs.declared.form.Form.{Form}
use Rattle.nodes.specs.declared.merging.Join.{Join}
use Rattle.nodes.specs.Reading.{form_at}
use Rattle.nodes.specs.Entering.{Held, kept, joined, joints, members_by, members, weave, merge, chained, merged}
use Rattle.nodes.specs.Soundness.{Below, Sound}
use Rattle.nodes.specs.Meaning.{meaning, means}
use Rattle.nodes.specs.Promises.{Parts, Comes}
use Rattle.nodes.proofs.Sounding.{form_at_lem, meaning_form}
use Rattle.nodes.proofs.Coming.{same_path, grown_length, grown_meaning, comes_here, comes_same, comes_bind, comes_kept}

abbrev pub rule_join : Join → Rule → Rule → Rule
rule_join Join.Or = Rule.or
rule_join Join.And = Rule.and

abbrev unit : Join → Rule
unit Join.Or = Rule.none
unit Join.And = Rule.not Rule.none

joins : (j : Join) → Joins (rule_join j)
joins Join.Or = record { keeps = same_or; twice = or_twice; turned = or_turned; grouped = or_grouped }
joins Join.And = record { keeps = same_and; twice = and_twice; turned = and_turned; grouped = and_grouped }

unit_right : (j : Join) (r : Rule) → Same (rule_join j r (unit j)) r
unit_right Join.Or r = or_none r
unit_right Join.And r = and_all r

unit_left : (j : Join) (r : Rule) → Same (rule_join j (unit j) r) r
unit_left Join.Or r = none_or r
unit_left Join.And r = all_and r

abbrev all : Join → List Node → List ℕ → Rule
all j p [] = unit j
all j p (x ∷ xs) = rule_join j (meaning p x) (all j p xs)

-- A form is not of the kind that j joins, or it joins two parts.
cases_joints : (j : Join) (f : Form) → (joints j f ≡ None) ⊎ ((l : ℕ) × (r : ℕ) × (f ≡ joined j l r) × (joints j f ≡ Some (l, r)))
cases_joints Join.Or Form.None = inl refl
cases_joints Join.Or Form.Empty = inl refl
cases_joints Join.Or Form.Any = inl refl
cases_joints Join.Or (Form.Atom k) = inl refl
cases_joints Join.Or (Form.Sequence l r) = inl refl
cases_joints Join.Or (Form.Or l r) = inr (l, r, refl, refl)
cases_joints Join.Or (Form.And l r) = inl refl
cases_joints Join.Or (Form.Star l) = inl refl
cases_joints Join.Or (Form.Not l) = inl refl
cases_joints Join.And Form.None = inl refl
cases_joints Join.And Form.Empty = inl refl
cases_joints Join.And Form.Any = inl refl
cases_joints Join.And (Form.Atom k) = inl refl
cases_joints Join.And (Form.Sequence l r) = inl refl
cases_joints Join.And (Form.Or l r) = inl refl
cases_joints Join.And (Form.And l r) = inr (l, r, refl, refl)
cases_joints Join.And (Form.Star l) = inl refl
cases_joints Join.And (Form.Not l) = inl refl

joined_parts : (j : Join) (n l r : ℕ) → Parts n (joined j l r) → (l < n) × (r < n)
joined_parts Join.Or n l r h = h
joined_parts Join.And n l r h = h

joined_below : (j : Join) (n l r : ℕ) → l < n → r < n → Below n (joined j l r)
joined_below Join.Or n l r h g = (h, g)
joined_below Join.And n l r h g = (h, g)

pub means-joined : (j : Join) (p : List Node) (l r : ℕ) → means p (joined j l r) ≡ rule_join j (meaning p l) (meaning p r)
means-joined Join.Or p l r = refl
means-joined Join.And p l r = refl

module _ (j : Join) (p : List Node) (sound : Sound p) where
  -- The members of a node are nodes, at least one, and join to what it means.
  all_members : (k n : ℕ) → n < length p → Same (all j p (members j p k n)) (meaning p n)
  unfolding members
  all_members zero n h = unit_right j (meaning p n)
  all_members (suc k) n h = elim (cases_joints j (form_at p n)) [
    | inl e ↦ rw e (unit_right j (meaning p n))
    | inr w ↦
        let parts = (form_at_lem p sound n h).0 in
        let q = joined_parts j n w.0 w.1 (rw w.2 at parts) in
        rw w.3 (same_trans _ (rule_join j (meaning p w.0) (meaning p w.1)) _
        ((joins j).keeps _ _ _ _ (same_refl (meaning p w.0)) (all_members k w.1 (omega (arith, q.1, h))))
        (same_path _ _ (sym (meaning_form p sound n h ∙ (ap (means p) w.2 ∙ means-joined j p w.0 w.1)))))
  ]

  members_there : (k n : ℕ) → n < length p → AllByRecursion (λ m. m < length p) (members j p k n)
  unfolding members
  members_there zero n h = (h, tt)
  members_there (suc k) n h = elim (cases_joints j (form_at p n)) [
    | inl e ↦ rw e (h, tt)
    | inr w ↦
        let parts = (form_at_lem p sound n h).0 in
        let q = joined_parts j n w.0 w.1 (rw w.2 at parts) in
        rw w.3 (omega (arith, q.0, h), members_there k w.1 (omega (arith, q.1, h)))
  ]

abbrev Filled : List ℕ → Type 0
Filled zs = (x : ℕ) × (xs : List ℕ) × (zs ≡ x ∷ xs)

members_by-filled : (rest : ℕ → List ℕ) (n : ℕ) (o : Option (ℕ × ℕ)) → Filled (members_by rest n o)
members_by-filled rest n (Some lr) = (lr.0, rest lr.1, refl)
members_by-filled rest n None = (n, [], refl)

members-filled : (j : Join) (p : List Node) (k n : ℕ) → Filled (members j p k n)
unfolding members
members-filled j p zero n = (n, [], refl)
members-filled j p (suc k) n = members_by-filled (members j p k) n (joints j (form_at p n))

weave-filled : (x : ℕ) (rest : List ℕ → List ℕ) (ys : List ℕ) → Filled (weave x rest ys)
weave-filled x rest [] = (x, rest [], refl)
weave-filled x rest (y ∷ ys) = cond_both (ltb x y) _ _ Filled (λ e. (x, rest (y ∷ ys), refl))
    (λ e. cond_both (eqb x y) _ _ Filled (λ f. (x, rest ys, refl)) (λ f. (y, weave x rest ys, refl)))

merge-filled : (xs ys : List ℕ) → Filled xs → Filled (merge xs ys)
merge-filled xs ys w = rw w.2 (weave-filled w.0 (merge w.1) ys)

weave_all : (P : ℕ → Type 0) (x : ℕ) (rest : List ℕ → List ℕ) → P x → ((zs : List ℕ) → AllByRecursion P zs → AllByRecursion P (rest zs)) →
    (ys : List ℕ) → AllByRecursion P ys → AllByRecursion P (weave x rest ys)
weave_all P x rest h more [] a = (h, more [] tt)
weave_all P x rest h more (y ∷ ys) a = cond_both (ltb x y) _ _ (AllByRecursion P) (λ e. (h, more (y ∷ ys) a))
    (λ e. cond_both (eqb x y) _ _ (AllByRecursion P) (λ f. (h, more ys a.1)) (λ f. (a.0, weave_all P x rest h more ys a.1)))

merge_all : (P : ℕ → Type 0) (xs : List ℕ) → AllByRecursion P xs → (ys : List ℕ) → AllByRecursion P ys → AllByRecursion P (merge xs ys)
merge_all P [] a ys b = b
merge_all P (x ∷ xs) a ys b = weave_all P x (merge xs) a.0 (merge_all P xs a.1) ys b

module _ (j : Join) (p : List Node) where
  abbrev J : Rule → Rule → Rule
  J = rule_join j

  -- A member from the second list goes in front of the first.
  turn : (x X y Y : Rule) → Same (J y (J x (J X Y))) (J x (J X (J y Y)))
  turn x X y Y = same_trans (J y (J x (J X Y))) (J x (J y (J X Y))) (J x (J X (J y Y)))
      (joins_second J (joins j) y x (J X Y))
      ((joins j).keeps x x (J y (J X Y)) (J X (J y Y)) (same_refl x) (joins_second J (joins j) y X Y))

  -- A member of both lists counts once.
  once : (x X Y : Rule) → Same (J x (J X Y)) (J x (J X (J x Y)))
  once x X Y = same_sym (J x (J X (J x Y))) (J x (J X Y)) (same_trans (J x (J X (J x Y))) (J x (J x (J X Y))) (J x (J X Y))
      ((joins j).keeps x x (J X (J x Y)) (J x (J X Y)) (same_refl x) (joins_second J (joins j) X x Y))
      (joins_again J (joins j) x (J X Y)))

  all_weave : (x : ℕ) (X : Rule) (rest : List ℕ → List ℕ) → ((zs : List ℕ) → Same (all j p (rest zs)) (J X (all j p zs))) →
      (ys : List ℕ) → Same (all j p (weave x rest ys)) (J (meaning p x) (J X (all j p ys)))
  all_weave x X rest more [] = (joins j).keeps _ _ _ _ (same_refl (meaning p x)) (more [])
  all_weave x X rest more (y ∷ ys) = cond_both (ltb x y) _ _ Goal
      (λ e. (joins j).keeps _ _ _ _ (same_refl (meaning p x)) (more (y ∷ ys)))
      (λ e. cond_both (eqb x y) _ _ Goal
      (λ f. same_trans _ (J (meaning p x) (J X (all j p ys))) _
      ((joins j).keeps _ _ _ _ (same_refl (meaning p x)) (more ys))
      (rw (← eqb-true x y f) (once (meaning p x) X (all j p ys))))
      (λ f. same_trans _ (J (meaning p y) (J (meaning p x) (J X (all j p ys)))) _
      ((joins j).keeps _ _ _ _ (same_refl (meaning p y)) (all_weave x X rest more ys))
      (turn (meaning p x) X (meaning p y) (all j p ys))))
    where
      Goal : List ℕ → Type 0
      Goal zs = Same (all j p zs) (J (meaning p x) (J X (J (meaning p y) (all j p ys))))

  all_merge : (xs ys : List ℕ) → Same (all j p (merge xs ys)) (J (all j p xs) (all j p ys))
  all_merge [] ys = same_sym (J (unit j) (all j p ys)) (all j p ys) (unit_left j (all j p ys))
  all_merge (x ∷ xs) ys = same_trans _ (J (meaning p x) (J (all j p xs) (all j p ys))) _
      (all_weave x (all j p xs) (merge xs) (all_merge xs) ys)
      (same_sym _ _ ((joins j).grouped (meaning p x) (all j p xs) (all j p ys)))

comes_chained : (j : Join) (x : ℕ) (xs : List ℕ) (h : Held) → Sound h.used → AllByRecursion (λ m. m < length h.used) (x ∷ xs) →
    Comes h (all j h.used (x ∷ xs)) (chained j (x ∷ xs) h)
comes_chained j x [] h sound a = comes_here h _ x sound a.0 (same_sym _ _ (unit_right j (meaning h.used x)))
comes_chained j x (y ∷ ys) h sound a = comes_bind h (all j h.used (y ∷ ys)) _ (chained j (y ∷ ys) h).0 (chained j (y ∷ ys) h).1 (λ r g. kept (joined j x r) g)
    (comes_chained j y ys h sound a.1)
    (λ r sound' grown there same.
    let g = (chained j (y ∷ ys) h).1 in
    let up = grown_length h.used g.used grown in
    comes_same g (means g.used (joined j x r)) _ (kept (joined j x r) g)
    (same_trans _ (rule_join j (meaning g.used x) (meaning g.used r)) _
    (same_path _ _ (means-joined j g.used x r))
    ((joins j).keeps _ _ _ _ (same_path _ _ (grown_meaning h.used g.used grown x a.0)) same))
    (comes_kept g (joined j x r) sound' (joined_below j (length g.used) x r (omega (arith, up, a.0)) there)))

pub comes_merged : (j : Join) (l r : ℕ) (h : Held) → Sound h.used → l < length h.used → r < length h.used →
    Comes h (rule_join j (meaning h.used l) (meaning h.used r)) (merged j l r h)
unfolding merged
comes_merged j l r h sound below under =
    let p = h.used in
    let ls = members j p (suc l) l in
    let rs = members j p (suc r) r in
    let w = merge-filled ls rs (members-filled j p (suc l) l) in
    let there = merge_all (λ m. m < length p) ls (members_there j p sound (suc l) l below) rs (members_there j p sound (suc r) r under) in
    comes_same h (all j p (merge ls rs)) _ (chained j (merge ls rs) h)
    (same_trans _ (rule_join j (all j p ls) (all j p rs)) _ (all_merge j p ls rs)
    ((joins j).keeps _ _ _ _ (all_members j p sound (suc l) l below) (all_members j p sound (suc r) r under)))
    (rw w.2 (comes_chained j w.0 w.1 h sound (rw w.2 at there)))
