-- Sound pools: what their nodes are read as, what they mean, that flags are right, and that appending keeps them sound.
--   raw x           the form of a record by its kind and fields as they stand
-- Assumes nothing.
use Rattle.std.proofs.Common.{◌≡◌, ℕ, zero, suc, ◌+◌, ◌<◌, ◌≤◌, Bool, true, false, cond, not, eqb, ltb, List, [], ◌∷◌, ◌++◌, length, get_or, take, drop, sym, refl, ap, ◌∙◌, subst, inl, inr, append_assoc, not-suc-le-zero, arith}
use Rattle.std.proofs.lemmas.List.{get_or_append_left, length-append, length_push, get_or_push, take-append-drop, length-take-le, drop_more}
use Rattle.std.proofs.lemmas.Bool.{cases_lt, lt-ltb, ne_eqb, cond-true, cond-false}
use Rattle.languages.specs.Rules.{Rule, none, empty, any, nullable}
use Rattle.nodes.specs.declared.node.Node.{Node}
use Rattle.nodes.specs.declared.node.NodeKind.{NodeKind}
use Rattle.nodes.specs.declared.node.NodeKind.TheVariants as Kind
use Rattle.nodes.specs.declared.form.Form.{Form}
use Rattle.nodes.specs.Records.{none_node, first_nodes}
use Rattle.nodes.specs.Reading.{at, part, form_by, form_at, nullable_at}
use Rattle.nodes.specs.Entering.{recorded}
use Rattle.nodes.specs.Soundness.{Below, Sound}
use Rattle.nodes.specs.Meaning.{meaning, means}
use Rattle.nodes.specs.Promises.{Parts}
use Rattle.nodes.proofs.Growing.{recorded-append, meaning-append, means-append, meaning_next}

abbrev raw_by : NodeKind → ℕ → ℕ → Form
raw_by Kind.None l r = Form.None
raw_by Kind.Empty l r = Form.Empty
raw_by Kind.Any l r = Form.Any
raw_by Kind.Atom l r = Form.Atom l
raw_by Kind.Sequence l r = Form.Sequence l r
raw_by Kind.Or l r = Form.Or l r
raw_by Kind.And l r = Form.And l r
raw_by Kind.Star l r = Form.Star l
raw_by Kind.Not l r = Form.Not l

abbrev pub raw : Node → Form
raw x = raw_by x.kind x.left x.right

pub raw_recorded : (p : List Node) (f : Form) → raw (recorded p f) ≡ f
raw_recorded p Form.None = refl
raw_recorded p Form.Empty = refl
raw_recorded p Form.Any = refl
raw_recorded p (Form.Atom k) = refl
raw_recorded p (Form.Sequence l r) = refl
raw_recorded p (Form.Or l r) = refl
raw_recorded p (Form.And l r) = refl
raw_recorded p (Form.Star l) = refl
raw_recorded p (Form.Not l) = refl

pub parts_from_below : (n : ℕ) (f : Form) → Below n f → Parts n f
parts_from_below n Form.None h = tt
parts_from_below n Form.Empty h = tt
parts_from_below n Form.Any h = tt
parts_from_below n (Form.Atom k) h = h
parts_from_below n (Form.Sequence l r) h = h
parts_from_below n (Form.Or l r) h = h
parts_from_below n (Form.And l r) h = h
parts_from_below n (Form.Star l) h = h
parts_from_below n (Form.Not l) h = h

pub parts_up : (m n : ℕ) (f : Form) → m ≤ n → Parts m f → Parts n f
parts_up m n Form.None l h = tt
parts_up m n Form.Empty l h = tt
parts_up m n Form.Any l h = tt
parts_up m n (Form.Atom k) l h = h
parts_up m n (Form.Sequence a b) l h = (omega (arith, h.0), omega (arith, h.1))
parts_up m n (Form.Or a b) l h = (omega (arith, h.0), omega (arith, h.1))
parts_up m n (Form.And a b) l h = (omega (arith, h.0), omega (arith, h.1))
parts_up m n (Form.Star a) l h = omega (arith, h)
parts_up m n (Form.Not a) l h = omega (arith, h)

part_below : (n m : ℕ) → m < n → part n m ≡ m
part_below n m h = cond-true (ltb m n) m 0 (lt-ltb m n h)

-- A record of a form with parts below n is read, at n, as that form.
pub form_by-recorded : (p : List Node) (n : ℕ) (f : Form) → Parts n f → (form_by (recorded p f).kind n (recorded p f).left (recorded p f).right) ≡ f
form_by-recorded p n Form.None h = refl
form_by-recorded p n Form.Empty h = refl
form_by-recorded p n Form.Any h = refl
form_by-recorded p n (Form.Atom k) h = refl
form_by-recorded p n (Form.Sequence l r) h = rw (part_below n l h.0, part_below n r h.1)
form_by-recorded p n (Form.Or l r) h = rw (part_below n l h.0, part_below n r h.1)
form_by-recorded p n (Form.And l r) h = rw (part_below n l h.0, part_below n r h.1)
form_by-recorded p n (Form.Star l) h = rw (part_below n l h)
form_by-recorded p n (Form.Not l) h = rw (part_below n l h)

-- Each node of a sound pool is the record of a form over smaller nodes.
module _ (p : List Node) (sound : Sound p) where
  pub four : 4 ≤ length p
  four = rw (sound.begins.1, length-append first_nodes sound.begins.0) (omega arith)

  first-is : (n : ℕ) → n < 4 → get_or p n none_node ≡ get_or first_nodes n none_node
  first-is n h = ap (λ q. get_or q n none_node) sound.begins.1 ∙ get_or_append_left first_nodes sound.begins.0 none_node n h

  record_at : (n : ℕ) → n < length p → (f : Form) × Parts n f × (get_or p n none_node ≡ recorded p f)
  record_at zero h = (Form.None, tt, first-is 0 (omega arith))
  record_at (suc zero) h = (Form.Empty, tt, first-is 1 (omega arith))
  record_at (suc (suc zero)) h = (Form.Any, tt, first-is 2 (omega arith))
  record_at (suc (suc (suc zero))) h = (Form.Not 0, omega arith, first-is 3 (omega arith))
  record_at (suc (suc (suc (suc n)))) h =
      let w = sound.later (suc (suc (suc (suc n)))) (omega arith) h in
      (w.0, parts_from_below (suc (suc (suc (suc n)))) w.0 w.1, w.2)

  -- and is read as that form.
  at-is : (n : ℕ) → at p n ≡ get_or p n none_node
  at-is zero = sym (first-is 0 (omega arith))
  at-is (suc n) = cond-false (eqb (suc n) 0) none_node (get_or p (suc n) none_node) (ne_eqb (suc n) 0 (λ e. omega (arith, e)))

  pub form_at_lem : (n : ℕ) → n < length p → (Parts n (form_at p n)) × (get_or p n none_node ≡ recorded p (form_at p n))
  form_at_lem n h =
      let w = record_at n h in
      let e = ap (λ x. form_by x.kind n x.left x.right) (at-is n ∙ w.2) ∙ form_by-recorded p n w.0 w.1 in
      (rw e w.1, rw e w.2)

  pub form_at_raw : (n : ℕ) → n < length p → form_at p n ≡ raw (get_or p n none_node)
  form_at_raw n h = sym (raw_recorded p (form_at p n)) ∙ ap raw (sym (form_at_lem n h).1)

  -- The node n, with those before and behind it.
  split_at : (n : ℕ) → n < length p → p ≡ take n p ++ (get_or p n none_node ∷ drop (n + 1) p)
  split_at n h = sym (take-append-drop n p) ∙ ap (λ q. take n p ++ q) (drop_more p n none_node h)

  pub meaning_form : (n : ℕ) → n < length p → meaning p n ≡ means p (form_at p n)
  meaning_form n h =
      let x = get_or p n none_node in
      let w = form_at_lem n h in
      let k = length-take-le n p (omega (arith, h)) in
      let split = split_at n h in
      let there = ap (λ q. meaning q n) split ∙ (ap (meaning (take n p ++ (x ∷ drop (n + 1) p))) (sym k) ∙ meaning_next (take n p) x (drop (n + 1) p)) in
      let form = ap (λ m. form_by x.kind m x.left x.right) k ∙ (ap (λ y. form_by y.kind n y.left y.right) w.1 ∙ form_by-recorded p n (form_at p n) w.0) in
      there ∙ (ap (means (take n p)) form
      ∙ (sym (means-append (take n p) (x ∷ drop (n + 1) p) (form_at p n) (rw k w.0))
      ∙ ap (λ q. means q (form_at p n)) (sym split)))

  not_is : (b : Bool) → not b ≡ cond b false true
  not_is true = refl
  not_is false = refl

  -- The flags of the parts being right, so is that of the record.
  flag_recorded : (n : ℕ) (f : Form) → ((m : ℕ) → m < n → nullable_at p m ≡ nullable (meaning p m)) → Parts n f → (recorded p f).nullable ≡ nullable (means p f)
  flag_recorded n Form.None right h = refl
  flag_recorded n Form.Empty right h = refl
  flag_recorded n Form.Any right h = refl
  flag_recorded n (Form.Atom k) right h = refl
  flag_recorded n (Form.Sequence l r) right h = rw (right l h.0, right r h.1)
  flag_recorded n (Form.Or l r) right h = rw (right l h.0, right r h.1)
  flag_recorded n (Form.And l r) right h = rw (right l h.0, right r h.1)
  flag_recorded n (Form.Star l) right h = refl
  flag_recorded n (Form.Not l) right h = ap not (right l h) ∙ not_is (nullable (meaning p l))

  flag_below : (k n : ℕ) → n < k → n < length p → nullable_at p n ≡ nullable (meaning p n)
  flag_below zero n l h = absurd (not-suc-le-zero l)
  flag_below (suc k) n l h =
      let w = form_at_lem n h in
      ap (λ x. x.nullable) (at-is n ∙ w.1)
      ∙ (flag_recorded n (form_at p n) (λ m g. flag_below k m (omega (arith, g, l)) (omega (arith, g, h))) w.0
      ∙ ap nullable (sym (meaning_form n h)))

  pub flag_right : (n : ℕ) → n < length p → nullable_at p n ≡ nullable (meaning p n)
  flag_right n h = flag_below (n + 1) n (omega arith) h

pub sound_push : (p : List Node) (f : Form) → Sound p → Below (length p) f → Sound (p ++ (recorded p f ∷ []))
sound_push p f sound below = record {
  begins = (sound.begins.0 ++ (x ∷ []), ap (λ q. q ++ (x ∷ [])) sound.begins.1 ∙ append_assoc first_nodes sound.begins.0 (x ∷ []));
  later = λ n four there. elim (cases_lt n (length p)) [
    | inl old ↦
        let w = sound.later n four old in (
          w.0,
          w.1,
          get_or_append_left p (x ∷ []) none_node n old
              ∙ (w.2 ∙ sym (recorded-append p (x ∷ []) w.0 (parts_up n (length p) w.0 (omega (arith, old)) (parts_from_below n w.0 w.1)))),
        )
    | inr new ↦ (
      f,
      subst (λ m. Below m f) (next n new there) below,
      get_or_push p x none_node n (next n new there)
          ∙ sym (recorded-append p (x ∷ []) f (parts_from_below (length p) f below)),
    )
  ];
}
  where
    x : Node
    x = recorded p f

    next : (n : ℕ) → length p ≤ n → n < length (p ++ (x ∷ [])) → length p ≡ n
    next n new there = let t = rw (length_push p x) at there in omega (arith, new, t)

-- The nodes 0 to 3 of a sound pool mean none, empty, any, and not of none.
module _ (p : List Node) (sound : Sound p) where
  first-means : (n : ℕ) → n < 4 → meaning p n ≡ meaning first_nodes n
  first-means n h = ap (λ q. meaning q n) sound.begins.1 ∙ meaning-append first_nodes sound.begins.0 n h

  pub means_none : meaning p 0 ≡ none
  means_none = first-means 0 (omega arith)

  pub means_empty : meaning p 1 ≡ empty
  means_empty = first-means 1 (omega arith)

  pub means_any : meaning p 2 ≡ any
  means_any = first-means 2 (omega arith)

  pub means_all : meaning p 3 ≡ Rule.not none
  means_all = first-means 3 (omega arith)
