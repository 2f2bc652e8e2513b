-- Deriving a node comes to the derivative of its rule, and entering a whole rule comes to that rule.
--   Pairs f op      the form f of two nodes is the rule op of what they mean
-- Assumes nothing.
use Rattle.std.proofs.Common.{◌≡◌, ℕ, zero, suc, ◌<◌, Bool, true, false, cond, List, length, Ok, sym, refl, ◌∙◌, subst, not-suc-le-zero, arith}
use Rattle.languages.specs.Rules.{Rule, Same, has, nullable, derivative}
use Rattle.languages.proofs.Laws.{same_trans, same_sequence, same_or, same_and, same_star, same_not}
use Rattle.nodes.specs.declared.node.Node.{Node}
use Rattle.nodes.specs.declared.form.Form.{Form}
use Rattle.nodes.specs.Reading.{form_at, nullable_at}
use Rattle.nodes.specs.Entering.{Held, Out, bind, entered}
use Rattle.nodes.specs.Deriving.{or_right, derived_by, derived}
use Rattle.nodes.specs.Soundness.{Sound}
use Rattle.nodes.specs.Meaning.{meaning, means}
use Rattle.nodes.specs.Promises.{Parts, Grown, Comes}
use Rattle.nodes.specs.Trees.{entered_tree, Few}
use Rattle.nodes.proofs.Sounding.{four, form_at_lem, meaning_form, flag_right, means_none, means_empty}
use Rattle.nodes.proofs.Coming.{same_path, grown_itself, grown_on, grown_length, grown_meaning, comes_here, comes_same, comes_bind}
use Rattle.nodes.proofs.Entered.{comes_entered}

record Pairs (f : ℕ → ℕ → Form) (op : Rule → Rule → Rule) : Type 0 where
  parts : (n l r : ℕ) → l < n → r < n → Parts n (f l r)
  says : (p : List Node) (l r : ℕ) → means p (f l r) ≡ op (meaning p l) (meaning p r)
  keeps : (a b c d : Rule) → Same a b → Same c d → Same (op a c) (op b d)

sequences : Pairs Form.Sequence Rule.sequence
sequences = record { parts = λ n l r h g. (h, g); says = λ p l r. refl; keeps = same_sequence }

ors : Pairs Form.Or Rule.or
ors = record { parts = λ n l r h g. (h, g); says = λ p l r. refl; keeps = same_or }

ands : Pairs Form.And Rule.and
ands = record { parts = λ n l r h g. (h, g); says = λ p l r. refl; keeps = same_and }

-- A form of two nodes that are there.
comes_pair : (f : ℕ → ℕ → Form) (op : Rule → Rule → Rule) → Pairs f op → (h : Held) (l r : ℕ) (a b : Rule) → Sound h.used →
    l < length h.used → r < length h.used → Same (meaning h.used l) a → Same (meaning h.used r) b → Comes h (op a b) (entered (f l r) h)
comes_pair f op pairs h l r a b sound below under same like =
    comes_same h (means h.used (f l r)) (op a b) (entered (f l r) h)
    (same_trans _ (op (meaning h.used l) (meaning h.used r)) _ (same_path _ _ (pairs.says h.used l r)) (pairs.keeps _ _ _ _ same like))
    (comes_entered h sound (f l r) (pairs.parts (length h.used) l r below under))

same_grown : (p q : List Node) (n : ℕ) (a : Rule) → Grown p q → n < length p → Same (meaning p n) a → Same (meaning q n) a
same_grown p q n a grown below same = rw (grown_meaning p q grown n below) same

-- One node, then another, then the form of the two.
comes_two : (f : ℕ → ℕ → Form) (op : Rule → Rule → Rule) → Pairs f op → (h : Held) (a b : Rule) (o : Out) (next : Held → Out) → Comes h a o →
    ((g : Held) → Sound g.used → Grown h.used g.used → Comes g b (next g)) →
    Comes h (op a b) (bind o (λ l g. bind (next g) (λ r i. entered (f l r) i)))
comes_two f op pairs h a b o next c more = comes_bind h a (op a b) o.0 o.1 _ c (λ l sound grown there same.
    let g = o.1 in
    comes_bind g b (op a b) (next g).0 (next g).1 _ (more g sound grown) (λ r sound' grown' there' same'.
    let i = (next g).1 in
    comes_pair f op pairs i l r a b sound' (omega (arith, there, grown_length g.used i.used grown')) there'
    (same_grown g.used i.used l a grown' there same) same'))

comes_negated : (h : Held) (a : Rule) (o : Out) → Comes h a o → Comes h (Rule.not a) (bind o (λ l g. entered (Form.Not l) g))
comes_negated h a o c = comes_bind h a (Rule.not a) o.0 o.1 _ c (λ l sound grown there same.
    comes_same o.1 (Rule.not (meaning o.1.used l)) (Rule.not a) _ (same_not _ _ same) (comes_entered o.1 sound (Form.Not l) there))

comes_starred : (h : Held) (a : Rule) (o : Out) → Comes h a o → Comes h (Rule.star a) (bind o (λ l g. entered (Form.Star l) g))
comes_starred h a o c = comes_bind h a (Rule.star a) o.0 o.1 _ c (λ l sound grown there same.
    comes_same o.1 (Rule.star (meaning o.1.used l)) (Rule.star a) _ (same_star _ _ same) (comes_entered o.1 sound (Form.Star l) there))

pub comes_tree : (t : Rule) (h : Held) → Few t → Sound h.used → Comes h t (entered_tree t h)
comes_tree Rule.none h few sound = comes_entered h sound Form.None tt
comes_tree Rule.empty h few sound = comes_entered h sound Form.Empty tt
comes_tree Rule.any h few sound = comes_entered h sound Form.Any tt
comes_tree (Rule.atom k) h few sound = comes_entered h sound (Form.Atom k) few
comes_tree (Rule.sequence r q) h few sound = comes_two Form.Sequence Rule.sequence sequences h r q (entered_tree r h) (entered_tree q) (comes_tree r h few.0 sound) (λ g s grown. comes_tree q g few.1 s)
comes_tree (Rule.or r q) h few sound = comes_two Form.Or Rule.or ors h r q (entered_tree r h) (entered_tree q) (comes_tree r h few.0 sound) (λ g s grown. comes_tree q g few.1 s)
comes_tree (Rule.and r q) h few sound = comes_two Form.And Rule.and ands h r q (entered_tree r h) (entered_tree q) (comes_tree r h few.0 sound) (λ g s grown. comes_tree q g few.1 s)
comes_tree (Rule.star r) h few sound = comes_starred h r (entered_tree r h) (comes_tree r h few sound)
comes_tree (Rule.not r) h few sound = comes_negated h r (entered_tree r h) (comes_tree r h few sound)

-- Where smaller nodes are derived rightly, so is a node.
module _ (s : ℕ) (rec : ℕ → Held → Out) (n : ℕ)
    (right : (g : Held) (l : ℕ) → l < n → Sound g.used → l < length g.used → Comes g (derivative s (meaning g.used l)) (rec l g)) where
  module _ (h : Held) (sound : Sound h.used) (there : n < length h.used) where
    abbrev m : ℕ → Rule
    m l = meaning h.used l

    -- The derivative of a part, in a pool that has grown.
    later : (g : Held) → Sound g.used → Grown h.used g.used → (l : ℕ) → l < n → Comes g (derivative s (m l)) (rec l g)
    later g sound' grown l below =
        let up = grown_length h.used g.used grown in
        subst (λ r. Comes g (derivative s r) (rec l g)) (grown_meaning h.used g.used grown l (omega (arith, below, there)))
        (right g l below sound' (omega (arith, below, there, up)))

    now : (l : ℕ) → l < n → Comes h (derivative s (m l)) (rec l h)
    now l below = later h sound (grown_itself h.used) l below

    atom_derived : (b : Bool) → Comes h (cond b Rule.empty Rule.none) (Ok (cond b 1 0), h)
    atom_derived true = comes_here h Rule.empty 1 sound (omega (arith, four h.used sound)) (same_path _ _ (means_empty h.used sound))
    atom_derived false = comes_here h Rule.none 0 sound (omega (arith, four h.used sound)) (same_path _ _ (means_none h.used sound))

    -- What a sequence adds: nothing, or the derivative of its right part.
    right_added : (b : Bool) (r q : ℕ) (a : Rule) (i : Held) → r < n → Sound i.used → Grown h.used i.used → q < length i.used → Same (meaning i.used q) a →
        Comes i (cond b (Rule.or a (derivative s (m r))) a) (or_right rec b r q i)
    right_added false r q a i below sound' grown there' same = comes_here i a q sound' there' same
    right_added true r q a i below sound' grown there' same =
        comes_bind i (derivative s (m r)) (Rule.or a (derivative s (m r))) (rec r i).0 (rec r i).1 _ (later i sound' grown r below) (λ e sound'' grown'' there'' like.
        let g = (rec r i).1 in
        comes_pair Form.Or Rule.or ors g q e a (derivative s (m r)) sound'' (omega (arith, there', grown_length i.used g.used grown'')) there''
        (same_grown i.used g.used q a grown'' there' same) like)

    sequence_derived : (l r : ℕ) → l < n → r < n →
        Comes h (derivative s (Rule.sequence (m l) (m r)))
        (bind (rec l h) (λ d g. bind (entered (Form.Sequence d r) g) (λ q i. or_right rec (nullable_at h.used l) r q i)))
    sequence_derived l r below under =
        let a = Rule.sequence (derivative s (m l)) (m r) in
        rw (flag_right h.used sound l (omega (arith, below, there)))
        (comes_bind h (derivative s (m l)) _ (rec l h).0 (rec l h).1 _ (now l below) (λ d sound' grown there' same.
        let g = (rec l h).1 in
        let up = grown_length h.used g.used grown in
        comes_bind g a _ (entered (Form.Sequence d r) g).0 (entered (Form.Sequence d r) g).1 _
        (comes_pair Form.Sequence Rule.sequence sequences g d r (derivative s (m l)) (m r) sound' there' (omega (arith, under, there, up)) same
        (same_path _ _ (grown_meaning h.used g.used grown r (omega (arith, under, there)))))
        (λ q sound'' grown'' there'' like.
        let i = (entered (Form.Sequence d r) g).1 in
        right_added (nullable (m l)) r q a i under sound'' (grown_on h.used g.used i.used grown grown'') there'' like)))

    star_derived : (l : ℕ) → l < n → m n ≡ Rule.star (m l) → Comes h (derivative s (Rule.star (m l))) (bind (rec l h) (λ d g. entered (Form.Sequence d n) g))
    star_derived l below star = comes_bind h (derivative s (m l)) _ (rec l h).0 (rec l h).1 _ (now l below) (λ d sound' grown there' same.
        let g = (rec l h).1 in
        let up = grown_length h.used g.used grown in
        comes_pair Form.Sequence Rule.sequence sequences g d n (derivative s (m l)) (Rule.star (m l)) sound' there' (omega (arith, there, up)) same
        (same_path _ _ (grown_meaning h.used g.used grown n there ∙ star)))

    step : (f : Form) → Parts n f → m n ≡ means h.used f → Comes h (derivative s (means h.used f)) (derived_by rec s n h.used f h)
    step Form.None parts e = atom_derived false
    step Form.Empty parts e = atom_derived false
    step Form.Any parts e = atom_derived true
    step (Form.Atom k) parts e = atom_derived (has k s)
    step (Form.Sequence l r) parts e = sequence_derived l r parts.0 parts.1
    step (Form.Or l r) parts e = comes_two Form.Or Rule.or ors h (derivative s (m l)) (derivative s (m r)) (rec l h) (rec r) (now l parts.0) (λ g sound' grown. later g sound' grown r parts.1)
    step (Form.And l r) parts e = comes_two Form.And Rule.and ands h (derivative s (m l)) (derivative s (m r)) (rec l h) (rec r) (now l parts.0) (λ g sound' grown. later g sound' grown r parts.1)
    step (Form.Star l) parts e = star_derived l parts e
    step (Form.Not l) parts e = comes_negated h (derivative s (m l)) (rec l h) (now l parts)

pub comes_derived : (k s n : ℕ) (h : Held) → Sound h.used → n < length h.used → n < k → Comes h (derivative s (meaning h.used n)) (derived k s n h)
unfolding derived
comes_derived zero s n h sound there fuel = absurd (not-suc-le-zero fuel)
comes_derived (suc k) s n h sound there fuel =
    let e = meaning_form h.used sound n there in
    subst (λ r. Comes h (derivative s r) (derived_by (derived k s) s n h.used (form_at h.used n) h)) (sym e)
    (step s (derived k s) n (λ g l below sound' there'. comes_derived k s l g sound' there' (omega (arith, below, fuel))) h sound there
    (form_at h.used n) (form_at_lem h.used sound n there).0 e)
