-- Outcomes that come to a rule: at once, one after the other, and by interning a record.
-- Assumes nothing.
use Rattle.std.specs.Prelude.{IfOk}
use Rattle.std.proofs.Common.{◌≡◌, ℕ, ◌<◌, ◌≤◌, List, [], ◌∷◌, ◌++◌, length, get_or, Some, None, Ok, Err, Option, Result, sym, refl, ap, ◌∙◌, append_assoc, append-nil, arith}
use Rattle.std.proofs.lemmas.List.{length-append, length_push, get_or_at}
use Rattle.languages.specs.Rules.{Rule, Same}
use Rattle.languages.proofs.Laws.{same_refl, same_trans}
use Rattle.numbering.specs.Finding.{first_equal, First}
use Rattle.numbering.proofs.Finding.{first}
use Rattle.refusals.specs.declared.Refusal.{Refusal}
use Rattle.nodes.specs.declared.node.Node.{Node}
use Rattle.nodes.specs.declared.form.Form.{Form}
use Rattle.nodes.specs.Records.{none_node, same_node}
use Rattle.nodes.specs.Entering.{Held, Out, bind_by, recorded, appended, interned_by, interned, kept}
use Rattle.nodes.specs.Soundness.{Below, Sound}
use Rattle.nodes.specs.Meaning.{meaning, means}
use Rattle.nodes.specs.Promises.{Grown, Comes}
use Rattle.nodes.proofs.Growing.{meaning-append, meaning_next}
use Rattle.nodes.specs.Sameness.{same_exact}
use Rattle.nodes.proofs.Sounding.{raw, raw_recorded, parts_from_below, form_by-recorded, form_at_raw, meaning_form, sound_push}

pub same_path : (r q : Rule) → r ≡ q → Same r q
same_path r q e = rw e (same_refl q)

pub grown_itself : (p : List Node) → Grown p p
grown_itself p = ([], sym (append-nil p))

pub grown_on : (p q s : List Node) → Grown p q → Grown q s → Grown p s
grown_on p q s g h = (g.0 ++ h.0, h.1 ∙ (ap (λ z. z ++ h.0) g.1 ∙ append_assoc p g.0 h.0))

pub grown_length : (p q : List Node) → Grown p q → length p ≤ length q
grown_length p q g = let e = ap length g.1 ∙ length-append p g.0 in omega (arith, e)

pub grown_meaning : (p q : List Node) → Grown p q → (n : ℕ) → n < length p → meaning q n ≡ meaning p n
grown_meaning p q g n h = ap (λ z. meaning z n) g.1 ∙ meaning-append p g.0 n h

-- An outcome from its three facts.
comes_from : (h : Held) (r : Rule) (o : Out) → Sound o.1.used → Grown h.used o.1.used →
    IfOk o.0 (λ n. (n < length o.1.used) × Same (meaning o.1.used n) r) → Comes h r o
comes_from h r o sound grown answer = record { sound = sound; grown = grown; keeps = grown_meaning h.used o.1.used grown; answer = answer }

-- A node that is there already.
pub comes_here : (h : Held) (r : Rule) (n : ℕ) → Sound h.used → n < length h.used → Same (meaning h.used n) r → Comes h r (Ok n, h)
comes_here h r n sound there same = comes_from h r (Ok n, h) sound (grown_itself h.used) (there, same)

same_answer : (g : Held) (r q : Rule) → Same r q → (a : Result ℕ Refusal) →
    IfOk a (λ n. (n < length g.used) × Same (meaning g.used n) r) → IfOk a (λ n. (n < length g.used) × Same (meaning g.used n) q)
same_answer g r q same (Ok n) w = (w.0, same_trans (meaning g.used n) r q w.1 same)
same_answer g r q same (Err e) w = tt

pub comes_same : (h : Held) (r q : Rule) (o : Out) → Same r q → Comes h r o → Comes h q o
comes_same h r q o same c = comes_from h q o c.sound c.grown (same_answer o.1 r q same o.0 c.answer)

pub comes_after : (h g : Held) (r : Rule) (o : Out) → Grown h.used g.used → Comes g r o → Comes h r o
comes_after h g r o grown c = comes_from h r o c.sound (grown_on h.used g.used o.1.used grown c.grown) c.answer

-- One outcome, and then another from the node answered.
pub comes_bind : (h : Held) (r q : Rule) (a : Result ℕ Refusal) (g : Held) (f : ℕ → Held → Out) → Comes h r (a, g) →
    ((n : ℕ) → Sound g.used → Grown h.used g.used → n < length g.used → Same (meaning g.used n) r → Comes g q (f n g)) →
    Comes h q (bind_by a g f)
comes_bind h r q (Ok n) g f c step = comes_after h g q (f n g) c.grown (step n c.sound c.grown c.answer.0 c.answer.1)
comes_bind h r q (Err e) g f c step = comes_from h q (Err e, g) c.sound c.grown tt

-- A record that stands in a sound pool is read as its form.
found_form : (p : List Node) (f : Form) (n : ℕ) → Sound p → First (recorded p f) p n → (n < length p) × (meaning p n ≡ means p f)
found_form p f n sound at =
    let there = ap length at.parts ∙ length-append at.before (recorded p f ∷ at.behind) in
    let below : n < length p = omega (arith, there, at.place) in
    let stands = ap (λ q. get_or q n none_node) at.parts ∙ get_or_at at.before (recorded p f) at.behind none_node n at.place in
    (below, meaning_form p sound n below ∙ ap (means p) (form_at_raw p sound n below ∙ (ap raw stands ∙ raw_recorded p f)))

pub comes_kept : (h : Held) (f : Form) → Sound h.used → Below (length h.used) f → Comes h (means h.used f) (kept f h)
unfolding interned
comes_kept h f sound below = found (first_equal same_node h.used (recorded h.used f)) refl
  where
    p : List Node
    p = h.used

    next : (ys : List Node) → Comes h (means p f) (appended h (recorded p f) ys)
    next [] = comes_from h (means p f) (appended h (recorded p f) []) sound (grown_itself p) tt
    next (y ∷ ys) = comes_from h (means p f) (appended h (recorded p f) (y ∷ ys)) (sound_push p f sound below) (recorded p f ∷ [], refl) (
      omega (arith, length_push p (recorded p f)),
      same_path _ _ (meaning_next p (recorded p f) [] ∙ ap (means p) (form_by-recorded p (length p) f (parts_from_below (length p) f below))),
    )

    found : (o : Option ℕ) → first_equal same_node p (recorded p f) ≡ o → Comes h (means p f) (interned_by h (recorded p f) o)
    found (Some n) e =
        let w = found_form p f n sound (first same_node same_exact (recorded p f) p n e) in
        comes_here h (means p f) n sound w.0 (same_path _ _ w.1)
    found None e = next h.past
