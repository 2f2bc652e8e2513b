-- Nodes that are appended change nothing about those before them: how they are read, recorded and what they mean.
-- Assumes nothing.
use Rattle.std.proofs.Common.{◌≡◌, ℕ, suc, ◌<◌, cond, eqb, List, [], ◌∷◌, ◌++◌, length, get_or, sym, refl, ap, ◌∙◌, append_assoc, append-nil}
use Rattle.std.proofs.lemmas.List.{get_or_append_left, get_or_at}
use Rattle.languages.specs.Rules.{Rule, none}
use Rattle.nodes.specs.declared.node.Node.{Node}
use Rattle.nodes.specs.declared.form.Form.{Form}
use Rattle.nodes.specs.Records.{none_node}
use Rattle.nodes.specs.Reading.{form_by, nullable_at}
use Rattle.nodes.specs.Entering.{recorded}
use Rattle.nodes.specs.Meaning.{rule_of, meanings, meaning, means}
use Rattle.nodes.specs.Promises.{Parts}

pub nullable_at-append : (p q : List Node) (n : ℕ) → n < length p → nullable_at (p ++ q) n ≡ nullable_at p n
nullable_at-append p q n h = ap (λ x. (cond (eqb n 0) none_node x).nullable) (get_or_append_left p q none_node n h)

pub recorded-append : (p q : List Node) (f : Form) → Parts (length p) f → recorded (p ++ q) f ≡ recorded p f
recorded-append p q Form.None h = refl
recorded-append p q Form.Empty h = refl
recorded-append p q Form.Any h = refl
recorded-append p q (Form.Atom k) h = refl
recorded-append p q (Form.Sequence l r) h = rw (nullable_at-append p q l h.0, nullable_at-append p q r h.1)
recorded-append p q (Form.Or l r) h = rw (nullable_at-append p q l h.0, nullable_at-append p q r h.1)
recorded-append p q (Form.And l r) h = rw (nullable_at-append p q l h.0, nullable_at-append p q r h.1)
recorded-append p q (Form.Star l) h = refl
recorded-append p q (Form.Not l) h = rw (nullable_at-append p q l h)

meanings-append : (known : List Rule) (p q : List Node) → meanings known (p ++ q) ≡ meanings (meanings known p) q
meanings-append known [] q = refl
meanings-append known (x ∷ p) q = meanings-append (known ++ (rule_of known (form_by x.kind (length known) x.left x.right) ∷ [])) p q

-- What is known stays in front, and each node adds one rule.
meanings_front : (known : List Rule) (p : List Node) → (new : List Rule) × (meanings known p ≡ known ++ new) × (length new ≡ length p)
meanings_front known [] = ([], sym (append-nil known), refl)
meanings_front known (x ∷ p) =
    let rule = rule_of known (form_by x.kind (length known) x.left x.right) in
    let w = meanings_front (known ++ (rule ∷ [])) p in
    (rule ∷ w.0, w.1 ∙ append_assoc known (rule ∷ []) w.0, ap suc w.2)

pub length-meanings : (p : List Node) → length (meanings [] p) ≡ length p
length-meanings p = let w = meanings_front [] p in ap length w.1 ∙ w.2

rule_of-append : (known new : List Rule) (f : Form) → Parts (length known) f → rule_of (known ++ new) f ≡ rule_of known f
rule_of-append known new Form.None h = refl
rule_of-append known new Form.Empty h = refl
rule_of-append known new Form.Any h = refl
rule_of-append known new (Form.Atom k) h = refl
rule_of-append known new (Form.Sequence l r) h = rw (get_or_append_left known new none l h.0, get_or_append_left known new none r h.1)
rule_of-append known new (Form.Or l r) h = rw (get_or_append_left known new none l h.0, get_or_append_left known new none r h.1)
rule_of-append known new (Form.And l r) h = rw (get_or_append_left known new none l h.0, get_or_append_left known new none r h.1)
rule_of-append known new (Form.Star l) h = rw (get_or_append_left known new none l h)
rule_of-append known new (Form.Not l) h = rw (get_or_append_left known new none l h)

pub meaning-append : (p q : List Node) (n : ℕ) → n < length p → meaning (p ++ q) n ≡ meaning p n
meaning-append p q n h =
    let w = meanings_front (meanings [] p) q in
    ap (λ rs. get_or rs n none) (meanings-append [] p q ∙ w.1) ∙ get_or_append_left (meanings [] p) w.0 none n (rw (length-meanings p) h)

pub means-append : (p q : List Node) (f : Form) → Parts (length p) f → means (p ++ q) f ≡ means p f
means-append p q f h =
    let w = meanings_front (meanings [] p) q in
    ap (λ rs. rule_of rs f) (meanings-append [] p q ∙ w.1) ∙ rule_of-append (meanings [] p) w.0 f (rw (length-meanings p) h)

-- The node behind p means its form over p.
pub meaning_next : (p : List Node) (x : Node) (q : List Node) → meaning (p ++ (x ∷ q)) (length p) ≡ means p (form_by x.kind (length p) x.left x.right)
meaning_next p x q =
    let rule = rule_of (meanings [] p) (form_by x.kind (length (meanings [] p)) x.left x.right) in
    let w = meanings_front (meanings [] p ++ (rule ∷ [])) q in
    ap (λ rs. get_or rs (length p) none) (meanings-append [] p (x ∷ q) ∙ (w.1 ∙ append_assoc (meanings [] p) (rule ∷ []) w.0))
    ∙ (get_or_at (meanings [] p) rule w.0 none (length p) (length-meanings p)
    ∙ ap (λ k. rule_of (meanings [] p) (form_by x.kind k x.left x.right)) (length-meanings p))
