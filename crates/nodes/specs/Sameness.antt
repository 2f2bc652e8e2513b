-- Two records are the same exactly when they agree in every field. A kind is told by its number.
--   kind_of n      the kind with the number n
--   kind_back      the number of a kind tells the kind
--   node_from      records that agree in every field are one
--   same_exact     same_node says yes exactly for one and the same record
--   derived_eq     what the derived `==` of records says
--   kind_tag       what it tells a kind by is the number of the kind
--   derived_same, derived_exact   it is same_node, and so is as exact
-- Assumes nothing.
use denote.Enum.Declared.{tag_of}
use Rattle.std.specs.Prelude.{◌≡◌, ℕ, zero, suc, Bool, Decides, ◌&&◌, ◌==◌, refl}
use Rattle.std.specs.Cmp.{booleans_Decides}
use Rattle.std.proofs.Common.{sym, ◌∙◌, ap, subst}
use Rattle.std.proofs.lemmas.Bool.{eqb-true, eq-eqb, and_parts, and_from}
use Rattle.nodes.specs.contracts.node.NodeKind.{the_type}
use Rattle.nodes.specs.contracts.node.NodePartialEq.TheImpl as derive
use Rattle.nodes.specs.declared.node.Node.{Node}
use Rattle.nodes.specs.declared.node.NodeKind.{NodeKind}
use Rattle.nodes.specs.declared.node.NodeKind.TheVariants as Kind
use Rattle.nodes.specs.Records.{kind_number, same_kind, same_flag, same_node}

unfoldable pub kind_of : ℕ → NodeKind
kind_of zero = Kind.None
kind_of (suc zero) = Kind.Empty
kind_of (suc (suc zero)) = Kind.Any
kind_of (suc (suc (suc zero))) = Kind.Atom
kind_of (suc (suc (suc (suc zero)))) = Kind.Sequence
kind_of (suc (suc (suc (suc (suc zero))))) = Kind.Or
kind_of (suc (suc (suc (suc (suc (suc zero)))))) = Kind.And
kind_of (suc (suc (suc (suc (suc (suc (suc zero))))))) = Kind.Star
kind_of (suc (suc (suc (suc (suc (suc (suc (suc n)))))))) = Kind.Not

pub kind_back : (k : NodeKind) → kind_of (kind_number k) ≡ k
unfolding kind_of
kind_back Kind.None = refl
kind_back Kind.Empty = refl
kind_back Kind.Any = refl
kind_back Kind.Atom = refl
kind_back Kind.Sequence = refl
kind_back Kind.Or = refl
kind_back Kind.And = refl
kind_back Kind.Star = refl
kind_back Kind.Not = refl

pub node_from : (x y : Node) → x.kind ≡ y.kind → x.left ≡ y.left → x.right ≡ y.right → x.nullable ≡ y.nullable → x ≡ y
node_from x y k l r e =
    ap (λ z. record { kind = z; left = x.left; right = x.right; nullable = x.nullable }) k
    ∙ (ap (λ z. record { kind = y.kind; left = z; right = x.right; nullable = x.nullable }) l
    ∙ (ap (λ z. record { kind = y.kind; left = y.left; right = z; nullable = x.nullable }) r
    ∙ ap (λ z. record { kind = y.kind; left = y.left; right = y.right; nullable = z }) e))

pub same_exact : (x y : Node) → Decides (same_node x y) (x ≡ y)
same_exact x y = (
  λ e.
      let p = and_parts (same_kind x.kind y.kind) _ e in
      let q = and_parts (x.left == y.left) _ p.1 in
      let r = and_parts (x.right == y.right) _ q.1 in
      node_from x y (sym (kind_back x.kind) ∙ (ap kind_of (eqb-true _ _ p.0) ∙ kind_back y.kind))
      (eqb-true _ _ q.0) (eqb-true _ _ r.0) ((booleans_Decides x.nullable y.nullable).0 r.1),
  λ e. rw e (
      and_from _ _ (eq-eqb (kind_number y.kind) (kind_number y.kind) refl)
      (and_from _ _ (eq-eqb y.left y.left refl)
      (and_from _ _ (eq-eqb y.right y.right refl) ((booleans_Decides y.nullable y.nullable).1 refl)))),
)

abbrev pub derived_eq : Node → Node → Bool
derived_eq = derive.ghosts.eq

kind_tag : (k : NodeKind) → tag_of the_type k ≡ kind_number k
kind_tag Kind.None = refl
kind_tag Kind.Empty = refl
kind_tag Kind.Any = refl
kind_tag Kind.Atom = refl
kind_tag Kind.Sequence = refl
kind_tag Kind.Or = refl
kind_tag Kind.And = refl
kind_tag Kind.Star = refl
kind_tag Kind.Not = refl

pub derived_same : derived_eq ≡ same_node
derived_same = λ i. λ x y. (kind_tag x.kind i == kind_tag y.kind i) && (x.left == y.left && (x.right == y.right && same_flag x.nullable y.nullable))

pub derived_exact : (x y : Node) → Decides (derived_eq x y) (x ≡ y)
derived_exact = subst (λ same. (x y : Node) → Decides (same x y) (x ≡ y)) (sym derived_same) same_exact
