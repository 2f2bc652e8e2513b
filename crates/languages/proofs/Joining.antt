-- What holds of any two-place operation on rules that keeps languages, takes its parts in any order and grouping, and takes one twice as once:
-- the steps by which lists of members are merged. Or and and are two such.
-- Assumes nothing.
use Rattle.languages.specs.Rules.{Rule, Same}

pub same_refl : (r : Rule) → Same r r
same_refl r w = (λ h. h, λ h. h)

pub same_sym : (r q : Rule) → Same r q → Same q r
same_sym r q h w = ((h w).1, (h w).0)

pub same_trans : (r q s : Rule) → Same r q → Same q s → Same r s
same_trans r q s h k w = (λ x. (k w).0 ((h w).0 x), λ x. (h w).1 ((k w).1 x))

pub record Joins (op : Rule → Rule → Rule) : Type 0 where
  pub keeps : (r r' q q' : Rule) → Same r r' → Same q q' → Same (op r q) (op r' q')
  pub twice : (r : Rule) → Same (op r r) r
  pub turned : (r q : Rule) → Same (op r q) (op q r)
  pub grouped : (r q s : Rule) → Same (op (op r q) s) (op r (op q s))

module _ (op : Rule → Rule → Rule) (joins : Joins op) where
  -- The next member comes from the second list.
  pub joins_second : (a y b : Rule) → Same (op a (op y b)) (op y (op a b))
  joins_second a y b = same_trans (op a (op y b)) (op (op y a) b) (op y (op a b))
      (same_trans (op a (op y b)) (op (op a y) b) (op (op y a) b)
      (same_sym (op (op a y) b) (op a (op y b)) (joins.grouped a y b))
      (joins.keeps (op a y) (op y a) b b (joins.turned a y) (same_refl b)))
      (joins.grouped y a b)

  -- The first list has ended, or has just its last member, and that comes first in the second.
  pub joins_again : (x b : Rule) → Same (op x (op x b)) (op x b)
  joins_again x b = same_trans (op x (op x b)) (op (op x x) b) (op x b)
      (same_sym (op (op x x) b) (op x (op x b)) (joins.grouped x x b))
      (joins.keeps (op x x) x b b (joins.twice x) (same_refl b))
