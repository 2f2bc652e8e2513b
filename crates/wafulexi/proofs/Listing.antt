-- How a row's line grows, class by class. Assumes nothing.
use Rattle.std.proofs.Common.{◌≡◌, ℕ, ◌+◌, ◌<◌, List, ◌++◌, Some, codes, decimal, Option, sym, ap, ◌∙◌, append_assoc, append-nil, add-one, arith}
use Rattle.std.proofs.lemmas.Bool.Decides.{nat_tests}
use Rattle.stepfiles.specs.Layout.{word_at, rows_in, classes_in, target_at}
use Rattle.stepfiles.specs.Views.{successor}
use Rattle.wafulexi.specs.Lines.{targets, row_head}

pub target_is : (b : List ℕ) (r c t : ℕ) (o : Option ℕ) → r < rows_in b → c < classes_in b → o ≡ successor b r c → o ≡ Some t → t ≡ word_at b (target_at b r c)
target_is b r c t o row class e is = grind (arith, nat_tests)

pub no_targets : (b : List ℕ) (r : ℕ) (line : List ℕ) → line ≡ row_head b r → line ≡ row_head b r ++ targets b r 0
unfolding targets
no_targets b r line e = e ∙ sym (append-nil (row_head b r))

pub one_more : (b : List ℕ) (r c t : ℕ) (line longer : List ℕ) → t ≡ word_at b (target_at b r c) → line ≡ row_head b r ++ targets b r c → longer ≡ line ++ (codes " " ++ decimal t) → longer ≡ row_head b r ++ targets b r (c + 1)
unfolding targets
one_more b r c t line longer is before after =
    after
    ∙ ap (λ l. l ++ (codes " " ++ decimal t)) before
    ∙ append_assoc (row_head b r) (targets b r c) (codes " " ++ decimal t)
    ∙ ap (λ n. row_head b r ++ (targets b r c ++ (codes " " ++ decimal n))) is
    ∙ ap (λ n. row_head b r ++ targets b r n) (sym (add-one c))
