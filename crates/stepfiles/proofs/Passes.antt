-- Passes over marks as bytes. Assumes nothing.
use Rattle.std.proofs.Common.{◌≡◌, ℕ, ◌+◌, ◌-◌, ◌<◌, List, get_or, set, sym, ap, ◌∙◌, arith}
use Rattle.std.proofs.lemmas.List.{set-get_or, length-set}
use Rattle.languages.specs.Tables.{Table}
use Rattle.languages.specs.Marks.{number, gathered, passed_below}
use Rattle.languages.proofs.Passing.{passed_below_more}
use Rattle.stepfiles.specs.Coding.{marks_in, MarksOf}
use Rattle.stepfiles.proofs.Codes.{marks_in-set, coded_set}

-- row `next - 1` takes up its targets' marks, and the rows below it are left
module _ (t : Table) (xs : List ℕ) (next m : ℕ) (some : 0 < next) (is : m ≡ number (gathered t (marks_in xs) (next - 1) t.classes)) where
  pub row_passed : passed_below t (next - 1) (marks_in (set xs (next - 1) m)) ≡ passed_below t next (marks_in xs)
  row_passed =
      let row = next - 1 in
      let mark = gathered t (marks_in xs) row t.classes in
      let one_more : row + 1 ≡ next = omega arith in
      ap (λ n. passed_below t row (marks_in (set xs row n))) is
      ∙ ap (passed_below t row) (marks_in-set xs row mark)
      ∙ sym (passed_below_more t row (marks_in xs))
      ∙ ap (λ n. passed_below t n (marks_in xs)) one_more

  pub row_marked : MarksOf t xs → MarksOf t (set xs (next - 1) m)
  row_marked marks = record {
    one_each = length-set xs (next - 1) m ∙ marks.one_each;
    coded = rw is (coded_set xs (next - 1) (gathered t (marks_in xs) (next - 1) t.classes) marks.coded);
  }

  pub row_same : m ≡ get_or xs (next - 1) 0 → passed_below t (next - 1) (marks_in xs) ≡ passed_below t next (marks_in xs)
  row_same same =
      ap (λ ys. passed_below t (next - 1) (marks_in ys)) (sym (ap (set xs (next - 1)) same ∙ set-get_or xs (next - 1) 0)) ∙ row_passed
