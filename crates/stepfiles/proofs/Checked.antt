-- What it says of bytes that every check passed on them. Assumes nothing.
use Rattle.std.proofs.Common.{◌≡◌, ℕ, true, not, List, is_some, None, Option}
use Rattle.std.proofs.lemmas.Bool.{not-true, and_parts}
use Rattle.languages.specs.Tables.{Closed}
use Rattle.refusals.specs.Questions.{first_no}
use Rattle.stepfiles.specs.Layout.{rows_in, classes_in, table_in}
use Rattle.stepfiles.specs.Opening.{header, bad_target, bad_target_in, bad_target_of, bad_mark, worked_in, step_file}
use Rattle.stepfiles.proofs.Finding.{is_none, nowhere}
use Rattle.stepfiles.proofs.Scanning.{target_below}

-- no question is answered with no
pub record Unrefused (b : List ℕ) : Type 0 where
  pub header_yes : first_no (header b) ≡ None
  pub targets_yes : bad_target b ≡ None
  pub marks_yes : bad_mark b (worked_in b) ≡ None

absent : {X : Type 0} (o : Option X) → not (is_some o) ≡ true → o ≡ None
absent o e = is_none o (not-true (is_some o) e)

pub unrefused : (b : List ℕ) → step_file b ≡ true → Unrefused b
unfolding step_file
unrefused b e =
    let parts = and_parts _ _ e in
    let rest = and_parts _ _ parts.1 in
    record {
      header_yes = absent (first_no (header b)) parts.0;
      targets_yes = absent (bad_target b) rest.0;
      marks_yes = absent (bad_mark b (worked_in b)) rest.1;
    }

pub checked : (b : List ℕ) → Unrefused b → step_file b ≡ true
unfolding step_file
checked b u = rw (u.header_yes, u.targets_yes, u.marks_yes)

-- where no target is bad, every target is a row
pub closed : (b : List ℕ) → bad_target b ≡ None → Closed (table_in b)
closed b none r c row class =
    target_below b r c (nowhere (bad_target_of b r) (classes_in b) (nowhere (bad_target_in b) (rows_in b) none r row) c class)
