-- The theorem: the marks worked out are those that reachability gives.
--   Says t r m   m says whether row r accepts and whether it is mixed
-- Assumes nothing.
use Rattle.std.proofs.Common.{◌≡◌, ℕ, ◌<◌, Bool, true, false, get_or, Decides, sym, refl, ◌∙◌, inl, inr}
use Rattle.std.proofs.lemmas.Bool.{false≢true, cases_Bool, not-true}
use Rattle.std.proofs.lemmas.Bool.Decides.{same_from_decides}
use Rattle.languages.specs.declared.marks.Mark.{Mark}
use Rattle.languages.specs.declared.marks.Mark.TheVariants.{Settled, Holds, Open, Lost}
use Rattle.languages.specs.Tables.{Table, Closed, Reaches}
use Rattle.languages.specs.Marks.{Stands, worked}
use Rattle.languages.specs.Theorems.{MarksSayWhatIsReached}
use Rattle.languages.proofs.Marking.{accepted, full, differ, differ_itself, same_unless_differ, same_mark}
use Rattle.languages.proofs.Passing.{length-worked}
use Rattle.languages.proofs.Ranking.{worked_still, worked_enough}
use Rattle.languages.proofs.Reaching.{Mixed, reaches_itself, known_passes, full_decides_mixed}

abbrev Says : Table → ℕ → Mark → Type 0
Says t r m = (accepted m ≡ t.accepts r) × Decides (full m) (Mixed t r)

module _ (t : Table) (r : ℕ) where
  same_unless_mixed : (a : Bool) → (a ≡ t.accepts r) × Decides false (Mixed t r) → (s : ℕ) → Reaches t r s → t.accepts s ≡ a
  same_unless_mixed a says s w = elim (cases_Bool (differ (t.accepts r) (t.accepts s))) [
    | inl d ↦ absurd (false≢true (says.1.1 (s, w, d)))
    | inr d ↦ sym (says.0 ∙ same_unless_differ _ _ d)
  ]

  unmixed_if_same : (a : Bool) → ((s : ℕ) → Reaches t r s → t.accepts s ≡ a) → (a ≡ t.accepts r) × Decides false (Mixed t r)
  unmixed_if_same a all = let here = all r (reaches_itself t r) in
      (sym here, (λ f. absurd (false≢true f), λ mixed. rw (here, all mixed.0 mixed.1, differ_itself) at mixed.2))

  stands_from_says : (m : Mark) → Says t r m → Stands t r m
  stands_from_says Settled says = same_unless_mixed true says
  stands_from_says Holds says = let w = says.1.0 refl in (sym says.0, (w.0, w.1, not-true _ (rw (← says.0) at w.2)))
  stands_from_says Open says = let w = says.1.0 refl in (sym says.0, (w.0, w.1, rw (← says.0) at w.2))
  stands_from_says Lost says = same_unless_mixed false says

  says_from_stands : (m : Mark) → Stands t r m → Says t r m
  says_from_stands Settled stands = unmixed_if_same true stands
  says_from_stands Holds stands = let w = stands.1 in (sym stands.0, (λ _. (w.0, w.1, rw (stands.0, w.2) refl), λ _. refl))
  says_from_stands Open stands = let w = stands.1 in (sym stands.0, (λ _. (w.0, w.1, rw (stands.0, w.2) refl), λ _. refl))
  says_from_stands Lost stands = unmixed_if_same false stands

worked_says : (t : Table) → Closed t → (r : ℕ) → r < t.rows → Says t r (get_or (worked t) r Lost)
unfolding worked
worked_says t closed r h = let known = known_passes t closed t.rows in
    ((known r h).0, full_decides_mixed t closed (worked t) known (worked_still t) r h)

pub marks_say_what_is_reached : MarksSayWhatIsReached
marks_say_what_is_reached t closed = record {
  whole = length-worked t;
  stands = λ r h. stands_from_says t r (get_or (worked t) r Lost) (worked_says t closed r h);
  alone = λ r m h stands.
      let one = says_from_stands t r m stands in
      let other = worked_says t closed r h in
      same_mark m (get_or (worked t) r Lost) (one.0 ∙ sym other.0) (same_from_decides (full m) (full (get_or (worked t) r Lost)) one.1 other.1);
  enough = worked_enough t;
}
