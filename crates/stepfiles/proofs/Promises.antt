-- A file passes every check exactly where it is a step file in the words of reachability, and what open and its view
-- answer means just that. Assumes nothing.
use Rattle.std.proofs.Common.{◌≡◌, ℕ, ◌<◌, ◌≤◌, Bool, true, false, cond, not, ◌&&◌, ltb, leb, List, [], ◌∷◌, ◌++◌, length, get_or, drop, is_some, is_ok, Some, None, Ok, Err, Result, Decides, Option, sym, refl, ap, ◌∙◌, subst, arith, MatchResult}
use Rattle.std.specs.List.{AllByRecursion}
use Rattle.std.specs.Result.{result_ok}
use Rattle.std.proofs.lemmas.List.{get_or-map, get_or_append_left, length-map}
use Rattle.std.proofs.lemmas.Bool.{leb-true, le-leb, and_parts, and_from, lt-ltb, cond-true}
use Rattle.languages.specs.declared.marks.Mark.TheVariants.{Lost}
use Rattle.languages.specs.Tables.{Closed}
use Rattle.languages.specs.declared.marks.Mark.{Mark}
use Rattle.languages.specs.declared.marks.UnknownMark.{UnknownMark}
use Rattle.languages.specs.Marks.{number, NamesMark, worked}
use Rattle.languages.proofs.Passing.{length-worked}
use Rattle.languages.proofs.Standing.{marks_say_what_is_reached}
use Rattle.refusals.specs.Questions.{numbered, refusing, first_no}
use Rattle.refusals.specs.declared.Question.TheVariants.{ScratchRoom}
use Rattle.refusals.specs.declared.Refusal.{Refusal}
use Rattle.stepfiles.specs.Layout.{byte_at, word_at, rows_in, classes_in, row_at, target_at, table_in}
use Rattle.stepfiles.specs.Coding.{decoded}
use Rattle.stepfiles.specs.Opening.{header, bad_target, bad_target_in, bad_target_of, bad_mark, bad_mark_of, worked_in, Out, after_marks, after_targets, after_header, opened, step_file}
use Rattle.stepfiles.specs.Proper.{IsMarkOf, StepFileBytes, MarksStand, CameToMarks, Means, MarkThere, TargetThere}
use Rattle.stepfiles.specs.Views.{mark_in, successor}
use Rattle.stepfiles.proofs.Checked.{Unrefused, unrefused, checked, closed}
use Rattle.stepfiles.proofs.Codes.{decoded-number}
use Rattle.stepfiles.proofs.Finding.{nowhere, nothing}
use Rattle.stepfiles.proofs.Headers.{right_header, no_refusal}
use Rattle.stepfiles.proofs.Scanning.{target_good, mark_good, mark_same}

length-worked_in : (b : List ℕ) → length (worked_in b) ≡ rows_in b
unfolding worked_in
length-worked_in b = length-map (worked (table_in b)) number ∙ length-worked (table_in b)

worked-at : (b : List ℕ) (r : ℕ) → r < rows_in b → get_or (worked_in b) r 0 ≡ number (get_or (worked (table_in b)) r Lost)
unfolding worked_in
worked-at b r row = get_or-map number (worked (table_in b)) r Lost 0 (rw (length-worked (table_in b)) row)

-- the marks worked out for a file whose targets are rows stand
pub marks_stand : (b rest : List ℕ) → Closed (table_in b) → MarksStand b (worked_in b ++ rest)
marks_stand b rest rows r row = (
  get_or (worked (table_in b)) r Lost,
  get_or_append_left (worked_in b) rest 0 r (rw (length-worked_in b) row) ∙ worked-at b r row,
  (marks_say_what_is_reached (table_in b) rows).stands r row,
)

right_mark : (b : List ℕ) → Unrefused b → (r : ℕ) → r < rows_in b → IsMarkOf b r (byte_at b (row_at b r))
right_mark b u r row =
    let same = mark_same b (worked_in b) r (nowhere (bad_mark_of b (worked_in b)) (rows_in b) u.marks_yes r row) in (
      get_or (worked (table_in b)) r Lost,
      same ∙ worked-at b r row,
      (marks_say_what_is_reached (table_in b) (closed b u.targets_yes)).stands r row,
    )

pub step_file_bytes : (b : List ℕ) → Unrefused b → StepFileBytes b
step_file_bytes b u = record {
  header = right_header b u.header_yes;
  targets = closed b u.targets_yes;
  marks = right_mark b u;
}

no_bad_target : (b : List ℕ) → Closed (table_in b) → bad_target b ≡ None
no_bad_target b rows =
    nothing (bad_target_in b) (rows_in b) (λ r row.
    nothing (bad_target_of b r) (classes_in b) (λ c class.
    target_good b r c (rows r c row class)))

no_bad_mark : (b : List ℕ) → StepFileBytes b → bad_mark b (worked_in b) ≡ None
no_bad_mark b h =
    nothing (bad_mark_of b (worked_in b)) (rows_in b) (λ r row.
    let m = h.marks r row in
    let only = (marks_say_what_is_reached (table_in b) h.targets).alone r m.0 row m.2 in
    mark_good b (worked_in b) r (m.1 ∙ ap number only ∙ sym (worked-at b r row)))

pub all_yes : (b : List ℕ) → StepFileBytes b → Unrefused b
all_yes b h = record {
  header_yes = no_refusal b h.header;
  targets_yes = no_bad_target b h.targets;
  marks_yes = no_bad_mark b h;
}

-- open's answer is a yes of every check and of the scratch's room
module _ (b s v : List ℕ) where
  by_marks : (m : Option ℕ) → is_ok (after_marks b s v m).0 ≡ (not (is_some m) && true)
  by_marks (Some p) = refl
  by_marks None = refl

  by_room : (l : Bool) (o : Option ℕ)
      → is_ok (cond l (after_targets b s v o) (Err (refusing ScratchRoom 0), v, s)).0 ≡ ((not (is_some o) && not (is_some (bad_mark b (worked_in b)))) && l)
  by_room true (Some p) = refl
  by_room true None = by_marks (bad_mark b (worked_in b))
  by_room false (Some p) = refl
  by_room false None = never (not (is_some (bad_mark b (worked_in b))))
    where
      never : (x : Bool) → false ≡ (x && false)
      never true = refl
      never false = refl

  by_header : (o : Option Refusal)
      → is_ok (after_header b s v o).0 ≡ ((not (is_some o) && (not (is_some (bad_target b)) && not (is_some (bad_mark b (worked_in b))))) && leb (rows_in b) (length s))
  by_header (Some f) = refl
  by_header None = by_room (leb (rows_in b) (length s)) (bad_target b)

  opened_ok : is_ok (opened b s v).0 ≡ (step_file b && leb (rows_in b) (length s))
  unfolding step_file
  opened_ok = by_header (first_no (header b))

  succeeds : Decides (is_ok (opened b s v).0) (StepFileBytes b × (rows_in b ≤ length s))
  succeeds = (
    λ e. let p = and_parts (step_file b) (leb (rows_in b) (length s)) (sym opened_ok ∙ e) in
        (step_file_bytes b (unrefused b p.0), leb-true (rows_in b) (length s) p.1),
    λ h. opened_ok ∙ and_from (step_file b) (leb (rows_in b) (length s)) (checked b (all_yes b h.0)) (le-leb (rows_in b) (length s) h.1),
  )

-- every refusal of a list of questions is one of them
one_of : (P : Refusal → Type 0) (y : Bool) (g f : Refusal) (o : Option Refusal) → P g → (o ≡ Some f → P f) → cond y o (Some g) ≡ Some f → P f
one_of P true g f o here later e = later e
one_of P false g f o here later e = let same : g ≡ f = cc in subst P same here

among : (P : Refusal → Type 0) (qs : List (Bool × Refusal)) → AllByRecursion (λ q. P q.1) qs → (f : Refusal) → first_no qs ≡ Some f → P f
among P [] all f e = let z : ◌≡◌ {A = ℕ} 0 1 = cc in absurd (omega arith)
among P (q ∷ qs) all f e = one_of P q.0 q.1 f (first_no qs) all.0 (among P qs all.1 f) e

before_marks : (b : List ℕ) (f : Refusal) → first_no (header b) ≡ Some f → numbered f.question < 34
before_marks b f e = among (λ f. numbered f.question < 34) (header b) (omega arith) f e

-- where open came to the marks, those that it left stand; and what its place views
module _ (b s v : List ℕ) where
  abbrev Views : Out → Type 0
  Views o = MatchResult o.0 (λ _. o.1 ≡ b) (λ _. o.1 ≡ v)

  came_to_marks : Closed (table_in b) → (m : Option ℕ) → MarksStand b (after_marks b s v m).2
  came_to_marks rows (Some p) = marks_stand b (drop (rows_in b) s) rows
  came_to_marks rows None = marks_stand b (drop (rows_in b) s) rows

  came_to_targets : (l : Bool) (o : Option ℕ) → bad_target b ≡ o
      → CameToMarks (cond l (after_targets b s v o) (Err (refusing ScratchRoom 0), v, s)).0
      → MarksStand b (cond l (after_targets b s v o) (Err (refusing ScratchRoom 0), v, s)).2
  came_to_targets true (Some p) e came = let z : ◌≡◌ {A = ℕ} 35 36 = ap numbered came in absurd (omega arith)
  came_to_targets true None e came = came_to_marks (closed b e) (bad_mark b (worked_in b))
  came_to_targets false o e came = let z : ◌≡◌ {A = ℕ} 34 36 = ap numbered came in absurd (omega arith)

  came_to_header : (o : Option Refusal) → first_no (header b) ≡ o → CameToMarks (after_header b s v o).0 → MarksStand b (after_header b s v o).2
  came_to_header (Some f) e came = let z : numbered f.question ≡ 36 = ap numbered came in absurd (omega (arith, before_marks b f e))
  came_to_header None e came = came_to_targets (leb (rows_in b) (length s)) (bad_target b) refl came

  views_after_marks : (m : Option ℕ) → Views (after_marks b s v m)
  views_after_marks (Some p) = refl
  views_after_marks None = refl

  views_after_targets : (l : Bool) (o : Option ℕ) → Views (cond l (after_targets b s v o) (Err (refusing ScratchRoom 0), v, s))
  views_after_targets true (Some p) = refl
  views_after_targets true None = views_after_marks (bad_mark b (worked_in b))
  views_after_targets false o = refl

  views_after_header : (o : Option Refusal) → Views (after_header b s v o)
  views_after_header (Some f) = refl
  views_after_header None = views_after_targets (leb (rows_in b) (length s)) (bad_target b)

  pub means : (o : Out) → o ≡ opened b s v → Means b s v o.0 o.1 o.2
  means o is =
      subst (λ o. Means b s v o.0 o.1 o.2) (sym is) record {
        succeeds = succeeds b s v;
        views = views_after_header (first_no (header b));
        marks = came_to_header (first_no (header b)) refl;
      }

-- what a view answers about rows and classes that are there
mark_in-row : (b : List ℕ) (r : ℕ) → r < rows_in b → mark_in b r ≡ Some (decoded (byte_at b (row_at b r)))
mark_in-row b r row = cond-true (ltb r (rows_in b)) _ None (lt-ltb r (rows_in b) row)

pub mark_there : (b : List ℕ) → step_file b ≡ true → (r : ℕ) (o : Option Mark) → o ≡ mark_in b r → MarkThere b r o
mark_there b e r o is row =
    let right = right_mark b (unrefused b e) r row in
    (right.0, is ∙ mark_in-row b r row ∙ ap Some (ap decoded right.1 ∙ decoded-number right.0), right.1, right.2)

pub target_there : (b : List ℕ) → step_file b ≡ true → (r c : ℕ) (o : Option ℕ) → o ≡ successor b r c → TargetThere b r c o
target_there b e r c o is row class =
    let both = and_from (ltb r (rows_in b)) (ltb c (classes_in b)) (lt-ltb r (rows_in b) row) (lt-ltb c (classes_in b) class) in
    (word_at b (target_at b r c), is ∙ cond-true (ltb r (rows_in b) && ltb c (classes_in b)) _ None both, closed b (unrefused b e).targets_yes r c row class)

-- a mark byte of a row that is there reads as the row's mark
pub mark_read : (b : List ℕ) → step_file b ≡ true → (r : ℕ) → r < rows_in b → (m : Result Mark UnknownMark) → NamesMark (byte_at b (row_at b r)) m → result_ok m ≡ mark_in b r
mark_read b e r row (Ok m) is = sym (mark_in-row b r row ∙ ap Some (ap decoded (sym is) ∙ decoded-number m))
mark_read b e r row (Err f) is = let right = right_mark b (unrefused b e) r row in absurd (is.1 right.0 (sym right.1))
