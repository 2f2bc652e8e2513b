-- Letters in classes, as they are first met. Each letter has a key, which is what the letters of a class have in common.
--   number_in ks k       the place of the first of ks that is k
--   joined o found l     found, if there is a number already; else with l behind it
--   meet key found l     found with l behind it, unless a letter of found has the key of l
--   meets key found ls   found after all of ls were met, one after the other
--   firsts key ls        the letters of ls that are the first with their keys, in order: the samples of the classes
--   keys_of key ls       the keys of these, by class
--   class_in key ls l    the class of the letter l: the place of its key
--   HasClass key ls l    the class of l is one of those that ls make, and the key of this class is the key of l
--   FirstMet key ls k s  s is the sample of the class k: a letter of ls, no letter before it has its key, and the letters
--                        before it make the classes below k and no others
-- Assumes nothing.
use Rattle.std.specs.Prelude.{◌≡◌, ℕ, ◌<◌, List, [], ◌∷◌, ◌++◌, length, take, Option, Some, None, ◌==◌, map, unwrap_or}
use Rattle.std.specs.List.{slice_get, AllByRecursion}
use Rattle.numbering.specs.Finding.{first_equal}

abbrev pub number_in : List ℕ → ℕ → Option ℕ
number_in ks k = first_equal (λ a b. a == b) ks k

abbrev pub joined : {L : Type 0} → Option ℕ → List L → L → List L
joined (Some i) found l = found
joined None found l = found ++ (l ∷ [])

abbrev pub meet : {L : Type 0} → (L → ℕ) → List L → L → List L
meet key found l = joined (number_in (map key found) (key l)) found l

unfoldable pub meets : {L : Type 0} → (L → ℕ) → List L → List L → List L
meets key found [] = found
meets key found (l ∷ ls) = meets key (meet key found l) ls

abbrev pub firsts : {L : Type 0} → (L → ℕ) → List L → List L
firsts key ls = meets key [] ls

abbrev pub keys_of : {L : Type 0} → (L → ℕ) → List L → List ℕ
keys_of key ls = map key (firsts key ls)

abbrev pub class_in : {L : Type 0} → (L → ℕ) → List L → L → ℕ
class_in key ls l = unwrap_or (number_in (keys_of key ls) (key l)) 0

pub record HasClass {L : Type 0} (key : L → ℕ) (ls : List L) (l : L) : Type 0 where
  pub below : class_in key ls l < length (firsts key ls)
  pub key_is : slice_get (keys_of key ls) (class_in key ls l) ≡ Some (key l)

pub record FirstMet {L : Type 0} (key : L → ℕ) (ls : List L) (k : ℕ) (s : L) : Type 0 where
  pub before : List L
  pub behind : List L
  pub parts : ls ≡ before ++ (s ∷ behind)
  pub not_before : AllByRecursion (λ l. ¬ (key l ≡ key s)) before
  pub classes_before : firsts key before ≡ take k (firsts key ls)
  pub as_many : length (firsts key before) ≡ k
