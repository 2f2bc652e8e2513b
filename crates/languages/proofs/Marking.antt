-- What a mark says, as tests, and what joining does to them.
--   accepted m   its row accepts
--   sees_yes m   its row reaches one that accepts
--   sees_no m    its row reaches one that does not
--   full m       its row reaches both, so that no join changes the mark
--   differ a b   a and b are not the same
-- Assumes nothing.
use Rattle.std.proofs.Common.{◌≡◌, Bool, true, false, not, ◌&&◌, ◌||◌, sym, refl}
use Rattle.languages.specs.declared.marks.Mark.{Mark}
use Rattle.languages.specs.declared.marks.Mark.TheVariants.{Settled, Holds, Open, Lost}
use Rattle.languages.specs.Marks.{join}

abbrev pub accepted : Mark → Bool
accepted Settled = true
accepted Holds = true
accepted Open = false
accepted Lost = false

abbrev pub sees_yes : Mark → Bool
sees_yes Settled = true
sees_yes Holds = true
sees_yes Open = true
sees_yes Lost = false

abbrev pub sees_no : Mark → Bool
sees_no Settled = false
sees_no Holds = true
sees_no Open = true
sees_no Lost = true

abbrev pub full : Mark → Bool
full m = sees_yes m && sees_no m

abbrev pub differ : Bool → Bool → Bool
differ true b = not b
differ false b = b

pub same_unless_differ : (a b : Bool) → differ a b ≡ false → a ≡ b
same_unless_differ true true e = refl
same_unless_differ true false e = e
same_unless_differ false b e = sym e

pub differ_itself : (a : Bool) → differ a a ≡ false
differ_itself true = refl
differ_itself false = refl

-- A mark is made of whether it accepts and whether it is full.
abbrev made : Bool → Bool → Mark
made true true = Holds
made true false = Settled
made false true = Open
made false false = Lost

made_of : (m : Mark) → made (accepted m) (full m) ≡ m
made_of Settled = refl
made_of Holds = refl
made_of Open = refl
made_of Lost = refl

pub same_mark : (m n : Mark) → accepted m ≡ accepted n → full m ≡ full n → m ≡ n
same_mark m n a f = cc (made_of m, made_of n)

pub accepted_join : (m n : Mark) → accepted (join m n) ≡ accepted m
accepted_join Settled Settled = refl
accepted_join Settled Holds = refl
accepted_join Settled Open = refl
accepted_join Settled Lost = refl
accepted_join Holds n = refl
accepted_join Open n = refl
accepted_join Lost Settled = refl
accepted_join Lost Holds = refl
accepted_join Lost Open = refl
accepted_join Lost Lost = refl

pub full_join : (m n : Mark) → full (join m n) ≡ (full m || (differ (accepted m) (accepted n) || full n))
full_join Settled Settled = refl
full_join Settled Holds = refl
full_join Settled Open = refl
full_join Settled Lost = refl
full_join Holds n = refl
full_join Open n = refl
full_join Lost Settled = refl
full_join Lost Holds = refl
full_join Lost Open = refl
full_join Lost Lost = refl

pub join_full : (m n : Mark) → full m ≡ true → join m n ≡ m
join_full m n f = same_mark (join m n) m (accepted_join m n) (cc (full_join m n))
