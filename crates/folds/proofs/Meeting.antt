-- Meeting all bytes, one after the other.
-- Assumes nothing.
use Rattle.std.proofs.Common.{◌≡◌, ℕ, ◌+◌, ◌<◌, List, [], Some, None, Option, refl, sym, ap, ◌∙◌, subst, arith}
use Rattle.classes.specs.Bytes.{all_bytes}
use Rattle.classes.specs.Found.{Found, Out, made, met}
use Rattle.classes.specs.Meeting.{meets, firsts, keys_of}
use Rattle.classes.specs.Rising.{rising}
use Rattle.classes.proofs.Bytes.{byte_got, byte_got_none}
use Rattle.classes.proofs.Rising.{rising_zero}
use Rattle.folds.specs.Folding.{asked, found_next}
use Rattle.folds.specs.Laws.{few}

module _ (below : ℕ → ℕ) where
  -- The classes of some bytes.
  abbrev made_of : List ℕ → Found ℕ
  made_of bytes = made (asked below) (firsts (asked below) bytes)

  gives : (n : ℕ) → n < 256 → (o : Option ℕ) (after : Found ℕ) → ◌≡◌ {A = Out ℕ} (o, after) (met (made_of (rising 0 n)) n (asked below n)) → after ≡ made_of (rising 0 (n + 1))
  gives n h (Some i) after e = (byte_got (asked below) n h i after e).on
  gives n h None after e =
      let many = byte_got_none (asked below) n h after e in
      let most = few below in
      absurd (omega arith)

  next_byte : (n : ℕ) → n < 256 → found_next below (made_of (rising 0 n)) n ≡ made_of (rising 0 (n + 1))
  next_byte n h = let t = met (made_of (rising 0 n)) n (asked below n) in gives n h t.0 t.1 refl

  -- What is found after meeting some bytes.
  pub record Met (bytes : List ℕ) (f : Found ℕ) : Type 0 where
    pub samples : f.samples ≡ firsts (asked below) bytes
    pub keys : f.keys ≡ keys_of (asked below) bytes

  whole : (bytes : List ℕ) (f : Found ℕ) → Met bytes f → f ≡ made_of bytes
  whole bytes f m = ap (λ xs. record f { samples = xs }) m.samples ∙ ap (λ ks. record { samples = firsts (asked below) bytes; keys = ks }) m.keys

  pub none_met : {f : Found ℕ} → f.samples ≡ [] → f.keys ≡ [] → Met (rising 0 0) f
  unfolding meets
  none_met samples keys =
      let none : [] ≡ rising 0 0 = sym (rising_zero 0) in
      record { samples = samples ∙ ap (firsts (asked below)) none; keys = keys ∙ ap (keys_of (asked below)) none }

  pub byte_met : {n : ℕ} {f after : Found ℕ} → n < 256 → Met (rising 0 n) f → after ≡ found_next below f n → Met (rising 0 (n + 1)) after
  byte_met {n = n} {f = f} h before is =
      let e = is ∙ ap (λ (g : Found ℕ). found_next below g n) (whole (rising 0 n) f before) ∙ next_byte n h in
      record { samples = ap (λ (g : Found ℕ). g.samples) e; keys = ap (λ (g : Found ℕ). g.keys) e }

  pub all_met : {n : ℕ} {f after : Found ℕ} → n ≡ 255 → Met (rising 0 n) f → after ≡ found_next below f n → Met all_bytes after
  unfolding all_bytes
  all_met {after = after} last before is = subst (λ i. Met (rising 0 (i + 1)) after) last (byte_met (omega arith) before is)
