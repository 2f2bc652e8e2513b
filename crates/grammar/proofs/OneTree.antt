-- The theorems: reading a text in order and the grammar say one thing of it.
-- Assumes nothing.
use Rattle.std.proofs.Common.{◌≡◌, ℕ, suc, ◌+◌, ◌*◌, ◌<◌, ◌≤◌, List, [], length, Ok, Err, Result, refl, ap, ◌∙◌, arith}
use Rattle.std.proofs.lemmas.List.{length-map}
use Rattle.languages.specs.Rules.{Rule}
use Rattle.refusals.specs.declared.Refusal.{Refusal}
use Rattle.grammar.specs.Tokens.{Lexed, end, bad, token, before, tokens_in}
use Rattle.grammar.specs.Lexing.{lexed}
use Rattle.grammar.specs.Atoms.{atoms, number_of, horizon_in, within, tokens}
use Rattle.grammar.specs.Grammar.{alternatives}
use Rattle.grammar.specs.Parsing.{Read, read, whole, wholly}
use Rattle.grammar.specs.Theorems.{ReadIsWritten, WrittenIsRead, OneTree}
use Rattle.grammar.proofs.Cutting.{placed-lex_from, placed-before, size, size-lex_from, size-before}
use Rattle.grammar.proofs.Counting.{horizon_far, within_far, within_spots, within_few}
use Rattle.grammar.proofs.Sound.{read_sound}
use Rattle.grammar.proofs.Complete.{read_complete}

refused_never : (f : Refusal) (r : Rule) → ◌≡◌ {A = Result Rule Refusal} (Err f) (Ok r) → ⊥
refused_never f r h = grind arith

whole_ok : (q : Rule) (ts : Lexed) (r : Rule) → whole q ts ≡ Ok r → (p : ℕ) × (q ≡ r) × (ts ≡ end p)
whole_ok q (end p) r h = (p, cc, refl)
whole_ok q (bad f) r h = absurd (refused_never _ r h)
whole_ok q (token t p ts) r h = absurd (refused_never _ r h)

wholly_ok : (m : Read) (r : Rule) → wholly m ≡ Ok r → (p : ℕ) × (m ≡ Ok (r, end p))
wholly_ok (Ok x) r h =
    let parts = whole_ok x.0 x.1 r h in
    (parts.0, λ i. Ok (parts.1 i, parts.2 i))
wholly_ok (Err f) r h = absurd (refused_never f r h)

pub text_sound : ReadIsWritten
text_sound text r h =
    let came = wholly_ok (read (8 * suc (length text)) (number_of (atoms (lexed text))) 32 alternatives (tokens text)) r h in
    let taken = read_sound (number_of (atoms (lexed text))) (8 * suc (length text)) 32 alternatives (tokens text) r (end came.0) came.1 in
    let cut = within_spots (horizon_in text) (lexed text) taken.0 came.0 taken.1 in
    let last = placed-before taken.0 (length text) came.0 (rw cut at (placed-lex_from (suc (length text)) text 0)) in
    record {
      spots = taken.0;
      lexes = cut ∙ ap (λ p. before taken.0 (end p)) last;
      writes = taken.2;
      few = within_few [] (length text) (lexed text) taken.0 came.0 (omega arith) taken.1;
    }

tokens_all : (text : List ℕ) → length (atoms (lexed text)) ≤ 32 → tokens text ≡ lexed text
tokens_all text few =
    ap (λ h. within h (lexed text)) (horizon_far [] (length text) (lexed text) few) ∙ within_far (length text) (lexed text) (placed-lex_from (suc (length text)) text 0)

pub text_complete : WrittenIsRead
text_complete text r w =
    let names = number_of (atoms (lexed text)) in
    let all = tokens_all text w.few ∙ w.lexes in
    let small : length w.spots ≤ length text = omega (arith, size-lex_from (suc (length text)) text 0, ap size w.lexes, size-before w.spots (length text)) in
    let room : 8 * length (tokens_in w.spots) + 5 < 8 * suc (length text) = omega (arith, length-map w.spots (λ s. s.0)) in
    let reads = read_complete names 32 alternatives (tokens_in w.spots) r w.writes w.spots (end (length text)) (8 * suc (length text)) refl (λ f. refl) (refl, (refl, (refl, refl))) room in
    ap wholly (ap (read (8 * suc (length text)) names 32 alternatives) all ∙ reads)

pub one_tree : OneTree
one_tree text r q v w = let one = text_complete text r v in let other = text_complete text q w in cc
