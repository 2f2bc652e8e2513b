-- Reading a text means what the grammar and the language of its rule say.
-- Assumes nothing.
use Rattle.std.proofs.Common.{◌≡◌, ℕ, ◌≤◌, Bool, true, false, ◌↔◌, List, [], ◌∷◌, ◌++◌, length, take, drop, Some, None, Ok, Err, Option, Result, sym, refl, ap, ◌∙◌, subst, inl, inr, arith}
use lib.ListN.{length-map}
use Rattle.std.proofs.lemmas.List.{append-nil, drop_all, length-append, length-drop, take_at}
use Rattle.std.proofs.lemmas.Bool.{le-leb, leb-true, and_from, and_parts}
use Rattle.languages.specs.Rules.{Rule}
use Rattle.refusals.specs.Questions.{layered, refusing, first_no}
use Rattle.refusals.specs.declared.Layer.TheVariants.{Text, Pool}
use Rattle.refusals.specs.declared.Question.{Question}
use Rattle.refusals.specs.declared.Question.TheVariants.{TextLength, ReadingRoom, GrammarAllows, NodeRoom}
use Rattle.refusals.specs.declared.Refusal.{Refusal}
use Rattle.grammar.specs.Grammar.{Written}
use Rattle.grammar.specs.Atoms.{atoms}
use Rattle.grammar.specs.Lexing.{lexed}
use Rattle.grammar.specs.Parsing.{parsed_text}
use Rattle.grammar.proofs.FirstWrong.{first_wrong}
use Rattle.grammar.proofs.OneTree.{text_sound, text_complete, one_tree}
use Rattle.grammar.proofs.Asking.{Refuses, text_asks}
use Rattle.nodes.specs.declared.node.Node.{Node}
use Rattle.nodes.specs.Records.{first_nodes}
use Rattle.nodes.specs.Entering.{Held, held}
use Rattle.nodes.specs.Soundness.{Sound}
use Rattle.nodes.specs.Promises.{Comes}
use Rattle.nodes.specs.Trees.{entered_tree}
use Rattle.nodes.proofs.Deriving.{comes_tree}
use Rattle.nodes.proofs.Orderly.{Whole, Full, Orderly, orderly_tree}
use Rattle.surveys.specs.declared.entry.Entry.{Entry}
use Rattle.surveys.specs.Entries.{entries, text_at, texts_in}
use Rattle.reader.specs.Reading.{room_asked, first_held, slice, rooted, after_parsing, after_asking, read_text}
use Rattle.reader.specs.Means.{Fits, Untold, Given, Named, Wrong, Left, ReadingMeans}
use Rattle.reader.proofs.Naming.{few_written}
use Rattle.reader.proofs.Numbered.{entries_are}

-- The pool with which entering begins.
first_used : (items : List Node) → (first_held items).used ≡ first_nodes
unfolding held
first_used items = refl

first_sound : Sound first_nodes
first_sound = record { begins = ([], refl); later = λ n low there. absurd (omega (arith, low, there)) }

-- Where the sizes fit, no question about them is answered with no.
fits_asked : (text : List ℕ) (items : List Node) (es : List Entry) → Fits text items es → first_no (room_asked (length text) (length items) (length es)) ≡ None
fits_asked text items es f = rw (
  and_from _ _ (le-leb 1 (length text) f.some) (le-leb (length text) 4096 f.short),
  and_from _ _ (le-leb 4 (length items) f.first) (and_from _ _ (le-leb (length items) 4096 f.most) (le-leb 32 (length es) f.places)),
)

-- Where none is answered with no, the slice is no longer than the largest pool.
asked_most : (text : List ℕ) (items : List Node) (es : List Entry) → first_no (room_asked (length text) (length items) (length es)) ≡ None → length items ≤ 4096
asked_most text items es e = leb-true (length items) 4096 (and_parts _ _ (and_parts _ _ (second _ _ e)).1).0
  where
    second : (a b : Bool) → first_no ((a, refusing TextLength 0) ∷ (b, refusing ReadingRoom 0) ∷ []) ≡ None → b ≡ true
    second true true none = refl
    second true false none = absurd (grind arith)
    second false b none = absurd (grind arith)

orderly : (t : Rule) (items : List Node) → length items ≤ 4096 → Orderly (entered_tree t (first_held items))
unfolding held
orderly t items most = orderly_tree t (first_held items)
    (refl, drop_all 4096 (first_nodes ++ drop 4 items) (let e = length-drop 4 items in omega (arith, e, most)))

-- The slice of a pool with nothing behind its nodes is these nodes.
slice_full : (h : Held) → h.past ≡ [] → h.beyond ≡ [] → slice h ≡ h.used
slice_full h past beyond = rw (past, beyond) (append-nil h.used)

full_untold : (new es : List Entry) (a : Result ℕ Refusal) (h : Held) → Full a h → Untold (rooted new es a h).0
full_untold new es (Ok root) h f = tt
full_untold new es (Err e) h f = f.0

-- A question about the text is not that of a full pool.
pool_is_no_text : (f : Refusal) → layered f.question ≡ Text → f.question ≡ NodeRoom → ⊥
pool_is_no_text f asks full =
    let z : Pool ≡ Text = sym (ap layered full) ∙ asks in grind arith

module _ (text : List ℕ) (items : List Node) (es : List Entry) where
  -- Entering the rule that is written.
  module _ (t : Rule) (written : Written text t) where
    comes : Comes (first_held items) t (entered_tree t (first_held items))
    comes = comes_tree t (first_held items) (few_written text t written) (rw (first_used items) first_sound)

    stands : (a : Result ℕ Refusal) (h : Held) → Full a h → Whole h → Comes (first_held items) t (a, h) →
        Given text (rooted (entries (lexed text)) es a h).0 (rooted (entries (lexed text)) es a h).1
    stands (Err e) h full whole c = λ room. subst (λ ns. (e.place ≡ length ns) × Sound ns) (sym (slice_full h full.2 whole.1)) (full.1, c.sound)
    stands (Ok root) h full whole c =
        let used = take_at h.used (h.past ++ h.beyond) h.count (sym whole.0) in
        record {
          rule = t;
          written = written;
          only = λ other w. one_tree text other t w written;
          sound = rw used c.sound;
          there = rw whole.0 c.answer.0;
          within = let e = length-append h.used (h.past ++ h.beyond) in omega (arith, e, whole.0);
          means = rw used c.answer.1;
        }

  accepts : length items ≤ 4096 → (p : Result Rule Refusal) → parsed_text text ≡ p → Untold (after_parsing text items es p).0 ↔ ((r : Rule) × Written text r)
  accepts most (Ok t) e = (
    λ u. (t, text_sound text t e),
    λ w. full_untold (entries (lexed text)) es (entered_tree t (first_held items)).0 (entered_tree t (first_held items)).1 (orderly t items most).0,
  )
  accepts most (Err f) e = (
    λ u. absurd (pool_is_no_text f (subst Refuses e (text_asks text)) u),
    λ w. absurd (let z : ◌≡◌ {A = Result Rule Refusal} (Err f) (Ok w.0) = sym e ∙ text_complete text w.0 w.1 in grind arith),
  )

  given_parsed : length items ≤ 4096 → (p : Result Rule Refusal) → parsed_text text ≡ p → Given text (after_parsing text items es p).0 (after_parsing text items es p).1
  given_parsed most (Ok t) e =
      let w = text_sound text t e in
      stands t w (entered_tree t (first_held items)).0 (entered_tree t (first_held items)).1 (orderly t items most).0 (orderly t items most).1 (comes t w)
  given_parsed most (Err f) e = λ room. absurd (pool_is_no_text f (subst Refuses e (text_asks text)) room)

  -- A question that is not about the sizes is not asked of them.
  size_asks : (q : Question) (a b : Bool) → (TextLength ≡ q → ⊥) → (ReadingRoom ≡ q → ⊥) → (f : Refusal) →
      first_no ((a, refusing TextLength 0) ∷ (b, refusing ReadingRoom 0) ∷ []) ≡ Some f → f.question ≡ q → ⊥
  size_asks q true true text-no room-no f e is = grind arith
  size_asks q true false text-no room-no f e is = room-no (let same : refusing ReadingRoom 0 ≡ f = cc in ap (λ g. g.question) same ∙ is)
  size_asks q false b text-no room-no f e is = text-no (let same : refusing TextLength 0 ≡ f = cc in ap (λ g. g.question) same ∙ is)

  given_asked : (o : Option Refusal) → first_no (room_asked (length text) (length items) (length es)) ≡ o → Given text (after_asking text items es o).0 (after_asking text items es o).1
  given_asked (Some f) e = λ room. absurd (size_asks NodeRoom _ _ (λ z. grind arith) (λ z. grind arith) f e room)
  given_asked None e = given_parsed (asked_most text items es e) (parsed_text text) refl

  -- The entries that reading writes.
  as_many : length (entries (lexed text)) ≡ length (atoms (lexed text))
  as_many = sym (length-map (entries (lexed text)) (text_at text)) ∙ ap length (entries_are text)

  speak : (n : ℕ) → length (entries (lexed text)) ≡ n → texts_in text (take n (entries (lexed text) ++ drop (length (entries (lexed text))) es)) ≡ atoms (lexed text)
  speak n is = ap (texts_in text) (take_at (entries (lexed text)) (drop (length (entries (lexed text))) es) n is) ∙ entries_are text

  named_tree : (a : Result ℕ Refusal) (h : Held) → Named text (rooted (entries (lexed text)) es a h).0 (rooted (entries (lexed text)) es a h).2
  named_tree (Ok root) h = (as_many, speak (length (entries (lexed text))) refl)
  named_tree (Err e) h = λ room. speak (length (atoms (lexed text))) as_many

  named_parsed : (p : Result Rule Refusal) → parsed_text text ≡ p → Named text (after_parsing text items es p).0 (after_parsing text items es p).2
  named_parsed (Ok t) e = named_tree (entered_tree t (first_held items)).0 (entered_tree t (first_held items)).1
  named_parsed (Err f) e = λ room. absurd (pool_is_no_text f (subst Refuses e (text_asks text)) room)

  named_asked : (o : Option Refusal) → first_no (room_asked (length text) (length items) (length es)) ≡ o → Named text (after_asking text items es o).0 (after_asking text items es o).2
  named_asked (Some f) e = λ room. absurd (size_asks NodeRoom _ _ (λ z. grind arith) (λ z. grind arith) f e room)
  named_asked None e = named_parsed (parsed_text text) refl

  wrong_tree : (new : List Entry) (a : Result ℕ Refusal) (h : Held) → Full a h → Wrong text (rooted new es a h).0
  wrong_tree new (Ok root) h f = tt
  wrong_tree new (Err e) h f = λ grammar. absurd (let z = sym grammar ∙ f.0 in grind arith)

  wrong_parsed : length items ≤ 4096 → (p : Result Rule Refusal) → parsed_text text ≡ p → Wrong text (after_parsing text items es p).0
  wrong_parsed most (Ok t) e = wrong_tree (entries (lexed text)) (entered_tree t (first_held items)).0 (entered_tree t (first_held items)).1 (orderly t items most).0
  wrong_parsed most (Err f) e = λ grammar. first_wrong text f.place (e ∙ ap (λ q. Err (refusing q f.place)) grammar)

  wrong_asked : (o : Option Refusal) → first_no (room_asked (length text) (length items) (length es)) ≡ o → Wrong text (after_asking text items es o).0
  wrong_asked (Some f) e = λ grammar. absurd (size_asks GrammarAllows _ _ (λ z. grind arith) (λ z. grind arith) f e grammar)
  wrong_asked None e = wrong_parsed (asked_most text items es e) (parsed_text text) refl

  left_tree : (new : List Entry) (a : Result ℕ Refusal) (h : Held) (same : Type 0) → Full a h → Left (rooted new es a h).0 same
  left_tree new (Ok root) h same f = tt
  left_tree new (Err e) h same f = inl f.0

  left_parsed : length items ≤ 4096 → (p : Result Rule Refusal) → Left (after_parsing text items es p).0 (((after_parsing text items es p).1 ≡ items) × ((after_parsing text items es p).2 ≡ es))
  left_parsed most (Ok t) = left_tree (entries (lexed text)) (entered_tree t (first_held items)).0 (entered_tree t (first_held items)).1 _ (orderly t items most).0
  left_parsed most (Err f) = inr (refl, refl)

  left_asked : (o : Option Refusal) → first_no (room_asked (length text) (length items) (length es)) ≡ o → Left (after_asking text items es o).0 (((after_asking text items es o).1 ≡ items) × ((after_asking text items es o).2 ≡ es))
  left_asked (Some f) e = inr (refl, refl)
  left_asked None e = left_parsed (asked_most text items es e) (parsed_text text)

  pub text_means : ReadingMeans text items es (read_text text items es)
  text_means = record {
    accepts = λ fits. rw (fits_asked text items es fits) (accepts fits.most (parsed_text text) refl);
    given = given_asked (first_no (room_asked (length text) (length items) (length es))) refl;
    named = named_asked (first_no (room_asked (length text) (length items) (length es))) refl;
    wrong = wrong_asked (first_no (room_asked (length text) (length items) (length es))) refl;
    left = left_asked (first_no (room_asked (length text) (length items) (length es))) refl;
  }
