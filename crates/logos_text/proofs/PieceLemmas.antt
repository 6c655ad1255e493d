-- The texts that a sink was given, step by step.
use Rattle.std.proofs.Common.{◌≡◌, ◌<◌, ◌≤◌, ℕ, suc, ◌+◌, add-one, drop, drop-cons, get_or, List, [], ◌∷◌, ◌++◌, length, append-nil, arith, append_assoc, length-append, refl, sym, ◌∙◌, ap, string_bytes, subst}
use Rattle.std.proofs.Math.ListN.{drop_of_length-le}
use Rattle.std.specs.List.{flat_map}
use Rattle.logos_text.specs.declared.sink.Piece.{Piece}
use Rattle.logos_text.specs.declared.sink.Sink.{Sink}
use Rattle.logos_text.specs.Occurrence.{Adds, Grows}
use Rattle.logos_lexeme.specs.declared.lexeme.Span.{Span}
use Rattle.logos_text.specs.Pieces.{ArePrinted, IsEmptySink, Notes, NotesLast, Prints, PrintsPiece, piece_at}
use Rattle.logos_text.specs.Runs.{noted_runs}
use Rattle.logos_token.specs.Printing.{printed}
use Rattle.logos_token.specs.Tokens.{TokenList, none, also, run_span}

-- a piece by its parts
abbrev piece_of : ℕ → ℕ → Span → Piece
piece_of from to span = record { from = from; to = to; span = span }

-- the piece that is noted
pub piece_noted : (o n t : List ℕ) (from to : ℕ) (span : Span) (old new : List Piece) → from ≡ length o → to ≡ length n → n ≡ o ++ t → new ≡ old ++ piece_of from to span ∷ [] →
    new ≡ old ++ piece_of (length o) (length o + length t) span ∷ []
piece_noted o n t from to span old new e f g p =
    p ∙ ap (λ k. old ++ piece_of k to span ∷ []) e ∙ ap (λ k. old ++ piece_of (length o) k span ∷ []) (f ∙ ap length g ∙ length-append o t)

-- text without runs comes first
printed_after : (runs : List TokenList) (offset : ℕ) (u v : List ℕ) (pieces : List Piece) → ArePrinted runs (offset + length u) pieces v → ArePrinted runs offset pieces (u ++ v)
printed_after [] offset u v pieces h = h
printed_after (run ∷ runs) offset u v pieces h =
    let one : (offset + length u) + length h.0 ≡ offset + length (u ++ h.0) = omega (arith, length-append u h.0) in
    let two : (offset + length u) + length (h.0 ++ printed run) ≡ offset + length ((u ++ h.0) ++ printed run) =
    omega (arith, length-append u h.0, length-append h.0 (printed run), length-append (u ++ h.0) (printed run)) in (
      u ++ h.0,
      h.1,
      h.2,
      ap (λ w. u ++ w) h.3 ∙ sym (append_assoc u h.0 (printed run ++ h.1)),
      subst (λ n. pieces ≡ piece_at n run ∷ h.2) one h.4,
      subst (λ n. ArePrinted runs n h.2 h.1) two h.5,
    )

-- runs of one text, and then those of the text after it
printed_together : (xs ys : List TokenList) (offset : ℕ) (u v : List ℕ) (p q : List Piece) → ArePrinted xs offset p u → ArePrinted ys (offset + length u) q v → ArePrinted (xs ++ ys) offset (p ++ q) (u ++ v)
printed_together [] ys offset u v p q h k = subst (λ ps. ArePrinted ys offset (ps ++ q) (u ++ v)) (sym h) (printed_after ys offset u v q k)
printed_together (x ∷ xs) ys offset u v p q h k =
    let one : offset + length u ≡ (offset + length (h.0 ++ printed x)) + length h.1 =
    omega (arith, ap length h.3, length-append h.0 (printed x ++ h.1), length-append (printed x) h.1, length-append h.0 (printed x)) in (
      h.0,
      h.1 ++ v,
      h.2 ++ q,
      ap (λ w. w ++ v) h.3 ∙ append_assoc h.0 (printed x ++ h.1) v ∙ ap (λ w. h.0 ++ w) (append_assoc (printed x) h.1 v),
      ap (λ ps. ps ++ q) h.4,
      printed_together xs ys (offset + length (h.0 ++ printed x)) h.1 v h.2 q h.5 (subst (λ n. ArePrinted ys n q v) one k),
    )

-- text without runs comes last
pub printed_before : (runs : List TokenList) (offset : ℕ) (u v : List ℕ) (pieces : List Piece) → ArePrinted runs offset pieces u → ArePrinted runs offset pieces (u ++ v)
printed_before runs offset u v pieces h =
    subst (λ rs. ArePrinted rs offset pieces (u ++ v)) (append-nil runs)
    (subst (λ ps. ArePrinted (runs ++ []) offset ps (u ++ v)) (append-nil pieces) (printed_together runs [] offset u v pieces [] h refl))

-- one step after another
pub prints_both : {text more : List ℕ} {xs ys : List TokenList} {a b c : Sink} → Prints text xs a b → Prints more ys b c → Prints (text ++ more) (xs ++ ys) a c
prints_both {text} {more} {xs} {ys} {a} {b} {c} p q = record {
  pieces = p.pieces ++ q.pieces;
  is_text = q.is_text ∙ ap (λ w. w ++ more) p.is_text ∙ append_assoc (string_bytes a.text) text more;
  are_pieces = q.are_pieces ∙ ap (λ w. w ++ q.pieces) p.are_pieces ∙ append_assoc a.pieces.items p.pieces q.pieces;
  printed = printed_together xs ys (length (string_bytes a.text)) text more p.pieces q.pieces p.printed
      (subst (λ n. ArePrinted ys n q.pieces more) (ap length p.is_text ∙ length-append (string_bytes a.text) text) q.printed);
}

-- the last step has no runs
pub prints_last : {text more : List ℕ} {xs : List TokenList} {a b c : Sink} → Prints text xs a b → Prints more [] b c → Prints (text ++ more) xs a c
prints_last {text} {more} {xs} {a} {b} {c} p q = subst (λ runs. Prints (text ++ more) runs a c) (append-nil xs) (prints_both p q)

-- a text without runs
pub prints_text : {a b : Sink} (text : List ℕ) → string_bytes b.text ≡ string_bytes a.text ++ text → b.pieces.items ≡ a.pieces.items → Prints text [] a b
prints_text {a} {b} text e f = record { pieces = []; is_text = e; are_pieces = f ∙ sym (append-nil a.pieces.items); printed = refl }

pub prints_nothing : {a b : Sink} → b.text ≡ a.text → b.pieces ≡ a.pieces → Prints [] [] a b
prints_nothing {a} {b} e f = prints_text [] (ap string_bytes e ∙ sym (append-nil (string_bytes a.text))) (ap (λ pieces. pieces.items) f)

-- the piece of a run
pub prints_piece : {a b : Sink} (text : List ℕ) (span : Span) (run : TokenList) → text ≡ printed run → span ≡ run_span run → PrintsPiece text span a b → Prints text (run ∷ []) a b
prints_piece {a} {b} text span run e s p =
    let from = length (string_bytes a.text) in
    let same : piece_of from (from + length text) span ≡ piece_at (from + 0) run =
    ap (λ n. piece_of from n span) (ap (λ t. from + length t) e) ∙ ap (λ at. piece_of from (from + length (printed run)) at) s
    ∙ ap (λ n. piece_of n (n + length (printed run)) (run_span run)) (let z : from ≡ from + 0 = omega arith in z) in
    record {
      pieces = piece_of from (from + length text) span ∷ [];
      is_text = p.is_text;
      are_pieces = p.are_pieces;
      printed = ([], [], [], e ∙ sym (append-nil (printed run)), ap (λ piece. piece ∷ []) same, refl);
    }

-- a run that is not empty, and an empty one
pub noted_some : (run : TokenList) → (run ≡ none → ⊥) → noted_runs run ≡ run ∷ []
noted_some none h = absurd (h refl)
noted_some (also token rest) h = refl

pub prints_some : {a b : Sink} (text : List ℕ) (span : Span) (run : TokenList) → (run ≡ none → ⊥) → text ≡ printed run → span ≡ run_span run → PrintsPiece text span a b →
    Prints (printed run) (noted_runs run) a b
prints_some {a} {b} text span run h e s p =
    subst (λ t. Prints t (noted_runs run) a b) e (subst (λ runs. Prints text runs a b) (sym (noted_some run h)) (prints_piece text span run e s p))

pub prints_none : (a : Sink) (run : TokenList) → run ≡ none → Prints (printed run) (noted_runs run) a a
prints_none a run e = subst (λ (r : TokenList). Prints (printed r) (noted_runs r) a a) (sym e) (prints_text [] (sym (append-nil (string_bytes a.text))) refl)

-- ---- some text

pub notes_of : {text : List ℕ} {runs : List TokenList} {a b : Sink} → Prints text runs a b → Notes runs a b
notes_of {text} p = record { text = text; prints = p }

pub notes_both : {xs ys : List TokenList} {a b c : Sink} → Notes xs a b → Notes ys b c → Notes (xs ++ ys) a c
notes_both p q = notes_of (prints_both p.prints q.prints)

pub notes_last : {xs : List TokenList} {a b c : Sink} → Notes xs a b → Notes [] b c → Notes xs a c
notes_last p q = notes_of (prints_last p.prints q.prints)

pub notes_text : {a b : Sink} (text : List ℕ) → string_bytes b.text ≡ string_bytes a.text ++ text → b.pieces.items ≡ a.pieces.items → Notes [] a b
notes_text text e f = notes_of (prints_text text e f)

pub notes_grown : {xs : List (List ℕ)} {a b : Sink} → Adds xs (string_bytes a.text) (string_bytes b.text) → b.pieces.items ≡ a.pieces.items → Notes [] a b
notes_grown g f = notes_text g.added g.is f

-- the text has grown
pub notes_adds : {runs : List TokenList} {a b : Sink} → Notes runs a b → Grows (string_bytes a.text) (string_bytes b.text)
notes_adds n = record { added = n.text; is = n.prints.is_text; occur = tt }

pub notes_nothing : (a : Sink) → Notes [] a a
notes_nothing a = notes_text [] (sym (append-nil (string_bytes a.text))) refl

-- the text ends so
pub last_noted : {last : List ℕ} {runs : List TokenList} {a b c : Sink} → Notes runs a b → Prints last [] b c → NotesLast last runs a c
last_noted p q = record { front = p.text; prints = prints_last p.prints q }

-- a result for the rest of a loop's runs completes all of them
pub runs_more : {A : Type 0} (f : A → List TokenList) (xs : List A) (i : ℕ) (d : A) (start old new : Sink) → i < length xs → d ≡ get_or xs i d → Notes (f d) old new →
    ((whole : Sink) → Notes (flat_map f (drop i xs)) old whole → Notes (flat_map f xs) start whole) → (whole : Sink) → Notes (flat_map f (drop (i + 1) xs)) new whole →
    Notes (flat_map f xs) start whole
runs_more f xs i d start old new l is step so_far whole afterward =
    let next : drop i xs ≡ d ∷ drop (i + 1) xs = rw (add-one, drop-cons xs i d) (ap (λ y. y ∷ drop (suc i) xs) (sym is)) in
    so_far whole (subst (λ left. Notes (flat_map f left) old whole) (sym next) (notes_both step afterward))

pub runs_all : {A : Type 0} (f : A → List TokenList) (xs : List A) (i : ℕ) (start sink : Sink) → length xs ≤ i →
    ((whole : Sink) → Notes (flat_map f (drop i xs)) sink whole → Notes (flat_map f xs) start whole) → Notes (flat_map f xs) start sink
runs_all f xs i start sink l so_far = so_far sink (subst (λ left. Notes (flat_map f left) sink sink) (sym (drop_of_length-le xs l)) (notes_nothing sink))

-- ---- a whole sink

-- the texts given to an empty sink are its whole text
pub whole_printed : {text : List ℕ} {runs : List TokenList} {a b : Sink} → IsEmptySink a → Prints text runs a b → ArePrinted runs 0 b.pieces.items (string_bytes b.text)
whole_printed {text} {runs} {a} {b} empty p =
    subst (λ w. ArePrinted runs 0 b.pieces.items w) (sym (p.is_text ∙ ap (λ w. w ++ text) empty.text))
    (subst (λ ps. ArePrinted runs 0 ps text) (sym (p.are_pieces ∙ ap (λ ps. ps ++ p.pieces) empty.pieces))
    (subst (λ n. ArePrinted runs n p.pieces text) (ap length empty.text) p.printed))

pub whole_text : {text : List ℕ} {runs : List TokenList} {a b : Sink} → IsEmptySink a → Prints text runs a b → string_bytes b.text ≡ text
whole_text {text} empty p = p.is_text ∙ ap (λ w. w ++ text) empty.text

pub whole_noted : {runs : List TokenList} {a b : Sink} → IsEmptySink a → Notes runs a b → ArePrinted runs 0 b.pieces.items (string_bytes b.text)
whole_noted empty n = whole_printed empty n.prints
