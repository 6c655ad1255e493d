-- The beginning of an implementation, part by part.
use Rattle.std.proofs.Common.{◌≡◌, ◌==◌, ℕ, List, [], ◌++◌, Bool, true, false, if◌then◌else◌, None, IsCharBoundary, append_assoc, sym, ◌∙◌, ap, string_bytes, subst}
use Rattle.std.proofs.lemmas.Str.Pattern.{starts_text}
use Rattle.std.specs.List.{starts_with}
use Rattle.std.specs.Str.Pattern.{FindsTextPrefix, StripsPrefix}
use denote.Ref.{Bor}
use Rattle.logos_text.specs.declared.sink.Sink.{Sink}
use Rattle.logos_text.specs.Fronts.{AroundValue, BeginsWith, IsFront, last_arm_text, library_text, opening_text, tables_lead, tables_use_text, whole_core}
use Rattle.logos_text.specs.Occurrence.{Adds}
use Rattle.logos_text.specs.Pieces.{IsEmptySink, NotesLast, Prints}
use Rattle.logos_text.specs.Runs.{name_runs, this_runs}
use Rattle.logos_text.proofs.PieceLemmas.{prints_both, whole_text}
use Rattle.logos_token.specs.declared.token.Ident.{Ident}
use Rattle.logos_token.specs.Tokens.{TokenList}

-- the effect of a front that is stripped, or that is missing
stripped_front : (name this : List ℕ) (rest : Bor (List ℕ)) → StripsPrefix (FindsTextPrefix name) this rest.now → (starts_with (λ one other. one == other) this name ≡ true) × (this ≡ name ++ rest.now)
stripped_front name this rest h = (
  sym (starts_text true name this (h.0, h.1, subst (λ n. IsCharBoundary this n) (sym h.1.0) h.1.2)),
  h.1.1 ∙ ap (λ w. name ++ w) (sym h.2),
)

lacks_front : (name this : List ℕ) → FindsTextPrefix name this None → starts_with (λ one other. one == other) this name ≡ false
lacks_front name this h = sym (starts_text false name this h)

-- the name of an enum at the beginning of its type
pub named_this : {a b c : Sink} (name : Ident) (this : List ℕ) (rest : Bor (List ℕ)) → StripsPrefix (FindsTextPrefix name.text.now) this rest.now → Prints name.text.now (name_runs name) a b → Prints rest.now [] b c →
    Prints this (this_runs name this) a c
named_this {a} {b} {c} name this rest h p q =
    let s = stripped_front name.text.now this rest h in
    subst (λ (text : List ℕ). Prints text (this_runs name this) a c) (sym s.1)
    (subst (λ (begins : Bool). Prints (name.text.now ++ rest.now) (if begins then name_runs name else []) a c) (sym s.0) (prints_both p q))

pub unnamed_this : {a b : Sink} (name : Ident) (this : List ℕ) → FindsTextPrefix name.text.now this None → Prints this [] a b → Prints this (this_runs name this) a b
unnamed_this {a} {b} name this h p =
    subst (λ (begins : Bool). Prints this (if begins then name_runs name else []) a b) (sym (lacks_front name.text.now this h)) p

-- the text of an implementation begins with its opening
pub begins_text : {front last : List ℕ} {xs ys : List TokenList} {texts : List (List ℕ)} {a b c d : Sink} → IsEmptySink a → Prints front xs a b → Adds texts (string_bytes b.text) (string_bytes c.text) → Prints last ys c d →
    BeginsWith front (string_bytes d.text)
begins_text {front} {last} {xs} {ys} {texts} {a} {b} {c} {d} empty p q tail = record {
  rest = q.added ++ last;
  is = tail.is_text ∙ ap (λ w. w ++ last) (q.is ∙ ap (λ w. w ++ q.added) (whole_text empty p)) ∙ append_assoc front q.added last;
}

-- the front of an implementation by tables
pub is_front : {xs ys zs : List TokenList} {a b c d : Sink} (around : AroundValue) (this : List ℕ) → IsEmptySink a → Prints (opening_text tables_lead whole_core around this) xs a b →
    Prints (tables_use_text (library_text around.logos)) ys b c → NotesLast last_arm_text zs c d → IsFront around this (string_bytes d.text)
is_front {xs} {ys} {zs} {a} {b} {c} {d} around this empty p q last = record {
  functions = last.front;
  is = whole_text empty (prints_both p (prints_both q last.prints));
}
