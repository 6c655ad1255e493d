-- The content of lines that are appended to step by step.
use Rattle.std.proofs.Common.{◌≡◌, ◌≤◌, ◌<◌, ◌+◌, ℕ, Bool, true, false, List, [], ◌∷◌, ◌++◌, length, get_or, drop, append_assoc, sym, ap, ◌∙◌, refl, subst}
use Rattle.std.proofs.lemmas.List.{append-nil, at_drop_more, at_drop_all}
use Rattle.std.proofs.lemmas.Str.{IsUtf8-from_is_utf8, is_utf8-from_IsUtf8}
use Rattle.std.specs.List.{flat_map}
use Rattle.std.specs.Str.{IsUtf8, is_utf8}
use Rattle.json.specs.Token.{Token}
use Rattle.json.specs.Lex as lex
use Rattle.json.specs.Print.{print, print_from}
use Rattle.logos_json.proofs.QuietLemmas.{quiet_print}
use Rattle.logos_json.specs.Lines.{AreLines, AreQuiet, Ends, Finishes, Gains, IsLine, LinesValue, Puts}
use Rattle.logos_json.specs.Members.{byte_tokens, bytes_member, list_member, text_member}

quiet_both : (one other : List Token) → AreQuiet one → AreQuiet other → AreQuiet (one ++ other)
quiet_both [] other a b = b
quiet_both (token ∷ one) other a b = (a.0, quiet_both one other a.1 b)

pub gains_nothing : (lines : LinesValue) → Gains [] lines lines
gains_nothing lines = record { before = refl; whole = λ w. (w, sym (append-nil lines.tokens)); quiet = tt }

-- One run of tokens after another.
pub gains_then : {one other : List Token} {old middle new : LinesValue} → Gains one old middle → Gains other middle new → Gains (one ++ other) old new
gains_then {one} {other} {old} {middle} {new} a b = record {
  before = b.before ∙ a.before;
  whole = λ w. let m = b.whole w in let f = a.whole m.0 in (f.0, m.1 ∙ ap (λ x. x ++ other) f.1 ∙ append_assoc old.tokens one other);
  quiet = quiet_both one other a.quiet b.quiet;
}

-- The tokens of the next one, and those of the rest.
pub next_gained : {X : Type 0} (f : X → List Token) (xs : List X) (k : ℕ) (d : X) {old middle new : LinesValue} → k < length xs → Gains (f (get_or xs k d)) old middle → Gains (flat_map f (drop (k + 1) xs)) middle new →
    Gains (flat_map f (drop k xs)) old new
next_gained f xs k d {old} {middle} {new} l one rest = subst (λ tokens. Gains tokens old new) (sym (at_drop_more (flat_map f) xs k d l)) (gains_then one rest)

-- Nothing is left.
pub none_gained : {X : Type 0} (f : X → List Token) (xs : List X) (k : ℕ) (lines : LinesValue) → length xs ≤ k → Gains (flat_map f (drop k xs)) lines lines
none_gained f xs k lines l = subst (λ tokens. Gains tokens lines lines) (sym (at_drop_all (flat_map f) xs k l)) (gains_nothing lines)

-- A line into which tokens were pushed was ended.
pub one_put : {shown : List Token} {old middle new : LinesValue} → Gains shown old middle → Ends middle new → Puts (shown ∷ []) old new
one_put {shown} {old} {middle} {new} gained ends = record {
  ended = λ e. ends.empty;
  whole = λ e w.
      let m = ends.whole w in
      let f = gained.whole m.0 in
      let same : middle.tokens ≡ shown = f.1 ∙ ap (λ ts. ts ++ shown) e in
      let line : List ℕ = print shown ++ 10 ∷ [] in
      let is : IsLine shown line = record {
        is = refl;
        reads = subst (λ ts. lex.tokens (print ts) ≡ ts) same ends.reads;
        quiet = quiet_print false shown gained.quiet;
        utf8 = subst (λ ts. IsUtf8 (print ts)) same ends.utf8;
      } in
      let front : new.before ≡ old.before ++ line = m.1 ∙ (λ i. gained.before i ++ (print (same i) ++ 10 ∷ [])) in
      (f.0, line, front, (line, [], is, refl, sym (append-nil line)));
}

-- Lines after lines.
lines_both : (one other : List (List Token)) (a b : List ℕ) → AreLines one a → AreLines other b → AreLines (one ++ other) (a ++ b)
lines_both [] other a b e r = subst (AreLines other) (ap (λ x. x ++ b) (sym e)) r
lines_both (shown ∷ one) other a b e r = (e.0, e.1 ++ b, e.2, lines_both one other e.1 b e.3 r, ap (λ x. x ++ b) e.4 ∙ append_assoc e.0 e.1 b)

pub puts_nothing : (lines : LinesValue) → Puts [] lines lines
puts_nothing lines = record { ended = λ e. e; whole = λ e w. (w, [], sym (append-nil lines.before), refl) }

pub puts_then : {one other : List (List Token)} {old middle new : LinesValue} → Puts one old middle → Puts other middle new → Puts (one ++ other) old new
puts_then {one} {other} {old} {middle} {new} a b = record {
  ended = λ e. b.ended (a.ended e);
  whole = λ e w.
      let m = b.whole (a.ended e) w in
      let f = a.whole e m.0 in
      let front : new.before ≡ old.before ++ (f.1 ++ m.1) = m.2 ∙ ap (λ x. x ++ m.1) f.2 ∙ append_assoc old.before f.1 m.1 in
      (f.0, f.1 ++ m.1, front, lines_both one other f.1 m.1 f.3 m.3);
}

-- The lines of the next one, and those of the rest.
pub next_put : {X : Type 0} (f : X → List (List Token)) (xs : List X) (k : ℕ) (d : X) {old middle new : LinesValue} → k < length xs → Puts (f (get_or xs k d)) old middle → Puts (flat_map f (drop (k + 1) xs)) middle new →
    Puts (flat_map f (drop k xs)) old new
next_put f xs k d {old} {middle} {new} l one rest = subst (λ lines. Puts lines old new) (sym (at_drop_more (flat_map f) xs k d l)) (puts_then one rest)

-- No line is left.
pub none_put : {X : Type 0} (f : X → List (List Token)) (xs : List X) (k : ℕ) (lines : LinesValue) → length xs ≤ k → Puts (flat_map f (drop k xs)) lines lines
none_put f xs k lines l = subst (λ shown. Puts shown lines lines) (sym (at_drop_all (flat_map f) xs k l)) (puts_nothing lines)

-- The printed text of no tokens.
pub printed_nothing : (before bytes : List ℕ) (shown : List Token) → bytes ≡ before ++ print shown → shown ≡ [] → bytes ≡ before
unfolding print_from
printed_nothing before bytes shown is e = is ∙ ap (λ tokens. before ++ print tokens) e ∙ append-nil before

-- The bytes of lines with nothing before them.
pub put_text : (shown : List (List Token)) (first last : LinesValue) (bytes : List ℕ) → first.before ≡ [] → first.tokens ≡ [] → Puts shown first last → Finishes last bytes → AreLines shown bytes
put_text shown first last bytes e t puts finishes =
    let all = puts.whole t finishes.whole in
    let is : bytes ≡ all.1 = finishes.is (puts.ended t) ∙ all.2 ∙ ap (λ x. x ++ all.1) e in
    subst (AreLines shown) (sym is) all.3

-- The bytes of one line with nothing before it.
pub one_text : (shown : List Token) (first last : LinesValue) (bytes : List ℕ) → first.before ≡ [] → first.tokens ≡ [] → Gains shown first last → (ended : LinesValue) → Ends last ended → Finishes ended bytes → IsLine shown bytes
one_text shown first last bytes e t gained ended ends finishes =
    let all = put_text (shown ∷ []) first ended bytes e t (one_put gained ends) finishes in
    let is : bytes ≡ all.0 = all.4 ∙ ap (λ rest. all.0 ++ rest) all.3 ∙ append-nil all.0 in
    subst (IsLine shown) (sym is) all.2

-- Bytes that are not UTF-8 do not pass the test.
not_utf8 : (bytes : List ℕ) → ¬ IsUtf8 bytes → is_utf8 bytes ≡ false
not_utf8 bytes other = go (is_utf8 bytes) refl
  where
    go : (b : Bool) → is_utf8 bytes ≡ b → is_utf8 bytes ≡ false
    go true e = absurd (other (IsUtf8-from_is_utf8 bytes e))
    go false e = e

-- The member with bytes that are UTF-8, and with others.
pub utf8_member : (name bytes : List ℕ) → IsUtf8 bytes → bytes_member name bytes ≡ text_member name bytes
utf8_member name bytes u = rw (is_utf8-from_IsUtf8 bytes u) refl

pub other_member : (name bytes : List ℕ) → ¬ IsUtf8 bytes → bytes_member name bytes ≡ list_member name (flat_map byte_tokens bytes)
other_member name bytes other = rw (not_utf8 bytes other) refl
