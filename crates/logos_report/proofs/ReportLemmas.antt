-- The lines of a report that is appended to step by step.
use Rattle.std.proofs.Common.{◌≡◌, ◌≤◌, ◌<◌, ◌+◌, ◌/◌, ◌%◌, ◌==◌, ◌&&◌, ◌||◌, not, ◌⊎◌, inl, inr, ℕ, zero, suc, Bool, true, false, cond, IsTrue, List, [], ◌∷◌, ◌++◌, codes, decimal, chars, encode_utf8, flat_map, get_or, length, append_assoc, append-nil, refl, sym, ap, ◌∙◌, subst, arith}
use Rattle.std.proofs.lemmas.Bool.{cases_lt, le-leb, ne_eqb, ltb-false, eqb-false}
use Rattle.std.proofs.lemmas.List.Folds.{list_all-append}
use Rattle.std.proofs.lemmas.Str.{inside_one}
use Rattle.std.specs.Fmt.{digit_glyph, digits, digits_onto}
use Rattle.std.specs.Prelude.{nat_lt, nat_le}
use Rattle.logos_page.specs.declared.page.Style.{Style}
use Rattle.logos_page.specs.declared.page.Style.TheVariants.{Error, Frame, Strong, Warning}
use Rattle.logos_page.specs.Pages.{PageValue, Gains, begun, ended, painted, times}
use Rattle.logos_page.specs.Shown.{is_unsafe, occur_in, shown_char, shown_text}
use Rattle.logos_page.proofs.PageLemmas.{gains_then}
use Rattle.logos_lines.specs.Locations.{location_at}
use Rattle.logos_report.specs.Locations.{SourceValue, in_file, shown_location}
use Rattle.logos_report.specs.Reports.{Adds, AreAsides, Begins, BeginsAside, Continues, Ends, EndsLine, InReport, IsInLine, Shows, aside, empty, is_in_line, is_mark, none}

-- parts of a line, one after another
pub line_both : (one other : List ℕ) → IsInLine one → IsInLine other → IsInLine (one ++ other)
line_both one other a b = list_all-append (λ byte. not (byte == 10)) one other ∙ rw (a, b) refl

pub line_times : (count : ℕ) (text : List ℕ) → IsInLine text → IsInLine (times count text)
line_times zero text h = refl
line_times (suc count) text h = line_both (times count text) text (line_times count text h) h

other_byte : (byte : ℕ) → (byte ≡ 10 → ⊥) → not (byte == 10) ≡ true
other_byte byte h = ap not (ne_eqb byte 10 h)

line_byte : (byte : ℕ) (rest : List ℕ) → (byte ≡ 10 → ⊥) → IsInLine rest → IsInLine (byte ∷ rest)
line_byte byte rest h r = rw (other_byte byte h) r

-- the colors of a style
pub line_begun : (is_colored : Bool) (style : Style) → IsInLine (begun is_colored style)
line_begun true Error = refl
line_begun true Warning = refl
line_begun true Frame = refl
line_begun true Strong = refl
line_begun false style = refl

pub line_ended : (is_colored : Bool) → IsInLine (ended is_colored)
line_ended true = refl
line_ended false = refl

pub line_painted : (is_colored : Bool) (style : Style) (text : List ℕ) → IsInLine text → IsInLine (painted is_colored style text)
line_painted is_colored style text h =
    line_both (begun is_colored style) (text ++ ended is_colored) (line_begun is_colored style) (line_both text (ended is_colored) h (line_ended is_colored))

-- byte by byte
line_at : (bytes : List ℕ) → ((k : ℕ) → k < length bytes → get_or bytes k 0 ≡ 10 → ⊥) → IsInLine bytes
line_at [] h = refl
line_at (byte ∷ bytes) h = line_byte byte bytes (h 0 (omega arith)) (line_at bytes (λ k l. h (suc k) (omega (arith, l))))

-- a character other than a line feed
line_encoded : (c : ℕ) → (c ≡ 10 → ⊥) → IsInLine (encode_utf8 c)
line_encoded c h = line_at (encode_utf8 c) (λ k l e. h (inside_one c [] (encode_utf8 c) k (sym (append-nil (encode_utf8 c))) l (omega (arith, e)) ∙ e))

-- a character that is shown is not a line feed
occurs : (c : ℕ) → occur_in c ≡ 10 → ⊥
occurs c = go (nat_lt c 32) (c == 127) (is_unsafe c) refl
  where
    go : (x y z : Bool) → nat_lt c 32 ≡ x → cond x (0x2400 + c) (cond y 0x2421 (cond z 0xFFFD c)) ≡ 10 → ⊥
    go true y z e f = omega (arith, f)
    go false true z e f = omega (arith, f)
    go false false true e f = omega (arith, f)
    go false false false e f = omega (arith, f, ltb-false c 32 e)

pub line_shown_char : (c : ℕ) → IsInLine (shown_char c)
line_shown_char c = go (c == 9)
  where
    go : (x : Bool) → IsInLine (cond x (codes "    ") (encode_utf8 (occur_in c)))
    go true = refl
    go false = line_encoded (occur_in c) (occurs c)

shown_chars : (cs : List ℕ) → IsInLine (flat_map shown_char cs)
shown_chars [] = refl
shown_chars (c ∷ cs) = line_both (shown_char c) (flat_map shown_char cs) (line_shown_char c) (shown_chars cs)

pub line_shown : (text : List ℕ) → IsInLine (shown_text text)
line_shown text = shown_chars (chars text)

-- the digits of a number
record IsNumber (text : List ℕ) : Type 0 where
  digit : ℕ
  rest : List ℕ
  is : text ≡ digit ∷ rest
  marks : is_mark digit ≡ true
  other : digit ≡ 10 → ⊥
  line : IsInLine rest

or_true : (x : Bool) → (x || true) ≡ true
or_true true = refl
or_true false = refl

digit_marks : (byte : ℕ) → 48 ≤ byte → byte ≤ 57 → is_mark byte ≡ true
digit_marks byte l m = rw (le-leb 48 byte l, le-leb byte 57 m, or_true (byte == 46)) (or_true ((byte == 124) || (byte == 61)))

glyph_of : (d : ℕ) → d < 10 → (48 ≤ digit_glyph false d) × (digit_glyph false d ≤ 57)
glyph_of d l = go (nat_lt d 10) refl
  where
    go : (x : Bool) → nat_lt d 10 ≡ x → (48 ≤ cond x (48 + d) (87 + d)) × (cond x (48 + d) (87 + d) ≤ 57)
    go true e = (omega arith, omega (arith, l))
    go false e = absurd (omega (arith, l, ltb-false d 10 e))

next_digit : (d : ℕ) (rest : List ℕ) → d < 10 → IsInLine rest → IsNumber (digit_glyph false d ∷ rest)
next_digit d rest l h =
    let g = glyph_of d l in
    record { digit = digit_glyph false d; rest = rest; is = refl; marks = digit_marks (digit_glyph false d) g.0 g.1; other = λ e. omega (arith, e, g.0); line = h }

number_line : (text : List ℕ) → IsNumber text → IsInLine text
number_line text n = subst IsInLine (sym n.is) (line_byte n.digit n.rest n.other n.line)

onto : (k n : ℕ) (rest : List ℕ) → IsNumber rest → IsNumber (digits_onto k 10 false n rest)
onto zero n rest h = h
onto (suc k) n rest h =
    let last : n % 10 < 10 = omega arith in
    let one = next_digit (n % 10) rest last (number_line rest h) in
    either (n / 10 == 0) one (onto k (n / 10) (digit_glyph false (n % 10) ∷ rest) one)
  where
    either : {one other : List ℕ} (x : Bool) → IsNumber one → IsNumber other → IsNumber (cond x one other)
    either true a b = a
    either false a b = b

is_number : (n : ℕ) → IsNumber (decimal n)
unfolding digits
is_number n =
    let last : n % 10 < 10 = omega arith in
    let one = next_digit (n % 10) [] last refl in
    either (n / 10 == 0) one (onto 63 (n / 10) (digit_glyph false (n % 10) ∷ []) one)
  where
    either : {one other : List ℕ} (x : Bool) → IsNumber one → IsNumber other → IsNumber (cond x one other)
    either true a b = a
    either false a b = b

pub line_decimal : (n : ℕ) → IsInLine (decimal n)
line_decimal n = number_line (decimal n) (is_number n)

-- asides, one after another
asides_both : {is_colored : Bool} {one other : List ℕ} → AreAsides is_colored one → AreAsides is_colored other → AreAsides is_colored (one ++ other)
asides_both none b = b
asides_both {other = other} (empty rest a) b = empty (rest ++ other) (asides_both a b)
asides_both {is_colored} {other = other} (aside line rest begins a) b =
    subst (AreAsides is_colored) (sym (append_assoc line (10 ∷ rest) other)) (aside line (rest ++ other) begins (asides_both a b))

-- reports, one after another
pub report_both : (is_colored : Bool) (one other : List (List ℕ)) (front back : List ℕ) → InReport is_colored one front → InReport is_colored other back → InReport is_colored (one ++ other) (front ++ back)
report_both is_colored [] [] front back a b = asides_both a b
report_both is_colored [] (line ∷ other) front back a b =
    (front ++ b.0, b.1, b.2, ap (λ x. front ++ x) b.3 ∙ sym (append_assoc front b.0 (times b.1 (codes " ") ++ (line ++ b.2))), asides_both a b.4, b.5)
report_both is_colored (line ∷ one) other front back a b =
    let blanks = times a.1 (codes " ") in
    let e : front ++ back ≡ a.0 ++ (blanks ++ (line ++ (a.2 ++ back))) =
    ap (λ x. x ++ back) a.3 ∙ append_assoc a.0 (blanks ++ (line ++ a.2)) back ∙ ap (λ x. a.0 ++ x) (append_assoc blanks (line ++ a.2) back ∙ ap (λ x. blanks ++ x) (append_assoc line a.2 back)) in
    (a.0, a.1, a.2 ++ back, e, a.4, report_both is_colored one other a.2 back a.5 b)

-- two appended texts together
pub adds_then : {P Q R : List ℕ → Type 0} {old middle new : PageValue} → ((one other : List ℕ) → P one → Q other → R (one ++ other)) → Adds P old middle → Adds Q middle new → Adds R old new
adds_then {old = old} f a b = record {
  colored = b.colored ∙ a.colored;
  whole = λ w.
      let n = b.whole w in
      let m = a.whole n.0 in
      (m.0, (m.1.0 ++ n.1.0, n.1.1 ∙ ap (λ x. x ++ n.1.0) m.1.1 ∙ append_assoc old.text m.1.0 n.1.0, f m.1.0 n.1.0 m.1.2 n.1.2));
}

pub added : {P : List ℕ → Type 0} {bytes : List ℕ} {old new : PageValue} → P bytes → Gains bytes old new → Adds P old new
added {bytes = bytes} h g = record { colored = g.colored; whole = λ w. let m = g.whole w in (m.0, (bytes, m.1, h)) }

-- lines that were appended
pub shows_of : {lines : List (List ℕ)} {old new : PageValue} → Adds (InReport old.is_colored lines) old new → Shows lines old new
shows_of a = record { colored = a.colored; whole = a.whole }

adds_of : {lines : List (List ℕ)} {old new : PageValue} → Shows lines old new → Adds (InReport old.is_colored lines) old new
adds_of s = record { colored = s.colored; whole = s.whole }

-- nothing was pushed
nothing_added : {P : List ℕ → Type 0} (page : PageValue) → P [] → Adds P page page
nothing_added page h = record { colored = refl; whole = λ w. (w, ([], sym (append-nil page.text), h)) }

pub shows_nothing : (page : PageValue) → Shows [] page page
shows_nothing page = shows_of (nothing_added {P = InReport page.is_colored []} page none)

pub continues_nothing : (page : PageValue) → Continues page page
continues_nothing page = nothing_added page refl

-- one report after another
pub shows_then : {one other : List (List ℕ)} {old middle new : PageValue} → Shows one old middle → Shows other middle new → Shows (one ++ other) old new
shows_then {one} {other} {old} {middle} {new} a b =
    let same : Adds (InReport old.is_colored other) middle new = subst (λ c. Adds (InReport c other) middle new) a.colored (adds_of b) in
    shows_of (adds_then {P = InReport old.is_colored one} {Q = InReport old.is_colored other} {R = InReport old.is_colored (one ++ other)} (report_both old.is_colored one other) (adds_of a) same)

-- a line that is pushed is a line of the report
pub listed : (is_colored : Bool) (blanks : ℕ) (line : List ℕ) → InReport is_colored (line ∷ []) (times blanks (codes " ") ++ line)
listed is_colored blanks line = ([], blanks, [], ap (λ x. times blanks (codes " ") ++ x) (sym (append-nil line)), none, none)

pub shown : {line : List ℕ} {old new : PageValue} → Gains line old new → Shows (line ∷ []) old new
shown {line} {old} g = shows_of (added {P = InReport old.is_colored (line ∷ [])} (listed old.is_colored 0 line) g)

pub shown_after : (blanks : ℕ) {line : List ℕ} {old middle new : PageValue} → Gains (times blanks (codes " ")) old middle → Gains line middle new → Shows (line ∷ []) old new
shown_after blanks {line} {old} b g = shows_of (added {P = InReport old.is_colored (line ∷ [])} (listed old.is_colored blanks line) (gains_then b g))

-- the same fact with the colors that a page had before
pub shows_as : (lines : Bool → List (List ℕ)) {is_colored : Bool} {middle new : PageValue} → middle.is_colored ≡ is_colored → Shows (lines middle.is_colored) middle new → Shows (lines is_colored) middle new
shows_as lines {is_colored} {middle} {new} e s = subst (λ c. Shows (lines c) middle new) e s

-- lines that are shown before asides
pub first_shown : {lines : List (List ℕ)} {old middle new : PageValue} → Shows lines old middle → Shows [] middle new → Shows lines old new
first_shown {lines} {old} {middle} {new} s t = subst (λ l. Shows l old new) (append-nil lines) (shows_then s t)

-- a part of a line
pub continued : {bytes : List ℕ} {old new : PageValue} → IsInLine bytes → Gains bytes old new → Continues old new
continued h g = added h g

pub continues_then : {old middle new : PageValue} → Continues old middle → Continues middle new → Continues old new
continues_then a b = adds_then line_both a b

-- an empty line
pub empty_shown : {old new : PageValue} → Gains (codes "\n") old new → Shows [] old new
empty_shown {old} g = shows_of (added {P = InReport old.is_colored []} (empty [] none) g)

-- the beginning of a line under a fault, with a part of the line
begins_more : {is_colored : Bool} (one other : List ℕ) → BeginsAside is_colored one → IsInLine other → BeginsAside is_colored (one ++ other)
begins_more {is_colored} one other a h =
    let blanks = times a.blanks (codes " ") in
    let front = begun is_colored Frame in
    record {
      blanks = a.blanks;
      mark = a.mark;
      rest = a.rest ++ other;
      is = ap (λ x. x ++ other) a.is ∙ append_assoc blanks (front ++ a.mark ∷ a.rest) other ∙ ap (λ x. blanks ++ x) (append_assoc front (a.mark ∷ a.rest) other);
      marks = a.marks;
      line = line_both a.rest other a.line h;
    }

pub begins_then : {old middle new : PageValue} → Begins old middle → Continues middle new → Begins old new
begins_then a b = adds_then begins_more a b

-- the end of a line
line_ends : (one other : List ℕ) → IsInLine one → other ≡ codes "\n" → EndsLine (one ++ other)
line_ends one other h e = record { front = one; is = ap (λ x. one ++ x) e; line = h }

pub ends_after : {old middle new : PageValue} → Continues old middle → Gains (codes "\n") middle new → Ends old new
ends_after a g = adds_then {Q = λ bytes. bytes ≡ codes "\n"} line_ends a (added refl g)

pub ended_line : {old new : PageValue} → Gains (codes "\n") old new → Ends old new
ended_line g = added (record { front = []; is = refl; line = refl }) g

-- a line under a fault
aside_ends : {is_colored : Bool} (one other : List ℕ) → BeginsAside is_colored one → EndsLine other → AreAsides is_colored (one ++ other)
aside_ends {is_colored} one other a b =
    subst (AreAsides is_colored) (append_assoc one b.front (codes "\n") ∙ ap (λ x. one ++ x) (sym b.is)) (aside (one ++ b.front) [] (begins_more one b.front a b.line) none)

pub aside_shown : {old middle new : PageValue} → Begins old middle → Ends middle new → Shows [] old new
aside_shown {old} a b = shows_of (adds_then {R = InReport old.is_colored []} aside_ends a b)

pub line_shown_aside : {old middle new : PageValue} → Begins old middle → Gains (codes "\n") middle new → Shows [] old new
line_shown_aside a g = aside_shown a (ended_line g)

-- a mark that is painted after blanks
pub marked : (blanks mark : ℕ) (rest : List ℕ) {old middle new : PageValue} → is_mark mark ≡ true → IsInLine rest → Gains (times blanks (codes " ")) old middle → Gains (painted middle.is_colored Frame (mark ∷ rest)) middle new → Begins old new
marked blanks mark rest {old} {middle} {new} m h b g =
    let same = subst (λ c. Gains (painted c Frame (mark ∷ rest)) middle new) b.colored g in
    added (record { blanks = blanks; mark = mark; rest = rest ++ ended old.is_colored; is = refl; marks = m; line = line_both rest (ended old.is_colored) h (line_ended old.is_colored) }) (gains_then b same)

-- a number that is painted, with a part of the line
pub numbered : (number : ℕ) (rest : List ℕ) {old new : PageValue} → IsInLine rest → Gains (painted old.is_colored Frame (decimal number ++ rest)) old new → Begins old new
numbered number rest {old} {new} h g =
    let n = is_number number in
    let front = begun old.is_colored Frame in
    let last = ended old.is_colored in
    let e : painted old.is_colored Frame (decimal number ++ rest) ≡ front ++ n.digit ∷ (n.rest ++ (rest ++ last)) =
    ap (λ x. front ++ x) (append_assoc (decimal number) rest last ∙ ap (λ x. x ++ (rest ++ last)) n.is) in
    added (record { blanks = 0; mark = n.digit; rest = n.rest ++ (rest ++ last); is = e; marks = n.marks; line = line_both n.rest (rest ++ last) n.line (line_both rest last h (line_ended old.is_colored)) }) g

-- a location
pub line_location : (source : SourceValue) (begin offset : ℕ) → IsInLine (shown_location source begin offset)
line_location source begin offset =
    let location = location_at source.text (in_file begin offset) in
    let column = line_both (codes ":") (decimal location.column) refl (line_decimal location.column) in
    line_both (shown_text source.path) (codes ":" ++ (decimal location.line ++ (codes ":" ++ decimal location.column))) (line_shown source.path)
    (line_both (codes ":") (decimal location.line ++ (codes ":" ++ decimal location.column)) refl (line_both (decimal location.line) (codes ":" ++ decimal location.column) (line_decimal location.line) column))
