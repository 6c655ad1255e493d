-- The lines of faults, one after another, and those of parts of a file.
use Rattle.std.proofs.Common.{◌≡◌, ◌≤◌, ◌<◌, ◌+◌, ℕ, List, [], ◌∷◌, ◌++◌, ◌==◌, length, get_or, drop, take, Bool, true, false, Option, Some, None, IfSome, option_map, sym, ap, ◌∙◌, refl, subst, true≢false, arith}
use Rattle.std.proofs.lemmas.Bool.{ltb-true, ne_eqb}
use Rattle.std.specs.Prelude.{nat_lt}
use Rattle.std.proofs.lemmas.List.{drop_all, drop_more}
use Rattle.json.specs.Token.{Token}
use Rattle.logos_json.proofs.LineLemmas.{one_put, put_text, puts_nothing, puts_then}
use Rattle.logos_json.specs.Lines.{Ends, Finishes, LinesValue, Puts}
use Rattle.logos_lexeme.specs.declared.lexeme.Span.{Span}
use Rattle.logos_report.proofs.FaultLemmas.{next_front}
use Rattle.logos_report.proofs.PartLemmas.{front_more}
use Rattle.logos_report.specs.declared.file_report.Refused.{Refused}
use Rattle.logos_report.specs.Faults.{left_out, seen_of}
use Rattle.logos_report.specs.Reports.{InReport}
use Rattle.logos_report.specs.Parts.{all_faults}
use Rattle.logos_report.specs.Locations.{SourceValue}
use Rattle.logos_token.specs.declared.error.SpannedError.{SpannedError}
use Rattle.logos_token.specs.Faults.{Fault}
use Rattle.logos_token.specs.FaultView.{fault_of, faults_of}
use Rattle.logos_messages.specs.Growing.{YieldsMessage}
use Rattle.logos_messages.specs.Messages.{AreMessages, AreRefusedMessages, CountedLines, LinesAfter, LinesFor, PartLines, PutsAfter, PutsCounted, PutsFrom}
use Rattle.logos_messages.specs.Shown.{HasLongLine, IsShown, Shown}
use Rattle.logos_messages.specs.Tokens.{diagnostic_tokens}

-- the lines for the next fault, and for those after it
pub next_counted : (source : SourceValue) (begin : ℕ) (all earlier : List Fault) (faults : List SpannedError) (i : ℕ) (d : SpannedError) {old middle new : LinesValue} → i < length faults →
    PutsCounted source begin all (earlier ++ faults_of (take i faults)) (fault_of (get_or faults i d)) old middle →
    PutsAfter source begin all (earlier ++ faults_of (take (i + 1) faults)) (faults_of (drop (i + 1) faults)) middle new →
    PutsAfter source begin all (earlier ++ faults_of (take i faults)) (faults_of (drop i faults)) old new
next_counted source begin all earlier faults i d {old} {middle} {new} l one rest =
    let front = earlier ++ faults_of (take i faults) in
    let later = subst (λ f. LinesAfter source begin all f (faults_of (drop (i + 1) faults)) rest.0) (next_front earlier faults i d l) rest.1 in
    subst (λ list. PutsAfter source begin all front (faults_of list) old new) (sym (drop_more faults i d l)) (one.0 ++ rest.0, (one.0, rest.0, refl, one.1, later), puts_then one.2 rest.2)

-- no fault is left
pub none_counted : (source : SourceValue) (begin : ℕ) (all front : List Fault) (faults : List SpannedError) (i : ℕ) (lines : LinesValue) → length faults ≤ i →
    PutsAfter source begin all front (faults_of (drop i faults)) lines lines
none_counted source begin all front faults i lines l =
    subst (λ list. PutsAfter source begin all front (faults_of list) lines lines) (sym (drop_all i faults l)) ([], refl, puts_nothing lines)

-- more than 50 faults in front have the code
pub nothing_counted : (source : SourceValue) (begin : ℕ) (all front : List Fault) (fault : Fault) (seen : ℕ) → seen ≡ seen_of fault.code front → 50 ≤ seen → (seen ≡ 50 → ⊥) → CountedLines source begin all front fault []
nothing_counted source begin all front fault seen same most other = go (nat_lt (seen_of fault.code front) 50) refl (seen_of fault.code front == 50) refl
  where
    go : (less : Bool) → nat_lt (seen_of fault.code front) 50 ≡ less → (first : Bool) → (seen_of fault.code front == 50) ≡ first → LinesFor less first source begin fault (left_out fault.code all) []
    go true less first e = absurd (omega (arith, ltb-true (seen_of fault.code front) 50 less, same, most))
    go false less true e = absurd (true≢false (sym e ∙ ne_eqb (seen_of fault.code front) 50 (λ k. other (same ∙ k))))
    go false less false e = refl

-- the lines for the next part, and for those after it
pub part_then : (source : SourceValue) (parts : List Refused) (number : ℕ) (one : Refused) {old middle : LinesValue} → number < length parts → one ≡ get_or parts number one →
    PutsAfter source one.offset (all_faults parts) (all_faults (take number parts)) one.errors old middle → (new : LinesValue) → PutsFrom source parts (number + 1) middle new → PutsFrom source parts number old new
part_then source parts number one {old} {middle} l e puts new rest =
    let all = all_faults parts in
    let front = all_faults (take number parts) in
    let same : all_faults (take (number + 1) parts) ≡ front ++ one.errors = front_more parts number one l ∙ ap (λ (x : Refused). front ++ x.errors) (sym e) in
    let later = subst (λ f. PartLines source all f (drop (number + 1) parts) rest.0) same rest.1 in
    let next : drop number parts ≡ one ∷ drop (number + 1) parts = drop_more parts number one l ∙ ap (λ (x : Refused). x ∷ drop (number + 1) parts) (sym e) in
    (puts.0 ++ rest.0, subst (λ list. PartLines source all front list (puts.0 ++ rest.0)) (sym next) (puts.0, rest.0, refl, puts.1, later), puts_then puts.2 rest.2)

-- no part is left
pub none_left : (source : SourceValue) (parts : List Refused) (number : ℕ) (lines : LinesValue) → length parts ≤ number → PutsFrom source parts number lines lines
none_left source parts number lines l =
    ([], subst (λ list. PartLines source (all_faults parts) (all_faults (take number parts)) list []) (sym (drop_all number parts l)) refl, puts_nothing lines)

-- a text that may be there, and its bytes
of_bytes : {S : Type 0} (bytes : S → List ℕ) (P : List ℕ → Type 0) (text : Option S) → IfSome text (λ t. P (bytes t)) → IfSome (option_map bytes text) P
of_bytes bytes P (Some text) h = h
of_bytes bytes P None h = tt

-- only no text has no bytes
nothing_mapped : {S : Type 0} (bytes : S → List ℕ) (text : Option S) → option_map bytes text ≡ None → text ≡ None
nothing_mapped bytes None e = refl
nothing_mapped bytes (Some text) e = absurd (cc)

-- the text that was pushed with this report, and then ended, is a line
pub message_put : {S : Type 0} (bytes : S → List ℕ) (source : SourceValue) (begin : ℕ) (head : List Token) (span : Span) (also : Option Span) (texts : List (List ℕ)) {old middle new : LinesValue} (rendered : Option S)
    (text : Option (List ℕ)) → text ≡ option_map bytes rendered → IfSome rendered (λ t. InReport false texts (bytes t)) → (rendered ≡ None → HasLongLine source begin span) → YieldsMessage source begin head span also text old middle → Ends middle new →
    (shown : Shown) × IsShown source begin span also texts shown × Puts (diagnostic_tokens source begin head span also shown ∷ []) old new
message_put bytes source begin head span also texts rendered text e h left g ends =
    let P : List ℕ → Type 0 = λ t. InReport false texts t in (
      g.shown,
      record { lines = g.lines; other_lines = g.other_lines; rendered = subst (λ o. IfSome o P) (sym (g.is ∙ e)) (of_bytes bytes P rendered h); left_out = λ none. left (nothing_mapped bytes rendered (sym (g.is ∙ e) ∙ none)) },
      one_put g.gained ends,
    )

-- the bytes of these lines
pub messages_written : (source : SourceValue) (begin : ℕ) (faults : List Fault) (first last : LinesValue) (bytes : List ℕ) → first.before ≡ [] → first.tokens ≡ [] → PutsAfter source begin faults [] faults first last → Finishes last bytes →
    AreMessages source begin faults bytes
messages_written source begin faults first last bytes e t puts finishes = (puts.0, puts.1, put_text puts.0 first last bytes e t puts.2 finishes)

pub refused_written : (source : SourceValue) (parts : List Refused) (first last : LinesValue) (bytes : List ℕ) → first.before ≡ [] → first.tokens ≡ [] → PutsFrom source parts 0 first last → Finishes last bytes → AreRefusedMessages source parts bytes
refused_written source parts first last bytes e t puts finishes = (puts.0, puts.1, put_text puts.0 first last bytes e t puts.2 finishes)
