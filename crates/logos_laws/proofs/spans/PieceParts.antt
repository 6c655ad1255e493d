-- The pieces of an argument, and the callbacks in them, are runs of its tokens.
use Rattle.std.proofs.Common.{◌≡◌, Bool, true, false, List, [], ◌∷◌, Option, Some, None, Result, Ok, Err, if◌then◌else◌, refl, ap, subst}
use Rattle.std.specs.Prelude.{IfSome}
use Rattle.logos_lexeme.specs.declared.lexeme.Span.{Span}
use Rattle.logos_token.specs.Tokens.{Token, TokenList, identifier, punctuation, literal, doc, group, none, also, append, run_span}
use Rattle.logos_token.specs.Faults.{Fault}
use Rattle.logos_token.specs.Held.{Held, held}
use Rattle.logos_token.specs.PrintedAgain.{IsRunOf}
use Rattle.logos_token.specs.Punctuation.{is_alone}
use Rattle.logos_token.proofs.reading.SpanLemmas.{Each}
use Rattle.logos_attribute.specs.Callbacks.{bar, CallbackView, label, view_span, callback_closure, body_in, bar_in, parameter_in, callback_in, callback_report, callback_again, callback_value_fault, callback_set}
use Rattle.logos_attribute.specs.Literals.{LiteralView, text_by, text_or_fault, text_report, literal_report}
use Rattle.logos_attribute.specs.Pieces.{comma, equals, PieceValue, assigned, beside, grouped, keyed, Piece, unnamed, named, unexpected, name_token, up_to_comma, after_comma, pieces, after_name, after_group, after_keyword, through_comma}
use Rattle.logos_attribute.specs.Reports.{Report, with_faults, without_faults, only}
use Rattle.logos_attribute.specs.Slices.{Slice}
use Rattle.logos_laws.specs.spans.LeafSpans.{IsRunSpan}
use Rattle.logos_laws.proofs.spans.TokenParts.{part_first, part_rest, part_inside, part_front, part_none}

-- ---- Runs up to a comma.

if_run : (tokens : TokenList) (b : Bool) (one other : TokenList) → IsRunOf one tokens → IsRunOf other tokens → IsRunOf (if b then one else other) tokens
if_run tokens true one other p q = p
if_run tokens false one other p q = q

pub after_comma_part : (tokens run : TokenList) → IsRunOf run tokens → IsRunOf (after_comma run) tokens
after_comma_part tokens none r = r
after_comma_part tokens (also token rest) r =
    let p = part_rest token rest r in if_run tokens (is_alone comma token) rest (after_comma rest) p (after_comma_part tokens rest p)

-- a run is its front and the tokens after that
record Fronts (run front : TokenList) : Type 0 where
  back : TokenList
  is : run ≡ append front back

up_to_comma_front : (run : TokenList) → Fronts run (up_to_comma run)
up_to_comma_front none = record { back = none; is = refl }
up_to_comma_front (also token rest) = go (is_alone comma token) (up_to_comma_front rest)
  where
    go : (b : Bool) → Fronts rest (up_to_comma rest) → Fronts (also token rest) (if b then none else also token (up_to_comma rest))
    go true f = record { back = also token rest; is = refl }
    go false f = record { back = f.back; is = ap (also token) f.is }

pub up_to_comma_part : (tokens run : TokenList) → IsRunOf run tokens → IsRunOf (up_to_comma run) tokens
up_to_comma_part tokens run r =
    let f = up_to_comma_front run in part_front (up_to_comma run) f.back (subst (λ (x : TokenList). IsRunOf x tokens) f.is r)

-- ---- Pieces.

-- the tokens of a piece are a run of the whole
abbrev pub ValueParts : TokenList → PieceValue → Type 0
ValueParts tokens (assigned run) = IsRunOf run tokens
ValueParts tokens (beside text) = IsRunOf (also (literal text.text text.span) none) tokens
ValueParts tokens (grouped run) = IsRunOf run tokens
ValueParts tokens (keyed name run) = IsRunOf run tokens

abbrev pub PieceParts : TokenList → Piece → Type 0
PieceParts tokens (unnamed run) = IsRunOf run tokens
PieceParts tokens (named name value) = ValueParts tokens value
PieceParts tokens (unexpected run) = IsRunOf run tokens

-- a piece of a front of the run is a piece of the whole
abbrev Makes : TokenList → (TokenList → Piece) → TokenList → Type 0
Makes tokens piece run = (front back : TokenList) → run ≡ append front back → PieceParts tokens (piece front)

each_if : (tokens : TokenList) (b : Bool) (one other : List Piece) → Each (PieceParts tokens) one → Each (PieceParts tokens) other → Each (PieceParts tokens) (if b then one else other)
each_if tokens true one other p q = p
each_if tokens false one other p q = q

-- a front of a run
front_part : (tokens run front back : TokenList) → IsRunOf run tokens → run ≡ append front back → IsRunOf front tokens
front_part tokens run front back r e = part_front front back (subst (λ (x : TokenList). IsRunOf x tokens) e r)

-- a front of a run with one token, or with two, before it
one_before : (tokens : TokenList) (token : Token) (rest front back : TokenList) → IsRunOf (also token rest) tokens → rest ≡ append front back → IsRunOf (also token front) tokens
one_before tokens token rest front back r e = front_part tokens (also token rest) (also token front) back r (ap (also token) e)

two_before : (tokens : TokenList) (first second : Token) (rest front back : TokenList) → IsRunOf (also first (also second rest)) tokens → rest ≡ append front back → IsRunOf (also first (also second front)) tokens
two_before tokens first second rest front back r e = front_part tokens (also first (also second rest)) (also first (also second front)) back r (ap (λ (x : TokenList). also first (also second x)) e)

mutual
  pub pieces_parts : (tokens run : TokenList) → IsRunOf run tokens → Each (PieceParts tokens) (pieces run)
  pieces_parts tokens none r = tt
  pieces_parts tokens (also (identifier text span) rest) r = name_parts tokens (record { text = text; span = span }) rest r
  pieces_parts tokens (also (punctuation character spacing span) rest) r =
      through_parts tokens (λ run. unnamed (also (punctuation character spacing span) run)) rest (λ front back e. one_before tokens (punctuation character spacing span) rest front back r e) (part_rest _ rest r)
  pieces_parts tokens (also (literal text span) rest) r =
      through_parts tokens (λ run. unnamed (also (literal text span) run)) rest (λ front back e. one_before tokens (literal text span) rest front back r e) (part_rest _ rest r)
  pieces_parts tokens (also (doc text span) rest) r =
      through_parts tokens (λ run. unnamed (also (doc text span) run)) rest (λ front back e. one_before tokens (doc text span) rest front back r e) (part_rest _ rest r)
  pieces_parts tokens (also (group delimiter span inside) rest) r =
      through_parts tokens (λ run. unnamed (also (group delimiter span inside) run)) rest (λ front back e. one_before tokens (group delimiter span inside) rest front back r e) (part_rest _ rest r)

  name_parts : (tokens : TokenList) (name : Slice) (rest : TokenList) → IsRunOf (also (name_token name) rest) tokens → Each (PieceParts tokens) (after_name name rest)
  name_parts tokens name none r = (r, tt)
  name_parts tokens name (also (literal text span) rest) r =
      let l = part_first (literal text span) rest (part_rest (name_token name) _ r) in
      through_parts tokens (λ run. named name (beside (record { text = text; span = span }))) rest (λ front back e. l) (part_rest _ rest (part_rest (name_token name) _ r))
  name_parts tokens name (also (group delimiter span inside) rest) r =
      let g = part_rest (name_token name) (also (group delimiter span inside) rest) r in
      (part_inside delimiter span inside rest g, group_parts tokens rest (part_rest _ rest g))
  name_parts tokens name (also (identifier text span) rest) r = keyword_parts tokens name (record { text = text; span = span }) rest r
  name_parts tokens name (also (punctuation character spacing span) rest) r =
      let token = punctuation character spacing span in
      let p = part_rest token rest (part_rest (name_token name) (also token rest) r) in
      each_if tokens (is_alone equals token) (through_comma (λ run. named name (assigned run)) rest)
      (if is_alone comma token then unnamed (also (name_token name) none) ∷ pieces rest else through_comma (λ run. unnamed (also (name_token name) (also token run))) rest)
      (through_parts tokens (λ run. named name (assigned run)) rest (λ front back e. front_part tokens rest front back p e) p)
      (each_if tokens (is_alone comma token) (unnamed (also (name_token name) none) ∷ pieces rest) (through_comma (λ run. unnamed (also (name_token name) (also token run))) rest)
      (part_first (name_token name) (also token rest) r, pieces_parts tokens rest p)
      (through_parts tokens (λ run. unnamed (also (name_token name) (also token run))) rest (λ front back e. two_before tokens (name_token name) token rest front back r e) p))
  name_parts tokens name (also (doc text span) rest) r =
      let token = doc text span in
      let p = part_rest token rest (part_rest (name_token name) (also token rest) r) in
      each_if tokens (is_alone equals token) (through_comma (λ run. named name (assigned run)) rest)
      (if is_alone comma token then unnamed (also (name_token name) none) ∷ pieces rest else through_comma (λ run. unnamed (also (name_token name) (also token run))) rest)
      (through_parts tokens (λ run. named name (assigned run)) rest (λ front back e. front_part tokens rest front back p e) p)
      (each_if tokens (is_alone comma token) (unnamed (also (name_token name) none) ∷ pieces rest) (through_comma (λ run. unnamed (also (name_token name) (also token run))) rest)
      (part_first (name_token name) (also token rest) r, pieces_parts tokens rest p)
      (through_parts tokens (λ run. unnamed (also (name_token name) (also token run))) rest (λ front back e. two_before tokens (name_token name) token rest front back r e) p))

  group_parts : (tokens rest : TokenList) → IsRunOf rest tokens → Each (PieceParts tokens) (after_group rest)
  group_parts tokens none r = tt
  group_parts tokens (also token rest) r =
      let p = part_rest token rest r in
      each_if tokens (is_alone comma token) (pieces rest) (through_comma (λ run. unexpected (also token run)) rest) (pieces_parts tokens rest p)
      (through_parts tokens (λ run. unexpected (also token run)) rest (λ front back e. one_before tokens token rest front back r e) p)

  keyword_parts : (tokens : TokenList) (keyword name : Slice) (rest : TokenList) → IsRunOf (also (name_token keyword) (also (name_token name) rest)) tokens → Each (PieceParts tokens) (after_keyword keyword name rest)
  keyword_parts tokens keyword name none r = (part_none tokens, tt)
  keyword_parts tokens keyword name (also token rest) r =
      let q = part_rest (name_token name) (also token rest) (part_rest (name_token keyword) (also (name_token name) (also token rest)) r) in
      let p = part_rest token rest q in
      let keyed_part = through_parts tokens (λ run. named keyword (keyed name run)) rest (λ front back e. front_part tokens rest front back p e) p in
      each_if tokens (is_alone equals token) (through_comma (λ run. named keyword (keyed name run)) rest)
      (if is_alone comma token then through_comma (λ run. named keyword (keyed name run)) rest else through_comma (λ run. unexpected (also token run)) rest)
      keyed_part
      (each_if tokens (is_alone comma token) (through_comma (λ run. named keyword (keyed name run)) rest) (through_comma (λ run. unexpected (also token run)) rest)
      keyed_part
      (through_parts tokens (λ run. unexpected (also token run)) rest (λ front back e. one_before tokens token rest front back q e) p))

  through_parts : (tokens : TokenList) (piece : TokenList → Piece) (rest : TokenList) → Makes tokens piece rest → IsRunOf rest tokens → Each (PieceParts tokens) (through_comma piece rest)
  through_parts tokens piece none m r = (m none none refl, tt)
  through_parts tokens piece (also token rest) m r =
      let p = part_rest token rest r in
      each_if tokens (is_alone comma token) (piece none ∷ pieces rest) (through_comma (λ run. piece (also token run)) rest)
      (m none (also token rest) refl, pieces_parts tokens rest p)
      (through_parts tokens (λ run. piece (also token run)) rest (λ front back e. m (also token front) back (ap (also token) e)) p)

-- ---- Callbacks and literals.

-- the span of a callback is one of the whole
abbrev pub CallbackParts : TokenList → Option CallbackView → Type 0
CallbackParts tokens callback = IfSome callback (λ callback. IsRunSpan tokens (view_span callback))

abbrev IfCallback : TokenList → Result CallbackView Fault → Type 0
IfCallback tokens (Ok callback) = IsRunSpan tokens (view_span callback)
IfCallback tokens (Err cause) = Unit {0}

callback_if : (tokens : TokenList) (b : Bool) (one other : Result CallbackView Fault) → IfCallback tokens one → IfCallback tokens other → IfCallback tokens (if b then one else other)
callback_if tokens true one other p q = p
callback_if tokens false one other p q = q

body_parts : (tokens : TokenList) (span : Span) (arg : Slice) (run : TokenList) → IsRunSpan tokens span → IfCallback tokens (body_in span arg run)
body_parts tokens span arg none s = tt
body_parts tokens span arg (also (identifier text at) rest) s = s
body_parts tokens span arg (also (punctuation character spacing at) rest) s = s
body_parts tokens span arg (also (literal text at) rest) s = s
body_parts tokens span arg (also (doc text at) rest) s = s
body_parts tokens span arg (also (group delimiter at inside) rest) s = s

bar_parts : (tokens : TokenList) (span : Span) (arg : Slice) (run : TokenList) → IsRunSpan tokens span → IfCallback tokens (bar_in span arg run)
bar_parts tokens span arg none s = tt
bar_parts tokens span arg (also token rest) s = callback_if tokens (is_alone bar token) (body_in span arg rest) (Err (callback_closure span)) (body_parts tokens span arg rest s) tt

parameter_parts : (tokens : TokenList) (span : Span) (run : TokenList) → IsRunSpan tokens span → IfCallback tokens (parameter_in span run)
parameter_parts tokens span none s = tt
parameter_parts tokens span (also (identifier text at) rest) s = bar_parts tokens span (record { text = text; span = at }) rest s
parameter_parts tokens span (also (punctuation character spacing at) rest) s = tt
parameter_parts tokens span (also (literal text at) rest) s = tt
parameter_parts tokens span (also (doc text at) rest) s = tt
parameter_parts tokens span (also (group delimiter at inside) rest) s = tt

-- the span of a run is one of the whole
pub run_spans : (tokens run : TokenList) → IsRunOf run tokens → IsRunSpan tokens (run_span run)
run_spans tokens run r = record { run = run; is_run = r; whole = refl }

callback_parts : (tokens run : TokenList) → IsRunOf run tokens → IfCallback tokens (callback_in run)
callback_parts tokens none r = tt
callback_parts tokens (also first rest) r =
    let s = run_spans tokens (also first rest) r in
    callback_if tokens (is_alone bar first) (parameter_in (run_span (also first rest)) rest) (Ok (label (also first rest))) (parameter_parts tokens (run_span (also first rest)) rest s) s

-- the report of a callback without a name before it, by the value that is read
abbrev reported : Result CallbackView Fault → Report (Option CallbackView)
reported read = elim read [ Ok callback ↦ without_faults (Some callback) | Err cause ↦ with_faults None (only cause) ]

reported_parts : (tokens : TokenList) (read : Result CallbackView Fault) → IfCallback tokens read → CallbackParts tokens (reported read).value
reported_parts tokens (Ok callback) s = s
reported_parts tokens (Err cause) s = tt

pub callback_report_parts : (tokens run : TokenList) → IsRunOf run tokens → CallbackParts tokens (callback_report run).value
callback_report_parts tokens run r = reported_parts tokens (callback_in run) (callback_parts tokens run r)

-- the report of `callback = run`, by the value that is read
abbrev set_by : Slice → TokenList → Option CallbackView → Result CallbackView Fault → Report (Option CallbackView)
set_by name run former read = elim read [
  | Ok callback ↦ with_faults (Some callback) (callback_again name run former)
  | Err cause ↦ with_faults former (cause ∷ callback_value_fault run ∷ [])
]

set_parts : (tokens : TokenList) (name : Slice) (run : TokenList) (former : Option CallbackView) (read : Result CallbackView Fault) → CallbackParts tokens former → IfCallback tokens read →
    CallbackParts tokens (set_by name run former read).value
set_parts tokens name run former (Ok callback) f s = s
set_parts tokens name run former (Err cause) f s = f

pub callback_set_parts : (tokens : TokenList) (name : Slice) (run : TokenList) (former : Option CallbackView) → IsRunOf run tokens → CallbackParts tokens former →
    CallbackParts tokens (callback_set name run former).value
callback_set_parts tokens name run former r f = set_parts tokens name run former (callback_in run) f (callback_parts tokens run r)

-- a literal is a token of the whole
abbrev pub LiteralParts : TokenList → LiteralView → Type 0
LiteralParts tokens view = IsRunOf (also (literal view.token.text view.token.span) none) tokens

abbrev pub IfLiteral : TokenList → Option LiteralView → Type 0
IfLiteral tokens view = IfSome view (LiteralParts tokens)

text_parts : (tokens : TokenList) (token : Slice) (value : Option Held) → IsRunOf (also (literal token.text token.span) none) tokens → IfLiteral tokens (text_or_fault token (text_by token value)).value
text_parts tokens token (Some value) r = r
text_parts tokens token None r = tt

-- a literal token by itself
pub text_report_parts : (tokens : TokenList) (token : Slice) → IsRunOf (also (literal token.text token.span) none) tokens → IfLiteral tokens (text_report token).value
text_report_parts tokens token r = text_parts tokens token (held token.text) r

pub literal_report_parts : (tokens run : TokenList) → IsRunOf run tokens → IfLiteral tokens (literal_report run).value
literal_report_parts tokens none r = tt
literal_report_parts tokens (also (identifier text span) rest) r = tt
literal_report_parts tokens (also (punctuation character spacing span) rest) r = tt
literal_report_parts tokens (also (literal text span) none) r = text_report_parts tokens (record { text = text; span = span }) r
literal_report_parts tokens (also (literal text span) (also token rest)) r = tt
literal_report_parts tokens (also (doc text span) rest) r = tt
literal_report_parts tokens (also (group delimiter span inside) rest) r = tt
