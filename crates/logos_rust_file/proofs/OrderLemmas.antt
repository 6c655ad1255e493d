-- The enums of a run occur in it in order.
use Rattle.std.proofs.Common.{◌<◌, ◌≤◌, ◌+◌, ◌-◌, ℕ, List, [], ◌∷◌, ◌++◌, length, map, sym, arith}
use Rattle.std.proofs.lemmas.List.{map-append}
use Rattle.logos_lexeme.specs.declared.lexeme.Span.{Span}
use Rattle.logos_token.specs.Tokens.{Token, TokenList, identifier, punctuation, literal, doc, group, none, also, append, span_of, run_span, IsRestOf}
use Rattle.logos_token.specs.Spelling.{TokenOccurs, RunOccurs, Spells}
use Rattle.logos_token.proofs.reading.OrderLemmas.{spelled-in_order}
use Rattle.logos_rust_file.specs.declared.finder.FoundEnum.{FoundEnum}
use Rattle.logos_rust_file.specs.Files.{Finds}
use Rattle.logos_rust_file.specs.Files.Finds.{done, finds, enters, passes}
use Rattle.logos_rust_file.specs.Fronts.{is_module, is_other}
use Rattle.logos_rust_file.specs.Replacing.{AreInOrder, found_span}
use Rattle.logos_rust_file.proofs.FrontLemmas.{item_of, Shape, another, a_module}

-- a token is between its ends
token_between : (bytes : List ℕ) (from : ℕ) (token : Token) → TokenOccurs bytes from token → (from ≤ (span_of token).from) × ((span_of token).from < (span_of token).to)
token_between bytes from (identifier text span) s = (s.0, s.1)
token_between bytes from (punctuation character spacing span) s = (s.0, s.1)
token_between bytes from (literal text span) s = (s.0, s.1)
token_between bytes from (doc text span) s = (s.0, s.1)
token_between bytes from (group delimiter span inside) s = (s.0, s.1)

run_order : (bytes : List ℕ) (from : ℕ) (run : TokenList) (to : ℕ) → RunOccurs bytes from run to → from ≤ to
run_order bytes from none to s = s
run_order bytes from (also token rest) to s =
    let t = token_between bytes from token s.0 in
    omega (arith, t.0, t.1, run_order bytes (span_of token).to rest to s.1)

-- a part of a run is between these offsets, and its rest begins at its end
record Occurs (bytes : List ℕ) (from : ℕ) (span : Span) (rest : TokenList) (to : ℕ) : Type 0 where
  after : from ≤ span.from
  whole : span.from < span.to
  left : RunOccurs bytes span.to rest to

part_occurs : (bytes : List ℕ) (from : ℕ) (token : Token) (tail rest : TokenList) (to : ℕ) → RunOccurs bytes from (append (also token tail) rest) to →
    Occurs bytes from (run_span (also token tail)) rest to
part_occurs bytes from token none rest to s = let t = token_between bytes from token s.0 in record { after = t.0; whole = t.1; left = s.1 }
part_occurs bytes from token (also next tail) rest to s =
    let t = token_between bytes from token s.0 in
    let more = part_occurs bytes (span_of token).to next tail rest to s.1 in
    record { after = t.0; whole = omega (arith, t.1, more.after, more.whole); left = more.left }

-- the rest of a run begins at some offset
record OccursLater (bytes : List ℕ) (from : ℕ) (rest : TokenList) (to : ℕ) : Type 0 where
  site : ℕ
  after : from ≤ site
  occurs : RunOccurs bytes site rest to

left_occurs : (bytes : List ℕ) (from : ℕ) (front rest : TokenList) (to : ℕ) → RunOccurs bytes from (append front rest) to → OccursLater bytes from rest to
left_occurs bytes from none rest to s = record { site = from; after = omega arith; occurs = s }
left_occurs bytes from (also token front) rest to s =
    let t = token_between bytes from token s.0 in
    let more = left_occurs bytes (span_of token).to front rest to s.1 in
    record { site = more.site; after = omega (arith, t.0, t.1, more.after); occurs = more.occurs }

rest_occurs : (bytes : List ℕ) (from : ℕ) (run rest : TokenList) (to : ℕ) → IsRestOf run rest → RunOccurs bytes from run to → OccursLater bytes from rest to
rest_occurs bytes from run rest to r s = left_occurs bytes from r.front rest to (rw r.is at s)

earlier : (from site : ℕ) (spans : List Span) (to : ℕ) → from ≤ site → AreInOrder site spans to → AreInOrder from spans to
earlier from site [] to l s = omega (arith, l, s)
earlier from site (span ∷ rest) to l s = (omega (arith, l, s.0), s.1, s.2)

both : (from : ℕ) (one : List Span) (middle site : ℕ) (other : List Span) (to : ℕ) → AreInOrder from one middle → middle ≤ site → AreInOrder site other to → AreInOrder from (one ++ other) to
both from [] middle site other to s l t = earlier from site other to (omega (arith, l, s)) t
both from (span ∷ rest) middle site other to s l t = (s.0, s.1, both span.to rest middle site other to s.2 l t)

-- the spans of a module, of its content, and of its rest are in order
record ModuleOccurs (bytes : List ℕ) (from : ℕ) (inside rest : TokenList) (to : ℕ) : Type 0 where
  open_at : ℕ
  close_at : ℕ
  end_at : ℕ
  after : from ≤ open_at
  order : close_at ≤ end_at
  within : RunOccurs bytes open_at inside close_at
  left : RunOccurs bytes end_at rest to

module_occurs : (bytes : List ℕ) (from : ℕ) (at inside rest : TokenList) (to : ℕ) → Shape at (is_module inside rest) → RunOccurs bytes from at to → ModuleOccurs bytes from inside rest to
module_occurs bytes from _ inside rest to (a_module {text} {name} {span} {at} {whole}) s = record {
  open_at = whole.from + 1;
  close_at = whole.to - 1;
  end_at = whole.to;
  after = omega (arith, s.0.0, s.0.1, s.1.0.0, s.1.0.1, s.1.1.0.0);
  order = omega arith;
  within = s.1.1.0.2;
  left = s.1.1.1;
}

other_occurs : (bytes : List ℕ) (from : ℕ) (at rest : TokenList) (to : ℕ) → Shape at (is_other rest) → RunOccurs bytes from at to → OccursLater bytes from rest to
other_occurs bytes from _ rest to (another {token}) s =
    let t = token_between bytes from token s.0 in
    record { site = (span_of token).to; after = omega (arith, t.0, t.1); occurs = s.1 }

pub find_order : (bytes : List ℕ) (run : TokenList) (found : List FoundEnum) → Finds run found → (from to : ℕ) → RunOccurs bytes from run to → AreInOrder from (map found_span found) to
find_order bytes _ _ (done {run} k) from to s = run_order bytes from run to s
find_order bytes _ _ (finds {run} {token} {tail} {rest} {found} {more} k e d f) from to s =
    let p = part_occurs bytes from token tail rest to (rw e at s) in
    rw d.span (p.after, p.whole, find_order bytes rest more f _ to p.left)
find_order bytes _ _ (enters {run} {inside} {rest} {within} {more} k f g) from to s =
    let item = item_of run (is_module inside rest) (sym k) in
    let left = rest_occurs bytes from run item.at to item.front s in
    let m = module_occurs bytes left.site item.at inside rest to item.shape left.occurs in
    rw (map-append found_span within more)
    (both from (map found_span within) m.close_at m.end_at (map found_span more) to
    (earlier from m.open_at _ _ (omega (arith, left.after, m.after)) (find_order bytes inside within f m.open_at m.close_at m.within))
    m.order (find_order bytes rest more g m.end_at to m.left))
find_order bytes _ _ (passes {run} {rest} {more} k f) from to s =
    let item = item_of run (is_other rest) (sym k) in
    let left = rest_occurs bytes from run item.at to item.front s in
    let o = other_occurs bytes left.site item.at rest to item.shape left.occurs in
    earlier from o.site _ to (omega (arith, left.after, o.after)) (find_order bytes rest more f o.site to o.occurs)

pub text_order : (text : List ℕ) (tokens : TokenList) (found : List FoundEnum) → Spells text tokens → Finds tokens found → AreInOrder 0 (map found_span found) (length text)
text_order text tokens found s f = find_order text tokens found f 0 (length text) (spelled-in_order text tokens s)
