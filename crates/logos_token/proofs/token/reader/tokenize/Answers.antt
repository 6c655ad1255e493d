use Rattle.std.proofs.Common.{◌≡◌, ℕ, subst, length, map, arith}
use Rattle.std.proofs.lemmas.Str.{IsCharBoundary-start}
use Rattle.std.proofs.lemmas.Result.{err_from_is_err_and, IfOk-weaker}
use Rattle.logos_token.specs.Flat.{value_of}
use Rattle.logos_token.specs.Views.{stream_tokens}
use Rattle.logos_token.specs.inside.Reading.{IsRead}
use Rattle.logos_token.specs.Spelling.{Spells, IsUnreadable, broken}
use Rattle.logos_token.proofs.reading.PieceLemmas.{piece-advances, piece-boundary}
use Rattle.logos_token.proofs.reading.ReadingLemmas.{marks, read-start, read-front}
use Rattle.logos_token.proofs.reading.SpellingLaws.{unreadable-excludes}
use Rattle.logos_token.proofs.reading.RefusalLemmas.{refused-nothing, refused-memory, result-nothing, result-complete}
use Rattle.logos_token.proofs.token.reader.tokenize.Goals as goal
use Rattle.logos_token.proofs.token.reader.tokenize.Goals.{In-Err, After-finish}

pub loop-from-init : goal.loop-from-init
loop-from-init c = record {
  within = omega arith;
  boundary = IsCharBoundary-start c.args.src.now c.utf8.src;
  read = rw (c.new-entries.ensures.items, c.new-open_groups.ensures.items) (read-start c.args.src.now);
}

stuck : (c : In-Err) → IsUnreadable c.args.src.now c.in-Err.kind c.in-Err.span
stuck c = broken (record {
  at = c.loop-from.from;
  around = marks c.loop-from.invariant.read.frames;
  front = read-front c.args.src.now c.loop-from.from _ _ c.loop-from.invariant.read;
  inside = c.loop-from-test.true;
  stuck = c.in-Err.ensures.err;
})

pub returns-in-Err-clause-err : goal.returns-in-Err-clause-err
returns-in-Err-clause-err c = stuck (goal.at.returns-in-Err-clause-err c).In-Err

pub returns-in-Err-clause-only : goal.returns-in-Err-clause-only
returns-in-Err-clause-only c = λ tokens s. unreadable-excludes _ _ _ tokens (stuck (goal.at.returns-in-Err-clause-only c).In-Err) s

pub returns-in-Err-clause-complete : goal.returns-in-Err-clause-complete
returns-in-Err-clause-complete c = λ tokens s short shallow. absurd (unreadable-excludes _ _ _ tokens (stuck (goal.at.returns-in-Err-clause-complete c).In-Err) s)

pub add-requires-clause-to_boundary : goal.add-requires-clause-to_boundary
add-requires-clause-to_boundary c = piece-boundary c.args.src.now c.loop-from.from c.in-Ok.next.0 c.in-Ok.next.1 c.utf8.src c.loop-from.invariant.boundary c.in-Ok.ensures.ok

pub returns-in_err-add-clause-only : goal.returns-in_err-add-clause-only
returns-in_err-add-clause-only c =
    let p = err_from_is_err_and c.from_residual.result c.from_residual.ensures.1 in
    rw (p.1, p.2) (refused-nothing c.args.src.now c.in_err-add.field-0.0 c.in_err-add.ensures.err)

pub returns-in_err-add-clause-complete : goal.returns-in_err-add-clause-complete
returns-in_err-add-clause-complete c =
    let p = err_from_is_err_and c.from_residual.result c.from_residual.ensures.1 in
    rw (p.1, p.2) (refused-memory c.args.src.now c.in_err-add.field-0.0 c.in_err-add.ensures.err)

pub loop-from-smaller : goal.loop-from-smaller
loop-from-smaller c =
    let a = piece-advances c.args.src.now c.loop-from.from c.in-Ok.next.0 c.in-Ok.next.1 c.in-Ok.ensures.ok in
    omega (arith, a.0, a.1)

pub loop-from-preserved : goal.loop-from-preserved
loop-from-preserved c = record {
  within = (piece-advances c.args.src.now c.loop-from.from c.in-Ok.next.0 c.in-Ok.next.1 c.in-Ok.ensures.ok).1;
  boundary = piece-boundary c.args.src.now c.loop-from.from c.in-Ok.next.0 c.in-Ok.next.1 c.utf8.src c.loop-from.invariant.boundary c.in-Ok.ensures.ok;
  read = c.in_ok-add.ensures.ok;
}

whole : (c : After-finish) → IsRead c.args.src.now (length c.args.src.now) (map value_of c.loop-from.entries.items) c.loop-from.open_groups.items
whole c =
    let within = c.loop-from.invariant.within in
    let test = c.loop-from-test.false in
    let e : c.loop-from.from ≡ length c.args.src.now = omega arith in
    let P : ℕ → Type 0 = λ k. IsRead c.args.src.now k (map value_of c.loop-from.entries.items) c.loop-from.open_groups.items in
    subst P e c.loop-from.invariant.read

pub returns-clause-only : goal.returns-clause-only
returns-clause-only c = result-nothing c.args.src.now c.finish.result (c.finish.ensures.err c.args.src.now (whole c))

pub returns-clause-complete : goal.returns-clause-complete
returns-clause-complete c =
    result-complete c.args.src.now c.finish.result (c.finish.ensures.err c.args.src.now (whole c))
    (IfOk-weaker c.finish.result _ (λ stream. Spells c.args.src.now (stream_tokens stream)) (λ stream h. h.0) (c.finish.ensures.ok c.args.src.now (whole c)))
