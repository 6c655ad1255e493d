use Rattle.std.proofs.Common.{◌≡◌, ◌==◌, ℕ, get_or, sym, arith}
use Rattle.std.proofs.lemmas.Option.{slice_get-get_or, get_or_from_slice_get}
use Rattle.logos_code.proofs.AlikeLemmas.{exception_run, any_turn, any_done}
use Rattle.logos_code.proofs.code.byte_runs.exceptions_end.Goals as goal

pub loop-one-preserved : goal.loop-one-preserved
loop-one-preserved c =
    let i = c.loop-one.one-index in
    let one = get_or c.args.except.now i 0 in
    let is : one ≡ get_or c.args.except.now i one = sym (get_or_from_slice_get c.args.except.now i one one (slice_get-get_or c.args.except.now i 0 c.loop-one-test.true)) in
    let run = exception_run one c.args.byte c.loop-one.until c.cut-before.result c.cut-until.result c.cut-until.ensures.after c.cut-until.ensures.within c.cut-before.ensures.within
    c.cut-before.ensures.before c.cut-until.ensures.before in
    any_turn (λ (one b : ℕ). one == b) c.args.except.now i one c.args.byte c.args.end c.loop-one.until c.cut-until.result c.loop-one-test.true is run c.loop-one.invariant

pub returns : goal.returns
returns c =
    any_done (λ (one b : ℕ). one == b) c.args.except.now c.loop-one.one-index c.args.byte c.args.end c.loop-one.until (omega (arith, c.loop-one-test.false)) c.loop-one.invariant
