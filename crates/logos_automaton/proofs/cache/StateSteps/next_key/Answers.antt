use Rattle.std.proofs.Common.{◌≡◌, ◌++◌, ◌∙◌, append-nil, sym, ap}
use Rattle.std.proofs.Math.ListN.{drop_of_length-le}
use Rattle.logos_automaton.specs.Keys.{next_kind}
use Rattle.logos_automaton.specs.inside.Steps.{left_by, positions_by}
use Rattle.logos_automaton.proofs.keys.StepsLemmas.{item_is, next_left, next_positions}
use Rattle.logos_automaton.proofs.cache.StateSteps.next_key.Goals as goal

pub loop-live-preserved : goal.loop-live-preserved
loop-live-preserved c =
    let i = c.loop-live.invariant in
    let s = c.args.self in
    record {
      positions = next_positions s.steps.now s.lives.now c.loop-live.live-index _ c.loop-live-test.true (item_is s.lives.now c.loop-live.live-index _ c.loop-live-test.true) c.args.byte _ _ _ c.in_ok-left.ensures.positions i.positions;
      matches = next_left s.steps.now s.lives.now c.loop-live.live-index _ c.loop-live-test.true (item_is s.lives.now c.loop-live.live-index _ c.loop-live-test.true) c.args.byte _ _ _ c.in_ok-left.left c.in_ok-left.ensures.left c.in_ok-push_if.ensures i.matches;
    }

pub returns : goal.returns
returns c =
    let i = c.loop-live.invariant in
    let s = c.args.self in
    let past = drop_of_length-le s.lives.now c.loop-live-test.false in
    let positions : c.loop-live.positions.items ≡ positions_by s.steps.now s.lives.now c.args.byte =
    sym (append-nil c.loop-live.positions.items) ∙ ap (λ ls. c.loop-live.positions.items ++ positions_by s.steps.now ls c.args.byte) (sym past) ∙ i.positions in
    let matches : c.loop-live.matches.items ≡ left_by s.steps.now s.lives.now c.args.byte =
    sym (append-nil c.loop-live.matches.items) ∙ ap (λ ls. c.loop-live.matches.items ++ left_by s.steps.now ls c.args.byte) (sym past) ∙ i.matches in
    let kind : c.next_kind.result ≡ next_kind s.looks (positions_by s.steps.now s.lives.now c.args.byte) c.args.byte =
    rw c.deref.ensures.value at c.next_kind.ensures ∙ ap (λ ps. next_kind s.looks ps c.args.byte) positions in
    λ j. record { positions = positions j; kind = kind j; matches = matches j }
