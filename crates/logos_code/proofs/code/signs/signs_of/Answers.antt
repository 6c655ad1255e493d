use Rattle.std.proofs.Common.{◌<◌, ◌∙◌, length, ap, arith, length-append, [], ◌∷◌}
use Rattle.logos_code.proofs.SignLemmas.{signs_turn}
use Rattle.logos_code.proofs.code.signs.signs_of.Goals as goal

pub loop-state-preserved : goal.loop-state-preserved
loop-state-preserved c =
    let h : c.loop-state.state-index < length c.args.parts.now.states.items = rw c.deref-state-items.ensures.value at c.loop-state-test.true in
    let i = c.loop-state.invariant in
    let items = c.in_ok-push.ensures.items in
    let count = i.count in
    record {
      count = ap length items ∙ omega (arith, count, length-append c.loop-state.signs.items (c.sign_of.result ∷ []));
      each = signs_turn c.args.parts.now c.loop-state.signs.items c.push.new.self.items c.sign_of.result c.loop-state.state-index c.state-item.result
          count items h (rw c.deref-state-items.ensures.value at c.state-item.is) c.sign_of.ensures i.each;
    }
