use Rattle.std.proofs.Common.{[], map, sym, append-nil, arith}
use Rattle.std.proofs.lemmas.List.{at_drop_all}
use Rattle.logos_type_params.specs.Substitution.{param_value}
use Rattle.logos_type_params.proofs.ChainLemmas.{reached_on}
use Rattle.logos_type_params.proofs.self_reference.all_reached.Goals as goal

pub loop-at-init : goal.loop-at-init
loop-at-init c = rw c.new-lists.ensures.items (λ left h. h)

pub loop-at-preserved : goal.loop-at-preserved
loop-at-preserved c =
    reached_on (map param_value c.args.types.now.entries.items) (λ list. list.items) c.args.types.now.entries.items c.loop-at.at c.index.result.now
    c.loop-at.lists.items c.push.new.self.items c.reach.new.reached c.loop-at.invariant (omega (arith, c.loop-at-test.true, c.len-at-end.ensures)) c.index.ensures (rw c.new-reached.ensures.items at c.in_ok-reach.ensures) c.in_ok-push.ensures.items

pub returns : goal.returns
returns c =
    let none = at_drop_all (map param_value) c.args.types.now.entries.items c.loop-at.at (omega (arith, c.loop-at-test.false, c.len-at-end.ensures)) in
    rw (sym (append-nil (map (λ list. list.items) c.loop-at.lists.items))) (c.loop-at.invariant [] (rw none tt))
