use Rattle.std.proofs.Common.{map, arith}
use Rattle.std.proofs.lemmas.List.{at_drop_all}
use Rattle.logos_type_params.specs.Substitution.{param_value}
use Rattle.logos_type_params.specs.SelfReference.{texts}
use Rattle.logos_type_params.specs.WrittenTypes.{given_names}
use Rattle.logos_type_params.proofs.HeldLemmas.{needed_on, needed_all, names_front}
use Rattle.logos_type_params.proofs.type_params.TypeParams.held_names.Goals as goal

pub loop-at-preserved : goal.loop-at-preserved
loop-at-preserved c =
    let first = names_front c.args.self.now.types.entries.items c.loop-at.at c.index.result.now (omega (arith, c.loop-at-test.true, c.len-at-end.ensures)) c.index.ensures in
    let needed = rw c.in_ok-chains.ensures.types at c.in_ok-add_held.ensures in
    needed_on (map param_value c.args.self.now.types.entries.items) c.index.result.now.0.now _ _ (texts c.loop-at.held.keys) (texts c.add_held.new.held.keys) c.loop-at.invariant first (needed c.in_ok-chains.ensures.marks)

pub returns : goal.returns
returns c =
    let none = at_drop_all (λ es. given_names (map param_value es)) c.args.self.now.types.entries.items c.loop-at.at (omega (arith, c.loop-at-test.false, c.len-at-end.ensures)) in
    needed_all (map param_value c.args.self.now.types.entries.items) _ (texts c.loop-at.held.keys) c.loop-at.invariant none
