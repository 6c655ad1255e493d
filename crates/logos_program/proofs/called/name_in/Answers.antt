use Rattle.std.proofs.Common.{◌-◌, arith, drop, length}
use Rattle.std.proofs.lemmas.List.{length-drop, take_all}
use Rattle.logos_program.proofs.NameLemmas.{last_name}
use Rattle.logos_program.proofs.called.name_in.Goals as goal

pub returns : goal.returns
returns c =
    let from = c.loop-from.from in
    last_name c.args.path.now _ from c.loop-from.invariant.inside c.loop-from-test.ensures c.loop-from.invariant.none
    (take_all (length c.args.path.now - from) (drop from c.args.path.now) (omega (arith, length-drop from c.args.path.now)))
