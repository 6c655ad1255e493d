use Rattle.std.proofs.Common.{List, [], map, refl}
use Rattle.std.proofs.lemmas.List.{at_drop_more, at_drop_all}
use Rattle.logos_token.specs.Faults.{Fault}
use Rattle.logos_type_params.specs.Substitution.{param_value}
use Rattle.logos_type_params.specs.TypeParams.{named_of}
use Rattle.logos_type_params.specs.SelfFaults.{AreChecked, no_name}
use Rattle.logos_type_params.proofs.SettledLemmas.{check_on}
use Rattle.logos_type_params.proofs.type_params.TypeParams.check_all.Goals as goal

pub loop-name-init : goal.loop-name-init
loop-name-init c = record {
  front = [];
  fronts = rw c.new-front.ensures.empty (λ text. refl);
  completes = λ faults h. h;
}

pub loop-name-preserved : goal.loop-name-preserved
loop-name-preserved c =
    let first = at_drop_more (map named_of) c.deref-name-items.result.now c.loop-name.name-index (record { text = record { ref_ptr = (0, 0); now = [] }; span = record { from = 0; to = 0 } }) c.loop-name-test.true in
    check_on (map param_value c.args.self.now.types.entries.items) c.in_ok-chains.chains.held.items (λ (faults : List Fault). AreChecked (map param_value c.args.self.now.types.entries.items) [] (map named_of c.deref-name-items.result.now) c.args.errors.now faults)
    _ _ _ c.loop-name.front.keys c.check_name.new.front.keys c.loop-name.errors c.check_name.new.errors
    c.loop-name.invariant first (rw c.in_ok-chains.ensures.types at c.in_ok-check_name.ensures) c.in_ok-chains.ensures.marks

pub returns : goal.returns
returns c =
    let none = at_drop_all (map named_of) c.deref-name-items.result.now c.loop-name.name-index c.loop-name-test.false in
    rw c.deref-name-items.ensures.value at (c.loop-name.invariant.completes c.loop-name.errors (rw none no_name))
