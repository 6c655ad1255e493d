use Rattle.std.proofs.Common.{◌++◌, [], map, refl, option_map}
use Rattle.std.proofs.lemmas.List.{at_drop_more}
use Rattle.logos_type.specs.TypeTrees.{type_tree}
use Rattle.logos_type_params.specs.TypeParams.{named_of, given_of}
use Rattle.logos_type_params.specs.Generics.{concrete_types, missing_types}
use Rattle.logos_type_params.proofs.SettledLemmas.{copy_on}
use Rattle.logos_type_params.proofs.type_params.concrete_types.copy_types.Goals as goal

pub loop-name-init : goal.loop-name-init
loop-name-init c = record {
  front = [];
  fronts = rw c.new-front.ensures.empty (λ text. refl);
  types_left = rw c.new-copies.ensures.items refl;
  faults_left = refl;
}

pub loop-name-preserved : goal.loop-name-preserved
loop-name-preserved c =
    let first = at_drop_more (map named_of) c.args.names.now c.loop-name.name-index (record { text = record { ref_ptr = (0, 0); now = [] }; span = record { from = 0; to = 0 } }) c.loop-name-test.true in
    copy_on (map given_of c.args.types.now.entries.items) (concrete_types (map given_of c.args.types.now.entries.items) [] (map named_of c.args.names.now))
    (c.args.errors.now ++ missing_types (map given_of c.args.types.now.entries.items) [] (map named_of c.args.names.now))
    _ _ _ c.loop-name.front.keys c.copy_concrete.new.front.keys (option_map type_tree c.in_ok-found.found) (map type_tree c.loop-name.copies.items) (map type_tree c.add_or_report.new.types.items) c.loop-name.errors c.add_or_report.new.errors
    c.loop-name.invariant first c.in_ok-found.ensures c.in_ok-add_or_report.ensures.types c.in_ok-add_or_report.ensures.faults
