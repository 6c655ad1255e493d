use Rattle.std.proofs.lemmas.List.Elements.{All-get_or}
use Rattle.logos_expand.specs.declared.expansion.Gathered.{Gathered}
use Rattle.logos_expand.proofs.FileWarningLemmas.{warned_begun, warned_ended, warned_further}
use Rattle.logos_expand.proofs.GatherLemmas.{begun, ended_at, further_at, ordered_at, ordered_parts}
use Rattle.logos_rust_file.specs.Replacing.{IsFoundCut}
use Rattle.logos_expand.proofs.expansion.gather.Goals as goal

pub loop-one-init : goal.loop-one-init
loop-one-init c =
    let empty : Gathered = record { parts = c.new.result; refused = c.new-2.result } in
    record {
      gathered = begun c.args.site.shape c.args.text.now c.args.found.now empty c.new.ensures.items c.new-2.ensures.items c.requires.order;
      warned = warned_begun c.args.site.shape c.args.text.now c.args.found.now c.new-2.result.items _ c.new-2.ensures.items;
    }

pub gather_enum-requires-clause-order : goal.gather_enum-requires-clause-order
gather_enum-requires-clause-order c = ordered_at c.args.site.shape c.args.text.now c.args.found.now c.loop-one.one-index _ c.loop-one.gathered c.loop-one-test.true c.loop-one.invariant.gathered

pub gather_enum-requires-clause-cut : goal.gather_enum-requires-clause-cut
gather_enum-requires-clause-cut c = All-get_or (IsFoundCut c.args.text.now) c.args.found.now c.loop-one.one-index _ c.loop-one-test.true c.requires.cut

pub loop-one-preserved : goal.loop-one-preserved
loop-one-preserved c = record {
  gathered = further_at _ _ c.args.found.now c.loop-one.one-index _ _ _ c.loop-one-test.true c.loop-one.invariant.gathered c.in_ok-gather_enum.ensures.gathers;
  warned = warned_further _ _ c.args.found.now c.loop-one.one-index _ _ _ _ _ _ c.loop-one-test.true c.loop-one.invariant.warned c.in_ok-gather_enum.ensures.warns;
}

pub returns-clause-gathers : goal.returns-clause-gathers
returns-clause-gathers c = ended_at _ _ c.args.found.now c.loop-one.one-index _ c.loop-one-test.false c.loop-one.invariant.gathered

pub returns-clause-order : goal.returns-clause-order
returns-clause-order c =
    ordered_parts c.args.site.shape c.args.text.now c.args.found.now c.loop-one.gathered
    (ended_at c.args.site.shape c.args.text.now c.args.found.now c.loop-one.one-index c.loop-one.gathered c.loop-one-test.false c.loop-one.invariant.gathered) c.requires.order

pub returns-clause-warns : goal.returns-clause-warns
returns-clause-warns c = warned_ended _ _ c.args.found.now c.loop-one.one-index _ _ _ c.loop-one-test.false c.loop-one.invariant.warned
