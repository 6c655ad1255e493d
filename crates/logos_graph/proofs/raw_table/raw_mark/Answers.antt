use Rattle.std.proofs.Common.{length, refl, sym, ◌∙◌, arith}
use Rattle.logos_graph.specs.View.{rules_of}
use Rattle.logos_graph.proofs.RawLemmas.{not_among}
use Rattle.logos_graph.proofs.raw_table.raw_mark.Goals as goal

pub returns-in_default : goal.returns-in_default
returns-in_default c = record {
  early = refl;
  named = tt;
  first = λ all. absurd (not_among (rules_of c.args.leaves.now) (length c.args.leaves.now) c.in-Some.leaf c.args.listed.now (sym c.first_leaf.ensures ∙ c.in-Some.is) (omega arith) all);
}
