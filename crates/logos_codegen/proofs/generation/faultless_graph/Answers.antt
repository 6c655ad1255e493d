use Rattle.logos_codegen.proofs.GraphLemmas.{missing_reported}
use Rattle.logos_codegen.proofs.generation.faultless_graph.Goals as goal

pub returns-in-Ok-None-clause-err : goal.returns-in-Ok-None-clause-err
returns-in-Ok-None-clause-err c =
    missing_reported c.args.leaves.items c.args.utf8_mode c.args.item c.args.errors c.graph_of.new.errors c.in-Ok-None.field-0 c.in-Ok-None.ensures c.in-Ok-None.field-0-is
