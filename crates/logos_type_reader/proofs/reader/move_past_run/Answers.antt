use Rattle.std.proofs.Common.{◌≡◌, ◌++◌, ◌∙◌, List, map, ap}
use Rattle.logos_token.specs.Views.{tokens_of}
use Rattle.logos_type.specs.declared.type_expr.TypePart.{TypePart}
use Rattle.logos_type.specs.Parts.{tree_of}
use Rattle.logos_type.proofs.PartTrees.{tree-Still}
use Rattle.logos_type_reader.specs.StillRuns.{still_run}
use Rattle.logos_type_reader.proofs.reader.move_past_run.Goals as goal

pub returns-in-Ok : goal.returns-in-Ok
returns-in-Ok c =
    let k : map tree_of c.keep_tokens.new.parts.items ≡ still_run (tokens_of c.args.run) = c.in-Ok.ensures ∙ ap (λ (ps : List TypePart). map tree_of ps ++ still_run (tokens_of c.args.run)) c.new-inner.ensures.items in
    λ levels spot m. c.move_past.ensures levels spot (rw (tree-Still c.keep_tokens.new.parts, k) m)
