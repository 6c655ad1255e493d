use Rattle.logos_enum.specs.EnumValues.{enum_value}
use Rattle.logos_report.specs.Sets.{sizes_of}
use Rattle.logos_token.specs.Tokens.{run_span}
use Rattle.logos_token.specs.Views.{tokens_of}
use Rattle.logos_causes.proofs.SetLemmas.{analysis_all}
use Rattle.logos_causes.proofs.explanation.clues_in.Goals as goal

pub returns-in-Ok : goal.returns-in-Ok
returns-in-Ok c =
    analysis_all sizes_of c.clues_of_analysis-clues.result c.args.text.source.now (enum_value c.args.item.now) (run_span (tokens_of c.args.text.tokens)) c.in-Ok.analysis c.requires
    (rw c.span.ensures at c.in-Ok.ensures)
    c.clues_of_analysis-clues.ensures
