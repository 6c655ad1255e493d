use Rattle.std.proofs.Common.{refl}
use Rattle.logos_report.specs.Sets.{sizes_of}
use Rattle.logos_token.specs.Views.{tokens_of}
use Rattle.logos_causes.specs.declared.explanation.Explained.{Explained}
use Rattle.logos_causes.proofs.SetLemmas.{misread_all}
use Rattle.logos_causes.proofs.explanation.explain_tokens.Goals as goal

pub explain_item-requires : goal.explain_item-requires
explain_item-requires c = record {
  tokens = tokens_of c.args.tokens;
  spelled = c.requires.spelled;
  reads = c.in-Ok.ensures.ok;
  whole = refl;
}

pub returns-in-Err : goal.returns-in-Err
returns-in-Err c =
    misread_all (λ (known : Explained). sizes_of known.clues) c.explain_misread.result c.args.source.now (tokens_of c.args.tokens) c.in-Err.error c.requires.spelled c.requires.shallow c.in-Err.ensures.err
    c.explain_misread.ensures.known c.explain_misread.ensures.fault
