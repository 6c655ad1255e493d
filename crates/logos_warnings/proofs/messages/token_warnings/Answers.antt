use Rattle.logos_token.specs.Views.{tokens_of}
use Rattle.logos_warnings.proofs.ShownLemmas.{of_no_enum}
use Rattle.logos_warnings.specs.Shown.AreOfTokens.{of_enum}
use Rattle.logos_warnings.proofs.messages.token_warnings.Goals as goal

pub returns-in_ok-item_warnings-in-Ok : goal.returns-in_ok-item_warnings-in-Ok
returns-in_ok-item_warnings-in-Ok c = of_enum c.in-Ok.ensures.ok c.in_ok-item_warnings-in-Ok.ensures

pub returns-in-Err : goal.returns-in-Err
returns-in-Err c = of_no_enum (λ all. all.items) c.warnings_of_misread.result (tokens_of c.args.tokens) c.in-Err.error c.args.derives c.args.origin c.in-Err.ensures.err c.warnings_of_misread.ensures.nothing c.warnings_of_misread.ensures.fault
