use Rattle.logos_warnings.proofs.ShownLemmas.{of_no_text, of_text}
use Rattle.logos_warnings.proofs.messages.enum_warnings.Goals as goal

pub returns-in-Ok : goal.returns-in-Ok
returns-in-Ok c = of_text (λ all. all.items) c.token_warnings.result c.args.text.now _ c.args.derives c.args.origin c.in-Ok.ensures.ok (rw c.run.ensures at c.token_warnings.ensures)

pub returns-in-Err : goal.returns-in-Err
returns-in-Err c = of_no_text (λ all. all.items) c.warnings_of_unread.result c.args.text.now c.in-Err.error c.args.derives c.args.origin c.in-Err.ensures.err c.warnings_of_unread.ensures.nothing c.warnings_of_unread.ensures.fault
