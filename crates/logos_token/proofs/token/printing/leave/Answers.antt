use Rattle.logos_token.specs.PrinterViews.{printed_of}
use Rattle.logos_token.proofs.printing.PrintingLemmas.{leave-whole, leave-left}
use Rattle.logos_token.proofs.token.printing.leave.Goals as goal

pub returns-clause-ok : goal.returns-clause-ok
returns-clause-ok c = rw (c.in_ok-add.ensures, c.closing_text.ensures, c.in-Some.ensures.items) (leave-whole (printed_of c.args.printer.now) c.pop.new.self.items c.in-Some.group)

pub returns-clause-fewer : goal.returns-clause-fewer
returns-clause-fewer c = rw c.in-Some.ensures.items (leave-left c.pop.new.self.items c.in-Some.group)
