use Rattle.std.proofs.Common.{rules, ◌≡◌, string_bytes, sym, subst}
use Rattle.logos_token.specs.Views.{tokens_of}
use Rattle.logos_token.specs.Printing.{printed}
use Rattle.logos_token.specs.PrintedAgain.{SpellsAgain}
use Rattle.logos_token.proofs.printing.PrintRuns.{prints_run_again}
use Rattle.logos_token.proofs.token.printing.print.Goals as goal

pub returns-clause-back : goal.returns-clause-back
returns-clause-back c = λ source tokens utf8 spelled is other.
    let text : string_bytes c.step.new.printer.text ≡ printed (tokens_of c.args.run) = search rules in
    subst (λ bytes. SpellsAgain bytes (tokens_of c.args.run)) (sym text) (prints_run_again source utf8 tokens spelled (tokens_of c.args.run) is other)
