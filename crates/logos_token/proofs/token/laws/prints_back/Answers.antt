use Rattle.logos_token.proofs.printing.PrintRuns.{prints_again}
use Rattle.logos_token.proofs.token.laws.prints_back.Goals as goal

pub returns : goal.returns
returns c = prints_again
