use Rattle.logos_token.proofs.printing.PrintRuns.{prints_run_again}
use Rattle.logos_token.proofs.token.laws.prints_runs_back.Goals as goal

pub returns : goal.returns
returns c = prints_run_again
