-- The exit statuses of the three programs, by their arguments.
use Rattle.std.specs.Global.{Global}
use Rattle.std.specs.Prelude.{◌≡◌, ◌≤◌, ◌↔◌, ℕ, List, None, Result, String, Vec, IfErr, IfOk, map, string_bytes}
use Rattle.logos_cli.specs.Orders.{requested as cli_requested}
use Rattle.logos_commands.specs.Commands.{requested as commands_requested}
use Rattle.logos_show.specs.Orders.{requested as show_requested}
pub use Rattle.logos_commands.specs.Commands.{requested as logos_requested}
pub use Rattle.logos_host.specs.Failures.{status_of}
use Rattle.logos_host.specs.declared.failure.Failure.{Failure}
use Rattle.logos_program.specs.declared.called.Called.{Called}
use Rattle.logos_program.specs.declared.called.Called.TheVariants.{Logos, LogosCli, LogosShow}

-- The exit status is 2 where arguments are invalid. `logos_cli` has it too where an output is an
-- input or another output.
abbrev pub IsUsage : Called → List (List ℕ) → ℕ → Type 0
IsUsage Logos passed status = (status ≡ 2) ↔ (commands_requested passed ≡ None)
IsUsage LogosCli passed status = cli_requested passed ≡ None → status ≡ 2
IsUsage LogosShow passed status = (status ≡ 2) ↔ (show_requested passed ≡ None)

-- The exit status of a program with these arguments, or that of the failure to read them.
pub record IsEnding (called : Called) (arguments : Result (Vec (String Global) Global) Failure)
    (status : ℕ) : Type 0 where
  pub usage : IfOk arguments (λ passed. IsUsage called (map string_bytes passed.items) status)
  pub unread : IfErr arguments (λ failure. status ≡ status_of failure)
  pub known : status ≤ 3
