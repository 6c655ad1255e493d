-- The options that each program takes.
use Rattle.std.specs.Prelude.{Bool}
use Rattle.logos_options.specs.Options.{row_of}
use Rattle.logos_options.specs.declared.options.OptionName.{OptionName}
use Rattle.logos_options.specs.declared.program.Program.{Program}
use Rattle.logos_options.specs.declared.program.Program.TheVariants.{Cli, Show}

-- Whether `logos_cli` takes an option.
abbrev pub cli_takes : OptionName → Bool
cli_takes option = (row_of option).cli

-- Whether `logos_show` takes an option.
abbrev pub show_takes : OptionName → Bool
show_takes option = (row_of option).show

-- Whether a program takes an option.
abbrev pub takes : Program → OptionName → Bool
takes Cli option = cli_takes option
takes Show option = show_takes option
