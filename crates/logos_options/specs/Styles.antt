-- The style of messages.
use Rattle.std.specs.Prelude.{ℕ, List, Option, Some, None}
use Rattle.logos_host.specs.Colors.{color_named}
use Rattle.logos_host.specs.Formats.{format_named}
use Rattle.logos_host.specs.declared.color.Color.{Color}
use Rattle.logos_host.specs.declared.color.Color.TheVariants.{Auto}
use Rattle.logos_host.specs.declared.message_format.MessageFormat.{MessageFormat}
use Rattle.logos_host.specs.declared.message_format.MessageFormat.TheVariants.{Human}
use Rattle.logos_options.specs.Arguments.{setting}
use Rattle.logos_options.specs.declared.message_style.MessageStyle.{MessageStyle}
use Rattle.logos_options.specs.declared.options.OptionName.TheVariants as options

-- The color setting for the value of `--color`. Without a value there are colors on a terminal.
abbrev pub color_given : Option (List ℕ) → Option Color
color_given None = Some Auto
color_given (Some name) = color_named name

-- The format of messages for the value of `--message-format`. Without a value it is a report.
abbrev pub format_given : Option (List ℕ) → Option MessageFormat
format_given None = Some Human
format_given (Some name) = format_named name

abbrev pub style_of : Option Color → Option MessageFormat → Option MessageStyle
style_of None format = None
style_of (Some color) None = None
style_of (Some color) (Some format) = Some (record { format = format; color = color })

-- The style that settings select, if their values are valid.
abbrev pub style_given : List (Option (List ℕ)) → Option MessageStyle
style_given settings = style_of (color_given (setting options.Color settings)) (format_given (setting options.MessageFormat settings))
