-- The formats of messages.
use Rattle.std.specs.Prelude.{ℕ, List, Option, Some, None, if◌then◌else◌, bytes_eq, codes}
use Rattle.logos_host.specs.declared.message_format.MessageFormat.{MessageFormat}
use Rattle.logos_host.specs.declared.message_format.MessageFormat.TheVariants.{Human, Json}

-- The format for a value of `--message-format`.
abbrev pub format_named : List ℕ → Option MessageFormat
format_named name = if bytes_eq name (codes "human") then Some Human else (if bytes_eq name (codes "json") then Some Json else None)
