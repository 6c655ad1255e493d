-- The text that a printer has printed.
use Rattle.std.specs.Prelude.{string_bytes}
use Rattle.logos_token.specs.declared.token.printing.Printer.{Printer}
use Rattle.logos_token.specs.Printing.{Printed}

-- The text printed so far, and the gap before the next lexeme.
abbrev pub printed_of : Printer → Printed
printed_of printer = record { text = string_bytes printer.text; gap = printer.gap.now }
