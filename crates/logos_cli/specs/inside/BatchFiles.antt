-- Files to expand into a folder, with the paths of their results.
use Rattle.std.specs.Prelude.{ℕ, List, Some, map, string_bytes}
use Rattle.logos_cli.specs.Orders.{OrderValue}
use Rattle.logos_cli.specs.declared.batch.BatchFile.{BatchFile}

-- The path of the result.
abbrev pub output_text : BatchFile → List ℕ
output_text batch_file = string_bytes batch_file.output

-- The order for one of the files.
abbrev pub batch_file_order : OrderValue → BatchFile → OrderValue
batch_file_order order batch_file = record order { input = batch_file.input.now; output = Some (output_text batch_file) }

-- The orders for several files.
abbrev pub orders_of : OrderValue → List BatchFile → List OrderValue
orders_of order batch_files = map (batch_file_order order) batch_files
