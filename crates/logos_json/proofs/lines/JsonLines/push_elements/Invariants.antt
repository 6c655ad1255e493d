use Rattle.std.proofs.Common.{drop}
use Rattle.std.specs.List.{flat_map}
use Rattle.logos_json.specs.Lines.{Gains, LinesValue}
use Rattle.logos_json.specs.Members.{byte_tokens}
use Rattle.logos_json.proofs.lines.JsonLines.push_elements.Given as goal

-- with the bytes that are left all are pushed
abbrev pub invariant-loop-byte : goal.invariant-loop-byte
invariant-loop-byte l = (new : LinesValue) → Gains (flat_map byte_tokens (drop l.byte-index l.bytes)) l.self new → Gains (flat_map byte_tokens l.bytes) l.initial.self new
