use Rattle.std.proofs.Common.{◌≡◌, ◌^◌, ◌-◌, min, take}
use Rattle.std.specs.List.{count_by}
use Rattle.logos_token.specs.FaultNames.{name_of}
use Rattle.logos_report.specs.Faults.{has_name}
use Rattle.logos_report.specs.Parts.{all_faults}
use Rattle.logos_report.proofs.file_report.count_parts.Given as goal

abbrev pub invariant-loop-part : goal.invariant-loop-part
invariant-loop-part l = l.count ≡ min (count_by (has_name (name_of l.code)) (all_faults (take l.part-index l.parts))) (2 ^ 64 - 1)
