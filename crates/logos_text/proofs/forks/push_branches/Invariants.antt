use Rattle.std.proofs.Common.{List, ℕ, drop, map, string_bytes}
use Rattle.logos_code.specs.CodeView.{branch_of}
use Rattle.logos_text.specs.Occurrence.{Adds}
use Rattle.logos_text.specs.Texts.{branch_text}
use Rattle.logos_text.proofs.forks.push_branches.Given as goal

abbrev pub invariant-loop-branch : goal.invariant-loop-branch
invariant-loop-branch l =
    (whole : List ℕ) → Adds (map (branch_text l.shape) (map branch_of (drop l.branch-index l.branches))) (string_bytes l.text) whole →
    Adds (map (branch_text l.shape) (map branch_of l.branches)) (string_bytes l.initial.text) whole
