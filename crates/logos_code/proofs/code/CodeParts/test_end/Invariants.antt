use Rattle.std.proofs.Common.{◌≡◌, ℕ, ◌<◌, ◌≤◌}
use Rattle.logos_code.specs.Bytes.{passes_test}
use Rattle.logos_code.proofs.code.CodeParts.test_end.Given as goal

-- the bytes so far are alike
abbrev pub invariant-loop-b : goal.invariant-loop-b
invariant-loop-b l = (l.byte < l.b) × (l.b ≤ l.end) × ((k : ℕ) → l.byte ≤ k → k < l.b → passes_test l.self.bit_tables.items l.k k ≡ l.passes)
