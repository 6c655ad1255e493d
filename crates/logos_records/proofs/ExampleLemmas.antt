-- The objects of leaves with their examples, one after another.
use Rattle.std.proofs.Common.{◌≡◌, ◌≤◌, ◌<◌, ◌+◌, ◌-◌, ℕ, suc, Bool, List, [], ◌∷◌, sym, refl, subst, arith}
use Rattle.logos_json.proofs.LineLemmas.{puts_nothing, puts_then}
use Rattle.logos_json.specs.Lines.{LinesValue}
use Rattle.logos_pattern.specs.declared.leaf.Leaf.{Leaf}
use Rattle.logos_records.specs.Examples.{AreExampleObjects, PutsExample, PutsExamples}

module _ (name : List ℕ) (leaves : List Leaf) (utf8 : Bool) where
  -- the object of a leaf, and those of the rest
  pub next_example : (leaf count : ℕ) {old middle new : LinesValue} → leaf < count → PutsExample name leaves utf8 leaf old middle →
      PutsExamples name leaves utf8 (leaf + 1) (count - (leaf + 1)) middle new → PutsExamples name leaves utf8 leaf (count - leaf) old new
  next_example leaf count {old} {middle} {new} l one rest =
      let left : count - leaf ≡ suc (count - (leaf + 1)) = omega (arith, l) in
      let later : leaf + 1 ≡ suc leaf = omega arith in
      subst (λ n. PutsExamples name leaves utf8 leaf n old new) (sym left)
      (one.0 ∷ rest.0, (one.0, rest.0, one.1, subst (λ k. AreExampleObjects name leaves utf8 k (count - (leaf + 1)) rest.0) later rest.1, refl), puts_then one.2 rest.2)

  -- no leaf is left
  pub no_example : (leaf count : ℕ) (lines : LinesValue) → count ≤ leaf → PutsExamples name leaves utf8 leaf (count - leaf) lines lines
  no_example leaf count lines l =
      let none : count - leaf ≡ 0 = omega (arith, l) in
      subst (λ n. PutsExamples name leaves utf8 leaf n lines lines) (sym none) ([], refl, puts_nothing lines)
