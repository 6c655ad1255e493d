-- The lines of variants follow one another.
use Rattle.std.proofs.Common.{◌≡◌, ◌<◌, ◌≤◌, ◌+◌, ◌-◌, ℕ, suc, List, ◌++◌, length, sym, subst, arith}
use Rattle.logos_code.specs.declared.code.CodeLeaf.{CodeLeaf}
use Rattle.logos_page.specs.Pages.{PageValue, Gains}
use Rattle.logos_page.proofs.PageLemmas.{gains_nothing, gains_then}
use Rattle.logos_answers.specs.Counts.{line_after, lines_from, sum_after, sum_with}

module _ (leaves : List CodeLeaf) (counts : List ℕ) (leaf sum : ℕ) where
  -- the line after a leaf, and those of the rest
  pub next_line : (with_leaf : ℕ) {old middle new : PageValue} → leaf < length leaves → with_leaf ≡ sum_with leaves counts leaf sum → Gains (line_after leaves leaf with_leaf) old middle →
      Gains (lines_from leaves counts (leaf + 1) (sum_after leaves leaf with_leaf) (length leaves - (leaf + 1))) middle new → Gains (lines_from leaves counts leaf sum (length leaves - leaf)) old new
  next_line with_leaf {old} {middle} {new} l is one rest =
      let left : length leaves - leaf ≡ suc (length leaves - (leaf + 1)) = omega (arith, l) in
      let later : leaf + 1 ≡ suc leaf = omega arith in
      let first = subst (λ n. Gains (line_after leaves leaf n) old middle) is one in
      let others = subst (λ n. Gains (lines_from leaves counts n (sum_after leaves leaf (sum_with leaves counts leaf sum)) (length leaves - (leaf + 1))) middle new) later
      (subst (λ n. Gains (lines_from leaves counts (leaf + 1) (sum_after leaves leaf n) (length leaves - (leaf + 1))) middle new) is rest) in
      subst (λ n. Gains (lines_from leaves counts leaf sum n) old new) (sym left) (gains_then first others)

  -- no leaf is left
  pub no_line : (page : PageValue) → length leaves ≤ leaf → Gains (lines_from leaves counts leaf sum (length leaves - leaf)) page page
  no_line page l =
      let none : length leaves - leaf ≡ 0 = omega (arith, l) in
      subst (λ n. Gains (lines_from leaves counts leaf sum n) page page) (sym none) (gains_nothing page)
