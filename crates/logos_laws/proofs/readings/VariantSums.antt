-- The line of a variant has the sum of the numbers of its leaves.
use Rattle.std.proofs.Common.{◌≡◌, ◌+◌, ◌^◌, ◌-◌, ℕ, suc, Bool, if◌then◌else◌, List, [], ◌++◌, arith, ap, min, slice_index, ◌∙◌}
use Rattle.logos_code.specs.declared.code.CodeLeaf.{CodeLeaf}
use Rattle.logos_answers.specs.Counts.{code_variant, lines_from, sum_with, variant_line}
use Rattle.logos_laws.specs.readings.VariantSums.{AreOfVariant}
use Rattle.logos_laws.specs.readings.VariantSums.AreOfVariant.{ends, goes}

saturated : (sum count total most : ℕ) → min (min (sum + count) most + total) most ≡ min (sum + (count + total)) most
saturated sum count total most = omega arith

from_zero : (total most : ℕ) → min (0 + total) most ≡ min total most
from_zero total most = omega arith

one_first : (left : ℕ) → 1 + left ≡ suc left
one_first left = omega arith

more_first : (size left : ℕ) → suc size + left ≡ suc (size + left)
more_first size left = omega arith

pub lines_summed : (leaves : List CodeLeaf) (counts : List ℕ) (from size last total sum left : ℕ) → AreOfVariant leaves counts from size last total →
    lines_from leaves counts from sum (size + left) ≡ variant_line (code_variant leaves last) (min (sum + total) (2 ^ 64 - 1)) ++ lines_from leaves counts (suc last) 0 left
lines_summed leaves counts leaf _ _ _ sum left (ends stop) =
    ap (λ (k : ℕ). lines_from leaves counts leaf sum k) (one_first left)
    ∙ ap (λ (b : Bool). (if b then [] else variant_line (code_variant leaves leaf) (sum_with leaves counts leaf sum)) ++ lines_from leaves counts (suc leaf) (if b then sum_with leaves counts leaf sum else 0) left) stop
lines_summed leaves counts leaf _ last _ sum left (goes {size = size} {total = total} on rest) =
    ap (λ (k : ℕ). lines_from leaves counts leaf sum k) (more_first size left)
    ∙ ap (λ (b : Bool). (if b then [] else variant_line (code_variant leaves leaf) (sum_with leaves counts leaf sum)) ++ lines_from leaves counts (suc leaf) (if b then sum_with leaves counts leaf sum else 0) (size + left)) on
    ∙ lines_summed leaves counts (suc leaf) size last total (sum_with leaves counts leaf sum) left rest
    ∙ ap (λ (count : ℕ). variant_line (code_variant leaves last) count ++ lines_from leaves counts (suc last) 0 left) (saturated sum (slice_index counts leaf) total (2 ^ 64 - 1))

pub whole : (leaves : List CodeLeaf) (counts : List ℕ) (from size last total left : ℕ) → AreOfVariant leaves counts from size last total →
    lines_from leaves counts from 0 (size + left) ≡ variant_line (code_variant leaves last) (min total (2 ^ 64 - 1)) ++ lines_from leaves counts (suc last) 0 left
whole leaves counts from size last total left are =
    lines_summed leaves counts from size last total 0 left are
    ∙ ap (λ (count : ℕ). variant_line (code_variant leaves last) count ++ lines_from leaves counts (suc last) 0 left) (from_zero total (2 ^ 64 - 1))
