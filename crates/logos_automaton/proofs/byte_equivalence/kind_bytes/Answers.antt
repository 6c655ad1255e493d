use Rattle.std.proofs.Common.{◌≡◌, ℕ, ◌+◌, ◌-◌, ◌<◌, false, ◌⊎◌, ⊎_elim, sym, ◌∙◌, subst, length-set, arith}
use Rattle.std.proofs.lemmas.List.{get_or-set_other}
use Rattle.std.proofs.lemmas.Grind.{get_or-set_at}
use Rattle.logos_positions.specs.Kinds.{kind_of_byte}
use Rattle.logos_automaton.proofs.byte_equivalence.kind_bytes.Goals as goal

below_or_same : (a b : ℕ) → a < b + 1 → (a < b) ⊎ (a ≡ b)
below_or_same a b lt = grind arith

from_one : (P : ℕ → ℕ → Type 0) (byte b : ℕ) → b + 1 ≡ byte → P (byte - 1) byte → P b (b + 1)
from_one P byte b here h =
    let one : byte - 1 ≡ b = omega (arith, here) in
    subst (P b) (sym here) (subst (λ k. P k byte) one h)

pub loop-byte-preserved : goal.loop-byte-preserved
loop-byte-preserved c =
    let i = c.loop-byte.invariant in
    record {
      size = length-set c.loop-byte.first c.loop-byte.byte c.kinds_differ.result ∙ i.size;
      same = λ b lt unmarked. ⊎_elim
          (λ below. i.same b below (sym (get_or-set_other c.loop-byte.first c.loop-byte.byte (b + 1) c.kinds_differ.result false (λ e. omega (arith, e, below))) ∙ unmarked))
          (λ here.
          let same : c.kinds_differ.result ≡ false = sym (get_or-set_at c.loop-byte.first c.loop-byte.byte (b + 1) c.kinds_differ.result false here (omega (arith, i.size))) ∙ unmarked in
          from_one (λ k m. kind_of_byte k ≡ kind_of_byte m) c.loop-byte.byte b here (c.kinds_differ.ensures same))
          (below_or_same (b + 1) c.loop-byte.byte lt);
    }
