use Rattle.std.proofs.Common.{◌≡◌, ◌+◌, ◌<◌, ◌≤◌, ◌⊎◌, ℕ, refl, sym, ◌∙◌, ⊎_elim, rules, arith}
use Rattle.logos_positions.specs.Table.{reader_of}
use Rattle.logos_automaton.proofs.keys.MarkLemmas.{marked_more}
use Rattle.logos_automaton.proofs.keys.WalkLemmas.{follow_low, follow_high}
use Rattle.logos_automaton.proofs.boundaries.mark_row.Goals as goal

pub loop-byte-init : goal.loop-byte-init
loop-byte-init c = record {
  size = search rules;
  done = λ x low unmarked. (unmarked, follow_low c.args.table.now c.args.row x (omega (arith, low)) ∙ sym (follow_low c.args.table.now c.args.row (x + 1) low));
  left = λ x le. refl;
}

pub loop-byte-preserved : goal.loop-byte-preserved
loop-byte-preserved c =
    marked_more (λ x y. (reader_of c.args.table.now).follow c.args.row x ≡ (reader_of c.args.table.now).follow c.args.row y) c.args.marked.now c.loop-byte.marked c.loop-byte.byte _ c.differ-is_other.result
    (omega (arith, c.loop-byte.auto.byte)) (omega (arith, c.loop-byte-test.true)) refl
    (λ e. sym c.follow-before.ensures ∙ c.differ-is_other.ensures e ∙ c.follow.ensures) c.loop-byte.invariant

pub returns : goal.returns
returns c = λ x lt unmarked.
    let i = c.loop-byte.invariant in
    let all : c.loop-byte.byte ≡ 0xC1 = omega (arith, c.loop-byte.auto.byte, c.loop-byte-test.false) in
    ⊎_elim (λ low. i.done x (omega (arith, low, all)) unmarked)
    (λ high. (
      sym (i.left (x + 1) (omega (arith, high, all))) ∙ unmarked,
      follow_high c.args.table.now c.args.row x (omega (arith, high)) ∙ sym (follow_high c.args.table.now c.args.row (x + 1) (omega (arith, high))),
    ))
    (lt_or_ge (x + 1) 0xC1)
  where
    lt_or_ge : (a b : ℕ) → (a < b) ⊎ (b ≤ a)
    lt_or_ge a b = grind arith
