use Rattle.std.proofs.Common.{◌≡◌, ℕ, Bool, true, false, not, eqb, IsFalse, ⊎_elim, true≢false, refl, arith}
use Rattle.std.proofs.lemmas.Bool.{eqb-true}
use Rattle.logos_automaton.proofs.keys.TreeStepsLemmas.{more_changes}
use Rattle.logos_automaton.proofs.tree_steps.construction.changes_of.Goals as goal

same_of : (a b : ℕ) → IsFalse (not (eqb a b)) → a ≡ b
same_of a b e = eqb-true a b (go (eqb a b) e)
  where
    go : (t : Bool) → IsFalse (not t) → t ≡ true
    go true e = refl
    go false e = absurd (true≢false e)

pub loop-byte-preserved : goal.loop-byte-preserved
loop-byte-preserved c =
    more_changes c.args.by_byte.now c.loop-byte.changes.items _ c.loop-byte.byte _ c.loop-byte.auto.byte c.in_ok-note.ensures (λ e. same_of _ _ e) c.loop-byte.invariant

pub returns : goal.returns
returns c = λ x lt none. ⊎_elim (λ h. absurd (none h)) (λ e. e) (c.loop-byte.invariant x (omega (arith, lt)))
