use Rattle.std.proofs.Common.{◌≡◌, ◌≤◌, ◌<◌, ◌||◌, ◌∙◌, ℕ, [], ◌∷◌, ◌++◌, true, ap, arith}
use lib.Utf8.{scalar}
use Rattle.logos_hir.specs.Hir.{pairs}
use Rattle.logos_hir.specs.Sets.{AreCanonical, in_ranges}
use Rattle.logos_hir.specs.inside.SetSteps.{free_from, in_gap}
use Rattle.logos_hir.proofs.lemmas.RangeLemmas.{gap_pushed, pairs-push}
use Rattle.logos_hir.proofs.sets.push_gap.Goals as goal
use Rattle.logos_hir.proofs.sets.push_gap.Goals.{In_ok-push}

-- the list after the range is pushed
pushed : (c : In_ok-push) →
    AreCanonical (pairs c.push.new.self.items) × ((n : ℕ) → c.args.first ≤ n → c.args.end < n → free_from 0 (pairs c.push.new.self.items) ≤ n)
    × ((x : ℕ) → scalar x ≡ true → in_ranges (pairs c.push.new.self.items) x ≡ (in_ranges (pairs c.args.out.now.items) x || in_gap c.args.first c.args.end c.args.last x))
pushed c =
    gap_pushed _ _ c.args.first c.args.end c.args.last c.before-2.result
    (ap pairs c.in_ok-push.ensures.items ∙ pairs-push _ _ ∙ ap (λ to. pairs c.args.out.now.items ++ (c.args.first, to) ∷ []) c.min-to.ensures)
    c.requires.canonical c.requires.free c.requires.first c.before-2.ensures.char c.requires.last c.before-2.ensures.next (omega (arith, c.min-to.ensures, c.if-first-to.false))

pub returns-clause-canonical : goal.returns-clause-canonical
returns-clause-canonical c = (pushed c).0

pub returns-clause-free : goal.returns-clause-free
returns-clause-free c = (pushed c).1

pub returns-clause-members : goal.returns-clause-members
returns-clause-members c = (pushed c).2
