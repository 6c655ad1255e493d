use Rattle.std.proofs.Common.{◌≡◌, ◌≤◌, ◌<◌, ◌↔◌, ℕ, slice_range}
use Rattle.std.proofs.lemmas.Result.{IfOk-weaker}
use Rattle.logos_positions.specs.Marks.{Has}
use Rattle.logos_positions.proofs.steps.TreeLemmas.{range_has}
use Rattle.logos_automaton.proofs.cache.marks_between.Goals as goal

pub returns-clause-has : goal.returns-clause-has
returns-clause-has c =
    let marks = c.args.marks.now in
    let from = c.first_from-from.result in
    let to = c.first_from-to.result in
    IfOk-weaker c.from_slice.result (λ own. own.items ≡ slice_range marks from to) (λ own. (q : ℕ) → c.args.low ≤ q → q < c.args.high → Has own.items q ↔ Has marks q)
    (λ own e q le lt. rw e (range_has marks c.args.low c.args.high from to c.requires.rising c.first_from-from.ensures c.first_from-to.ensures q le lt)) c.from_slice.ensures.items
