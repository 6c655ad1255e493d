use Rattle.std.proofs.Common.{◌≡◌, ◌≢◌, ◌⊎◌, inl, inr, Some, None, sym, ◌∙◌}
use Rattle.std.proofs.lemmas.Option.{slice_get-get_or}
use Rattle.logos_code.specs.CodeView.{state_at, no_state}
use Rattle.logos_machine.specs.inside.Attempts.{context_of, status_of}
use Rattle.logos_machine.proofs.StepLemmas.{does_return, does_lead, late_afterward}
use Rattle.logos_machine.proofs.machine.attempt.run_state.Goals.{in-Some, in-None-2, then-at-root+else-stop-start, else-at-root}
use Rattle.logos_machine.proofs.machine.attempt.run_state.Goals as goal

pub returns-in-None : goal.returns-in-None
returns-in-None c =
    let code = c.args.code.now in
    let stop = c.stop_of-stop in
    let there = slice_get-get_or code.states c.args.at.state no_state c.requires.state in
    does_return code c.args.input.now c.args.start (status_of c.args.at) (state_at code c.args.at.state) there stop.result.offset stop.result.target stop.ensures.offset stop.ensures.target c.in-None.is (c.if-at-root.true ∙ c.root.ensures.root) c.if-stop-start.true

pub marked-context-requires : goal.marked-context-requires
marked-context-requires c =
    let code = c.args.code.now in
    let there = slice_get-get_or code.states c.args.at.state no_state c.requires.state in
    late_afterward code c.args.input.now c.args.start (status_of c.args.at) (state_at code c.args.at.state) there c.requires.second c.stop_of-stop.result.offset c.stop_of-stop.ensures.offset _ (sym c.sign.ensures)

pub returns-in-Some-target : goal.returns-in-Some-target
returns-in-Some-target c =
    let code = c.args.code.now in
    let stop = c.stop_of-stop in
    let at = status_of c.args.at in
    let state = state_at code c.args.at.state in
    let to = c.match-stop.target in
    let there = slice_get-get_or code.states c.args.at.state no_state c.requires.state in
    let ways : (stop.result.target ≡ Some to) ⊎ ((stop.result.target ≡ None) × ((at.state ≢ code.root) ⊎ (stop.result.offset ≢ c.args.start)) × (to ≡ state.at_end)) = elim c.match-stop.branch [
      | in-Some w ↦ let seen = w.in-Some.is in let same = w.target-is in inl cc
      | in-None-2 w ↦ (inr (
        w.in-None.is,
        elim w.if-at-root.branch [
          | then-at-root+else-stop-start v ↦ inr v.if-stop-start.false
          | else-at-root v ↦ inl (λ e. v.if-at-root.false (e ∙ sym w.root.ensures.root))
        ],
        w.target-is ∙ w.at_end-target.ensures,
      ))
    ] in
    rw c.in-Some-target.is at (does_lead code c.args.input.now c.args.start at state there stop.result.offset stop.result.target to (context_of c.marked-context.result) stop.ensures.offset stop.ensures.target ways (rw c.sign.ensures at c.marked-context.ensures))

pub returns-in-None-target : goal.returns-in-None-target
returns-in-None-target c =
    let code = c.args.code.now in
    let stop = c.stop_of-stop in
    let at = status_of c.args.at in
    let state = state_at code c.args.at.state in
    let to = c.match-stop.target in
    let there = slice_get-get_or code.states c.args.at.state no_state c.requires.state in
    let ways : (stop.result.target ≡ Some to) ⊎ ((stop.result.target ≡ None) × ((at.state ≢ code.root) ⊎ (stop.result.offset ≢ c.args.start)) × (to ≡ state.at_end)) = elim c.match-stop.branch [
      | in-Some w ↦ let seen = w.in-Some.is in let same = w.target-is in inl cc
      | in-None-2 w ↦ (inr (
        w.in-None.is,
        elim w.if-at-root.branch [
          | then-at-root+else-stop-start v ↦ inr v.if-stop-start.false
          | else-at-root v ↦ inl (λ e. v.if-at-root.false (e ∙ sym w.root.ensures.root))
        ],
        w.target-is ∙ w.at_end-target.ensures,
      ))
    ] in
    rw c.in-None-target.is at (does_lead code c.args.input.now c.args.start at state there stop.result.offset stop.result.target to (context_of c.marked-context.result) stop.ensures.offset stop.ensures.target ways (rw c.sign.ensures at c.marked-context.ensures))
