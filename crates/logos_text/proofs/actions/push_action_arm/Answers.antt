use Rattle.std.proofs.Common.{Bool, [], OnOk, if◌then◌else◌, sym, subst, ◌∙◌}
use Rattle.logos_text.specs.Pieces.{Notes}
use Rattle.logos_text.specs.Runs.{leaf_runs}
use Rattle.logos_text.proofs.PieceLemmas.{notes_of}
use Rattle.logos_text.proofs.actions.push_action_arm.Goals as goal

pub returns-then-is_called : goal.returns-then-is_called
returns-then-is_called c =
    subst (λ (b : Bool). OnOk c.push_called_arm.result (Notes (if b then leaf_runs c.args.names.name c.args.leaf.now else []) c.args.sink.now c.push_called_arm.new.sink))
    (sym (sym c.is_called.ensures ∙ c.if-is_called.true)) c.push_called_arm.ensures

pub returns : goal.returns
returns c =
    subst (λ (b : Bool). Notes (if b then leaf_runs c.args.names.name c.args.leaf.now else []) c.args.sink.now c.push.new.self) (sym (sym c.is_called.ensures ∙ c.if-is_called.false))
    (notes_of c.in_ok-push.ensures)
