use Rattle.std.proofs.Common.{refl}
use Rattle.std.proofs.lemmas.List.{length-map}
use Rattle.logos_code.proofs.CodeLemmas.{state_names}
use Rattle.logos_code.proofs.LastMarkLemmas.{state_agreed}
use Rattle.logos_code.proofs.code.last_marks.state_agrees.Goals as goal

pub fork_agrees-requires : goal.fork_agrees-requires
fork_agrees-requires c =
    let names = state_names c.args.parts.now c.args.state c.index-state.result.now c.requires.sound (rw length-map c.requires.state) c.index-state.ensures in
    names.fork

pub returns : goal.returns
returns c = λ t.
    state_agreed c.args.parts.now c.args.marks.now c.last_mark_at-from.result c.args.state c.index-state.result.now
    c.requires.state c.index-state.ensures c.last_mark_at-from.ensures (c.if-not-is_own.ensures refl) (c.fork_agrees.ensures t)
