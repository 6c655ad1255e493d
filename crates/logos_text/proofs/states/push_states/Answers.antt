use Rattle.std.proofs.Common.{string_bytes, arith}
use Rattle.logos_code.specs.CodeView.{state_of}
use Rattle.logos_text.specs.Texts.{state_texts}
use Rattle.logos_text.proofs.TextLemmas.{lists_all, lists_more}
use Rattle.logos_text.proofs.states.push_states.Goals as goal

pub loop-s-preserved : goal.loop-s-preserved
loop-s-preserved c =
    lists_more (state_texts c.args.names.shape) (state_of c.args.parts.now.jump_tables.items) c.args.parts.now.states.items c.loop-s.s c.index.result.now
    (string_bytes c.args.text.now) (string_bytes c.loop-s.text) (string_bytes c.push_state.new.text) (omega (arith, c.len-s-end.ensures)) c.index.ensures c.in_ok-push_state.ensures c.loop-s.invariant

pub returns : goal.returns
returns c =
    lists_all (state_texts c.args.names.shape) (state_of c.args.parts.now.jump_tables.items) c.args.parts.now.states.items c.loop-s.s
    (string_bytes c.args.text.now) (string_bytes c.loop-s.text) (omega (arith, c.len-s-end.ensures)) c.loop-s.invariant
