use Rattle.std.proofs.Common.{◌<◌, length, arith}
use Rattle.std.proofs.lemmas.List.{length-map}
use Rattle.logos_code.specs.CodeView.{code_of, state_of}
use Rattle.logos_tables.proofs.StepLemmas.{some_named}
use Rattle.logos_tables.proofs.steps.led_number.Goals as goal

pub overflow_add-result : goal.overflow_add-result
overflow_add-result c =
    let parts = c.args.parts.now in
    let long = length-map parts.states.items (state_of parts.jump_tables.items) in
    let there : c.in-Some.state < length (code_of parts).states = some_named c.args.target c.in-Some.state (length (code_of parts).states) c.in-Some.is c.requires in
    omega (arith, there, long, parts.states.ok.0, parts.states.ok.1, parts.states.small)
