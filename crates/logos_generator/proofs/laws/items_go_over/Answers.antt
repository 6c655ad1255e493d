use Rattle.logos_automaton.specs.Munch.{Finds}
use Rattle.logos_code.specs.Order.{uses_of}
use Rattle.logos_machine.specs.LexerValue.{answers_of}
use Rattle.logos_machine.proofs.ItemsLemmas.{lexes_by}
use Rattle.logos_generator.proofs.laws.items_go_over.Goals as goal

pub returns : goal.returns
returns g c = λ among rules utf8 bytes from items is.
    lexes_by (uses_of rules) bytes (Finds rules utf8 bytes) (answers_of g.C.Fn c.args.callback.now) (answers_of g.D.Fn c.args.other.now) among is
