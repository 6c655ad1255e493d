use Rattle.logos_machine.specs.LexerValue.{answers_of}
use Rattle.logos_generator.proofs.Once.{items_once}
use Rattle.logos_generator.proofs.laws.an_input_has_one_list_of_items.Goals as goal

pub returns : goal.returns
returns g c = λ once rules utf8 bytes from items others inside one other.
    items_once rules (answers_of g.C.Fn c.args.callback.now) once utf8 bytes inside one other
