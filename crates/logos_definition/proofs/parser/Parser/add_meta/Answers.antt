use Rattle.std.proofs.lemmas.Result.{on_ok_weaker}
use Rattle.logos_definition.proofs.AttributeLemmas.{has_arguments}
use Rattle.logos_definition.proofs.parser.Parser.add_meta.Goals as goal

pub returns-in-Some : goal.returns-in-Some
returns-in-Some c = on_ok_weaker c.add_pieces.result (has_arguments c.args.meta c.in-Some.run' _ c.in-Some.is c.new.ensures.pieces) c.add_pieces.ensures
