use Rattle.logos_machine.specs.LexerValue.{answers_of}
use Rattle.logos_stream.proofs.LeftLemmas.{step_item, step_read}
use Rattle.logos_stream.proofs.stream.Stream.step.Goals as goal

pub returns-in_ok-push-in-Item-clause-steps : goal.returns-in_ok-push-in-Item-clause-steps
returns-in_ok-push-in-Item-clause-steps g c =
    step_item g.R.Read.remaining c.args.self.now.code (answers_of g.C.Fn c.args.self.now.callback) c.args.self.now.window c.next.new.self.window c.in-Item.item
    c.args.items.now.items c.push.new.self.items c.in-Item.ensures.does c.in_ok-push-in-Item.ensures.items

pub returns-in_ok-read_again-in-More-clause-steps : goal.returns-in_ok-read_again-in-More-clause-steps
returns-in_ok-read_again-in-More-clause-steps g c =
    step_read g.R.Read.remaining c.args.self.now.code (answers_of g.C.Fn c.args.self.now.callback) c.args.self.now.window c.next.new.self.window c.read_again.new.self.window
    c.args.items.now.items c.in-More.ensures.does.0 c.in_ok-read_again-in-More.ensures.reads
