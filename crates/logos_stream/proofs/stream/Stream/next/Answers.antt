use Rattle.std.proofs.Common.{◌≡◌, ◌<◌, false, refl, subst}
use Rattle.logos_machine.specs.LexerValue.{answers_of}
use Rattle.logos_stream.specs.Moves.{Waits}
use Rattle.logos_stream.specs.StreamValue.{StreamValue}
use Rattle.logos_stream.specs.WindowValue.{unread_length}
use Rattle.logos_stream.specs.Fronts.{IsWaiting}
use Rattle.logos_stream.proofs.NextLemmas.{waits_longer, waits_next}
use Rattle.logos_stream.proofs.stream.Stream.next.Goals as goal

pub returns-then-is_short-clause-does : goal.returns-then-is_short-clause-does
returns-then-is_short-clause-does g c =
    waits_longer c.args.self.now.code (answers_of g.C.Fn c.args.self.now.callback) c.args.self.now.window c.wait_longer.new.self c.wait_longer.result
    (subst (λ (v : StreamValue g.row.R.Denot g.row.C.Denot). v.window.is_last ≡ false) c.self.view_is (c.if-is_short.ensures.unsettled refl))
    (subst (λ (v : StreamValue g.row.R.Denot g.row.C.Denot). unread_length v.window < v.window.wanted) c.self.view_is (c.if-is_short.ensures.short refl))
    (subst (λ (v : StreamValue g.row.R.Denot g.row.C.Denot). Waits v.window c.wait_longer.new.self 0 c.wait_longer.result) c.self.view_is c.wait_longer.ensures)

pub returns-in-Waits-clause-does : goal.returns-in-Waits-clause-does
returns-in-Waits-clause-does g c =
    waits_next c.args.self.now.code (answers_of g.C.Fn c.args.self.now.callback) c.args.self.now.window c.wait.new.self c.in-Waits.to c.wait.result
    (subst (λ (v : StreamValue g.row.R.Denot g.row.C.Denot). IsWaiting v.code (answers_of g.C.Fn v.callback) v.window.lexed v.window.is_last c.in-Waits.to) c.self.view_is (rw c.is_last-is_last.ensures at rw c.lexed.ensures.bytes at c.in-Waits.ensures))
    (subst (λ (v : StreamValue g.row.R.Denot g.row.C.Denot). Waits v.window c.wait.new.self c.in-Waits.to c.wait.result) c.self.view_is c.wait.ensures)
