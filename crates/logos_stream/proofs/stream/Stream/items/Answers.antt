use Rattle.std.proofs.Common.{◌∙◌, Bool, refl, subst}
use Rattle.logos_code.specs.Code.{CodeValue}
use Rattle.logos_machine.specs.LexerValue.{answers_of}
use Rattle.logos_stream.specs.Lefts.{Steps}
use Rattle.logos_stream.proofs.LeftLemmas.{stepping_first, stepping_on, stepping_over}
use Rattle.logos_stream.proofs.stream.Stream.items.Goals as goal

pub loop-init : goal.loop-init
loop-init g c = record {
  same_code = refl;
  same_callback = refl;
  stepping = stepping_first g.R.Read.remaining c.args.self.code (answers_of g.C.Fn c.args.self.callback) c.args.self.window c.new-items.result.items c.new-items.ensures.items;
}

-- the stream has ended
pub returns-then-branch : goal.returns-then-branch
returns-then-branch g c =
    let inv = c.loop.invariant in
    let old = c.loop.stream.window in
    let new = c.step.new.self.window in
    let former = c.loop.items.items in
    let items = c.step.new.items.items in
    let by_code = subst (λ (code : CodeValue). Steps g.R.Read.remaining code (answers_of g.C.Fn c.loop.stream.callback) old new former items c.in_ok-step.field-0) inv.same_code c.in_ok-step.ensures.steps in
    let by_callback = subst (λ (f : g.row.C.Denot). Steps g.R.Read.remaining c.args.self.code (answers_of g.C.Fn f) old new former items c.in_ok-step.field-0) inv.same_callback by_code in
    let ended = subst (λ (b : Bool). Steps g.R.Read.remaining c.args.self.code (answers_of g.C.Fn c.args.self.callback) old new former items b) c.if-branch.true by_callback in
    stepping_over g.R.Read.remaining c.args.self.code (answers_of g.C.Fn c.args.self.callback) c.args.self.window old new former items inv.stepping ended

-- it continues
pub loop-preserved : goal.loop-preserved
loop-preserved g c =
    let inv = c.loop.invariant in
    let keeps = c.in_ok-step.ensures.keeps in
    let old = c.loop.stream.window in
    let new = c.step.new.self.window in
    let former = c.loop.items.items in
    let items = c.step.new.items.items in
    let by_code = subst (λ (code : CodeValue). Steps g.R.Read.remaining code (answers_of g.C.Fn c.loop.stream.callback) old new former items c.in_ok-step.field-0) inv.same_code c.in_ok-step.ensures.steps in
    let by_callback = subst (λ (f : g.row.C.Denot). Steps g.R.Read.remaining c.args.self.code (answers_of g.C.Fn f) old new former items c.in_ok-step.field-0) inv.same_callback by_code in
    let on = subst (λ (b : Bool). Steps g.R.Read.remaining c.args.self.code (answers_of g.C.Fn c.args.self.callback) old new former items b) c.if-branch.false by_callback in
    record {
      same_code = keeps.code ∙ inv.same_code;
      same_callback = keeps.callback ∙ inv.same_callback;
      stepping = stepping_on g.R.Read.remaining c.args.self.code (answers_of g.C.Fn c.args.self.callback) c.args.self.window old new former items inv.stepping on;
    }
