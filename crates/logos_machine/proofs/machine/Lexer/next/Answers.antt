use Rattle.std.proofs.Common.{◌≡◌, ◌∙◌, ◌≤◌, length, None, [], ◌∷◌, slice_range, option_map, sym, ap, subst}
use Rattle.logos_automaton.specs.Munch.{matched, failed, ended}
use Rattle.logos_code.specs.Items.{items_of, token, error}
use Rattle.logos_machine.specs.inside.Looks.{IsOutcome}
use Rattle.logos_machine.specs.LexerValue.{LexerValue, MatchYields, item_of, answers_of}
use Rattle.logos_machine.specs.declared.machine.walk.Outcome.TheVariants.{Skips, Emits, CallsBack, Fails, Ends}
use Rattle.logos_machine.proofs.LexerLemmas.{none_of, moved, goes_past, goes_past_skip, keeps, yields_item, yields_token, yields_error, ends_run}
use Rattle.logos_machine.proofs.machine.Lexer.next.Goals as goal

pub loop-to-preserved-in-Skips : goal.loop-to-preserved-in-Skips
loop-to-preserved-in-Skips g c =
    let o : IsOutcome c.args.self.now.code c.args.self.now.input c.loop-to.from (Skips c.in-Skips.to) =
    subst (λ (l : LexerValue g.row.C.Denot). IsOutcome l.code l.input c.loop-to.from (Skips c.in-Skips.to)) c.self.view_is c.in-Skips.ensures in
    record {
      same = c.loop-to.invariant.same;
      on = goes_past_skip (answers_of g.C.Fn c.args.self.now.callback) c.args.self.now c.loop-to.from c.in-Skips.to o.0 o.1 c.loop-to.invariant.on o.2 o.3;
    }

pub status_after-requires-clause-within : goal.status_after-requires-clause-within
status_after-requires-clause-within g c =
    let o : IsOutcome c.args.self.now.code c.args.self.now.input c.loop-to.from (Emits c.in-Emits.leaf c.in-Emits.to c.in-Emits.steps) =
    subst (λ (l : LexerValue g.row.C.Denot). IsOutcome l.code l.input c.loop-to.from (Emits c.in-Emits.leaf c.in-Emits.to c.in-Emits.steps)) c.self.view_is c.in-Emits.ensures in
    subst (λ (l : LexerValue g.row.C.Denot). c.in-Emits.to ≤ length l.input) (sym c.loop-to.invariant.same) (o.0.within.2)

pub returns-in-Emits-clause-keeps : goal.returns-in-Emits-clause-keeps
returns-in-Emits-clause-keeps g c =
    let o : IsOutcome c.args.self.now.code c.args.self.now.input c.loop-to.from (Emits c.in-Emits.leaf c.in-Emits.to c.in-Emits.steps) =
    subst (λ (l : LexerValue g.row.C.Denot). IsOutcome l.code l.input c.loop-to.from (Emits c.in-Emits.leaf c.in-Emits.to c.in-Emits.steps)) c.self.view_is c.in-Emits.ensures in
    let is_new = c.status_after.ensures ∙ ap (λ (l : LexerValue g.row.C.Denot). moved l c.loop-to.from c.in-Emits.to c.in-Emits.steps) c.loop-to.invariant.same in
    keeps (answers_of g.C.Fn c.args.self.now.callback) c.args.self.now c.loop-to.from c.in-Emits.to c.in-Emits.steps c.status_after.new.self is_new (matched c.in-Emits.leaf.0 c.in-Emits.to) o.0

pub returns-in-Emits-clause-item : goal.returns-in-Emits-clause-item
returns-in-Emits-clause-item g c =
    let o : IsOutcome c.args.self.now.code c.args.self.now.input c.loop-to.from (Emits c.in-Emits.leaf c.in-Emits.to c.in-Emits.steps) =
    subst (λ (l : LexerValue g.row.C.Denot). IsOutcome l.code l.input c.loop-to.from (Emits c.in-Emits.leaf c.in-Emits.to c.in-Emits.steps)) c.self.view_is c.in-Emits.ensures in
    let is_new = c.status_after.ensures ∙ ap (λ (l : LexerValue g.row.C.Denot). moved l c.loop-to.from c.in-Emits.to c.in-Emits.steps) c.loop-to.invariant.same in
    let is = subst (λ (l : LexerValue g.row.C.Denot). item_of c.token.result ≡ token c.in-Emits.leaf.0 c.loop-to.from c.in-Emits.to (slice_range l.input c.loop-to.from c.in-Emits.to)) c.self.view_is c.token.ensures in
    yields_token (answers_of g.C.Fn c.args.self.now.callback) c.args.self.now c.loop-to.from c.in-Emits.to c.in-Emits.steps c.status_after.new.self is_new c.in-Emits.leaf.0 (item_of c.token.result) c.loop-to.invariant.on o.0 o.1 is

pub matched_item-requires-clause-callable : goal.matched_item-requires-clause-callable
matched_item-requires-clause-callable g c =
    let e : c.self-in-CallsBack.inside.callback ≡ c.args.self.now.callback = ap (λ (l : LexerValue g.row.C.Denot). l.callback) (c.self-in-CallsBack.view_is ∙ c.loop-to.invariant.same) in
    let same : c.self.inside.code.now ≡ c.args.self.now.code = ap (λ (l : LexerValue g.row.C.Denot). l.code) c.self.view_is in
    rw (e, same) (λ calls_back. c.requires c.in-CallsBack.leaf _ calls_back)

pub status_after-requires-in-Some-clause-within : goal.status_after-requires-in-Some-clause-within
status_after-requires-in-Some-clause-within g c =
    let o : IsOutcome c.args.self.now.code c.args.self.now.input c.loop-to.from (CallsBack c.in-CallsBack.leaf c.in-CallsBack.to c.in-CallsBack.steps) =
    subst (λ (l : LexerValue g.row.C.Denot). IsOutcome l.code l.input c.loop-to.from (CallsBack c.in-CallsBack.leaf c.in-CallsBack.to c.in-CallsBack.steps)) c.self.view_is c.in-CallsBack.ensures in
    subst (λ (l : LexerValue g.row.C.Denot). c.in-CallsBack.to ≤ length l.input) (sym c.loop-to.invariant.same) (o.within.2)

pub returns-in-Some-clause-keeps : goal.returns-in-Some-clause-keeps
returns-in-Some-clause-keeps g c =
    let o : IsOutcome c.args.self.now.code c.args.self.now.input c.loop-to.from (CallsBack c.in-CallsBack.leaf c.in-CallsBack.to c.in-CallsBack.steps) =
    subst (λ (l : LexerValue g.row.C.Denot). IsOutcome l.code l.input c.loop-to.from (CallsBack c.in-CallsBack.leaf c.in-CallsBack.to c.in-CallsBack.steps)) c.self.view_is c.in-CallsBack.ensures in
    let is_new = c.status_after-in-Some.ensures ∙ ap (λ (l : LexerValue g.row.C.Denot). moved l c.loop-to.from c.in-CallsBack.to c.in-CallsBack.steps) c.loop-to.invariant.same in
    keeps (answers_of g.C.Fn c.args.self.now.callback) c.args.self.now c.loop-to.from c.in-CallsBack.to c.in-CallsBack.steps c.status_after-in-Some.new.self is_new (matched c.in-CallsBack.leaf.0 c.in-CallsBack.to) o

pub returns-in-Some-clause-item : goal.returns-in-Some-clause-item
returns-in-Some-clause-item g c =
    let o : IsOutcome c.args.self.now.code c.args.self.now.input c.loop-to.from (CallsBack c.in-CallsBack.leaf c.in-CallsBack.to c.in-CallsBack.steps) =
    subst (λ (l : LexerValue g.row.C.Denot). IsOutcome l.code l.input c.loop-to.from (CallsBack c.in-CallsBack.leaf c.in-CallsBack.to c.in-CallsBack.steps)) c.self.view_is c.in-CallsBack.ensures in
    let is_new = c.status_after-in-Some.ensures ∙ ap (λ (l : LexerValue g.row.C.Denot). moved l c.loop-to.from c.in-CallsBack.to c.in-CallsBack.steps) c.loop-to.invariant.same in
    let e : c.self-in-CallsBack.inside.callback ≡ c.args.self.now.callback = ap (λ (l : LexerValue g.row.C.Denot). l.callback) (c.self-in-CallsBack.view_is ∙ c.loop-to.invariant.same) in
    let seen = subst (λ f. MatchYields c.self.inside.code.now (answers_of g.C.Fn f) c.self.inside.input.now c.in-CallsBack.leaf.0 c.loop-to.from c.in-CallsBack.to (option_map item_of c.matched_item.result)) e c.matched_item.ensures in
    let yields : MatchYields c.args.self.now.code (answers_of g.C.Fn c.args.self.now.callback) c.args.self.now.input c.in-CallsBack.leaf.0 c.loop-to.from c.in-CallsBack.to (option_map item_of c.matched_item.result) =
    subst (λ (l : LexerValue g.row.C.Denot). MatchYields l.code (answers_of g.C.Fn c.args.self.now.callback) l.input c.in-CallsBack.leaf.0 c.loop-to.from c.in-CallsBack.to (option_map item_of c.matched_item.result)) c.self.view_is seen in
    let is : items_of c.args.self.now.code.leaves (answers_of g.C.Fn c.args.self.now.callback) c.args.self.now.input yields.answer c.in-CallsBack.leaf.0 c.loop-to.from c.in-CallsBack.to ≡ item_of c.in-Some.item ∷ [] = rw c.in-Some.is at yields.is in
    yields_item (answers_of g.C.Fn c.args.self.now.callback) c.args.self.now c.loop-to.from c.in-CallsBack.to c.in-CallsBack.steps c.status_after-in-Some.new.self is_new c.in-CallsBack.leaf.0 yields.answer (item_of c.in-Some.item) c.loop-to.invariant.on o yields.may is

pub loop-to-preserved : goal.loop-to-preserved
loop-to-preserved g c =
    let o : IsOutcome c.args.self.now.code c.args.self.now.input c.loop-to.from (CallsBack c.in-CallsBack.leaf c.in-CallsBack.to c.in-CallsBack.steps) =
    subst (λ (l : LexerValue g.row.C.Denot). IsOutcome l.code l.input c.loop-to.from (CallsBack c.in-CallsBack.leaf c.in-CallsBack.to c.in-CallsBack.steps)) c.self.view_is c.in-CallsBack.ensures in
    let e : c.self-in-CallsBack.inside.callback ≡ c.args.self.now.callback = ap (λ (l : LexerValue g.row.C.Denot). l.callback) (c.self-in-CallsBack.view_is ∙ c.loop-to.invariant.same) in
    let seen = subst (λ f. MatchYields c.self.inside.code.now (answers_of g.C.Fn f) c.self.inside.input.now c.in-CallsBack.leaf.0 c.loop-to.from c.in-CallsBack.to (option_map item_of c.matched_item.result)) e c.matched_item.ensures in
    let yields : MatchYields c.args.self.now.code (answers_of g.C.Fn c.args.self.now.callback) c.args.self.now.input c.in-CallsBack.leaf.0 c.loop-to.from c.in-CallsBack.to (option_map item_of c.matched_item.result) =
    subst (λ (l : LexerValue g.row.C.Denot). MatchYields l.code (answers_of g.C.Fn c.args.self.now.callback) l.input c.in-CallsBack.leaf.0 c.loop-to.from c.in-CallsBack.to (option_map item_of c.matched_item.result)) c.self.view_is seen in
    let is : items_of c.args.self.now.code.leaves (answers_of g.C.Fn c.args.self.now.callback) c.args.self.now.input yields.answer c.in-CallsBack.leaf.0 c.loop-to.from c.in-CallsBack.to ≡ [] = rw (none_of c.matched_item.result c.in_default.not-Some) at yields.is in
    record {
      same = c.loop-to.invariant.same;
      on = goes_past (answers_of g.C.Fn c.args.self.now.callback) c.args.self.now c.loop-to.from c.in-CallsBack.to c.in-CallsBack.leaf.0 c.in-CallsBack.steps yields.answer c.loop-to.invariant.on o yields.may is;
    }

pub status_after-requires-in-Fails-clause-within : goal.status_after-requires-in-Fails-clause-within
status_after-requires-in-Fails-clause-within g c =
    let o : IsOutcome c.args.self.now.code c.args.self.now.input c.loop-to.from (Fails c.in-Fails.to c.in-Fails.steps) =
    subst (λ (l : LexerValue g.row.C.Denot). IsOutcome l.code l.input c.loop-to.from (Fails c.in-Fails.to c.in-Fails.steps)) c.self.view_is c.in-Fails.ensures in
    subst (λ (l : LexerValue g.row.C.Denot). c.in-Fails.to ≤ length l.input) (sym c.loop-to.invariant.same) (o.within.1)

pub returns-in-Fails-clause-keeps : goal.returns-in-Fails-clause-keeps
returns-in-Fails-clause-keeps g c =
    let o : IsOutcome c.args.self.now.code c.args.self.now.input c.loop-to.from (Fails c.in-Fails.to c.in-Fails.steps) =
    subst (λ (l : LexerValue g.row.C.Denot). IsOutcome l.code l.input c.loop-to.from (Fails c.in-Fails.to c.in-Fails.steps)) c.self.view_is c.in-Fails.ensures in
    let is_new = c.status_after-in-Fails.ensures ∙ ap (λ (l : LexerValue g.row.C.Denot). moved l c.loop-to.from c.in-Fails.to c.in-Fails.steps) c.loop-to.invariant.same in
    keeps (answers_of g.C.Fn c.args.self.now.callback) c.args.self.now c.loop-to.from c.in-Fails.to c.in-Fails.steps c.status_after-in-Fails.new.self is_new (failed c.in-Fails.to) o

pub returns-in-Fails-clause-item : goal.returns-in-Fails-clause-item
returns-in-Fails-clause-item g c =
    let o : IsOutcome c.args.self.now.code c.args.self.now.input c.loop-to.from (Fails c.in-Fails.to c.in-Fails.steps) =
    subst (λ (l : LexerValue g.row.C.Denot). IsOutcome l.code l.input c.loop-to.from (Fails c.in-Fails.to c.in-Fails.steps)) c.self.view_is c.in-Fails.ensures in
    let is_new = c.status_after-in-Fails.ensures ∙ ap (λ (l : LexerValue g.row.C.Denot). moved l c.loop-to.from c.in-Fails.to c.in-Fails.steps) c.loop-to.invariant.same in
    let is = subst (λ (l : LexerValue g.row.C.Denot). item_of c.error.result ≡ error None c.loop-to.from c.in-Fails.to (slice_range l.input c.loop-to.from c.in-Fails.to)) c.self.view_is c.error.ensures in
    yields_error (answers_of g.C.Fn c.args.self.now.callback) c.args.self.now c.loop-to.from c.in-Fails.to c.in-Fails.steps c.status_after-in-Fails.new.self is_new (item_of c.error.result) c.loop-to.invariant.on o is

pub status_after-requires-in-Ends-clause-within : goal.status_after-requires-in-Ends-clause-within
status_after-requires-in-Ends-clause-within g c =
    subst (λ (l : LexerValue g.row.C.Denot). c.loop-to.from ≤ length l.input) (sym c.loop-to.invariant.same) c.loop-to.invariant.on.within

pub returns-in-Ends-clause-keeps : goal.returns-in-Ends-clause-keeps
returns-in-Ends-clause-keeps g c =
    let o : IsOutcome c.args.self.now.code c.args.self.now.input c.loop-to.from (Ends c.in-Ends.steps) =
    subst (λ (l : LexerValue g.row.C.Denot). IsOutcome l.code l.input c.loop-to.from (Ends c.in-Ends.steps)) c.self.view_is c.in-Ends.ensures in
    let is_new = c.status_after-in-Ends.ensures ∙ ap (λ (l : LexerValue g.row.C.Denot). moved l c.loop-to.from c.loop-to.from c.in-Ends.steps) c.loop-to.invariant.same in
    keeps (answers_of g.C.Fn c.args.self.now.callback) c.args.self.now c.loop-to.from c.loop-to.from c.in-Ends.steps c.status_after-in-Ends.new.self is_new ended o

pub returns-in-Ends-clause-item : goal.returns-in-Ends-clause-item
returns-in-Ends-clause-item g c =
    let o : IsOutcome c.args.self.now.code c.args.self.now.input c.loop-to.from (Ends c.in-Ends.steps) =
    subst (λ (l : LexerValue g.row.C.Denot). IsOutcome l.code l.input c.loop-to.from (Ends c.in-Ends.steps)) c.self.view_is c.in-Ends.ensures in
    let is_new = c.status_after-in-Ends.ensures ∙ ap (λ (l : LexerValue g.row.C.Denot). moved l c.loop-to.from c.loop-to.from c.in-Ends.steps) c.loop-to.invariant.same in
    ends_run (answers_of g.C.Fn c.args.self.now.callback) c.args.self.now c.loop-to.from c.in-Ends.steps c.status_after-in-Ends.new.self is_new c.loop-to.invariant.on o
