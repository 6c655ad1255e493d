use Rattle.std.proofs.Common.{◌≡◌, ◌∙◌, ◌≤◌, ℕ, length, None, [], ◌∷◌, slice_range, option_map, sym, ap, subst}
use Rattle.logos_code.specs.Items.{items_of, error}
use Rattle.logos_machine.specs.inside.Parts.{IsSettled}
use Rattle.logos_machine.specs.LexerValue.{LexerValue, MatchYields, item_of, answers_of}
use Rattle.logos_machine.specs.declared.machine.part.Settled.TheVariants.{Matched, Failed, Open}
use Rattle.logos_machine.proofs.LexerLemmas.{none_of, moved}
use Rattle.logos_machine.proofs.WithinLemmas.{passes_within, keeps_given, yields_within, yields_error_within, waits_within}
use Rattle.logos_machine.proofs.machine.Lexer.next_in_part.Goals as goal

pub matched_item-requires-clause-callable : goal.matched_item-requires-clause-callable
matched_item-requires-clause-callable g c =
    let e : c.self-in-Matched.inside.callback ≡ c.args.self.now.callback = ap (λ (l : LexerValue g.row.C.Denot). l.callback) (c.self-in-Matched.view_is ∙ c.loop-leaf.invariant.same) in
    let same : c.self.inside.code.now ≡ c.args.self.now.code = ap (λ (l : LexerValue g.row.C.Denot). l.code) c.self.view_is in
    rw (e, same) (λ calls_back. c.requires c.in-Matched.leaf _ calls_back)

pub status_after-requires-clause-within : goal.status_after-requires-clause-within
status_after-requires-clause-within g c =
    let o : IsSettled c.args.self.now.code c.args.self.now.input c.loop-leaf.from (Matched c.in-Matched.leaf c.in-Matched.to c.in-Matched.steps) =
    subst (λ (l : LexerValue g.row.C.Denot). IsSettled l.code l.input c.loop-leaf.from (Matched c.in-Matched.leaf c.in-Matched.to c.in-Matched.steps)) c.self.view_is c.in-Matched.ensures in
    subst (λ (l : LexerValue g.row.C.Denot). c.in-Matched.to ≤ length l.input) (sym c.loop-leaf.invariant.same) (o.within.2)

pub returns-in-Some-clause-keeps : goal.returns-in-Some-clause-keeps
returns-in-Some-clause-keeps g c =
    let is_new = c.status_after.ensures ∙ ap (λ (l : LexerValue g.row.C.Denot). moved l c.loop-leaf.from c.in-Matched.to c.in-Matched.steps) c.loop-leaf.invariant.same in
    keeps_given (answers_of g.C.Fn c.args.self.now.callback) c.args.self.now c.loop-leaf.from c.in-Matched.to c.in-Matched.steps c.status_after.new.self is_new

pub returns-in-Some-clause-does : goal.returns-in-Some-clause-does
returns-in-Some-clause-does g c =
    let o : IsSettled c.args.self.now.code c.args.self.now.input c.loop-leaf.from (Matched c.in-Matched.leaf c.in-Matched.to c.in-Matched.steps) =
    subst (λ (l : LexerValue g.row.C.Denot). IsSettled l.code l.input c.loop-leaf.from (Matched c.in-Matched.leaf c.in-Matched.to c.in-Matched.steps)) c.self.view_is c.in-Matched.ensures in
    let is_new = c.status_after.ensures ∙ ap (λ (l : LexerValue g.row.C.Denot). moved l c.loop-leaf.from c.in-Matched.to c.in-Matched.steps) c.loop-leaf.invariant.same in
    let e : c.self-in-Matched.inside.callback ≡ c.args.self.now.callback = ap (λ (l : LexerValue g.row.C.Denot). l.callback) (c.self-in-Matched.view_is ∙ c.loop-leaf.invariant.same) in
    let seen = subst (λ f. MatchYields c.self.inside.code.now (answers_of g.C.Fn f) c.self.inside.input.now c.in-Matched.leaf.0 c.loop-leaf.from c.in-Matched.to (option_map item_of c.matched_item.result)) e c.matched_item.ensures in
    let yields : MatchYields c.args.self.now.code (answers_of g.C.Fn c.args.self.now.callback) c.args.self.now.input c.in-Matched.leaf.0 c.loop-leaf.from c.in-Matched.to (option_map item_of c.matched_item.result) =
    subst (λ (l : LexerValue g.row.C.Denot). MatchYields l.code (answers_of g.C.Fn c.args.self.now.callback) l.input c.in-Matched.leaf.0 c.loop-leaf.from c.in-Matched.to (option_map item_of c.matched_item.result)) c.self.view_is seen in
    let is : items_of c.args.self.now.code.leaves (answers_of g.C.Fn c.args.self.now.callback) c.args.self.now.input yields.answer c.in-Matched.leaf.0 c.loop-leaf.from c.in-Matched.to ≡ item_of c.in-Some.item ∷ [] = rw c.in-Some.is at yields.is in
    yields_within (answers_of g.C.Fn c.args.self.now.callback) c.args.self.now c.loop-leaf.from c.in-Matched.to c.in-Matched.steps c.status_after.new.self is_new c.in-Matched.leaf.0 yields.answer (item_of c.in-Some.item) c.loop-leaf.invariant.on o yields.may is

pub loop-leaf-preserved : goal.loop-leaf-preserved
loop-leaf-preserved g c =
    let o : IsSettled c.args.self.now.code c.args.self.now.input c.loop-leaf.from (Matched c.in-Matched.leaf c.in-Matched.to c.in-Matched.steps) =
    subst (λ (l : LexerValue g.row.C.Denot). IsSettled l.code l.input c.loop-leaf.from (Matched c.in-Matched.leaf c.in-Matched.to c.in-Matched.steps)) c.self.view_is c.in-Matched.ensures in
    let e : c.self-in-Matched.inside.callback ≡ c.args.self.now.callback = ap (λ (l : LexerValue g.row.C.Denot). l.callback) (c.self-in-Matched.view_is ∙ c.loop-leaf.invariant.same) in
    let seen = subst (λ f. MatchYields c.self.inside.code.now (answers_of g.C.Fn f) c.self.inside.input.now c.in-Matched.leaf.0 c.loop-leaf.from c.in-Matched.to (option_map item_of c.matched_item.result)) e c.matched_item.ensures in
    let yields : MatchYields c.args.self.now.code (answers_of g.C.Fn c.args.self.now.callback) c.args.self.now.input c.in-Matched.leaf.0 c.loop-leaf.from c.in-Matched.to (option_map item_of c.matched_item.result) =
    subst (λ (l : LexerValue g.row.C.Denot). MatchYields l.code (answers_of g.C.Fn c.args.self.now.callback) l.input c.in-Matched.leaf.0 c.loop-leaf.from c.in-Matched.to (option_map item_of c.matched_item.result)) c.self.view_is seen in
    let is : items_of c.args.self.now.code.leaves (answers_of g.C.Fn c.args.self.now.callback) c.args.self.now.input yields.answer c.in-Matched.leaf.0 c.loop-leaf.from c.in-Matched.to ≡ [] = rw (none_of c.matched_item.result c.in_default.not-Some) at yields.is in
    record {
      same = c.loop-leaf.invariant.same;
      on = passes_within (answers_of g.C.Fn c.args.self.now.callback) c.args.self.now c.loop-leaf.from c.in-Matched.to c.in-Matched.leaf.0 c.in-Matched.steps yields.answer c.loop-leaf.invariant.on o yields.may is;
    }

pub status_after-requires-in-Failed-clause-within : goal.status_after-requires-in-Failed-clause-within
status_after-requires-in-Failed-clause-within g c =
    let o : IsSettled c.args.self.now.code c.args.self.now.input c.loop-leaf.from (Failed c.in-Failed.to c.in-Failed.steps) =
    subst (λ (l : LexerValue g.row.C.Denot). IsSettled l.code l.input c.loop-leaf.from (Failed c.in-Failed.to c.in-Failed.steps)) c.self.view_is c.in-Failed.ensures in
    subst (λ (l : LexerValue g.row.C.Denot). c.in-Failed.to ≤ length l.input) (sym c.loop-leaf.invariant.same) (o.within.1)

pub returns-in-Failed-clause-keeps : goal.returns-in-Failed-clause-keeps
returns-in-Failed-clause-keeps g c =
    let is_new = c.status_after-in-Failed.ensures ∙ ap (λ (l : LexerValue g.row.C.Denot). moved l c.loop-leaf.from c.in-Failed.to c.in-Failed.steps) c.loop-leaf.invariant.same in
    keeps_given (answers_of g.C.Fn c.args.self.now.callback) c.args.self.now c.loop-leaf.from c.in-Failed.to c.in-Failed.steps c.status_after-in-Failed.new.self is_new

pub returns-in-Failed-clause-does : goal.returns-in-Failed-clause-does
returns-in-Failed-clause-does g c =
    let o : IsSettled c.args.self.now.code c.args.self.now.input c.loop-leaf.from (Failed c.in-Failed.to c.in-Failed.steps) =
    subst (λ (l : LexerValue g.row.C.Denot). IsSettled l.code l.input c.loop-leaf.from (Failed c.in-Failed.to c.in-Failed.steps)) c.self.view_is c.in-Failed.ensures in
    let is_new = c.status_after-in-Failed.ensures ∙ ap (λ (l : LexerValue g.row.C.Denot). moved l c.loop-leaf.from c.in-Failed.to c.in-Failed.steps) c.loop-leaf.invariant.same in
    let is = subst (λ (l : LexerValue g.row.C.Denot). item_of c.error.result ≡ error None c.loop-leaf.from c.in-Failed.to (slice_range l.input c.loop-leaf.from c.in-Failed.to)) c.self.view_is c.error.ensures in
    yields_error_within (answers_of g.C.Fn c.args.self.now.callback) c.args.self.now c.loop-leaf.from c.in-Failed.to c.in-Failed.steps c.status_after-in-Failed.new.self is_new (item_of c.error.result) c.loop-leaf.invariant.on o is

pub status_after-requires-in-Open-clause-within : goal.status_after-requires-in-Open-clause-within
status_after-requires-in-Open-clause-within g c =
    subst (λ (l : LexerValue g.row.C.Denot). c.loop-leaf.from ≤ length l.input) (sym c.loop-leaf.invariant.same) c.loop-leaf.invariant.on.within

pub returns-in-Open-clause-keeps : goal.returns-in-Open-clause-keeps
returns-in-Open-clause-keeps g c =
    let same : c.self.inside.steps ≡ c.args.self.now.steps = ap (λ (l : LexerValue g.row.C.Denot). l.steps) c.self.view_is in
    let is_new = c.status_after-in-Open.ensures ∙ ap (λ (l : LexerValue g.row.C.Denot). moved l c.loop-leaf.from c.loop-leaf.from c.self.inside.steps) c.loop-leaf.invariant.same
    ∙ ap (λ (n : ℕ). moved c.args.self.now c.loop-leaf.from c.loop-leaf.from n) same in
    keeps_given (answers_of g.C.Fn c.args.self.now.callback) c.args.self.now c.loop-leaf.from c.loop-leaf.from c.args.self.now.steps c.status_after-in-Open.new.self is_new

pub returns-in-Open-clause-does : goal.returns-in-Open-clause-does
returns-in-Open-clause-does g c =
    let o : IsSettled c.args.self.now.code c.args.self.now.input c.loop-leaf.from (Open) =
    subst (λ (l : LexerValue g.row.C.Denot). IsSettled l.code l.input c.loop-leaf.from (Open)) c.self.view_is c.in-Open.ensures in
    let same : c.self.inside.steps ≡ c.args.self.now.steps = ap (λ (l : LexerValue g.row.C.Denot). l.steps) c.self.view_is in
    let is_new = c.status_after-in-Open.ensures ∙ ap (λ (l : LexerValue g.row.C.Denot). moved l c.loop-leaf.from c.loop-leaf.from c.self.inside.steps) c.loop-leaf.invariant.same
    ∙ ap (λ (n : ℕ). moved c.args.self.now c.loop-leaf.from c.loop-leaf.from n) same in
    waits_within (answers_of g.C.Fn c.args.self.now.callback) c.args.self.now c.loop-leaf.from c.status_after-in-Open.new.self is_new c.loop-leaf.invariant.on o
