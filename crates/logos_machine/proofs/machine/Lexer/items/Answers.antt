use Rattle.std.proofs.Common.{◌∙◌, map}
use Rattle.std.proofs.lemmas.List.{map-append}
use Rattle.logos_machine.specs.LexerValue.{answers_of, item_of}
use Rattle.logos_machine.proofs.ItemsLemmas.{more_items, no_items}
use Rattle.logos_machine.proofs.machine.Lexer.items.Goals as goal

pub loop-item-preserved : goal.loop-item-preserved
loop-item-preserved g c =
    let keeps = c.in-Some.ensures.keeps in
    let given = rw c.loop-item.invariant.same_callback at c.in-Some.ensures.item in
    record {
      same_code = keeps.code ∙ c.loop-item.invariant.same_code;
      same_input = keeps.input ∙ c.loop-item.invariant.same_input;
      same_callback = keeps.callback ∙ c.loop-item.invariant.same_callback;
      within = rw (keeps.input ∙ c.loop-item.invariant.same_input) at given.within;
      continues = λ rest r. rw (c.in_ok-push.ensures.items, map-append) (more_items _ (answers_of g.C.Fn c.args.self.callback) c.args.self.code c.args.self.input _ _ c.args.self.to
          (map item_of c.loop-item.items.items) (item_of c.in-Some.item) given
          c.loop-item.invariant.same_code c.loop-item.invariant.same_input (keeps.code ∙ c.loop-item.invariant.same_code) (keeps.input ∙ c.loop-item.invariant.same_input)
          (λ leaf slice answer w. w) (λ leaf slice answer w. w) c.loop-item.invariant.continues rest r);
    }

pub returns : goal.returns
returns g c =
    no_items _ (answers_of g.C.Fn c.args.self.callback) c.args.self.code c.args.self.input _ _ c.args.self.to (map item_of c.loop-item.items.items)
    (rw c.loop-item.invariant.same_callback at c.in_default.ensures.item) c.loop-item.invariant.same_code c.loop-item.invariant.same_input
    (λ leaf slice answer w. w) c.loop-item.invariant.continues
