use Rattle.logos_syntax.proofs.brackets.Answered.{bracket_at, deep_bracket}
use Rattle.logos_syntax.proofs.brackets.LeavesLemmas.{deep_at_once}
use Rattle.logos_syntax.proofs.bracket.parser.read_bracket.Goals as goal

pub returns : goal.returns
returns c =
    let o = c.open_at-negated.ensures in
    bracket_at c.args.flags c.args.base c.args.text.now _ _ _ c.read_inside.result o.negated o.lead o.rest c.read_inside.ensures

pub returns-then-base-ge-MAX_NESTING : goal.returns-then-base-ge-MAX_NESTING
returns-then-base-ge-MAX_NESTING c =
    let deep = c.if-base-ge-MAX_NESTING.true in
    (deep_bracket c.args.flags c.args.base c.args.text.now deep, deep_at_once c.args.flags c.args.base c.args.text.now deep)
