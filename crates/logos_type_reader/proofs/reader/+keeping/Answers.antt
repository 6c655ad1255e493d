use Rattle.std.proofs.Common.{◌<◌, ◌+◌, ◌*◌, ap, arith}
use Rattle.logos_token.specs.Tokens.{TokenList, count_of, token_count}
use Rattle.logos_token.specs.Views.{tokens_of, tree_of as token_of}
use Rattle.logos_type_reader.proofs.reader.+keeping.Goals as goal

pub keep_tokens-keep_token-requires : goal.keep_tokens-keep_token-requires
keep_tokens-keep_token-requires t c =
    let k = ap (λ (x : TokenList). count_of x) c.in-Some.ensures.cases in
    let h : 3 * token_count (token_of c.in-Some.tree) < 3 * count_of (tokens_of c.args.run) + 1 = omega (arith, k, c.loop-tree.invariant.1) in
    (omega (arith, h, c.decreases), tt)
