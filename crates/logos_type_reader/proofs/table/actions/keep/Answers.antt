use Rattle.std.proofs.Common.{◌≡◌, refl, sym, ap}
use Rattle.logos_token.specs.Tokens.{TokenList, none}
use Rattle.logos_token.specs.Views.{tokens_of}
use Rattle.logos_type_reader.specs.Table.{keeps, to}
use Rattle.logos_type_reader.specs.ReadingViews.{outside_of}
use Rattle.logos_type_reader.proofs.table.actions.keep.Goals as goal

pub before-requires : goal.before-requires
before-requires c = record { front = none; is = refl }

pub returns : goal.returns
returns c =
    let e : tokens_of c.before-2.result ≡ none = c.before-2.ensures (record { front = none; is = refl }) in
    ap (λ (x : TokenList). keeps (tokens_of c.args.run) (to c.args.stage x (outside_of c.args.outside))) (sym e)
