-- The printed text of tokens, or `()` if there are none.
use Rattle.std.specs.Prelude.{ℕ, List, codes}
use Rattle.logos_token.specs.declared.util.MaybeVoid.{MaybeVoid}
use Rattle.logos_token.specs.declared.util.MaybeVoid.TheVariants.{Some, Void}
use Rattle.logos_token.specs.Views.{stream_tokens}
use Rattle.logos_token.specs.Printing.{printed}

-- The text of a run, or `()` if there is none.
abbrev pub maybe_printed : MaybeVoid → List ℕ
maybe_printed (Some stream) = printed (stream_tokens stream)
maybe_printed Void = codes "( )"
