-- Attributes as wholes.
use Rattle.std.proofs.Common.{◌≡◌, List, Some, ap}
use Rattle.logos_lexeme.specs.declared.lexeme.Span.{Span}
use Rattle.logos_token.specs.Faults.{Fault}
use Rattle.logos_token.specs.Views.{tokens_of}
use Rattle.logos_token.specs.declared.token.views.Tokens.{Tokens}
use Rattle.logos_attribute.specs.Pieces.{Piece, pieces}
use Rattle.logos_definition.specs.declared.meta.Meta.{Meta}
use Rattle.logos_definition.specs.Arguments.{ReadsPieces}
use Rattle.logos_definition.specs.Attributes.{ReadsMeta, with_arguments}
use Rattle.logos_definition.specs.Metas.{arguments_view, meta_view}
use Rattle.logos_definition.specs.Options.{OptionsView}

-- the meaning of the pieces in the arguments is the meaning of the attribute
pub has_arguments : {o : OptionsView} {o' : OptionsView} {old new : List Fault} {span : Span} (meta : Meta) (run : Tokens) (left : List Piece) →
    meta.arguments ≡ Some run → left ≡ pieces (tokens_of run) → ReadsPieces o o' old new left → ReadsMeta o o' old new (meta_view meta) span
has_arguments meta run left e f s = with_arguments (ap arguments_view e) (rw f at s)
