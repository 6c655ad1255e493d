-- The views of the parts of a text, and of the text that has been made, in contracts.
use Rattle.std.specs.Prelude.{string_bytes}
use Rattle.logos_leaf.specs.declared.subpattern.substitution.TextPart.{TextPart}
use Rattle.logos_leaf.specs.declared.subpattern.substitution.TextPart.TheVariants.{Itself, Used}
use Rattle.logos_leaf.specs.declared.subpattern.substitution.Text.{Text}
use Rattle.logos_leaf.specs.subpattern.Substitution.{Part, itself, used, Substituted}

-- The part that a value represents.
abbrev pub part_of : TextPart → Part
part_of (Itself character) = itself character
part_of (Used name) = used name.now

-- The text so far that a value represents.
abbrev pub text_view : Text → Substituted
text_view t = record { text = string_bytes t.text; complete = t.complete }
