-- The line of an item on a screen.
use Rattle.std.specs.Prelude.{◌≡◌, ℕ, List, [], ◌∷◌, ◌++◌, Bool, true, false, codes}
use Rattle.logos_screen.specs.Fronts.{IsFront}
use Rattle.logos_screen.specs.declared.item_line.ItemLine.{ItemLine}
use Rattle.logos_screen.specs.declared.item_line.ItemPart.{ItemPart}
use Rattle.logos_screen.specs.declared.item_line.ItemPart.TheVariants.{Error, Location, Text, Variant}
use Rattle.logos_screen.specs.declared.screen.Screen.{Screen}

-- The escape sequence that begins a part of the line on a terminal.
abbrev pub part_sequence : ItemPart → List ℕ
part_sequence Location = 27 ∷ codes "[1;34m"
part_sequence Variant = 27 ∷ codes "[1m"
part_sequence Text = 27 ∷ codes "[32m"
part_sequence Error = 27 ∷ codes "[1;31m"

-- A part of the line, with or without its color.
abbrev pub painted : Bool → ItemPart → List ℕ → List ℕ
painted true part text = part_sequence part ++ (text ++ (27 ∷ codes "[0m"))
painted false part text = text

-- The location, the variant and the text of an item, or those of an error, with or without colors.
abbrev pub item_text : Bool → Bool → List ℕ → List ℕ → List ℕ → List ℕ
item_text is_colored false location variant text =
    painted is_colored Location location ++ (painted is_colored Variant variant ++ painted is_colored Text text)
item_text is_colored true location variant text =
    painted is_colored Location location ++ (painted is_colored Error variant ++ painted is_colored Error text)

-- Exactly the line was appended, with its end: whole or cut, and its parts with or without colors.
abbrev pub ShowsItem : Screen → ItemLine → List ℕ → List ℕ → Type 0
ShowsItem screen line old new = (location variant text mark : List ℕ)
    × IsFront line.line.now screen.width (location ++ (variant ++ text)) mark
    × (new ≡ old ++ (item_text screen.is_colored line.is_error location variant text ++ (mark ++ (10 ∷ []))))
