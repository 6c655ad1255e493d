-- The form in which an output is shown.
use Rattle.std.specs.Prelude.{◌≡◌, ◌⊎◌, ◌&&◌, not, is_some, Bool, None, IsTrue}
use Rattle.logos_host.specs.Colors.{has_colors}
use Rattle.logos_host.specs.declared.color.Color.{Color}
use Rattle.logos_screen.specs.declared.screen.Screen.{Screen}

-- Whether lines have no colors, and are never cut.
abbrev pub is_plain : Screen → Bool
is_plain screen = not (is_some screen.width) && not screen.is_colored

-- The form of an output fits the condition under which it has colors, and whether it is a terminal:
-- on a terminal the environment may forbid colors, and elsewhere no line is cut.
abbrev pub IsScreenOf : Color → Bool → Screen → Type 0
IsScreenOf color is_terminal screen =
    ((allows : Bool) × (screen.is_colored ≡ has_colors color (is_terminal && allows)))
    × (IsTrue is_terminal ⊎ (screen.width ≡ None))
