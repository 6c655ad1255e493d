-- The condition under which a text has colors.
use Rattle.std.specs.Prelude.{ℕ, List, Bool, true, false, Option, Some, None, if◌then◌else◌, bytes_eq, codes}
use Rattle.logos_host.specs.declared.color.Color.{Color}
use Rattle.logos_host.specs.declared.color.Color.TheVariants.{Always, Never, Auto}

-- Whether a text has colors, on a terminal or elsewhere.
abbrev pub has_colors : Color → Bool → Bool
has_colors Always is_terminal = true
has_colors Never is_terminal = false
has_colors Auto is_terminal = is_terminal

-- The color setting for a value of `--color`.
abbrev pub color_named : List ℕ → Option Color
color_named name =
    if bytes_eq name (codes "always") then Some Always
    else (if bytes_eq name (codes "never") then Some Never
    else (if bytes_eq name (codes "auto") then Some Auto
    else None))
