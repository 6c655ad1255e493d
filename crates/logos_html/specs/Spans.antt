-- The text of an input in a page, with a marked span for each of its items.
use Rattle.std.specs.Prelude.{ℕ, ◌%◌, ◌==◌, List, [], ◌∷◌, ◌++◌, codes, decimal, if◌then◌else◌, length, max, min, slice_get}
use Rattle.std.specs.Option.{option_map_or}
use Rattle.logos_answers.specs.Matches.{bytes_between}
use Rattle.logos_answers.specs.Names.{name_at}
use Rattle.logos_code.specs.Items.{Item, token, error}
use Rattle.logos_lines.specs.Locations.{location_at}
use Rattle.logos_lines.specs.declared.location.Location.{Location}
use Rattle.logos_pattern.specs.declared.leaf.Leaf.{Leaf}
use Rattle.logos_html.specs.Descriptions.{DescribedItem, end_of, start_of}
use Rattle.logos_html.specs.Escapes.{escaped_lines, escaped_text}
use Rattle.logos_html.specs.Flows.{flowing_bytes}

-- The offsets of a span.
abbrev pub range_text : ℕ → ℕ → List ℕ
range_text from to = decimal from ++ (codes ".." ++ decimal to)

-- The line and the column of an item, and its span, in its label.
abbrev pub location_label : Location → List ℕ
location_label location = codes ", line " ++ (decimal location.line ++ (codes ", column " ++ decimal location.column))

abbrev pub extent_label : ℕ → ℕ → List ℕ
extent_label from to = codes ", bytes " ++ range_text from to

-- The end of a label, and the span for programs.
abbrev pub span_data : ℕ → ℕ → List ℕ
span_data from to = codes "\" data-span=\"" ++ (range_text from to ++ codes "\"")

abbrev pub label_end : ℕ → ℕ → Location → List ℕ
label_end from to location = location_label location ++ (extent_label from to ++ span_data from to)

-- The description of an item, if it has one, at the end of the beginning of its span.
abbrev pub description_text : List ℕ → List ℕ
description_text description =
    if length description == 0 then codes ">"
    else (codes " aria-description=\"" ++ (escaped_lines description ++ codes "\">"))

-- The beginning of the span of a token, with the number of one of eight colors.
abbrev pub class_text : ℕ → List ℕ
class_text leaf = codes "<span tabindex=\"0\" role=\"group\" class=\"k c" ++ (decimal (leaf % 8) ++ (codes "\" data-leaf=\"" ++ decimal leaf))

-- The name and the number of a leaf in a label.
abbrev pub name_label : List Leaf → ℕ → List ℕ
name_label leaves leaf = codes "\" aria-label=\"" ++ (escaped_text (name_at leaves leaf) ++ (codes ", leaf " ++ decimal leaf))

-- The priority of the leaf with a number.
abbrev pub priority_at : List Leaf → ℕ → ℕ
priority_at leaves leaf = option_map_or (λ (it : Leaf). it.priority) (slice_get leaves leaf) 0

abbrev pub priority_label : List Leaf → ℕ → List ℕ
priority_label leaves leaf = codes ", priority " ++ decimal (priority_at leaves leaf)

abbrev pub token_head : List Leaf → ℕ → List ℕ
token_head leaves leaf = class_text leaf ++ (name_label leaves leaf ++ priority_label leaves leaf)

abbrev pub error_head : List ℕ
error_head = codes "<span tabindex=\"0\" role=\"group\" class=\"e\" aria-label=\"error"

abbrev pub item_head : List Leaf → Item → List ℕ
item_head leaves (token leaf from to slice) = token_head leaves leaf
item_head leaves (error leaf from to slice) = error_head

-- The shown bytes of an input between two offsets. Its front up to `end` is shown.
abbrev pub part_of : List ℕ → ℕ → ℕ → ℕ → List ℕ
part_of bytes end from to = bytes_between bytes from (min to end)

-- The shown bytes of an item, and the end of its span.
abbrev pub slice_text : List ℕ → ℕ → ℕ → ℕ → List ℕ
slice_text bytes end from to = flowing_bytes (part_of bytes end from to) ++ codes "</span>"

-- The offset of a cursor in a text that moves forward to another offset.
abbrev pub moved : List ℕ → ℕ → ℕ → ℕ
moved bytes at offset = max at (min offset (length bytes))

-- For an input, whose front up to `end` is shown, and the leaves of its lexer.
module _ (leaves : List Leaf) (bytes : List ℕ) (end : ℕ) where
  -- The span of an item at a location, with its description.
  abbrev pub item_markup : Location → DescribedItem → List ℕ
  item_markup location it =
      item_head leaves it.item ++ (label_end (start_of it.item) (end_of it.item) location ++ (description_text it.description ++ slice_text bytes end (start_of it.item) (end_of it.item)))

  -- The bytes from the offset `at` to an item, and the item.
  abbrev pub next_text : ℕ → ℕ → DescribedItem → List ℕ
  next_text at cursor it = flowing_bytes (part_of bytes end at (start_of it.item)) ++ item_markup (location_at bytes (moved bytes cursor (start_of it.item))) it

  -- The shown text from the offset `at` to its end, with these items.
  abbrev pub items_text : ℕ → ℕ → List DescribedItem → List ℕ
  items_text at cursor [] = flowing_bytes (part_of bytes end at end)
  items_text at cursor (it ∷ rest) = next_text at cursor it ++ items_text (end_of it.item) (moved bytes cursor (start_of it.item)) rest
