-- The view of an item with its description.
use Rattle.std.specs.Prelude.{List, map, string_bytes}
use Rattle.logos_code.specs.Items.{Item}
use Rattle.logos_machine.specs.LexerValue.{item_of}
use Rattle.logos_html.specs.Descriptions.{DescribedItem}
use Rattle.logos_html.specs.declared.descriptions.Described.{Described}

abbrev pub described_of : Described → DescribedItem
described_of it = record { item = item_of it.item; description = string_bytes it.description }

-- The items without their descriptions.
abbrev pub items_of : List Described → List Item
items_of items = map (λ (it : DescribedItem). it.item) (map described_of items)
