-- The JSON object for an item.
use Rattle.std.specs.Prelude.{List, ◌++◌, codes, option_map}
use Rattle.json.specs.Token.{Token}
use Rattle.logos_json.specs.Members.{bytes_member, maybe_number, maybe_text, number_member}
use Rattle.logos_records.specs.declared.items.ItemRecord.{ItemRecord}

-- The location of an item: its line, its column, and its offset in bytes.
abbrev pub location_members : ItemRecord → List Token
location_members item = number_member (codes "line") item.location.line ++ (number_member (codes "column") item.location.column ++ number_member (codes "from") item.from)

-- The kind of an item: its leaf and its variant, which are null for an error, and its text.
abbrev pub kind_members : ItemRecord → List Token
kind_members item =
    maybe_number (codes "leaf") item.leaf ++ (maybe_text (codes "variant") (option_map (λ text. text.now) item.variant) ++ bytes_member (codes "text") item.bytes.now)

-- An item: its location, its kind, and its text.
abbrev pub item_members : ItemRecord → List Token
item_members item = location_members item ++ kind_members item
