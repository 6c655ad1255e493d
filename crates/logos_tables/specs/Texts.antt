-- The printed texts of tables.
use Rattle.std.specs.Prelude.{◌≡◌, ℕ, zero, suc, ◌/◌, ◌%◌, ◌&&◌, Bool, true, nat_le, List, [], ◌∷◌, ◌++◌, length, map, codes, if◌then◌else◌}
use Rattle.std.specs.Fmt.{decimal}
use Rattle.std.specs.List.{flat_map}
use Rattle.logos_byte_class.specs.ClassText.{byte_text}
use Rattle.logos_code.specs.Code.{CodeValue}
use Rattle.logos_text.specs.Fronts.{AroundValue, IsFront}
use Rattle.logos_type.specs.Printed.{printed_type}
use Rattle.logos_type.specs.TypeTrees.{type_tree}
use Rattle.logos_tables.specs.Layout.{Tables, Hold}
use Rattle.logos_tables.specs.Steps.{mark_number, skip_number}

-- No number is above a bound.
abbrev pub are_at_most : ℕ → List ℕ → Bool
are_at_most most [] = true
are_at_most most (number ∷ numbers) = nat_le number most && are_at_most most numbers

-- The number of bytes for each number: 1, 2, 4 or 8, the least that holds all of them.
abbrev pub size_number : List ℕ → ℕ
size_number numbers =
    if are_at_most 255 numbers then 1
    else (if are_at_most 65535 numbers then 2
    else (if are_at_most 4294967295 numbers then 4
    else 8))

-- The lowest bytes of a number, the lowest byte first, as they are written in a byte string.
abbrev pub entry_text : ℕ → ℕ → List ℕ
entry_text zero number = []
entry_text (suc size) number = byte_text (number % 256) ++ entry_text size (number / 256)

-- Numbers, each with `size` bytes.
abbrev pub entries_text : ℕ → List ℕ → List ℕ
entries_text size numbers = flat_map (entry_text size) numbers

-- A field with numbers: its name, the number of bytes for each number, and all bytes.
abbrev pub field_head : List ℕ → ℕ → List ℕ
field_head name size = name ++ codes ": (" ++ decimal size ++ codes ", b\""

abbrev pub field_text : List ℕ → List ℕ → List ℕ
field_text name numbers = field_head name (size_number numbers) ++ entries_text (size_number numbers) numbers ++ codes "\"), "

-- Two fields with runs: their lengths, and the numbers that they repeat.
abbrev pub runs_texts : List ℕ → List ℕ → List (ℕ × ℕ) → List (List ℕ)
runs_texts lengths numbers runs = field_text lengths (map (λ run. run.0) runs) ∷ field_text numbers (map (λ run. run.1) runs) ∷ []

-- The texts of the tables of steps: the classes of symbols, the rows by classes, and the row of
-- each state.
abbrev pub step_texts : List (ℕ × ℕ) → List (ℕ × ℕ) → List ℕ → List (List ℕ)
step_texts class_runs runs slots =
    runs_texts (codes "class_lengths") (codes "classes") class_runs
    ++ (runs_texts (codes "lengths") (codes "steps") runs ++ (field_text (codes "rows") slots ∷ []))

-- The field with the mark of each state.
abbrev pub marks_text : CodeValue → List ℕ
marks_text code = field_text (codes "marks") (map (λ state. mark_number state.mark) code.states)

abbrev pub skips_text : CodeValue → List ℕ
skips_text code = field_text (codes "skips") (map skip_number code.leaves)

-- The head of the implementation for a type.
abbrev pub head_text : List ℕ → List ℕ
head_text this =
    codes "\n#[allow(unknown_lints, non_local_definitions, long_running_const_eval)]\nimpl<'s> _Tables<'s> for " ++ this ++ codes " {\n"

-- The beginning of the tables: the first state, and the number of classes.
abbrev pub data_text : ℕ → ℕ → List ℕ
data_text root width = codes "const DATA: _Data = _Data { root: " ++ decimal root ++ codes ", width: " ++ decimal width ++ codes ", "

-- The end of the tables, and the type of the unpacked tables, for these numbers of states and of
-- runs.
abbrev pub unpacked_text : ℕ → ℕ → List ℕ
unpacked_text states runs =
    codes "};\ntype Unpacked = _Unpacked<" ++ decimal states ++ codes ", " ++ decimal runs
    ++ codes ">;\nconst UNPACKED: &'static Self::Unpacked = { ::core::assert!(Self::DATA.width > 0); &<Self::Unpacked>::new::<Self>() };\n"

-- The constants that the runtime computes from the tables, with the numbers of their entries.
abbrev pub entries_size_text : ℕ → List ℕ
entries_size_text entries =
    codes "const ROWS: &'static [u32] = { ::core::assert!(Self::DATA.width > 0); &<Self::Unpacked>::rows::<Self, " ++ decimal entries
    ++ codes ">() };\nconst LASTS: &'static [u32] = { ::core::assert!(Self::DATA.width > 0); &<Self::Unpacked>::lasts::<Self>() };\n"

abbrev pub masks_text : ℕ → List ℕ
masks_text masks =
    codes "const MASKS: &'static [[[u8; 8]; 256]] = { ::core::assert!(Self::DATA.width > 0); &<Self::Unpacked>::masks::<Self, " ++ decimal masks
    ++ codes ">() };\nconst RANGES: &'static [_Ranges] = { ::core::assert!(Self::DATA.width > 0); &_Ranges::of::<Self, " ++ decimal masks ++ codes ">() };\n"

abbrev pub folded_text : ℕ → List ℕ
folded_text entries = codes "const FOLDED: &'static [u32] = { ::core::assert!(Self::DATA.width > 0); &<Self::Unpacked>::folded::<Self, " ++ decimal entries ++ codes ">() };\n"

-- The text after the tables: the functions through which the runtime calls the ones before them,
-- and the call of its loop.
abbrev pub end_text : List ℕ
end_text =
    codes "fn bytes(source: &'s <Self as Logos<'s>>::Source) -> &'s [u8] { source.as_ref() }\n"
    ++ codes "fn plain(leaf: usize) -> _Option<Self> { _token(leaf) }\n"
    ++ codes "fn act(lex: &mut _Lexer<'s>, leaf: usize) -> CallbackResult<'s, Self> { _get_action(lex, leaf) }\n"
    ++ codes "fn error(lex: &mut _Lexer<'s>) -> <Self as Logos<'s>>::Error { _make_error(lex) }\n"
    ++ codes "}\n_Tables::run(lex)\n} }\n"

-- The numbers of entries and masks that the runtime computes from the tables. The compiler of the
-- generated code rejects wrong numbers.
pub record Sizes : Type 0 where
  pub entries : ℕ
  pub masks : ℕ
  pub folded : ℕ

-- The texts of the constants that the runtime computes, for these numbers of states and of runs.
abbrev pub numbers_texts : ℕ → ℕ → Sizes → List (List ℕ)
numbers_texts states runs sizes =
    unpacked_text states runs ∷ entries_size_text sizes.entries ∷ masks_text sizes.masks ∷ folded_text sizes.folded ∷ []

-- The texts of all tables of a code.
abbrev pub made_texts : CodeValue → Tables → Sizes → List (List ℕ)
made_texts code tables sizes =
    (data_text code.root tables.width ∷ [])
    ++ (step_texts tables.class_runs tables.runs tables.slots
    ++ ((marks_text code ∷ skips_text code ∷ [])
    ++ numbers_texts (length tables.slots) (length tables.runs) sizes))

-- The concatenation of texts.
abbrev pub joined : List (List ℕ) → List ℕ
joined texts = flat_map (λ text. text) texts

-- The whole text after the front of an implementation by tables.
abbrev pub tables_text : CodeValue → Tables → Sizes → List ℕ
tables_text code tables sizes = head_text (printed_type (type_tree code.header.this)) ++ (joined (made_texts code tables sizes) ++ end_text)

-- The text is a lexer with tables that hold the steps of the code: the front of an implementation
-- for the type of the enum, with these texts around its function, followed directly by the tables
-- and nothing else.
pub record HoldsTables (around : AroundValue) (code : CodeValue) (text : List ℕ) : Type 0 where
  pub tables : Tables
  pub sizes : Sizes
  pub hold : Hold code tables
  pub front : List ℕ
  pub begins : IsFront around (printed_type (type_tree code.header.this)) front
  pub is : text ≡ front ++ tables_text code tables sizes
