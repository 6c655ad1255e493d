-- Tables that hold the steps of states.
use Rattle.std.proofs.Common.{◌≡◌, ℕ, ◌<◌, List, [], length, map, Option, Some, option_and_then, slice_get, slice_index, slice_index_or, sym, ◌∙◌, ap, arith}
use Rattle.std.specs.List.{flat_map}
use Rattle.std.proofs.lemmas.List.{get_or-map, length-map}
use Rattle.std.proofs.lemmas.Option.{slice_get-get_or}
use Rattle.std.proofs.lemmas.List.Folds.{flat_map-map}
use Rattle.logos_reduce.specs.Rows.{rows_at}
use Rattle.logos_tables.specs.Layout.{Classify, Tables, by_classes, step_in}

-- the entry of a row by classes
class_entry : (symbols row : List ℕ) (number : ℕ) → number < length symbols → slice_index (by_classes symbols row) number ≡ slice_index row (slice_index symbols number)
class_entry symbols row number l = get_or-map (λ symbol. slice_index row symbol) symbols number 0 0 l

-- the step of a symbol in a state is found in the state's row, at the symbol's class
entry_held : (slots numbers symbols : List ℕ) (distinct : List (List ℕ)) (step : ℕ → ℕ → ℕ) (count : ℕ) → length slots ≡ count →
    ((i : ℕ) → i < length slots → slice_index slots i < length distinct) →
    ((state symbol : ℕ) → state < count → symbol < 257 → slice_index (slice_index_or (rows_at slots distinct) state []) symbol ≡ step state symbol) →
    Classify distinct numbers symbols 257 → (state symbol : ℕ) → state < count → symbol < 257 →
    slice_index (slice_index_or (map (by_classes symbols) distinct) (slice_index slots state) []) (slice_index numbers symbol) ≡ step state symbol
entry_held slots numbers symbols distinct step count many placed are classes state symbol l m =
    let there : state < length slots = omega (arith, l, many) in
    let inside = placed state there in
    let class = classes.are symbol m in
    let row = slice_index_or distinct (slice_index slots state) [] in
    ap (λ xs. slice_index xs (slice_index numbers symbol)) (get_or-map (by_classes symbols) distinct (slice_index slots state) [] [] inside)
    ∙ class_entry symbols row (slice_index numbers symbol) class.0
    ∙ class.1 (slice_index slots state) inside
    ∙ sym (ap (λ xs. slice_index xs symbol) (get_or-map (λ slot. slice_index_or distinct slot []) slots state 0 [] there))
    ∙ are state symbol l m

-- each row by classes has a step for each class
pub wide_held : (symbols : List ℕ) (distinct : List (List ℕ)) (i : ℕ) → i < length (map (by_classes symbols) distinct) →
    length (slice_index_or (map (by_classes symbols) distinct) i []) ≡ length symbols
wide_held symbols distinct i l =
    let there : i < length distinct = rw (length-map distinct (by_classes symbols)) at l in
    let row = slice_index_or distinct i [] in
    ap length (get_or-map (by_classes symbols) distinct i [] [] there) ∙ length-map symbols (λ symbol. slice_index row symbol)

-- the entries inside the tables are read
read : (tables : Tables) (state symbol step : ℕ) → state < length tables.slots → slice_index tables.slots state < length tables.rows →
    symbol < length tables.classes → slice_index tables.classes symbol < length (slice_index_or tables.rows (slice_index tables.slots state) []) →
    slice_index (slice_index_or tables.rows (slice_index tables.slots state) []) (slice_index tables.classes symbol) ≡ step → step_in tables state symbol ≡ Some step
read tables state symbol step a b c d is =
    let slot = slice_index tables.slots state in
    let row = slice_index_or tables.rows slot [] in
    let class = slice_index tables.classes symbol in
    let one : slice_get tables.slots state ≡ Some slot = slice_get-get_or tables.slots state 0 a in
    let two : slice_get tables.rows slot ≡ Some row = slice_get-get_or tables.rows slot [] b in
    let three : slice_get tables.classes symbol ≡ Some class = slice_get-get_or tables.classes symbol 0 c in
    ap (λ (p : Option ℕ). option_and_then (λ row. option_and_then (slice_get row) (slice_get tables.classes symbol)) (option_and_then (slice_get tables.rows) p)) one
    ∙ ap (λ (r : Option (List ℕ)). option_and_then (λ row. option_and_then (slice_get row) (slice_get tables.classes symbol)) r) two
    ∙ ap (λ (k : Option ℕ). option_and_then (slice_get row) k) three
    ∙ slice_get-get_or row class 0 d ∙ ap Some is

-- the step of each symbol in each state is read
pub steps_held : (tables : Tables) (symbols : List ℕ) (distinct : List (List ℕ)) (step : ℕ → ℕ → ℕ) (count : ℕ) →
    tables.rows ≡ map (by_classes symbols) distinct → length tables.slots ≡ count → ((i : ℕ) → i < length tables.slots → slice_index tables.slots i < length distinct) →
    ((state symbol : ℕ) → state < count → symbol < 257 → slice_index (slice_index_or (rows_at tables.slots distinct) state []) symbol ≡ step state symbol) →
    Classify distinct tables.classes symbols 257 → (state symbol : ℕ) → state < count → symbol < 257 → step_in tables state symbol ≡ Some (step state symbol)
steps_held tables symbols distinct step count e many placed are classes state symbol l m =
    let there : state < length tables.slots = omega (arith, l, many) in
    let inside : slice_index tables.slots state < length tables.rows = rw (e, length-map distinct (by_classes symbols)) (placed state there) in
    let slot = slice_index tables.slots state in
    let within : slot < length (map (by_classes symbols) distinct) = rw e at inside in
    let wide : length (slice_index_or tables.rows slot []) ≡ length symbols = rw e (wide_held symbols distinct slot within) in
    read tables state symbol (step state symbol) there inside (omega (arith, m, classes.many)) (rw wide (classes.are symbol m).0)
    (rw e (entry_held tables.slots tables.classes symbols distinct step count many placed are classes state symbol l m))

-- the runs encode the rows by classes
pub runs_held : (symbols steps : List ℕ) (distinct : List (List ℕ)) → steps ≡ flat_map (by_classes symbols) distinct → steps ≡ flat_map (λ row. row) (map (by_classes symbols) distinct)
runs_held symbols steps distinct e = e ∙ sym (flat_map-map (λ (row : List ℕ). row) (by_classes symbols) distinct)
