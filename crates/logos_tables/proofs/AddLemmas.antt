-- Tables that are appended to a text.
use Rattle.std.proofs.Common.{◌≡◌, ℕ, List, [], ◌∷◌, ◌++◌, length, map, slice_index_or, append-nil, append_assoc, arith, refl, sym, ◌∙◌, ap}
use Rattle.std.proofs.lemmas.List.{length-map}
use Rattle.std.proofs.lemmas.Grind.{flat_map-append}
use Rattle.logos_code.specs.Code.{CodeValue}
use Rattle.logos_code.specs.CodeView.{state_at}
use Rattle.logos_type.specs.Printed.{printed_type}
use Rattle.logos_type.specs.TypeTrees.{type_tree}
use Rattle.logos_tables.specs.Layout.{Hold, Tables, by_classes}
use Rattle.logos_tables.specs.Steps.{step_number}
use Rattle.logos_tables.specs.Texts.{data_text, end_text, entries_size_text, folded_text, head_text, joined, made_texts, marks_text, masks_text, skips_text, step_texts, unpacked_text}
use Rattle.logos_tables.specs.inside.Adding.{Appends, AppendsMade, AppendsNumbers, AppendsTables, AreMade}
use Rattle.logos_tables.proofs.HoldLemmas.{runs_held, steps_held, wide_held}

-- one text is appended
pub appends_text : {a b : List ℕ} (text : List ℕ) → b ≡ a ++ text → Appends (text ∷ []) a b
appends_text {a} text e = record { is = e ∙ ap (λ w. a ++ w) (sym (append-nil text)) }

-- some texts after others
pub appends_both : {xs ys : List (List ℕ)} {a b c : List ℕ} → Appends xs a b → Appends ys b c → Appends (xs ++ ys) a c
appends_both {xs} {ys} {a} {b} {c} p q = record {
  is = q.is ∙ ap (λ w. w ++ joined ys) p.is ∙ append_assoc a (joined xs) (joined ys) ∙ ap (λ w. a ++ w) (sym (flat_map-append (λ (text : List ℕ). text) xs ys));
}

-- the constants of numbers
pub numbers_added : {t0 t1 t2 t3 t4 : List ℕ} {states runs states' runs' : ℕ} (entries masks folded : ℕ) → states' ≡ states → runs' ≡ runs →
    t1 ≡ t0 ++ unpacked_text states' runs' → t2 ≡ t1 ++ entries_size_text entries → t3 ≡ t2 ++ masks_text masks → t4 ≡ t3 ++ folded_text folded →
    AppendsNumbers states runs t0 t4
numbers_added {t0} {t1} {t2} {t3} {t4} {states} {runs} {states'} {runs'} entries masks folded e f a b c d = record {
  sizes = record { entries = entries; masks = masks; folded = folded };
  appends = appends_both (appends_text (unpacked_text states runs) first)
      (appends_both (appends_text (entries_size_text entries) b) (appends_both (appends_text (masks_text masks) c) (appends_text (folded_text folded) d)));
}
  where
    first : t1 ≡ t0 ++ unpacked_text states runs
    first = a ∙ ap (λ n. t0 ++ unpacked_text n runs') e ∙ ap (λ n. t0 ++ unpacked_text states n) f

-- the tables of a code hold its steps
held : (code : CodeValue) (numbers symbols slots : List ℕ) (distinct : List (List ℕ)) (class_runs runs : List (ℕ × ℕ)) →
    AreMade code numbers symbols slots distinct class_runs runs →
    Hold code (record { classes = numbers; class_runs = class_runs; rows = map (by_classes symbols) distinct; runs = runs; slots = slots; width = length symbols })
held code numbers symbols slots distinct class_runs runs made = record {
  symbols = made.classes.many;
  states = many;
  inside = λ symbol l. (made.classes.are symbol l).0;
  there = λ state l. rw (length-map distinct (by_classes symbols)) (made.placed state (omega (arith, l, many)));
  steps = steps_held tables symbols distinct (λ state symbol. step_number code (state_at code state) symbol) (length code.states) refl many made.placed
      (λ state symbol l m. (made.rows.are state l).are symbol m) made.classes;
  wide = wide_held symbols distinct;
  class_runs = made.of_classes;
  runs = runs_held symbols _ distinct made.of_rows;
}
  where
    tables : Tables
    tables = record { classes = numbers; class_runs = class_runs; rows = map (by_classes symbols) distinct; runs = runs; slots = slots; width = length symbols }

    many : length slots ≡ length code.states
    many = sym (length-map slots (λ slot. slice_index_or distinct slot [])) ∙ made.rows.count

-- all tables of a code, one after another
pub tables_added : (code : CodeValue) (numbers symbols slots : List ℕ) (distinct : List (List ℕ)) (class_runs runs : List (ℕ × ℕ)) (root width : ℕ) (t0 t1 t2 t3 t4 t5 : List ℕ) →
    AreMade code numbers symbols slots distinct class_runs runs → root ≡ code.root → width ≡ length symbols →
    t1 ≡ t0 ++ data_text root width → Appends (step_texts class_runs runs slots) t1 t2 → Appends (marks_text code ∷ []) t2 t3 → Appends (skips_text code ∷ []) t3 t4 →
    AppendsNumbers (length slots) (length runs) t4 t5 → AppendsMade code t0 t5
tables_added code numbers symbols slots distinct class_runs runs root width t0 t1 t2 t3 t4 t5 made e f begins steps marks skips sizes = record {
  tables = record { classes = numbers; class_runs = class_runs; rows = map (by_classes symbols) distinct; runs = runs; slots = slots; width = length symbols };
  sizes = sizes.sizes;
  hold = held code numbers symbols slots distinct class_runs runs made;
  appends = appends_both (appends_text (data_text code.root (length symbols)) first) (appends_both steps (appends_both (appends_both marks skips) sizes.appends));
}
  where
    first : t1 ≡ t0 ++ data_text code.root (length symbols)
    first = begins ∙ ap (λ n. t0 ++ data_text n width) e ∙ ap (λ n. t0 ++ data_text code.root n) f

-- the implementation around them
pub implementation_added : (code : CodeValue) (this t0 t1 t2 t3 : List ℕ) → this ≡ printed_type (type_tree code.header.this) → t1 ≡ t0 ++ head_text this →
    AppendsMade code t1 t2 → t3 ≡ t2 ++ end_text → AppendsTables code t0 t3
implementation_added code this t0 t1 t2 t3 e head made end = record {
  tables = made.tables;
  sizes = made.sizes;
  hold = made.hold;
  is = end ∙ ap (λ w. w ++ end_text) (made.appends.is ∙ ap (λ w. w ++ inner) (head ∙ ap (λ w. t0 ++ head_text w) e))
      ∙ append_assoc (t0 ++ begins) inner end_text ∙ append_assoc t0 begins (inner ++ end_text);
}
  where
    inner : List ℕ
    inner = joined (made_texts code made.tables made.sizes)

    begins : List ℕ
    begins = head_text (printed_type (type_tree code.header.this))
