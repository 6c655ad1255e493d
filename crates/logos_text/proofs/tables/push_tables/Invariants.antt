use Rattle.std.proofs.Common.{List, ℕ, drop, string_bytes}
use Rattle.logos_text.specs.Occurrence.{Adds}
use Rattle.logos_text.specs.Texts.{table_texts}
use Rattle.logos_text.proofs.tables.push_tables.Given as goal

abbrev pub invariant-loop-n : goal.invariant-loop-n
invariant-loop-n l =
    (whole : List ℕ) → Adds (table_texts l.n (drop l.n l.tables)) (string_bytes l.text) whole →
    Adds (table_texts 0 l.tables) (string_bytes l.initial.text) whole
