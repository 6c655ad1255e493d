-- The views of the items of a scan in contracts.
use Rattle.std.specs.Prelude.{ℕ}
use Rattle.logos_code.specs.Items.{Callback, Item}
use Rattle.logos_machine.specs.LexerValue.{LexerValue, Ends, Yields}
use Rattle.logos_scan.specs.declared.run.Reading.{Reading}
use Rattle.logos_scan.specs.declared.run.Run.{Run}
use Rattle.logos_scan.specs.walk.Cursors.{start_of}

-- The lexer of the code on the input, with this callback, after an item with this span.
abbrev pub lexer_at : {C : Type 0} → Reading → C → (from to : ℕ) → LexerValue C
lexer_at reading callback from to = record {
  code = reading.code.now;
  input = reading.input.now;
  callback = callback;
  from = from;
  to = to;
  steps = 0;
}

-- From the point before the scan, a lexer returns this item, and the scan is after it.
abbrev pub YieldsItem : {C : Type 0} → Callback → Reading → C → Run → Run → Item → Type 0
YieldsItem answers reading callback old new item =
    (from : ℕ) × Yields answers (lexer_at reading callback (start_of old.cursor) (start_of old.cursor)) (lexer_at reading callback from (start_of new.cursor)) item

-- The input ends, and the scan is at its end.
abbrev pub EndsItems : {C : Type 0} → Callback → Reading → C → Run → Run → Type 0
EndsItems answers reading callback old new =
    Ends answers (lexer_at reading callback (start_of old.cursor) (start_of old.cursor)) (lexer_at reading callback (start_of new.cursor) (start_of new.cursor))
