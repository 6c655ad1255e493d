use Rattle.std.proofs.Common.{string_bytes, arith, get_or, []}
use Rattle.std.proofs.lemmas.List.{get_or_default}
use Rattle.logos_text.proofs.TextLemmas.{tables_all, tables_more}
use Rattle.logos_text.proofs.tables.push_tables.Goals as goal

pub loop-n-preserved : goal.loop-n-preserved
loop-n-preserved c =
    tables_more c.args.tables.now c.loop-n.n (get_or c.args.tables.now c.loop-n.n []) (string_bytes c.args.text.now) (string_bytes c.loop-n.text) (string_bytes c.push_next_table.new.text) (omega arith)
    (get_or_default c.args.tables.now c.loop-n.n [] _ (omega arith)) c.in_ok-push_next_table.ensures c.loop-n.invariant

pub returns : goal.returns
returns c = tables_all c.args.tables.now c.loop-n.n (string_bytes c.args.text.now) (string_bytes c.loop-n.text) (omega arith) c.loop-n.invariant
