use Rattle.std.proofs.Common.{ap, sym}
use Rattle.logos_stream.proofs.FrontLemmas.{item_first, over_first, waits_first}
use Rattle.logos_stream.proofs.front.front_of.Goals as goal

pub returns-in-Item : goal.returns-in-Item
returns-in-Item g c = item_first g.C.Fn c.args.code.now c.args.bytes.now c.args.callback c.next_within.new.self c.new_checked-lexer.result c.new_checked-lexer.ensures c.in-Item.ensures.keeps c.args.is_last
    c.in-Item.item c.without_slice.result c.without_slice.ensures c.in-Item.ensures.does

pub returns-in-More : goal.returns-in-More
returns-in-More g c = waits_first g.C.Fn c.args.code.now c.args.bytes.now c.args.callback c.next_within.new.self c.new_checked-lexer.result c.new_checked-lexer.ensures c.in-More.ensures.keeps c.args.is_last
    c.span.result.to (ap (λ s. s.to) (sym c.span.ensures)) c.in-More.ensures.does

pub returns-in-End : goal.returns-in-End
returns-in-End g c = over_first g.C.Fn c.args.code.now c.args.bytes.now c.args.callback c.next_within.new.self c.new_checked-lexer.result c.new_checked-lexer.ensures c.in-End.ensures.keeps c.args.is_last
    c.in-End.ensures.does
