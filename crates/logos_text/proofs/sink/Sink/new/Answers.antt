use Rattle.logos_text.proofs.sink.Sink.new.Goals as goal

pub returns : goal.returns
returns c = record { text = c.new.ensures.bytes; pieces = c.new-2.ensures.items }
