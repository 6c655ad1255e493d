use Rattle.logos_show.proofs.ChoiceLemmas.{unread_refused}
use Rattle.logos_show.proofs.choice.found_in.Goals as goal

pub unread-requires : goal.unread-requires
unread-requires c = rw c.text.ensures at c.in-Err.ensures.unreadable

pub returns-in-Err-clause-refused : goal.returns-in-Err-clause-refused
returns-in-Err-clause-refused c = unread_refused c.args.source.now _ c.unread.result c.unread.ensures.refused
