use Rattle.std.proofs.Common.{length, arith}
use Rattle.std.proofs.lemmas.Iterator.{YieldsList-from_chars}
use Rattle.std.proofs.lemmas.List.{length_push}
use Rattle.std.proofs.lemmas.Iterator.Consumers.{YieldsList-turn, YieldsList-end}
use Rattle.std.specs.Str.{chars}
use Rattle.logos_page.proofs.ShownLemmas.{one_more, no_more}
use Rattle.logos_page.proofs.page.Page.push_shown.Goals as goal

pub loop-character-preserved : goal.loop-character-preserved
loop-character-preserved c =
    let t = YieldsList-turn (YieldsList-from_chars c.args.text.now c.utf8.text cc) c.loop-character.yielded _ c.loop-character.yielded_by _ _ c.in-Some.character c.in-Some.is c.next.ensures.steps in
    rw (length_push c.loop-character.yielded c.in-Some.character)
    (λ new g. c.loop-character.invariant new (one_more (chars c.args.text.now) (length c.loop-character.yielded) c.in-Some.character _ _ new t c.push_shown_char.ensures g))

pub returns : goal.returns
returns c =
    let t = YieldsList-end (YieldsList-from_chars c.args.text.now c.utf8.text cc) c.loop-character.yielded _ c.loop-character.yielded_by _ _ c.in-None.is c.next.ensures.steps in
    c.loop-character.invariant _ (no_more (chars c.args.text.now) (length c.loop-character.yielded) _ (omega (arith, t.1)))
