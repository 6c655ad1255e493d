use Rattle.std.proofs.Common.{arith, length}
use Rattle.std.proofs.lemmas.Iterator.{YieldsList-from_chars}
use Rattle.std.proofs.lemmas.Iterator.Consumers.{YieldsList-turn, YieldsList-end}
use Rattle.std.proofs.lemmas.List.{length_push}
use Rattle.std.specs.Str.{chars}
use Rattle.logos_answers.proofs.GainLemmas.{next_gained, none_gained}
use Rattle.logos_html.specs.Escapes.{escaped_line_char}
use Rattle.logos_html.proofs.html.Html.push_lines.Goals as goal

pub loop-character-preserved : goal.loop-character-preserved
loop-character-preserved c =
    let t = YieldsList-turn (YieldsList-from_chars c.args.text.now c.utf8.text cc) c.loop-character.yielded _ c.loop-character.yielded_by _ _ c.in-Some.character c.in-Some.is c.next.ensures.steps in
    λ new rest. c.loop-character.invariant new (next_gained escaped_line_char (chars c.args.text.now) (length c.loop-character.yielded) c.in-Some.character t.0 t.1 c.push_line_char.ensures (rw (length_push c.loop-character.yielded c.in-Some.character) at rest))

pub returns : goal.returns
returns c =
    let t = YieldsList-end (YieldsList-from_chars c.args.text.now c.utf8.text cc) c.loop-character.yielded _ c.loop-character.yielded_by _ _ c.in-None.is c.next.ensures.steps in
    c.loop-character.invariant _ (none_gained escaped_line_char (chars c.args.text.now) (length c.loop-character.yielded) _ (omega (arith, t.1)))
