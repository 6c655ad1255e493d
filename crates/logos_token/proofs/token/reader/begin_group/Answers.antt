use Rattle.std.proofs.Common.{◌≡◌, ◌<◌, ◌≤◌, length, map, arith, ◌∙◌}
use Rattle.std.proofs.lemmas.List.{map_push, length-map}
use Rattle.logos_token.specs.Flat.{value_of}
use Rattle.logos_token.proofs.reading.ReadingLemmas.{read-opening, read-too_deep}
use Rattle.logos_token.proofs.token.reader.begin_group.Goals as goal

pub returns-then-len-ge-MAX_NESTING-clause-err : goal.returns-then-len-ge-MAX_NESTING-clause-err
returns-then-len-ge-MAX_NESTING-clause-err c = λ bytes next r.
    let full : 128 ≤ length c.args.open_groups.now.items = omega arith in
    read-too_deep bytes c.args.delimiter c.args.span _ _ r next full

pub returns-clause-ok : goal.returns-clause-ok
returns-clause-ok c = λ bytes next r.
    let room : length c.args.open_groups.now.items < 128 = omega arith in
    let spot : length (map value_of c.args.entries.now.items) ≡ c.len-2.result = length-map c.args.entries.now.items value_of ∙ omega arith in
    rw (c.in_ok-push.ensures.items, c.in_ok-push-2.ensures.items, map_push) (read-opening bytes c.args.delimiter c.args.span _ _ c.len-2.result r next room spot)
