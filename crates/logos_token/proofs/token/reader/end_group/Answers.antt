use Rattle.std.proofs.Common.{◌≡◌, ◌+◌, ◌≤◌, [], length, map, arith, ◌∙◌}
use Rattle.std.proofs.lemmas.List.{nil_from_length, length-map, map-set}
use Rattle.logos_token.specs.Flat.{value_of}
use Rattle.logos_token.proofs.reading.ReadingLemmas.{read-unmatched}
use Rattle.logos_token.proofs.reading.ClosingLemmas.{read-apart, read-closing, top-within}
use Rattle.logos_token.proofs.token.reader.end_group.Goals as goal
use Rattle.logos_token.proofs.token.reader.end_group.Goals.{In-Some, In_default}

no-groups : (c : In_default) → c.args.open_groups.now.items ≡ []
no-groups c = let e = c.in_default.ensures.cases in nil_from_length _ (omega arith)

pub returns-in_default-clause-err : goal.returns-in_default-clause-err
returns-in_default-clause-err c = λ bytes next r.
    read-unmatched bytes c.args.delimiter c.args.span _ (rw (no-groups c) at r) next

within : (c : In-Some) → c.in-Some.group.spot + 1 ≤ length c.args.entries.now.items
within c =
    let h = top-within c.requires.0 c.args.delimiter c.args.span _ _ _ (rw c.in-Some.ensures.items at c.requires.1) in
    rw (length-map c.args.entries.now.items value_of) at h

pub returns-then-not-is_partner-clause-err : goal.returns-then-not-is_partner-clause-err
returns-then-not-is_partner-clause-err c = λ bytes next r.
    read-apart bytes c.args.delimiter c.args.span _ c.pop.new.self.items c.in-Some.group (rw c.in-Some.ensures.items at r) (λ e. let t = c.is_partner.ensures.1 e in let f = c.if-not-is_partner.true in cc) next

pub overflow_sub-size : goal.overflow_sub-size
overflow_sub-size c = omega (arith, within (goal.at.overflow_sub-size c).In-Some)

pub overflow_sub-size-2 : goal.overflow_sub-size-2
overflow_sub-size-2 c = omega (arith, within (goal.at.overflow_sub-size-2 c).In-Some)

pub index_mut-requires : goal.index_mut-requires
index_mut-requires c = omega (arith, within (goal.at.index_mut-requires c).In-Some)

pub returns-clause-ok : goal.returns-clause-ok
returns-clause-ok c = λ bytes next r.
    let same : c.in-Some.group.delimiter ≡ c.args.delimiter = c.is_partner.ensures.0 c.if-not-is_partner.false in
    let count : length (map value_of c.args.entries.now.items) ≡ c.len.result = length-map c.args.entries.now.items value_of ∙ omega arith in
    rw (map-set, ← count) (read-closing bytes c.args.delimiter c.args.span _ c.pop.new.self.items c.in-Some.group (rw c.in-Some.ensures.items at r) same next)
