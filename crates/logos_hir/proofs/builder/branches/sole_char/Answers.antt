use Rattle.logos_hir.proofs.tree.BuildLemmas.{no_text, of_text, sole_item-one}
use Rattle.std.proofs.Common.{Some, ap, ◌∙◌, arith, length, ◌≡◌}
use Rattle.std.specs.Str.{chars}
use Rattle.logos_hir.specs.Build.{sole_item}
use Rattle.logos_hir.proofs.builder.branches.sole_char.Goals as goal

pub returns-in_default : goal.returns-in_default
returns-in_default c = no_text c.args.bytes.now c.in_default.ensures.cases.0

pub returns-in-len1 : goal.returns-in-len1
returns-in-len1 c =
    let all : c.as_slice.result.now ≡ chars c.args.bytes.now = c.as_slice.ensures.value ∙ c.in_ok-chars.ensures ∙ ap chars c.in-Ok.ensures.cases.0 in
    let one : length c.as_slice.result.now ≡ 1 = omega (arith, c.in-len1.len_at_least, c.in-len1.len_below) in
    ap Some c.c-item.is ∙ sole_item-one c.as_slice.result.now c.c-item.result one ∙ ap sole_item all ∙ of_text c.args.bytes.now c.in-Ok.ensures.cases.1
