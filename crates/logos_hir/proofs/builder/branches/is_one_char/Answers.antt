use Rattle.std.proofs.Common.{◌==◌, is_some, length, ap, ◌∙◌}
use Rattle.std.specs.Str.{chars}
use Rattle.logos_hir.proofs.tree.BuildLemmas.{no_text, of_text}
use Rattle.logos_hir.proofs.tree.BranchLemmas.{is_one}
use Rattle.logos_hir.proofs.builder.branches.is_one_char.Goals as goal

pub returns-in-Ok : goal.returns-in-Ok
returns-in-Ok c =
    ap (λ n. n == 1) (c.char_count.ensures ∙ ap (λ t. length (chars t)) c.in-Ok.ensures.cases.0)
    ∙ is_one (chars c.args.bytes.now) ∙ ap is_some (of_text c.args.bytes.now c.in-Ok.ensures.cases.1)

pub returns-in-Err : goal.returns-in-Err
returns-in-Err c = ap is_some (no_text c.args.bytes.now c.in-Err.ensures.cases.0)
