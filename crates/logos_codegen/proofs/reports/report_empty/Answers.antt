use Rattle.std.proofs.Common.{◌≡◌, ◌∙◌, string_bytes}
use Rattle.logos_codegen.specs.Texts.{named_leaf, empty_match_text}
use Rattle.logos_codegen.proofs.reports.report_empty.Goals as goal

pub returns : goal.returns
returns c =
    let e : string_bytes c.in_ok-text.text ≡ empty_match_text (named_leaf c.args.leaf.now) = c.in_ok-text.ensures.ok in
    rw (c.as_str.ensures.value ∙ e) at c.err.ensures.ok
