use Rattle.std.proofs.Common.{◌≡◌, ◌∙◌, append_assoc, ap, string_bytes}
use Rattle.logos_pattern.specs.Leaf.{kind_text, source_of}
use Rattle.logos_parser.proofs.ModeLemmas.{kind_names, text_by}
use Rattle.logos_parser.proofs.mode.utf8_text.Goals as goal

pub returns : goal.returns
returns c =
    let leaf = c.args.leaf.now in
    let e : string_bytes c.in_ok-text.text ≡ text_by (source_of leaf.pattern) (kind_text leaf.kind) = simp append_assoc (rw c.source-source.ensures at c.in_ok-text.ensures.ok) in
    e ∙ ap (text_by (source_of leaf.pattern)) (kind_names leaf.kind)
