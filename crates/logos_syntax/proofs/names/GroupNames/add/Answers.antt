use Rattle.std.proofs.Common.{ap, ◌∙◌, ◌||◌, bytes_eq, not}
use Rattle.std.specs.List.{list_any}
use Rattle.logos_syntax.proofs.patterns.NameLemmas.{among_more, among_same}
use Rattle.logos_syntax.proofs.names.GroupNames.add.Goals as goal

pub returns : goal.returns
returns c = λ seen h.
    let key = c.in_ok-key.key in
    let old = c.args.self.now.seen.keys in
    let items = c.in_ok-key.ensures.items in
    let e = c.in_ok-insert.ensures in (
      e.added ∙ ap not (among_same key old ∙ ap (λ x. list_any (λ k. bytes_eq x k.items) old) items ∙ h c.args.name.now),
      λ name. ap (list_any (λ k. bytes_eq name k.items)) e.keys ∙ among_more name key old ∙ ap (λ x. bytes_eq name x || list_any (λ k. bytes_eq name k.items) old) items ∙ ap (λ b. bytes_eq name c.args.name.now || b) (h name),
    )
