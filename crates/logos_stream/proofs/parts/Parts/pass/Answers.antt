use Rattle.std.proofs.Common.{◌≤◌, ◌∙◌, length, sym, ap, subst}
use Rattle.logos_stream.specs.parts.PartsValue.{PartsValue, without}
use Rattle.logos_stream.proofs.parts.PartsLemmas.{passed_gone}
use Rattle.logos_stream.proofs.parts.Parts.pass.Goals as goal

pub returns : goal.returns
returns g c =
    let s = c.self.inside in
    passed_gone s.reader s.buffer.items c.copy_within.new.self.items s.held c.args.bytes s.before c.saturating_add-self-inside.result s.is_over c.self.invariant
    (subst (λ (v : PartsValue g.row.R.Denot). c.args.bytes ≤ length v.part) (sym c.self.view_is) c.requires)
    c.copy_within.ensures.items c.saturating_add-self-inside.ensures
    ∙ ap (λ (v : PartsValue g.row.R.Denot). without c.args.bytes v) c.self.view_is
