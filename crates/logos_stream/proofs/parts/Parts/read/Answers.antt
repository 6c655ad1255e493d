use Rattle.std.proofs.Common.{◌∙◌, ℕ, ◌+◌, List, ap, sym, length, nat_eq, subst, take}
use Rattle.std.proofs.lemmas.List.{with_items_is}
use Rattle.logos_stream.specs.parts.PartsValue.{PartsValue, Reads}
use Rattle.logos_stream.proofs.parts.PartsLemmas.{read_adds}
use Rattle.logos_stream.proofs.parts.Parts.read.Goals as goal

pub returns-in-Ok-clause-read : goal.returns-in-Ok-clause-read
returns-in-Ok-clause-read g c =
    let s = c.self.inside in
    let after = c.read_after.new.buffer in
    let e = c.in-Ok.ensures in
    let made = subst (λ (v : PartsValue g.row.R.Denot). Reads {R = g.row.R.Denot} g.R.Read.remaining v
    (record { reader = c.read_after.new.reader; part = take (s.held + c.in-Ok.count) after; bound = length after; before = s.before; is_over = nat_eq c.in-Ok.count 0 })) c.self.view_is
    (read_adds g.R.Read.remaining s.reader c.read_after.new.reader s.buffer.items after s.held c.in-Ok.count s.before s.is_over
    e.read.0 (e.length ∙ ap length c.deref_mut.ensures.value) (e.front ∙ ap (take s.held) c.deref_mut.ensures.value) e.read.1 e.read.2) in
    subst (λ (l : List ℕ). Reads {R = g.row.R.Denot} g.R.Read.remaining c.args.self.now
    (record { reader = c.read_after.new.reader; part = take (s.held + c.in-Ok.count) l; bound = length l; before = s.before; is_over = nat_eq c.in-Ok.count 0 }))
    (sym (with_items_is s.buffer after (e.length ∙ c.deref_mut.ensures.len))) made
