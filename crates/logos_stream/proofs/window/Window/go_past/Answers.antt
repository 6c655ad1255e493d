use Rattle.std.proofs.Common.{◌<◌, ◌≤◌, ◌∙◌, IsTrue, IsCharBoundary, ◌+◌, drop, length, slice_range, sym, ap, subst}
use Rattle.logos_stream.specs.WindowValue.{GoesPast, WindowValue}
use Rattle.logos_stream.proofs.WindowLemmas.{moved_past, moved_slice, moved_window}
use Rattle.logos_stream.proofs.window.Window.go_past.Goals as goal

pub invariant_of-self : goal.invariant_of-self
invariant_of-self g c =
    let s = c.self.inside in
    moved_window s.is_utf8 s.parts.part s.parts.bound s.parts.is_over s.before s.from s.at s.ready s.is_last s.bound s.wanted c.self.invariant c.args.from c.args.to c.requires.order
    (subst (λ (v : WindowValue g.row.R.Denot). c.args.to ≤ length v.lexed) (sym c.self.view_is) c.requires.within)
    (subst (λ (v : WindowValue g.row.R.Denot). IsTrue v.utf8 → 0 < c.args.to → IsCharBoundary v.lexed c.args.to) (sym c.self.view_is) c.requires.cut)

pub returns-clause-past : goal.returns-clause-past
returns-clause-past g c =
    let s = c.self.inside in
    let made = moved_past s.is_utf8 s.parts.part s.parts.bound s.parts.is_over s.before s.from s.at s.ready s.is_last s.bound s.wanted c.self.invariant c.args.from c.args.to c.requires.order
    (subst (λ (v : WindowValue g.row.R.Denot). c.args.to ≤ length v.lexed) (sym c.self.view_is) c.requires.within)
    s.parts.reader s.offset c.saturating_add-self-inside.result s.bound s.wanted c.saturating_add-self-inside.ensures in
    subst (λ (v : WindowValue g.row.R.Denot). GoesPast {R = g.row.R.Denot} c.args.to v
    (record {
      reader = s.parts.reader;
      utf8 = s.is_utf8;
      skipped = slice_range s.parts.part s.at (s.at + c.args.from);
      slice = slice_range s.parts.part (s.at + c.args.from) (s.at + c.args.to);
      lexed = slice_range s.parts.part (s.at + c.args.to) s.ready;
      after = drop s.ready s.parts.part;
      is_last = s.is_last;
      is_over = s.parts.is_over;
      offset = c.saturating_add-self-inside.result;
      bound = s.bound;
      wanted = s.wanted;
    })) c.self.view_is made

pub returns-clause-slice : goal.returns-clause-slice
returns-clause-slice g c =
    let s = c.self.inside in
    moved_slice s.is_utf8 s.parts.part s.parts.bound s.parts.is_over s.before s.from s.at s.ready s.is_last s.bound s.wanted c.self.invariant c.args.from c.args.to c.requires.order
    (subst (λ (v : WindowValue g.row.R.Denot). c.args.to ≤ length v.lexed) (sym c.self.view_is) c.requires.within)
    ∙ ap (λ (v : WindowValue g.row.R.Denot). slice_range v.lexed c.args.from c.args.to) c.self.view_is
