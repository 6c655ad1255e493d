use Rattle.std.proofs.Common.{◌∙◌, ◌++◌, ◌+◌, ◌-◌, ◌||◌, ℕ, Bool, IsTrue, List, drop, slice_range, refl, sym, ap, subst}
use Rattle.std.specs.Io.KnownBytes.{Consumes}
use Rattle.logos_stream.specs.Tails.{IsTail}
use Rattle.logos_stream.specs.WindowValue.{IsWindow, ReadsOn, WindowValue}
use Rattle.logos_stream.proofs.WindowLemmas.{read_window, reads_nothing, reads_on, to_end}
use Rattle.logos_stream.proofs.window.Window.read.Goals as goal

pub returns-then-self-clause-read : goal.returns-then-self-clause-read
returns-then-self-clause-read g c =
    reads_nothing g.R.Read.remaining c.args.self.now (subst (λ (v : WindowValue g.row.R.Denot). IsTrue v.is_last) c.self.view_is c.if-self.true)

pub invariant_of-self-2 : goal.invariant_of-self-2
invariant_of-self-2 g c =
    let s = c.self.inside in
    let e = c.in_ok-read.ensures.read in
    let p = c.pass_front.ensures in
    let far = s.ready - s.at in
    let whole = to_end c.part.result.now far ∙ ap (drop far) c.part.ensures in
    let tail : IsTail s.is_utf8 (drop far c.read.new.self.part) c.tail_of-tail.result =
    subst (λ (l : List ℕ). IsTail s.is_utf8 l c.tail_of-tail.result) whole c.tail_of-tail.ensures in
    subst (λ (b : Bool). IsWindow s.is_utf8 c.read.new.self.part c.read.new.self.bound c.read.new.self.is_over 0 0 0 (far + c.tail_of-tail.result.valid) (c.tail_of-tail.result.is_at_fault || b) s.bound s.wanted)
    (sym c.is_last.ensures) (read_window s.is_utf8 s.parts.part s.parts.bound s.parts.is_over s.before s.from s.at s.ready s.is_last s.bound s.wanted c.self.invariant
    e.added c.read.new.self.part (e.part ∙ ap (λ l. l ++ e.added) p.part) c.tail_of-tail.result tail c.read.new.self.is_over c.read.new.self.bound (e.bound ∙ p.bound))

pub returns-clause-read : goal.returns-clause-read
returns-clause-read g c =
    let s = c.self.inside in
    let e = c.in_ok-read.ensures.read in
    let p = c.pass_front.ensures in
    let far = s.ready - s.at in
    let whole = to_end c.part.result.now far ∙ ap (drop far) c.part.ensures in
    let tail : IsTail s.is_utf8 (drop far c.read.new.self.part) c.tail_of-tail.result =
    subst (λ (l : List ℕ). IsTail s.is_utf8 l c.tail_of-tail.result) whole c.tail_of-tail.ensures in
    let consumed : Consumes (g.R.Read.remaining s.parts.reader) (g.R.Read.remaining c.read.new.self.reader) e.added =
    subst (λ (r : g.row.R.Denot). Consumes (g.R.Read.remaining r) (g.R.Read.remaining c.read.new.self.reader) e.added) p.reader e.consumed in
    let made = reads_on s.is_utf8 s.parts.part s.parts.bound s.parts.is_over s.before s.from s.at s.ready s.is_last s.bound s.wanted c.self.invariant
    e.added c.read.new.self.part (e.part ∙ ap (λ l. l ++ e.added) p.part) c.tail_of-tail.result tail
    g.R.Read.remaining s.parts.reader c.read.new.self.reader s.offset s.bound s.wanted s.bound s.wanted c.read.new.self.is_over c.if-self.false refl refl consumed e.continues (λ h. (e.over h).1) in
    let now = subst (λ (b : Bool). ReadsOn {R = g.row.R.Denot} g.R.Read.remaining
    (record {
      reader = s.parts.reader;
      utf8 = s.is_utf8;
      skipped = slice_range s.parts.part s.before s.from;
      slice = slice_range s.parts.part s.from s.at;
      lexed = slice_range s.parts.part s.at s.ready;
      after = drop s.ready s.parts.part;
      is_last = s.is_last;
      is_over = s.parts.is_over;
      offset = s.offset;
      bound = s.bound;
      wanted = s.wanted;
    })
    (record {
      reader = c.read.new.self.reader;
      utf8 = s.is_utf8;
      skipped = slice_range c.read.new.self.part 0 0;
      slice = slice_range c.read.new.self.part 0 0;
      lexed = slice_range c.read.new.self.part 0 (far + c.tail_of-tail.result.valid);
      after = drop (far + c.tail_of-tail.result.valid) c.read.new.self.part;
      is_last = c.tail_of-tail.result.is_at_fault || b;
      is_over = c.read.new.self.is_over;
      offset = s.offset;
      bound = s.bound;
      wanted = s.wanted;
    })) (sym c.is_last.ensures) made in
    subst (λ (v : WindowValue g.row.R.Denot). ReadsOn {R = g.row.R.Denot} g.R.Read.remaining v
    (record {
      reader = c.read.new.self.reader;
      utf8 = s.is_utf8;
      skipped = slice_range c.read.new.self.part 0 0;
      slice = slice_range c.read.new.self.part 0 0;
      lexed = slice_range c.read.new.self.part 0 (far + c.tail_of-tail.result.valid);
      after = drop (far + c.tail_of-tail.result.valid) c.read.new.self.part;
      is_last = c.tail_of-tail.result.is_at_fault || c.is_last.result;
      is_over = c.read.new.self.is_over;
      offset = s.offset;
      bound = s.bound;
      wanted = s.wanted;
    })) c.self.view_is now
