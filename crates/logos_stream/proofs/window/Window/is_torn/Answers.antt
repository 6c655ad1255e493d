use Rattle.std.proofs.Common.{◌≡◌, ◌<◌, ◌≤◌, true, drop, length, sym, ap, subst, arith}
use Rattle.std.proofs.lemmas.List.{length-drop}
use Rattle.logos_stream.specs.WindowValue.{HasEnded, WindowValue}
use Rattle.logos_stream.proofs.WindowLemmas.{over_last, torn_last}
use Rattle.logos_stream.proofs.window.Window.is_torn.Goals as goal

pub returns-then-self-part : goal.returns-then-self-part
returns-then-self-part g c =
    let s = c.self.inside in
    let last : s.is_last ≡ true = subst (λ (v : WindowValue g.row.R.Denot). v.is_last ≡ true) (sym c.self.view_is) c.requires in
    let ended = subst (λ (v : WindowValue g.row.R.Denot). HasEnded v.utf8 v.is_over v.after) c.self.view_is (c.self.invariant.ended last) in
    let some : 0 < length (drop s.ready s.parts.part) = omega (arith, c.if-self-part.true, ap length c.part.ensures, length-drop s.ready s.parts.part) in
    torn_last c.args.self.now ended (subst (λ (v : WindowValue g.row.R.Denot). 0 < length v.after) c.self.view_is some)

pub returns : goal.returns
returns g c =
    let s = c.self.inside in
    let last : s.is_last ≡ true = subst (λ (v : WindowValue g.row.R.Denot). v.is_last ≡ true) (sym c.self.view_is) c.requires in
    let ended = subst (λ (v : WindowValue g.row.R.Denot). HasEnded v.utf8 v.is_over v.after) c.self.view_is (c.self.invariant.ended last) in
    let none : length (drop s.ready s.parts.part) ≤ 0 = omega (arith, c.if-self-part.false, ap length c.part.ensures, length-drop s.ready s.parts.part) in
    over_last c.args.self.now ended (subst (λ (v : WindowValue g.row.R.Denot). length v.after ≤ 0) c.self.view_is none)
