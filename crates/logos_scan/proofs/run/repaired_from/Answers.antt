use Rattle.std.proofs.Common.{◌≡◌, ◌+◌, ◌-◌, ◌/◌, take, drop, length, sym, refl, subst, rules, arith}
use Rattle.logos_scan.specs.walk.Walk.{Walked}
use Rattle.logos_scan.specs.Runs.{with_chunk}
use Rattle.logos_scan.proofs.LoadLemmas.{walked_text, walked_suffix, rest_there, rest_long, marks_beside, repaired_run}
use Rattle.logos_scan.proofs.run.repaired_from.Goals as goal

pub repair-repaired-requires-clause-holds : goal.repair-repaired-requires-clause-holds
repair-repaired-requires-clause-holds c =
    let input = c.args.reading.now.input.now in
    let run = (with_chunk c.args.chunk.now c.args.run) in
    let base = run.cursor.base in
    let ch = c.requires.chunk in
    let within = ch.within in
    let few = ch.few in
    let inside = c.requires.inside in
    let long : length run.chunk.entries ≡ 4608 = search rules in
    record {
      order = omega (arith, inside);
      in_text = omega (arith, rest_long input base, within);
      in_trace = omega (arith, long, few);
      walked = walked_text c.args.reading.now.rows.now (drop base input) _ _ run.chunk.entries c.args.from run.count run.row_start (λ j l. sym (rest_there input base j (omega (arith, l, within))))
          (walked_suffix c.args.reading.now.rows.now (drop base input) ch.whole.0 run.chunk.entries run.low c.args.from run.count run.row_start c.requires.left (omega (arith, inside)) ch.whole.1);
      stays = ch.stays;
    }

pub mark-requires-clause-others : goal.mark-requires-clause-others
mark-requires-clause-others c =
    let run = (with_chunk c.args.chunk.now c.args.run) in
    let m = c.requires.chunk.marked in
    let stop = c.repair-repaired.result.stop in
    let e = c.repair-repaired.ensures in
    record {
      ends = λ w l out. marks_beside 31 c.args.from stop ((stop + 63) / 64) run.chunk.entries c.repair-repaired.new.trace w _ e.beside (omega arith) out (m.ends w l);
      tokens = λ w l out. marks_beside 30 c.args.from stop ((stop + 63) / 64) run.chunk.entries c.repair-repaired.new.trace w _ e.beside (omega arith) out (m.tokens w l);
    }

pub returns-clause-run : goal.returns-clause-run
returns-clause-run c =
    let code = c.args.reading.now.code.now in
    let rows = c.args.reading.now.rows.now in
    let input = c.args.reading.now.input.now in
    let run = (with_chunk c.args.chunk.now c.args.run) in
    let rep = c.repair-repaired in
    let e = rep.ensures in
    let cur = c.new-cursor.ensures in
    repaired_run code rows input run _ c.args.from rep.result.stop rep.new.trace c.requires.reading c.requires.chunk c.mark.ensures.entries cur.base refl refl (omega (arith, c.requires.inside)) e.within
    e.beside c.mark.ensures.marked cur.is_at e.stays (subst (λ p. Walked rows (take (length input - run.cursor.base) (drop run.cursor.base input)) p rep.new.trace c.args.from run.count rep.result.row_start) c.root_row_start-root.ensures.row_start e.walked)
