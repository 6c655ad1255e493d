use Rattle.std.proofs.Common.{◌+◌, ◌≤◌, ◌∙◌, drop, length, refl, inr, arith}
use Rattle.std.proofs.lemmas.List.{get_or-replicate}
use Rattle.logos_scan.proofs.LoadLemmas.{walked_text, rest_there, rest_long, part_there}
use Rattle.logos_scan.proofs.run.step_over.Goals as goal

pub returns-then-rest-ge4608 : goal.returns-then-rest-ge4608
returns-then-rest-ge4608 c =
    let input = c.args.reading.now.input.now in
    let base = c.args.base in
    let long : base + 4608 ≤ length input = omega (arith, c.if-rest-ge4608.true, rest_long input base, c.requires.base) in
    record {
      within = long;
      few = omega arith;
      full = λ h. refl;
      walked = walked_text c.args.reading.now.rows.now _ (drop base input) c.args.row_start c.walk_chunk.new.trace 0 4608 c.walk_chunk.result (λ j h. part_there input base j long h) c.walk_chunk.ensures.walked;
      stays = c.walk_chunk.ensures.stays;
      rest = λ k f h. absurd (omega (arith, f, h));
    }

pub returns : goal.returns
returns c =
    let input = c.args.reading.now.input.now in
    let base = c.args.base in
    let long = rest_long input base in
    record {
      within = omega (arith, long, c.requires.base);
      few = omega (arith, long, c.if-rest-ge4608.false);
      full = λ h. absurd (omega (arith, h, long, c.requires.base));
      walked = walked_text c.args.reading.now.rows.now _ (drop base input) c.args.row_start c.walk.new.trace 0 _ c.walk.result (λ j h. rest_there input base j (omega (arith, h, long))) c.walk.ensures.walked;
      stays = c.walk.ensures.stays;
      rest = λ k f h. c.walk.ensures.beside k (inr f) ∙ get_or-replicate 4608 k 0 0 h;
    }
