use Rattle.std.proofs.Common.{◌-◌, ◌<◌, length, refl, arith}
use Rattle.logos_machine.specs.inside.IsAt.{IsMatch}
use Rattle.logos_scan.specs.Attempts.{skips_none, skips_then}
use Rattle.logos_scan.proofs.attempts.attempted.Goals as goal

pub loop-to-init : goal.loop-to-init
loop-to-init c = record {
  within = c.requires;
  skips = skips_none c.args.start;
}

pub loop-to-smaller : goal.loop-to-smaller
loop-to-smaller c =
    let input = c.args.input.now in
    let from = c.loop-to.from in
    let to = c.in-Skips.to in
    let e = c.in-Skips.ensures in
    let fits : IsMatch c.args.code.now input from e.0 to = e.2.within in
    let smaller : length input - to < length input - from = omega (arith, fits.1, fits.2) in
    smaller

pub loop-to-preserved : goal.loop-to-preserved
loop-to-preserved c =
    let input = c.args.input.now in
    let from = c.loop-to.from in
    let to = c.in-Skips.to in
    let e = c.in-Skips.ensures in
    let fits : IsMatch c.args.code.now input from e.0 to = e.2.within in
    record {
      within = fits.2;
      skips = skips_then c.args.start from to e.0 e.1 c.loop-to.invariant.skips e.2 e.3;
    }

pub returns-in-Emits : goal.returns-in-Emits
returns-in-Emits c = (c.loop-to.invariant.skips, (_, c.in-Emits.ensures.0), c.in-Emits.ensures.1, refl)

pub returns-in-CallsBack : goal.returns-in-CallsBack
returns-in-CallsBack c = (c.loop-to.invariant.skips, (_, c.in-CallsBack.ensures), refl)

pub returns-in-Fails : goal.returns-in-Fails
returns-in-Fails c = (c.loop-to.invariant.skips, (_, c.in-Fails.ensures), refl)

pub returns-in-Ends : goal.returns-in-Ends
returns-in-Ends c = (c.loop-to.invariant.skips, (_, c.in-Ends.ensures))
