use Rattle.std.proofs.Common.{Bool, ◌≡◌, ℕ, sym}
use Rattle.std.proofs.lemmas.Result.{IfOk-weaker}
use Rattle.logos_hir.specs.Hir.{pairs}
use Rattle.logos_hir.specs.declared.hir.Look.{Look}
use Rattle.logos_hir.specs.ByteRanges.{is_in}
use Rattle.logos_positions.specs.Core as core
use Rattle.logos_positions.specs.inside.Stepped.{Stepped}
use Rattle.logos_positions.proofs.positions.step.step_bytes.Goals as goal

pub returns : goal.returns
returns c =
    let apply : (left : Bool)
    → ((k : ℕ → Bool) (test : Look → Bool) → k c.args.by.byte ≡ c.has_byte-fits.result → Stepped (core.byte_in k) test c.args.by.byte c.args.by.marks.now c.args.next.now.items c.step_byte.new.next.items c.args.spot.base c.args.spot.entered left)
    → (test : Look → Bool) → Stepped (core.byte_in (is_in (pairs c.args.ranges.now))) test c.args.by.byte c.args.by.marks.now c.args.next.now.items c.step_byte.new.next.items c.args.spot.base c.args.spot.entered left =
    λ left s test. s (is_in (pairs c.args.ranges.now)) test (sym c.has_byte-fits.ensures) in
    IfOk-weaker _ _ _ apply c.step_byte.ensures
