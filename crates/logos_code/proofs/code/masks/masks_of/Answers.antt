use Rattle.std.proofs.Common.{◌≡◌, ◌∙◌, length, ap, arith, length-append, [], ◌∷◌}
use Rattle.logos_code.proofs.MaskLemmas.{masks_turn}
use Rattle.logos_code.proofs.code.masks.masks_of.Goals as goal

pub loop-masks-preserved : goal.loop-masks-preserved
loop-masks-preserved c =
    let i = c.loop-masks.invariant in
    let few = i.few in
    let items = c.in_ok-push.ensures.items in
    let long = ap length items ∙ length-append c.loop-masks.masks.items (c.mask_of.result ∷ []) in
    let test = c.loop-masks-test.true in
    let s = c.len-test.result in
    let len : length c.loop-masks.masks.items ≡ s = omega (arith, c.len-test.ensures) in
    record {
      few = omega (arith, few, long, test);
      each = λ k h. masks_turn c.args.parts.now.bit_tables.items c.loop-masks.masks.items c.push.new.self.items c.mask_of.result s
          len items c.mask_of.ensures (λ k l. i.each k (omega (arith, l, len))) k (omega (arith, h, long, len));
    }
