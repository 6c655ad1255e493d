use Rattle.std.proofs.Common.{◌∙◌, ap, arith}
use Rattle.logos_code.specs.Bytes.{passes_test}
use Rattle.logos_code.proofs.MaskLemmas.{entry_describes}
use Rattle.logos_code.proofs.code.masks.mask_entry.Goals as goal

pub returns : goal.returns
returns c =
    let p = passes_test c.args.parts.now.bit_tables.items c.args.test in
    entry_describes p c.args.first _ c.passes_test.result c.passes_test-2.result c.passes_test-3.result c.passes_test-4.result c.passes_test-5.result c.passes_test-6.result c.passes_test-7.result c.passes_test-8.result
    (omega (arith, c.mask_bit.ensures.is, c.mask_bit-2.ensures.is, c.mask_bit-3.ensures.is, c.mask_bit-4.ensures.is, c.mask_bit-5.ensures.is, c.mask_bit-6.ensures.is, c.mask_bit-7.ensures.is, c.mask_bit-8.ensures.is))
    (c.passes_test.ensures ∙ ap p (omega (arith, c.requires.first)))
    (c.passes_test-2.ensures ∙ ap p (omega (arith, c.requires.first)))
    (c.passes_test-3.ensures ∙ ap p (omega (arith, c.requires.first)))
    (c.passes_test-4.ensures ∙ ap p (omega (arith, c.requires.first)))
    (c.passes_test-5.ensures ∙ ap p (omega (arith, c.requires.first)))
    (c.passes_test-6.ensures ∙ ap p (omega (arith, c.requires.first)))
    (c.passes_test-7.ensures ∙ ap p (omega (arith, c.requires.first)))
    (c.passes_test-8.ensures ∙ ap p (omega (arith, c.requires.first)))
