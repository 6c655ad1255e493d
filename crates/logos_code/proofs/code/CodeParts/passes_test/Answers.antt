use Rattle.logos_code.proofs.CodeLemmas.{mask_tests}
use Rattle.logos_code.proofs.code.CodeParts.passes_test.Goals as goal

pub returns : goal.returns
returns c = rw c.has_mask.ensures
    (mask_tests c.args.self.now.bit_tables.items c.args.k c.index.result.now c.requires c.index.ensures c.args.byte)
