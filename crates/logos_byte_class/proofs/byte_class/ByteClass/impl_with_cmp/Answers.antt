use Rattle.std.proofs.Common.{◌≡◌, ap, map, ◌++◌, sym, ◌∙◌, append-nil}
use Rattle.std.proofs.Math.ListN.{drop_of_length-le}
use Rattle.logos_byte_class.specs.Bytes.{bounds, comparison_of, some_compares, joined, ranges_of}
use Rattle.logos_byte_class.proofs.JoinLemmas.{joined_compares}
use Rattle.logos_byte_class.proofs.byte_class.ByteClass.impl_with_cmp.Goals as goal

pub returns-clause-members : goal.returns-clause-members
returns-clause-members c = λ b lt.
    let past = drop_of_length-le c.as_slice-ranges.result.now c.loop-next-test.false in
    let shape : map comparison_of c.loop-next.made.items ≡ joined (ranges_of c.args.self.now) =
    sym (append-nil _) ∙ ap (λ rs. map comparison_of c.loop-next.made.items ++ joined (map bounds rs)) (sym past)
    ∙ c.loop-next.invariant.shape ∙ ap (λ rs. joined (map bounds rs)) c.as_slice-ranges.ensures.value in
    ap (λ cs. some_compares cs b) shape ∙ joined_compares 0 (ranges_of c.args.self.now) b c.requires
