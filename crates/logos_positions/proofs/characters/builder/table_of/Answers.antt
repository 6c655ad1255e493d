use Rattle.std.proofs.Common.{◌≡◌, ℕ, Bool, IfOk, subst}
use Rattle.std.proofs.Math.Path.{fun_ext}
use Rattle.logos_hir.specs.Hir.{pairs}
use Rattle.logos_positions.specs.inside.Ranges.{in_ranges}
use Rattle.logos_positions.specs.inside.Reader.{is_char_in, IsReaderOf}
use Rattle.logos_positions.specs.Table.{reader_of}
use Rattle.logos_positions.specs.declared.characters.reader.CharacterTable.{CharacterTable}
use Rattle.logos_positions.proofs.characters.builder.table_of.Goals as goal

pub returns : goal.returns
returns c =
    let same : in_ranges c.in_ok-ranges.ranges.items ≡ is_char_in (pairs c.args.ranges.now) = fun_ext c.in_ok-ranges.ensures in
    subst (λ (f : ℕ → Bool). IfOk c.build.result (λ (made : CharacterTable). IsReaderOf f (reader_of made))) same (rw c.deref.ensures.value at c.build.ensures)
