use Rattle.std.proofs.Common.{refl, sym, arith}
use Rattle.logos_token.specs.Views.{tokens_of}
use Rattle.logos_rust_file.specs.Files.Finds.{done}
use Rattle.logos_rust_file.proofs.FrontLemmas.{enum_rest, module_count}
use Rattle.logos_rust_file.proofs.FindLemmas.{added_enum, added_module, added_nothing}
use Rattle.logos_rust_file.proofs.finder.+find.Goals as goal

pub add_first-before-requires : goal.add_first-before-requires
add_first-before-requires t c = enum_rest (tokens_of c.args.tokens) (tokens_of c.in-Enum.rest) c.in-Enum.ensures

pub add_first-add_all-requires : goal.add_first-add_all-requires
add_first-add_all-requires t c =
    let m = module_count (tokens_of c.args.tokens) (tokens_of c.in-Module.inside) (tokens_of c.in-Module.rest) c.in-Module.ensures in
    (omega (arith, m.0, c.decreases), tt)

pub add_first-returns-in-End : goal.add_first-returns-in-End
add_first-returns-in-End t c = (done (sym c.in-End.ensures), refl)

pub add_first-returns-in_ok-push-in-Enum : goal.add_first-returns-in_ok-push-in-Enum
add_first-returns-in_ok-push-in-Enum t c =
    let front = c.before-in-Enum.ensures (enum_rest (tokens_of c.args.tokens) (tokens_of c.in-Enum.rest) c.in-Enum.ensures) in
    added_enum (tokens_of c.args.tokens) (tokens_of c.in-Enum.rest) _ _ c.describe.result c.in-Enum.ensures (rw front at c.describe.ensures) c.in_ok-push-in-Enum.ensures.items

pub add_first-returns-in_ok-add_all-in-Module : goal.add_first-returns-in_ok-add_all-in-Module
add_first-returns-in_ok-add_all-in-Module t c =
    added_module (tokens_of c.args.tokens) (tokens_of c.in-Module.inside) (tokens_of c.in-Module.rest) _ _ c.in-Module.ensures c.in_ok-add_all-in-Module.ensures

pub add_first-returns-in-Other : goal.add_first-returns-in-Other
add_first-returns-in-Other t c = added_nothing (tokens_of c.args.tokens) (tokens_of c.in-Other.rest) _ c.in-Other.ensures
