use Rattle.std.proofs.Common.{◌≡◌, ◌++◌, map}
use Rattle.logos_file_warnings.specs.Added.{moved}
use Rattle.logos_file_warnings.proofs.file_warnings.add_warnings.Given as goal

-- the added warnings and the rest to add
abbrev pub invariant-loop-warning : goal.invariant-loop-warning
invariant-loop-warning l =
    l.warned.items ++ map (moved l.offset) l.warning-iterator.rest.items ≡ l.fn.warned.items ++ map (moved l.offset) l.fn.warnings.items
