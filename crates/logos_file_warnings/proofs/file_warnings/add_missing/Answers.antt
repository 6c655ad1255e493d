use Rattle.std.proofs.Common.{[], ◌∷◌, rules}
use Rattle.logos_file_warnings.specs.Added.{has_lexer, reports_missing}
use Rattle.logos_file_warnings.proofs.ShownLemmas.{missing_added}
use Rattle.logos_file_warnings.proofs.file_warnings.add_missing.Goals as goal

pub returns : goal.returns
returns c = record {
  added = c.in_ok-fixed_warning.field-0 ∷ [];
  are = missing_added (reports_missing c.args.showing.denies c.args.showing.format) (has_lexer c.args.found.now) c.in_ok-fixed_warning.field-0 (search rules) (search rules)
      (record { message = c.in_ok-fixed_warning.ensures.text; span = c.in_ok-fixed_warning.ensures.span });
  is = c.in_ok-push.ensures.items;
}
