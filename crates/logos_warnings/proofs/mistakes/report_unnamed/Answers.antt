use Rattle.std.proofs.Common.{◌∙◌, sym}
use Rattle.logos_warnings.specs.Mistakes.{unnamed, with_path}
use Rattle.logos_warnings.proofs.MistakeLemmas.{one_more}
use Rattle.logos_warnings.proofs.mistakes.report_unnamed.Goals as goal

pub returns-in_ok-push : goal.returns-in_ok-push
returns-in_ok-push c = rw (one_more c.args.warnings.now.items c.push.new.self.items _ c.in_ok-push.ensures.items) (with_path c.requires (sym c.is_qualified.ensures ∙ c.if-is_qualified.true))

pub returns-else-is_qualified : goal.returns-else-is_qualified
returns-else-is_qualified c = unnamed c.requires (sym c.is_qualified.ensures ∙ c.if-is_qualified.false)
