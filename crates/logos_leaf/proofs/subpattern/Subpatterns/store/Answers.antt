use Rattle.std.proofs.Common.{◌∙◌, List, ◌++◌, ap, sym}
use Rattle.std.proofs.lemmas.List.{append-nil}
use Rattle.logos_token.specs.Faults.{Fault}
use Rattle.logos_attribute.specs.Slices.{ident_slice}
use Rattle.logos_leaf.proofs.subpattern.SubpatternLemmas.{put_twice, put_once}
use Rattle.logos_leaf.proofs.subpattern.Subpatterns.store.Goals as goal

pub returns-in_ok-report_twice : goal.returns-in_ok-report_twice
returns-in_ok-report_twice c = (
  c.in_ok-former.ensures.put,
  c.in_ok-report_twice.ensures
      ∙ ap (λ (fs : List Fault). c.args.errors.now ++ fs) (sym (put_twice (ident_slice c.args.name) c.in-Some.former _ _ c.in-Some.is c.in_ok-former.ensures.former)),
)

pub returns-in_default : goal.returns-in_default
returns-in_default c = (
  c.in_ok-former.ensures.put,
  sym (append-nil c.args.errors.now)
      ∙ ap (λ (fs : List Fault). c.args.errors.now ++ fs) (sym (put_once (ident_slice c.args.name) _ _ c.in_default.is c.in_ok-former.ensures.former)),
)
