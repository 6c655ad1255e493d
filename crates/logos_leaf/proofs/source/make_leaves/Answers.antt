use Rattle.std.proofs.Common.{sym}
use Rattle.std.proofs.lemmas.Result.{IfOk-weaker}
use Rattle.logos_type_params.specs.SelfReference.{texts}
use Rattle.logos_type_params.specs.WrittenTypes.{params_with}
use Rattle.logos_leaf.specs.subpattern.SubpatternViews.{names_of}
use Rattle.logos_leaf.proofs.VariantLemmas.{param_values}
use Rattle.logos_leaf.proofs.source.make_leaves.Goals as goal

pub returns-in-Ok-clause-leaves : goal.returns-in-Ok-clause-leaves
returns-in-Ok-clause-leaves c =
    IfOk-weaker c.leaves_with.result _ _ (λ leaves made. record {
      params = params_with c.args.parser.now.types (texts c.in_ok-held.held.keys);
      names = names_of c.in-Ok.subpatterns;
      skips = made.of_skips;
      of_held = c.check.new.errors;
      of_subpatterns = c.new.new.errors;
      of_skips = made.faults;
      given = sym (param_values c.args.parser.now.types.types.entries.items);
      checked = c.in_ok-check.ensures.ok;
      held = c.in_ok-held.ensures;
      subpatterns = rw (c.is_utf8-mode.ensures, c.as_slice-list.ensures.value) at c.in-Ok.ensures.ok;
      skips_add = made.skips_add;
      variants_add = made.variants_add;
    }) c.leaves_with.ensures.made
