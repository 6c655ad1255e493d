use Rattle.std.proofs.Common.{refl}
use Rattle.std.proofs.lemmas.Result.{on_ok_weaker}
use Rattle.logos_pattern.specs.Leaf.{kind_value}
use Rattle.logos_leaf.proofs.variant.add_variant.Goals as goal

pub returns-clause-given : goal.returns-clause-given
returns-clause-given c =
    on_ok_weaker c.add_attributes.result (λ added. record {
      name = c.args.variant.now.name;
      is_name = refl;
      kind = kind_value c.in_ok-kind.kind;
      mid = c.kind_of.new.errors;
      is_kind = c.in_ok-kind.ensures;
      add = added;
    })
    c.add_attributes.ensures.given
