use Rattle.std.proofs.Common.{rules, ◌≡◌, [], subst}
use Rattle.logos_json.specs.Lines.{LinesValue}
use Rattle.logos_json.proofs.LineLemmas.{printed_nothing}
use Rattle.logos_json.proofs.lines.JsonLines.finish.Goals as goal

pub returns-then-self : goal.returns-then-self
returns-then-self c = record {
  whole = search rules;
  bytes = record {
    whole = search rules;
    is = subst (λ (v : LinesValue). v.tokens ≡ [] → c.into_inner.result.items ≡ v.before) c.self.view_is
        (printed_nothing c.self.inside.writer.before c.into_inner.result.items c.self.inside.writer.tokens c.into_inner.ensures.items);
  };
}
