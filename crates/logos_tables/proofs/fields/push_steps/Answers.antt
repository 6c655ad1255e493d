use Rattle.std.proofs.Common.{List, ℕ, [], ◌∷◌, OnOk, string_bytes, subst, ◌∙◌}
use Rattle.logos_tables.specs.inside.Adding.{Appends}
use Rattle.logos_tables.specs.Texts.{field_text}
use Rattle.logos_tables.proofs.fields.push_steps.Goals as goal

pub returns : goal.returns
returns c =
    subst (λ (xs : List ℕ). OnOk c.push_field.result (Appends (field_text c.args.name.now xs ∷ []) (string_bytes c.args.text.now) (string_bytes c.push_field.new.text)))
    (c.deref.ensures.value ∙ c.in_ok-steps.ensures) c.push_field.ensures
