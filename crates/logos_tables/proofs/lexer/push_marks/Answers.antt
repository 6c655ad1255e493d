use Rattle.std.proofs.Common.{List, ℕ, [], ◌∷◌, ◌∙◌, OnOk, codes, string_bytes, subst}
use Rattle.logos_tables.specs.Texts.{field_text}
use Rattle.logos_tables.specs.inside.Adding.{Appends}
use Rattle.logos_tables.proofs.MarkLemmas.{small_marks, marks_seen}
use Rattle.logos_tables.proofs.lexer.push_marks.Goals as goal

pub marks_of-requires : goal.marks_of-requires
marks_of-requires c = rw c.deref.ensures.value (small_marks c.parts.result.now c.parts.ensures.valid.sound)

pub returns : goal.returns
returns c =
    subst (λ (xs : List ℕ). OnOk c.push_field.result (Appends (field_text (codes "marks") xs ∷ []) (string_bytes c.args.text.now) (string_bytes c.push_field.new.text)))
    (c.deref-2.ensures.value ∙ c.in_ok-marks.ensures ∙ marks_seen c.parts.result.now c.args.code.now c.deref.result.now c.deref.ensures.value c.parts.ensures.is) c.push_field.ensures
