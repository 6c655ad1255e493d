use Rattle.std.proofs.Common.{◌∙◌, inl, refl, sym}
use Rattle.logos_records.proofs.matches.push_match_records.Goals as goal

pub returns-in_default : goal.returns-in_default
returns-in_default c = λ of_leaves starts bytes. record {
  matches = c.in_ok-matches.matches.items;
  all = c.in_ok-matches.ensures of_leaves starts bytes;
  put = inl (sym c.deref.ensures.value ∙ c.in_default.ensures, refl);
}
