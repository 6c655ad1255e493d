use Rattle.std.proofs.Common.{ap, refl, string_bytes}
use Rattle.logos_page.specs.Pages.{PageValue}
use Rattle.logos_page.proofs.PageLemmas.{gains_then}
use Rattle.logos_show.proofs.ChoiceLemmas.{finished_as}
use Rattle.logos_show.proofs.choice.several_text.Goals as goal

pub returns : goal.returns
returns c =
    let g = gains_then c.push_several.ensures (gains_then c.push_name.ensures (gains_then c.push_other.ensures c.push_help.ensures)) in
    record {
      first = string_bytes c.in_ok-one.one;
      second = string_bytes c.in_ok-other.other;
      of_first = rw c.text.ensures at c.in_ok-one.ensures;
      of_second = rw c.text-2.ensures at c.in_ok-other.ensures;
      is = finished_as _ _ c.new-page.result _ (ap (λ (page : PageValue). page.text) c.new-page.ensures)
          (rw (c.path.ensures, c.as_str.ensures.value, c.as_str-2.ensures.value, c.as_str-3.ensures.value) at g) (c.in_ok-finish.ensures.whole.0 refl) c.in_ok-finish.ensures.text;
    }
