use Rattle.std.proofs.Common.{inl, inr, refl}
use Rattle.logos_show.proofs.candidates.selected.Goals as goal

pub returns-in-Some : goal.returns-in-Some
returns-in-Some c = inl (record { candidate = c.in-Some.exact.now; has = c.in-Some.ensures.0; is = refl; exact = c.in-Some.ensures.1 })

pub returns-in-Some-other_with_end : goal.returns-in-Some-other_with_end
returns-in-Some-other_with_end c = (
  c.in_default.ensures,
  record {
    first = c.in-Some-with_end.first.now;
    second = c.in-Some-other_with_end.other.now;
    has_first = c.in-Some-with_end.ensures.0;
    has_second = c.in-Some-other_with_end.ensures.0;
    is_first = refl;
    is_second = refl;
    ends = c.in-Some-with_end.ensures.1;
    differs = rw c.as_str.ensures.value at c.in-Some-other_with_end.ensures.1;
  },
)

pub returns-in-None : goal.returns-in-None
returns-in-None c = inr (
  c.in_default.ensures,
  record {
    candidate = c.in-Some-with_end.first.now;
    has = c.in-Some-with_end.ensures.0;
    is = refl;
    ends = c.in-Some-with_end.ensures.1;
    only = rw c.as_str.ensures.value at c.in-None.ensures;
  },
)
