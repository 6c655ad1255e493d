use Rattle.std.proofs.Common.{string_bytes}
use Rattle.logos_show.proofs.choice.has_name.Goals as goal

pub returns-in_ok-path-in-Some : goal.returns-in_ok-path-in-Some
returns-in_ok-path-in-Some c = rw c.in-Some.is (string_bytes c.in_ok-path-in-Some.path, rw c.text.ensures at c.in_ok-path-in-Some.ensures, rw c.as_str.ensures.value at c.is_named.ensures)
