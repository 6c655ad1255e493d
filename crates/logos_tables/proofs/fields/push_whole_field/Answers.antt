use Rattle.std.proofs.Common.{append_assoc}
use Rattle.logos_tables.proofs.fields.push_whole_field.Goals as goal

pub returns : goal.returns
returns c = rw (c.in_ok-push_str.ensures, c.in_ok-push_entries.ensures, c.in_ok-push_head.ensures, c.size_of-size.ensures) (simp append_assoc)
