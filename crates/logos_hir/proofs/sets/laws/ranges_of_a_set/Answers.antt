use Rattle.logos_hir.proofs.lemmas.SameMembers.{char_ranges_canonical, char_ranges_members, byte_ranges_canonical, byte_ranges_members}
use Rattle.logos_hir.proofs.sets.laws.ranges_of_a_set.Goals as goal

pub returns : goal.returns
returns c = record {
  chars_canonical = char_ranges_canonical;
  chars_members = char_ranges_members;
  bytes_canonical = byte_ranges_canonical;
  bytes_members = byte_ranges_members;
}
