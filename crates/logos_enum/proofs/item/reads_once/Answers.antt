use Rattle.logos_enum.proofs.EnumOnce.{once-reads}
use Rattle.logos_enum.proofs.item.reads_once.Goals as goal

pub returns : goal.returns
returns c = once-reads
