use Rattle.logos_warnings.proofs.MistakeLemmas.{one_more}
use Rattle.logos_warnings.proofs.mistakes.forgotten_of.Goals as goal

pub returns : goal.returns
returns c = record {
  names = _;
  of_names = c.in_ok-warnings.ensures;
  are = one_more _ c.push.new.self.items _ c.in_ok-push.ensures.items;
}
