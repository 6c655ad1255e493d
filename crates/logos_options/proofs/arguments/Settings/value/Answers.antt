use Rattle.std.proofs.Common.{None, List, ℕ, option_map, sym}
use Rattle.std.specs.Borrow.{Bor}
use Rattle.logos_options.proofs.SettingLemmas.{at_mapped}
use Rattle.logos_options.proofs.arguments.Settings.value.Goals as goal

pub returns : goal.returns
returns c = rw (← c.number.ensures.number) (sym (at_mapped (option_map (λ (text : Bor (List ℕ)). text.now)) c.args.self.now.values c.number.result None))
