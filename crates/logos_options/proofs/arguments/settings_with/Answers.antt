use Rattle.std.proofs.Common.{Some, List, ℕ, option_map}
use Rattle.std.proofs.lemmas.List.{map-set}
use Rattle.std.specs.Borrow.{Bor}
use Rattle.logos_options.proofs.arguments.settings_with.Goals as goal

pub returns : goal.returns
returns c = rw (← c.number.ensures.number) (map-set (option_map (λ (text : Bor (List ℕ)). text.now)) c.args.settings.values c.number.result (Some c.args.one.value))
