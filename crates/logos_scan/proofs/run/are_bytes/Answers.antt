use Rattle.std.proofs.Common.{◌<◌, arith}
use Rattle.std.proofs.lemmas.List.Elements.{All-from_get_or}
use Rattle.logos_scan.proofs.run.are_bytes.Goals as goal

pub returns : goal.returns
returns c = All-from_get_or (λ b. b < 256) c.args.input.now 0 (λ i l. let f = c.type_inv.input i in omega (arith, f))
