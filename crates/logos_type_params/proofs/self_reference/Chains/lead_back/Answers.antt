use Rattle.std.proofs.Common.{sym, true≢false, false, length, arith, ◌<◌}
use Rattle.std.proofs.lemmas.List.{get_or_read}
use Rattle.logos_type_params.proofs.ChainLemmas.{start_of}
use Rattle.logos_type_params.proofs.SlotLemmas.{placed, unplaced}
use Rattle.logos_type_params.proofs.self_reference.Chains.lead_back.Goals as goal

pub returns-in_default : goal.returns-in_default
returns-in_default c = λ are. (
  λ e. absurd (true≢false (sym e)),
  λ l. let p = start_of l in absurd (unplaced c.args.text.now c.args.self.now.types.now.entries.items (sym c.in_default.ensures.slot) p.0 p.1),
)

pub returns : goal.returns
returns c = λ are.
    let fits = c.args.self.now.fits in
    let within = c.in-Some.ensures.within in
    let lt : c.in-Some.at < length c.args.self.now.held.items = omega (arith, fits, within) in
    rw (get_or_read c.args.self.now.held.items c.in-Some.at c.index.result.now lt c.index.ensures false)
    (are c.args.text.now c.in-Some.at (placed c.args.text.now c.args.self.now.types.now.entries.items c.in-Some.at (sym c.in-Some.ensures.slot)))
