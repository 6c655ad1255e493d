use Rattle.std.proofs.Common.{◌≡◌, ◌/◌, ◌<◌, length, Some, None, sym, subst, arith}
use Rattle.logos_code.specs.Code.{CodeValue}
use Rattle.logos_code.specs.CodeView.{state_at, code_of}
use Rattle.logos_code.specs.Rows.{IsEntry}
use Rattle.logos_code.specs.Runs.{target}
use Rattle.logos_code.proofs.CodeLemmas.{state_names}
use Rattle.logos_code.proofs.RowLemmas.{read_entry, entry_leads, entry_stuck}
use Rattle.logos_code.proofs.code.Code.target.Goals as goal

pub returns-then-entry-lt-STAYS : goal.returns-then-entry-lt-STAYS
returns-then-entry-lt-STAYS c =
    let code = code_of c.self.inside.parts in
    let entry = c.index-entry.result.now in
    let there : c.args.state < length code.states = rw (← c.self.view_is) at c.requires in
    let is : IsEntry code (state_at code c.args.state) c.args.byte entry = read_entry code c.self.inside.rows.items c.args.state c.args.byte entry c.self.invariant.all_rows there c.ranges.byte.fits c.index-entry.ensures in
    let leads = entry_leads code (state_at code c.args.state) c.args.byte entry is (omega (arith, c.if-entry-lt-STAYS.true)) in
    subst (λ (code : CodeValue). Some (entry / 272) ≡ target code (state_at code c.args.state).fork c.args.byte) c.self.view_is (sym leads)

pub returns-then-entry-lt-UNDESCRIBED : goal.returns-then-entry-lt-UNDESCRIBED
returns-then-entry-lt-UNDESCRIBED c =
    let code = code_of c.self.inside.parts in
    let entry = c.index-entry.result.now in
    let there : c.args.state < length code.states = rw (← c.self.view_is) at c.requires in
    let is : IsEntry code (state_at code c.args.state) c.args.byte entry = read_entry code c.self.inside.rows.items c.args.state c.args.byte entry c.self.invariant.all_rows there c.ranges.byte.fits c.index-entry.ensures in
    let stuck = entry_stuck code (state_at code c.args.state) c.args.byte entry is (omega (arith, c.if-entry-ge-STUCK.true)) (omega (arith, c.if-entry-lt-UNDESCRIBED.true)) in
    subst (λ (code : CodeValue). None ≡ target code (state_at code c.args.state).fork c.args.byte) c.self.view_is (sym stuck)

pub target-requires : goal.target-requires
target-requires c =
    (state_names c.self.inside.parts c.args.state c.index.result.now c.self.invariant.valid.sound (rw (← c.self.view_is) at c.requires) c.index.ensures).fork
