use Rattle.std.proofs.Common.{◌≡◌, ◌<◌, length, Some, slice_get, false, ap, sym, subst, arith}
use Rattle.std.specs.Option.{option_map_or}
use Rattle.logos_automaton.specs.Munch.{Use}
use Rattle.logos_code.specs.Code.{CodeValue}
use Rattle.logos_code.specs.CodeView.{calls_back_for, code_of}
use Rattle.logos_code.specs.Uses.{use_by}
use Rattle.logos_code.proofs.UseLemmas.{uses_long, use_at}
use Rattle.logos_code.proofs.code.Code.calls_back.Goals as goal

pub index-requires : goal.index-requires
index-requires c =
    let h : c.args.leaf.0 < length (code_of c.self.inside.parts).leaves = rw (← c.self.view_is) at c.requires in
    omega (arith, h, uses_long c.self.inside.uses.items (code_of c.self.inside.parts).leaves c.self.invariant.all_uses)

pub returns : goal.returns
returns c =
    let leaves = (code_of c.self.inside.parts).leaves in
    let h : c.args.leaf.0 < length leaves = rw (← c.self.view_is) at c.requires in
    let l : c.args.leaf.0 < length c.self.inside.uses.items = omega (arith, h, uses_long c.self.inside.uses.items leaves c.self.invariant.all_uses) in
    let at : slice_get leaves c.args.leaf.0 ≡ Some (use_by c.index.result.now) = use_at c.self.inside.uses.items leaves c.args.leaf.0 c.index.result.now c.self.invariant.all_uses l c.index.ensures in
    subst (λ (code : CodeValue). c.index.result.now.calls_back ≡ calls_back_for code c.args.leaf.0) c.self.view_is (sym (ap (λ o. option_map_or (λ (u : Use). u.calls_back) o false) at))
