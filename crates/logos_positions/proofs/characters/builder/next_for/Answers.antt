use Rattle.std.proofs.Common.{OnOk, ◌≡◌, suc, ◌+◌, ◌-◌, ◌≤◌, sym, ap, ◌∙◌, subst, refl, arith}
use Rattle.std.proofs.lemmas.Option.{same_Some}
use Rattle.std.proofs.lemmas.Result.{IfOk-weaker}
use Rattle.logos_positions.specs.Table as table
use Rattle.logos_positions.proofs.classes.TableLemmas.{next_found}
use Rattle.logos_positions.proofs.characters.builder.next_for.Goals as goal

pub after-requires-clause-small : goal.after-requires-clause-small
after-requires-clause-small c =
    let le : c.in-Some.rest.now.left ≤ 3 = c.requires.rests.small c.args.row (table.row_of c.in-Some.rest.now) (record { key = c.in-Some.rest.now; is = sym c.in-Some.ensures.key; same = refl }) in
    omega arith

pub position-requires-clause-small : goal.position-requires-clause-small
position-requires-clause-small c =
    let le : c.in-Some.rest.now.left ≤ 3 = c.requires.rests.small c.args.row (table.row_of c.in-Some.rest.now) (record { key = c.in-Some.rest.now; is = sym c.in-Some.ensures.key; same = refl }) in
    omega arith

pub returns-clause-finds : goal.returns-clause-finds
returns-clause-finds c = λ r at.
    let key : at.key ≡ c.in-Some.rest.now = same_Some _ _ (sym at.is ∙ sym c.in-Some.ensures.key) in
    let same : table.row_of c.in-Some.rest.now ≡ r = ap table.row_of (sym key) ∙ at.same in
    let left : c.in-Some.rest.now.left ≡ suc (c.in-Some.rest.now.left - 1) = omega (arith, c.if-rest-eq0.false) in
    IfOk-weaker c.position.result _ _
    (λ to f. next_found c.position.new.rests.keys c.in-Some.rest.now r (c.in-Some.rest.now.left - 1) c.args.part _ to same left c.in_ok-offsets.ensures.members f)
    c.position.ensures.finds

pub returns-clause-weight : goal.returns-clause-weight
returns-clause-weight c = λ r at n.
    let key : at.key ≡ c.in-Some.rest.now = same_Some _ _ (sym at.is ∙ sym c.in-Some.ensures.key) in
    let same : table.row_of c.in-Some.rest.now ≡ r = ap table.row_of (sym key) ∙ at.same in
    let left : c.in-Some.rest.now.left ≡ r.left = ap (λ (x : table.Row). x.left) same in
    subst (λ k. OnOk c.position.result (table.weight n c.position.new.rests.keys ≤ table.weight n c.args.rests.now.keys + table.led_to (k - 1))) left (c.position.ensures.weight n)
