use Rattle.std.proofs.Common.{◌≡◌, ◌+◌, ◌*◌, ◌↔◌, length, sym, ap, ◌∙◌, subst, rules, arith}
use Rattle.logos_positions.specs.Core.{width}
use Rattle.logos_positions.specs.Kinds.{test_at}
use Rattle.logos_positions.specs.Marks.{Has, IsSet}
use Rattle.logos_positions.proofs.steps.AlikeLemmas.{repeated_more, stepped_moved}
use Rattle.logos_positions.proofs.positions.step.repeat_step.Goals as goal

pub loop-more-preserved : goal.loop-more-preserved
loop-more-preserved c =
    let base = c.args.rest.base in
    let each = c.args.rest.each in
    let left = c.args.left in
    let test = test_at c.args.by.at in
    let byte = c.args.by.byte in
    let marks = c.args.by.marks.now in
    let one = c.args.next.now.items in
    let mid = c.loop-more.next.items in
    let new = c.push_moved.new.positions.items in
    let from = c.first_from-from.result in
    let to = c.len-to.result in
    let more = c.loop-more.more in
    let i = c.loop-more.invariant in
    let p = c.in_ok-push_moved.ensures in
    let begins = rw c.deref.ensures.value at c.first_from-from.ensures in
    let all : to ≡ length one = omega (arith, c.len-to.ensures, c.args.next.now.ok.0) in
    let same : c.args.rest.entered ≡ left = search rules in
    let sets : IsSet new (base + each * (more + 1 + 1)) =
    p.set (base + each * (more + 1)) (base + each * (more + 1 + 1)) i.set (omega arith)
    (λ k f t.
    let v = i.prefix k t in
    let low = begins.above k f (omega (arith, t, all)) in
    let high = c.requires.set.below k (omega (arith, t, all)) in (
      omega (arith, v, low),
      omega (arith, v, high),
    )) in
    record {
      few = omega (arith, c.loop-more-test.true);
      longer = omega (arith, i.longer, p.longer);
      prefix = λ k lt. p.keeps k (omega (arith, lt, i.longer)) ∙ i.prefix k lt;
      set = sets;
      repeated = λ t before is set first.
          let parts : each * more ≡ width t * more = ap (λ k. k * more) is in
          let at : base + each + width t * more ≡ base + each * (more + 1) = omega (arith, parts) in
          let end : base + each * (more + 1 + 1) ≡ base + each + width t * more + width t = omega (arith, parts, is) in
          repeated_more t test byte marks one mid new (base + each) left more (i.repeated t before is set first)
          (stepped_moved t test byte marks before one base left set (rw same at first) mid new from to (base + each + width t * more) (each * (more + 1)) begins all at
          (λ q lt. subst (λ s. Has marks (s + q) ↔ Has marks (base + q)) (sym at) (c.alike_copies-count.ensures.same (more + 1) q (omega (arith, c.loop-more-test.true)) (omega (arith, lt, is))))
          (subst (IsSet new) end sets) i.prefix p.has);
    }

pub returns-clause-repeated : goal.returns-clause-repeated
returns-clause-repeated c = λ t before is set first.
    let i = c.loop-more.invariant in
    let all : c.loop-more.more ≡ c.alike_copies-count.result = omega (arith, i.few, c.loop-more-test.false) in
    rw all at (i.repeated t before is set first)
