use Rattle.std.proofs.Common.{◌≡◌, ◌+◌, ◌<◌, ◌∷◌, ◌++◌, [], ℕ, Some, length, slice_get, sym, ap, ◌∙◌, subst, arith}
use Rattle.std.proofs.lemmas.List.{get_or_default}
use Rattle.std.proofs.lemmas.List.Sorted.{All-permutation}
use Rattle.logos_evidence.specs.search.inside.Visits.{no_visit, visit_at, depth_at}
use Rattle.logos_evidence.specs.search.Machines.{after}
use Rattle.logos_evidence.specs.declared.search.visits.Visit.{Visit}
use Rattle.logos_evidence.proofs.search.ShortestLemmas.{bytes_more, size_more, way_more}
use Rattle.logos_evidence.proofs.search.visits.way_to.Goals as goal

pub loop-at-preserved : goal.loop-at-preserved
loop-at-preserved c =
    let ks = c.args.visits.now.points.keys in
    let ws = c.args.visits.now.ways.items in
    let at = c.loop-at.at in
    let bytes = c.loop-at.bytes.items in
    let i = c.loop-at.invariant in
    let inside = i.there in
    let positive : 0 < at = omega arith in
    let way : visit_at ws at ≡ c.index-way.result.now = get_or_default ws at no_visit c.index-way.result.now inside ∙ sym c.index-way.ensures in
    let more : c.push.new.self.items ≡ bytes ++ (visit_at ws at).byte ∷ [] = c.in_ok-push.ensures.items ∙ ap (λ (v : Visit). bytes ++ v.byte ∷ []) (sym way) in
    record {
      there = let d = c.requires.down at positive inside in let e = ap (λ (v : Visit). v.from) way in omega (arith, d, e, inside);
      are_bytes = λ next tree. let same = tree.same in bytes_more next ks ws tree at positive (omega (arith, same, inside)) bytes c.push.new.self.items more (i.are_bytes next tree);
      size = λ next tree.
          let same = tree.same in
          subst (λ (v : Visit). length c.push.new.self.items + depth_at ws v.from ≡ depth_at ws c.args.number) way
          (size_more next ks ws tree at positive (omega (arith, same, inside)) bytes c.push.new.self.items (depth_at ws c.args.number) more (i.size next tree));
      way = λ next from to tree there last.
          let same = tree.same in
          way_more next ks ws tree at positive (omega (arith, same, inside)) bytes c.push.new.self.items from to more
          (subst (λ (v : Visit). slice_get ks v.from ≡ Some from) (sym way) there) (λ p here. i.way next p to tree here last);
    }

pub returns : goal.returns
returns c = λ next to tree at.
    let i = c.loop-at.invariant in
    let turned = c.reverse.ensures.items in
    let zero : c.loop-at.at ≡ 0 = omega arith in
    record {
      are_bytes = All-permutation (λ b. b < 256) c.loop-at.bytes.items c.reverse.new.self.items c.reverse.ensures.permutation (i.are_bytes next tree);
      size =
          let n = c.reverse.ensures.len in
          let s = i.size next tree in
          let same = tree.same in
          let low = tree.low 0 (let t = c.requires.there in omega (arith, t, same)) in
          let none : depth_at c.args.visits.now.ways.items c.loop-at.at ≡ depth_at c.args.visits.now.ways.items 0 = ap (depth_at c.args.visits.now.ways.items) zero in
          omega (arith, n, s, low, none);
      way = λ first there.
          ap (after next first) turned ∙ i.way next first to tree (subst (λ (n : ℕ). slice_get c.args.visits.now.points.keys n ≡ Some first) (sym zero) there) at;
    }
