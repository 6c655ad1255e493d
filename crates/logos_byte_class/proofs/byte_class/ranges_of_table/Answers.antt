use Rattle.std.proofs.Common.{◌≡◌, ℕ, ◌-◌, ◌<◌, ◌++◌, ◌∷◌, [], map, false, get_or, refl, sym, ap, ◌∙◌, subst, append-nil, arith}
use Rattle.std.proofs.lemmas.List.{map-append}
use Rattle.logos_byte_class.specs.Bytes.{bounds, AreSeparatedFrom}
use Rattle.logos_byte_class.proofs.JoinLemmas.{members_more, no_others_more, separated_more, marks_differ, same_marks, AreSeparatedFrom-less}
use Rattle.logos_byte_class.proofs.byte_class.ranges_of_table.Goals as goal

pub loop-start-init : goal.loop-start-init
loop-start-init c =
    rw c.new-made.ensures.items
    (record {
      within = c.first_where-start.ensures.bound;
      marked = c.first_where-start.ensures.at;
      members = λ b lt. sym (c.first_where-start.ensures.before b (omega arith) lt);
      no_others = λ b le. refl;
      separated = λ rest h none. AreSeparatedFrom-less 0 c.first_where-start.result rest (omega arith) h;
    })

pub loop-start-preserved : goal.loop-start-preserved
loop-start-preserved c =
    let i = c.loop-start.invariant in
    let rs = map bounds c.loop-start.made.items in
    let start = c.loop-start.start in
    let end = c.first_where-end.result in
    let next = c.first_where-start-in-loop-start.result in
    let test = λ (b : ℕ). get_or c.args.table.now b false in
    let made : map bounds c.push.new.self.items ≡ rs ++ (start, end - 1) ∷ [] =
    ap (map bounds) c.in_ok-push.ensures.items ∙ map-append bounds c.loop-start.made.items (c.new.result ∷ [])
    ∙ rw (c.new.ensures.start, c.new.ensures.end) refl in
    let some : start < end =
    marks_differ test start end c.first_where-end.ensures.after i.marked c.first_where-end.ensures.at c.loop-start-test.true in
    rw made
    (record {
      within = c.first_where-start-in-loop-start.ensures.bound;
      marked = c.first_where-start-in-loop-start.ensures.at;
      members = members_more rs start end next test some c.first_where-start-in-loop-start.ensures.after i.members i.no_others
          c.first_where-end.ensures.before c.first_where-start-in-loop-start.ensures.before;
      no_others = no_others_more rs start end next some c.first_where-start-in-loop-start.ensures.after i.no_others;
      separated = separated_more rs start end next some c.first_where-start-in-loop-start.ensures.after
          (λ e. same_marks test end next e c.first_where-end.ensures.at c.first_where-start-in-loop-start.ensures.at)
          i.separated c.loop-start-test.true;
    })

pub returns-clause-separated : goal.returns-clause-separated
returns-clause-separated c = subst (AreSeparatedFrom 0) (append-nil _) (c.loop-start.invariant.separated [] tt (λ x. refl))
