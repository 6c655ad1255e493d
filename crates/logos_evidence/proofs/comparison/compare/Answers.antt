use Rattle.std.proofs.Common.{◌∙◌, ap}
use Rattle.logos_evidence.specs.search.Shortest.{NoneLeads, IsShortest}
use Rattle.logos_evidence.specs.inside.Machines.{pair_next, pair_goal}
use Rattle.logos_evidence.specs.inside.Shown.{shown}
use Rattle.logos_evidence.proofs.CompareLemmas.{same_is_answer, difference_is_answer}
use Rattle.logos_evidence.proofs.ExampleLemmas.{some_of, none_of}
use Rattle.logos_evidence.proofs.comparison.compare.Goals as goal

pub returns-in-Some : goal.returns-in-Some
returns-in-Some c = λ of_one of_other faultless faultless_too.
    let one = shown c.deref.result.now in
    let other = shown c.deref-2.result.now in
    let names = c.args.one.names.now in
    let others = c.args.other.names.now in
    let utf8 = c.utf8_mode-utf8.result in
    let start = c.point_from.result in
    difference_is_answer c.args.one.graph.now c.args.other.graph.now one other names others utf8 start
    (ap shown c.deref.ensures.value ∙ c.in_ok-states.ensures.states) (ap shown c.deref-2.ensures.value ∙ c.in_ok-twins.ensures.states) c.utf8_mode-utf8.ensures c.point_from.ensures
    c.requires of_one of_other faultless faultless_too (c.in_ok-states.ensures.finished faultless) (c.in_ok-twins.ensures.finished faultless_too) c.in-Some.input.items
    (some_of (NoneLeads (pair_next one other names others utf8) (pair_goal one other names others utf8) utf8 start)
    (λ v. IsShortest (pair_next one other names others utf8) (pair_goal one other names others utf8) utf8 start v.items) c.in_ok-input.field-0 c.in-Some.input c.in-Some.is c.in_ok-input.ensures)

pub returns : goal.returns
returns c = λ of_one of_other faultless faultless_too.
    let one = shown c.deref.result.now in
    let other = shown c.deref-2.result.now in
    let names = c.args.one.names.now in
    let others = c.args.other.names.now in
    let utf8 = c.utf8_mode-utf8.result in
    let start = c.point_from.result in
    same_is_answer c.args.one.graph.now c.args.other.graph.now one other names others utf8 start
    (ap shown c.deref.ensures.value ∙ c.in_ok-states.ensures.states) (ap shown c.deref-2.ensures.value ∙ c.in_ok-twins.ensures.states) c.utf8_mode-utf8.ensures c.point_from.ensures
    c.requires of_one of_other faultless faultless_too (c.in_ok-states.ensures.finished faultless) (c.in_ok-twins.ensures.finished faultless_too)
    (none_of (NoneLeads (pair_next one other names others utf8) (pair_goal one other names others utf8) utf8 start)
    (λ v. IsShortest (pair_next one other names others utf8) (pair_goal one other names others utf8) utf8 start v.items) c.in_ok-input.field-0 c.in-None.is c.in_ok-input.ensures)
