use Rattle.std.proofs.Common.{subst}
use Rattle.logos_token.specs.FaultView.{fault_of}
use Rattle.logos_report.specs.Reports.{Shows}
use Rattle.logos_report.specs.Sets.{next_value, starts_in}
use Rattle.logos_report.proofs.FaultLemmas.{member_texts, single_texts}
use Rattle.logos_report.proofs.sets.push_listed.Goals as goal

pub returns-in-Some : goal.returns-in-Some
returns-in-Some c =
    let fault = fault_of c.args.known.fault.now in
    subst (λ lines. Shows lines c.args.page.now c.push_member.new.page)
    (member_texts c.args.page.now.is_colored c.args.part.source.now c.args.part.offset (starts_in c.args.next) (next_value c.args.next) fault c.in-Some.member.number c.in-Some.ensures.0 c.in-Some.ensures.1)
    c.push_member.ensures

pub returns-in-None : goal.returns-in-None
returns-in-None c =
    let fault = fault_of c.args.known.fault.now in
    subst (λ lines. Shows lines c.args.page.now c.push_single.new.page)
    (single_texts c.args.page.now.is_colored c.args.part.source.now c.args.part.offset c.args.next.starts.now c.starts.result.now (next_value c.args.next) fault c.in-None.ensures c.starts.ensures)
    c.push_single.ensures
