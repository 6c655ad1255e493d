use Rattle.std.proofs.Common.{◌∙◌, ◌++◌, ap, refl, subst, sym, take, drop, ◌+◌, arith}
use Rattle.std.proofs.lemmas.List.{append-nil}
use Rattle.logos_token.specs.FaultView.{fault_of, faults_of}
use Rattle.logos_report.specs.Faults.{counted_texts, texts_after}
use Rattle.logos_report.specs.Reports.{Shows}
use Rattle.logos_report.specs.Parts.{all_faults, listed_faults}
use Rattle.logos_report.specs.Sets.{NextValue, next_after, next_value, starts_in}
use Rattle.logos_report.proofs.FaultLemmas.{next_shown, none_shown}
use Rattle.logos_report.proofs.ReportLemmas.{shows_as}
use Rattle.logos_report.proofs.faults.push_all.Goals as goal

pub loop-fault-init : goal.loop-fault-init
loop-fault-init c =
    let texts = texts_after c.args.page.now.is_colored c.args.part.source.now c.args.part.offset (starts_in c.args.first) (listed_faults c.args.listing) in
    let faults = faults_of c.args.listing.faults.now in
    record {
      numbered = refl;
      started = refl;
      colored = refl;
      rest = λ new s. subst (λ front. Shows (texts front (next_value c.args.first) faults) c.args.page.now new) (append-nil (all_faults c.args.listing.earlier.now)) s;
    }

pub loop-fault-preserved : goal.loop-fault-preserved
loop-fault-preserved c =
    let same = c.loop-fault.invariant.colored in
    let all = listed_faults c.args.listing in
    let earlier = all_faults c.args.listing.earlier.now in
    let faults = c.args.listing.faults.now in
    let i = c.loop-fault.fault-index in
    let front = earlier ++ faults_of (take i faults) in
    let next = next_value c.loop-fault.next in
    let starts = starts_in c.args.first in
    let here = rw (c.loop-fault.invariant.numbered, c.loop-fault.invariant.started) at c.push_counted.ensures in
    let shows = shows_as (λ colored. counted_texts colored c.args.part.source.now c.args.part.offset starts all front next (fault_of c.fault-item.result)) same here in
    let one = subst (λ x. Shows (counted_texts c.args.page.now.is_colored c.args.part.source.now c.args.part.offset starts all front next (fault_of x)) c.loop-fault.page c.push_counted.new.page) c.fault-item.is shows in
    let left = c.after-next.ensures.faults ∙ ap (λ x. next_after next (fault_of x)) c.fault-item.is in
    record {
      numbered = omega (arith, c.loop-fault.invariant.numbered);
      started = c.after-next.ensures.starts ∙ c.loop-fault.invariant.started;
      colored = c.push_counted.ensures.colored ∙ same;
      rest = λ new s. c.loop-fault.invariant.rest new
          (next_shown c.args.page.now.is_colored c.args.part.source.now c.args.part.offset starts all earlier faults i c.fault-item.result next _ _ new c.loop-fault-test.true one
          (subst (λ (t : NextValue). Shows (texts_after c.args.page.now.is_colored c.args.part.source.now c.args.part.offset starts all (earlier ++ faults_of (take (i + 1) faults)) t (faults_of (drop (i + 1) faults))) c.push_counted.new.page new) left s));
    }

pub returns : goal.returns
returns c =
    let front = all_faults c.args.listing.earlier.now ++ faults_of (take c.loop-fault.fault-index c.args.listing.faults.now) in
    c.loop-fault.invariant.rest _
    (none_shown c.args.page.now.is_colored c.args.part.source.now c.args.part.offset (starts_in c.args.first) (listed_faults c.args.listing) front c.args.listing.faults.now c.loop-fault.fault-index (next_value c.loop-fault.next) _ c.loop-fault-test.false)
