use Rattle.std.proofs.Common.{◌≡◌, ◌<◌, ◌∙◌, ◌+◌, ℕ, None, length, get_or, sym, ap, subst, arith}
use Rattle.logos_evidence.specs.declared.matches.Match.{Match}
use Rattle.logos_answers.specs.Matches.{last_of, longest_from}
use Rattle.logos_answers.proofs.LongestLemmas.{last_more, last_none, longest_is}
use Rattle.logos_answers.proofs.matches.longest_of.Goals as goal

-- the value read past the end
abbrev nothing : Match
nothing = record { leaf = 0; end = 0; priority = 0 }

pub loop-found-preserved : goal.loop-found-preserved
loop-found-preserved c = record {
  long = c.set_longest.ensures.count ∙ c.loop-found.invariant.long;
  rest = λ leaf l.
      last_more c.args.matches.now c.loop-found.found-index leaf nothing (get_or c.loop-found.longest.items leaf None) (get_or c.set_longest.new.longest.items leaf None) c.loop-found-test.true
      (c.set_longest.ensures.each leaf (omega (arith, l, c.loop-found.invariant.long)))
      ∙ c.loop-found.invariant.rest leaf l;
}

pub returns : goal.returns
returns c =
    let long = c.loop-found.invariant.long in
    let each : (k : ℕ) → k < length c.loop-found.longest.items → get_or c.loop-found.longest.items k None ≡ last_of (0 + k) None c.args.matches.now = λ k l.
    let here : 0 + k ≡ k = omega arith in
    subst (λ n. get_or c.loop-found.longest.items k None ≡ last_of n None c.args.matches.now) (sym here)
    (sym (last_none c.args.matches.now c.loop-found.found-index k (get_or c.loop-found.longest.items k None) c.loop-found-test.false) ∙ c.loop-found.invariant.rest k (omega (arith, l, long))) in
    longest_is c.args.matches.now c.loop-found.longest.items 0 each ∙ ap (λ n. longest_from c.args.matches.now 0 n) long
