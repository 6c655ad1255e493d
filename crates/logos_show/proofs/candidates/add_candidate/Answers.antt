use Rattle.std.proofs.Common.{rules}
use Rattle.logos_show.proofs.CandidateLemmas.{adds_one, passes_one}
use Rattle.logos_show.proofs.candidates.add_candidate.Goals as goal

pub returns-then-not-found : goal.returns-then-not-found
returns-then-not-found c = passes_one c.args.text.now c.args.found c.args.candidates.now.items (search rules)

pub returns : goal.returns
returns c =
    adds_one c.args.text.now (record { found = c.args.found; path = c.in_ok-path.path }) c.args.candidates.now.items c.push.new.self.items (search rules) c.in_ok-path.ensures c.in_ok-push.ensures.items
