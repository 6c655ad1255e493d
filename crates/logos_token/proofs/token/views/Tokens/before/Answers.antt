use Rattle.logos_token.proofs.reading.RunLemmas.{front-entries, front-within, IsFlat-from_flat, tokens_in-from_flat}
use Rattle.logos_token.proofs.token.views.Tokens.before.Goals as goal

pub slice_bounds-result-count : goal.slice_bounds-result-count
slice_bounds-result-count c = front-within c.args.self.entries.now c.args.rest.entries.now c.args.self.nested c.args.rest.nested c.requires.front c.requires.is

pub invariant_of-result : goal.invariant_of-result
invariant_of-result c = record { nested = IsFlat-from_flat c.requires.front _ (front-entries c.args.self.entries.now c.args.rest.entries.now c.args.self.nested c.args.rest.nested c.requires.front c.requires.is) }

pub returns : goal.returns
returns c = λ split. tokens_in-from_flat split.front _ (front-entries c.args.self.entries.now c.args.rest.entries.now c.args.self.nested c.args.rest.nested split.front split.is)
