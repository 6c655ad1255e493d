use Rattle.std.proofs.Common.{◌≡◌, sym, ◌∙◌, ap, ◌∷◌, refl}
use Rattle.logos_token.specs.declared.token.entry.Entry.TheVariants.{Group}
use Rattle.logos_token.specs.Flat.{tokens_in}
use Rattle.logos_token.specs.Tokens.{first_of}
use Rattle.logos_token.proofs.reading.RunLemmas.{OpensGroup, opens-group}
use Rattle.logos_token.proofs.token.views.Tokens.first.Goals as goal
use Rattle.logos_token.proofs.token.views.Tokens.first.Goals.{In-Group}

is : (c : In-Group) → c.args.self.entries.now ≡ Group c.in-Group.delimiter c.in-Group.span c.in-Group.size ∷ c.in_ok-entry.after.now
is c = rw c.in-Group.is at c.in_ok-entry.ensures.cases.0

opened : (c : In-Group) → OpensGroup c.in-Group.delimiter c.in-Group.span c.in-Group.size c.in_ok-entry.after.now
opened c = opens-group _ _ _ _ (rw (is c) at c.args.self.nested)

pub invariant_of-result : goal.invariant_of-result
invariant_of-result c = record { nested = (opened (goal.at.invariant_of-result c).In-Group).inside }

pub returns-in-Group-clause-value : goal.returns-in-Group-clause-value
returns-in-Group-clause-value c =
    let d : In-Group = (goal.at.returns-in-Group-clause-value c).In-Group in
    sym (ap first_of (ap tokens_in (is d) ∙ (opened d).tokens))

pub returns-in-Group-clause-cases : goal.returns-in-Group-clause-cases
returns-in-Group-clause-cases c =
    let d : In-Group = (goal.at.returns-in-Group-clause-cases c).In-Group in
    let e = ap tokens_in (is d) ∙ (opened d).tokens in
    rw e refl
