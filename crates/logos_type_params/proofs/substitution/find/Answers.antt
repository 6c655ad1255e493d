use Rattle.std.proofs.Common.{◌≡◌, ◌∙◌, Bool, true, false, map, sym, ap, if◌then◌else◌}
use Rattle.logos_type_params.specs.Substitution.{nothing, given_first, is_among, param_value}
use Rattle.logos_type_params.specs.SelfReference.{texts}
use Rattle.logos_type_params.proofs.GivenLemmas.{among_keys}
use Rattle.logos_type_params.proofs.substitution.find.Goals as goal

pub returns-then-contains : goal.returns-then-contains
returns-then-contains c =
    let is : is_among (texts c.args.params.held.now.keys) c.args.text.now ≡ true = sym (among_keys c.args.text.now c.args.params.held.now.keys) ∙ sym c.if-contains.ensures in
    sym (ap (λ (b : Bool). if b then nothing else given_first (map param_value c.args.params.types.now.entries.items) c.args.text.now) is)

pub returns : goal.returns
returns c =
    let is : is_among (texts c.args.params.held.now.keys) c.args.text.now ≡ false = sym (among_keys c.args.text.now c.args.params.held.now.keys) ∙ sym c.if-contains.ensures in
    c.given_first.ensures ∙ sym (ap (λ (b : Bool). if b then nothing else given_first (map param_value c.args.params.types.now.entries.items) c.args.text.now) is)
