use Rattle.std.proofs.Common.{map, true, false, option_map, refl}
use Rattle.std.proofs.lemmas.Result.{IfOk-weaker}
use Rattle.logos_type.specs.TypeTrees.{type_tree}
use Rattle.logos_type_params.specs.TypeParams.{named_of, given_of}
use Rattle.logos_type_params.proofs.SettledLemmas.{among, copies_none, copies_type}
use Rattle.logos_type_params.proofs.type_params.concrete_types.copy_concrete.Goals as goal

pub returns-then-not-branch : goal.returns-then-not-branch
returns-then-not-branch c =
    let i = c.in_ok-insert.ensures in
    copies_none (map given_of c.args.types.now.entries.items) c.args.name.text (named_of c.args.name) refl c.args.front.now.keys c.insert.new.self.keys i.updates.0
    (among c.args.name.text c.args.front.now.keys c.in_ok-insert.field-0 false i.added c.if-not-branch.true)

pub returns : goal.returns
returns c =
    let i = c.in_ok-insert.ensures in
    IfOk-weaker c.copy_given.result _ _
    (λ copy same. copies_type (map given_of c.args.types.now.entries.items) c.args.name.text (named_of c.args.name) refl c.args.front.now.keys c.insert.new.self.keys i.updates.0 (option_map type_tree copy)
    (among c.args.name.text c.args.front.now.keys c.in_ok-insert.field-0 true i.added c.if-not-branch.false) same)
    c.copy_given.ensures
