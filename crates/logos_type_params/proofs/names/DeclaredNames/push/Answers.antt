use Rattle.std.proofs.Common.{◌∙◌, List, map, ap, sym, refl}
use Rattle.std.proofs.lemmas.List.{map_push}
use Rattle.logos_token.specs.declared.token.Ident.{Ident}
use Rattle.logos_type_params.specs.NameLists.{Named, named_of, is_declared}
use Rattle.logos_type_params.proofs.SettledLemmas.{fronts_on, fronts_same, on_ok_is}
use Rattle.logos_type_params.proofs.names.DeclaredNames.push.Goals as goal

pub invariant_of-self-in-Break-branch-2 : goal.invariant_of-self-in-Break-branch-2
invariant_of-self-in-Break-branch-2 c = record {
  same = rw c.in_err-push.ensures.items (fronts_same (map named_of c.args.self.now.list.items) c.args.self.now.texts.keys c.reserve.new.self.keys c.args.self.now.same c.in_ok-reserve.ensures.keys.2);
}

pub invariant_of-self-2 : goal.invariant_of-self-2
invariant_of-self-2 c =
    let former = fronts_same (map named_of c.args.self.now.list.items) c.args.self.now.texts.keys c.reserve.new.self.keys c.args.self.now.same c.in_ok-reserve.ensures.keys.2 in
    let put = on_ok_is c.insert.result (c.insert.ensures.succeeds c.in_ok-reserve.ensures.ok) c.insert.ensures.updates in
    record {
      same = λ text.
          fronts_on c.args.name.text (named_of c.args.name) c.reserve.new.self.keys c.insert.new.self.keys (map named_of c.args.self.now.list.items) refl put.0 former text
          ∙ sym (ap (λ (l : List Ident). is_declared (map named_of l) text) c.in_ok-push.ensures.items ∙ ap (λ (l : List Named). is_declared l text) (map_push named_of c.args.self.now.list.items c.args.name));
    }
