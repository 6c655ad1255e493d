use Rattle.std.proofs.Common.{◌≡◌, ℕ, ◌+◌, ◌<◌, List, ◌++◌, length, get_or, drop, string_bytes, sym, ap, ◌∙◌, arith, append_assoc}
use Rattle.std.proofs.lemmas.Iterator.{YieldsList-from_chars}
use Rattle.std.proofs.lemmas.List.{at_drop_more, at_drop_all, length_push, append-nil}
use Rattle.std.proofs.lemmas.Iterator.Consumers.{YieldsList-turn, YieldsList-end}
use Rattle.std.specs.List.{flat_map}
use Rattle.std.specs.Str.{chars}
use Rattle.logos_commands.specs.Refusals.{line_character}
use Rattle.logos_commands.proofs.refusals.push_on_one_line.Goals as goal

-- one character more
more : (cs : List ℕ) (n c : ℕ) (text whole : List ℕ) → (n < length cs) × (c ≡ get_or cs n c) → text ++ flat_map line_character (drop n cs) ≡ whole →
    (text ++ line_character c) ++ flat_map line_character (drop (n + 1) cs) ≡ whole
more cs n c text whole h is =
    append_assoc text (line_character c) (flat_map line_character (drop (n + 1) cs))
    ∙ ap (λ x. text ++ (line_character x ++ flat_map line_character (drop (n + 1) cs))) h.1
    ∙ ap (λ ls. text ++ ls) (sym (at_drop_more (flat_map line_character) cs n c h.0)) ∙ is

pub loop-character-preserved : goal.loop-character-preserved
loop-character-preserved c =
    let t = YieldsList-turn (YieldsList-from_chars c.args.message.now c.utf8.message cc) c.loop-character.yielded _ c.loop-character.yielded_by _ _ c.in-Some.character c.in-Some.is c.next.ensures.steps in
    rw (c.in_ok-push_character.ensures, length_push c.loop-character.yielded c.in-Some.character)
    (more (chars c.args.message.now) (length c.loop-character.yielded) c.in-Some.character (string_bytes c.loop-character.text) _ t c.loop-character.invariant)

pub returns : goal.returns
returns c =
    let t = YieldsList-end (YieldsList-from_chars c.args.message.now c.utf8.message cc) c.loop-character.yielded _ c.loop-character.yielded_by _ _ c.in-None.is c.next.ensures.steps in
    let none = at_drop_all (flat_map line_character) (chars c.args.message.now) (length c.loop-character.yielded) (omega (arith, t.1)) in
    sym (ap (λ ls. string_bytes c.loop-character.text ++ ls) none ∙ append-nil (string_bytes c.loop-character.text)) ∙ c.loop-character.invariant
