-- The depth of the parser.
use Rattle.std.proofs.Common.{◌≡◌, ◌<◌, ◌≤◌, Option, Some, None, Result, Ok, Err, refl, ap, arith, option_map}
use Rattle.logos_pattern_tokens.specs.declared.error.Stop.{Stop}
use Rattle.logos_pattern_tokens.specs.declared.error.Stop.TheVariants as stops
use Rattle.logos_pattern_tokens.specs.Token.{repeats}
use Rattle.logos_syntax.specs.inside.GroupsView.{Repeats, Steps}
use Rattle.logos_pattern_tokens.specs.declared.token.Operator.{Operator}
use Rattle.logos_syntax.specs.inside.Groups.{Group, GroupPart, State, repeat}

pub repeats_deep : (g : Group) (op : Operator) (o : Option GroupPart) (p : GroupPart) → o ≡ Some p → 250 ≤ p.1 → (x : Group) × (repeat g op o ≡ Some x) × (250 < x.inner)
repeats_deep g op None p e h = absurd cc
repeats_deep g op (Some q) p e h =
    let same : q ≡ p = cc in
    let deep : q.1 ≡ p.1 = ap (λ (x : GroupPart). x.1) same in
    (_, refl, omega arith)

-- the step of an operator, by the resulting group
pub repeat_steps : (s : State) (op : Operator) (r : Result (Unit {0}) Stop) (g : Group) → Repeats r (repeat s.top op s.top.last) g → Steps s (repeats op) r (record s { top = g })
repeat_steps s op (Ok x) g e = (tt, ap (option_map (λ h. record s { top = h })) e)
repeat_steps s op (Err (stops.Syntax kind left)) g e = λ fit. ap (option_map (λ h. record s { top = h })) e
repeat_steps s op (Err stops.LimitPatternNesting) g h = (tt, (record s { top = h.0 }, ap (option_map (λ k. record s { top = k })) h.1, omega (arith, h.2)))
repeat_steps s op (Err stops.Memory) g h = tt
