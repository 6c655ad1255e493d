-- The core pattern of each form of a node.
use Rattle.std.proofs.Common.{◌≡◌, ℕ, ◌+◌, ◌<◌, ◌≤◌, Bool, true, ◌&&◌, ◌==◌, nat_lt, nat_le, Option, Some, None, Vec, Box, Global, sym, ap, ◌∙◌, eqb-true, arith, suc, ◌-◌, ◌*◌, length}
use Rattle.std.proofs.lemmas.Bool.{and_parts}
use Rattle.std.proofs.lemmas.Bool.Decides.{nat_tests}
use Rattle.logos_hir.specs.Hir.{pairs}
use Rattle.logos_hir.specs.declared.hir.Look as look_type
use Rattle.logos_hir.specs.declared.hir.Range.{Range}
use Rattle.logos_hir.specs.ByteRanges.{is_in}
use Rattle.logos_positions.specs.Core as core
use Rattle.logos_positions.specs.Core.{width}
use Rattle.logos_positions.specs.Repeat.{IsOrdered, count_of, spelled, repeated}
use Rattle.logos_positions.specs.Table.{reader_of}
use Rattle.logos_positions.specs.Node.{Sized, is_ordered, node_sized, sized_of, core_of, is_measured}
use Rattle.logos_positions.specs.declared.characters.reader.CharacterTable.{CharacterTable}
use Rattle.logos_positions.proofs.trees.IsCoreLemmas.{spelled_width}
use Rattle.logos_positions.proofs.trees.WidthLemmas.{width-repeated}
use Rattle.logos_positions.specs.declared.node.Node.{Node, Node-F, fold-roll-Node}
use Rattle.logos_positions.specs.declared.node.Node.TheVariants.{Void, Empty, Literal, Bytes, Characters, Look, Cat, Alt, Repeat, rolls-Void, rolls-Empty, rolls-Literal, rolls-Bytes, rolls-Characters, rolls-Look, rolls-Cat, rolls-Alt, rolls-Repeat}

sized-Void : sized_of Void ≡ record { written = core.void; measured = true }
sized-Void = ap sized_of (sym rolls-Void) ∙ fold-roll-Node Sized node_sized Node-F.Void

sized-Empty : sized_of Empty ≡ record { written = core.empty; measured = true }
sized-Empty = ap sized_of (sym rolls-Empty) ∙ fold-roll-Node Sized node_sized Node-F.Empty

sized-Literal : (text : Vec ℕ Global) → sized_of (Literal text) ≡ record { written = spelled text.items; measured = true }
sized-Literal text = ap sized_of (sym (rolls-Literal text)) ∙ fold-roll-Node Sized node_sized (Node-F.Literal text)

sized-Bytes : (ranges : Vec Range Global) → sized_of (Bytes ranges) ≡ record { written = core.byte_in (is_in (pairs ranges.items)); measured = true }
sized-Bytes ranges = ap sized_of (sym (rolls-Bytes ranges)) ∙ fold-roll-Node Sized node_sized (Node-F.Bytes ranges)

sized-Characters : (table : CharacterTable) → sized_of (Characters table) ≡ record { written = core.character (reader_of table); measured = true }
sized-Characters table = ap sized_of (sym (rolls-Characters table)) ∙ fold-roll-Node Sized node_sized (Node-F.Characters table)

sized-Look : (l : look_type.Look) → sized_of (Look l) ≡ record { written = core.look l; measured = true }
sized-Look l = ap sized_of (sym (rolls-Look l)) ∙ fold-roll-Node Sized node_sized (Node-F.Look l)

abbrev pair_measured : ℕ → Node → Node → Bool
pair_measured whole a b = (whole == width (core_of a) + width (core_of b)) && is_measured a && is_measured b

sized-Cat : (whole : ℕ) (a b : Box Node Global) → sized_of (Cat whole a b) ≡ record { written = core.cat (core_of a.value) (core_of b.value); measured = pair_measured whole a.value b.value }
sized-Cat whole a b = ap sized_of (sym (rolls-Cat whole a b)) ∙ fold-roll-Node Sized node_sized (Node-F.Cat whole a b)

sized-Alt : (whole : ℕ) (a b : Box Node Global) → sized_of (Alt whole a b) ≡ record { written = core.alt (core_of a.value) (core_of b.value); measured = pair_measured whole a.value b.value }
sized-Alt whole a b = ap sized_of (sym (rolls-Alt whole a b)) ∙ fold-roll-Node Sized node_sized (Node-F.Alt whole a b)

sized-Repeat : (least : ℕ) (most : Option ℕ) (each : ℕ) (body : Box Node Global) → sized_of (Repeat least most each body)
    ≡ record { written = repeated least most (core_of body.value); measured = is_ordered least most && (each == width (core_of body.value)) && is_measured body.value }
sized-Repeat least most each body = ap sized_of (sym (rolls-Repeat least most each body)) ∙ fold-roll-Node Sized node_sized (Node-F.Repeat least most each body)

pub core-Void : core_of Void ≡ core.void
core-Void = ap (λ (s : Sized). s.written) sized-Void

pub core-Empty : core_of Empty ≡ core.empty
core-Empty = ap (λ (s : Sized). s.written) sized-Empty

pub core-Literal : (text : Vec ℕ Global) → core_of (Literal text) ≡ spelled text.items
core-Literal text = ap (λ (s : Sized). s.written) (sized-Literal text)

pub core-Bytes : (ranges : Vec Range Global) → core_of (Bytes ranges) ≡ core.byte_in (is_in (pairs ranges.items))
core-Bytes ranges = ap (λ (s : Sized). s.written) (sized-Bytes ranges)

pub core-Characters : (table : CharacterTable) → core_of (Characters table) ≡ core.character (reader_of table)
core-Characters table = ap (λ (s : Sized). s.written) (sized-Characters table)

pub core-Look : (l : look_type.Look) → core_of (Look l) ≡ core.look l
core-Look l = ap (λ (s : Sized). s.written) (sized-Look l)

pub core-Cat : (whole : ℕ) (a b : Box Node Global) → core_of (Cat whole a b) ≡ core.cat (core_of a.value) (core_of b.value)
core-Cat whole a b = ap (λ (s : Sized). s.written) (sized-Cat whole a b)

pub core-Alt : (whole : ℕ) (a b : Box Node Global) → core_of (Alt whole a b) ≡ core.alt (core_of a.value) (core_of b.value)
core-Alt whole a b = ap (λ (s : Sized). s.written) (sized-Alt whole a b)

pub core-Repeat : (least : ℕ) (most : Option ℕ) (each : ℕ) (body : Box Node Global) → core_of (Repeat least most each body) ≡ repeated least most (core_of body.value)
core-Repeat least most each body = ap (λ (s : Sized). s.written) (sized-Repeat least most each body)

-- the meaning of the number stored beside two children
pub record ArePair (whole : ℕ) (a b : Node) : Type 0 where
  pub whole_is : whole ≡ width (core_of a) + width (core_of b)
  pub first : is_measured a ≡ true
  pub second : is_measured b ≡ true

pair_of : (whole : ℕ) (a b : Node) → pair_measured whole a b ≡ true → ArePair whole a b
pair_of whole a b h =
    let p = and_parts ((whole == width (core_of a) + width (core_of b)) && is_measured a) (is_measured b) h in
    let q = and_parts (whole == width (core_of a) + width (core_of b)) (is_measured a) p.0 in
    record { whole_is = eqb-true _ _ q.0; first = q.1; second = p.1 }

pub pair-Cat : (whole : ℕ) (a b : Box Node Global) → is_measured (Cat whole a b) ≡ true → ArePair whole a.value b.value
pair-Cat whole a b h = pair_of whole a.value b.value (sym (ap (λ (s : Sized). s.measured) (sized-Cat whole a b)) ∙ h)

pub pair-Alt : (whole : ℕ) (a b : Box Node Global) → is_measured (Alt whole a b) ≡ true → ArePair whole a.value b.value
pair-Alt whole a b h = pair_of whole a.value b.value (sym (ap (λ (s : Sized). s.measured) (sized-Alt whole a b)) ∙ h)

-- the meaning of the numbers stored beside a repetition
pub record IsRepeat (least : ℕ) (most : Option ℕ) (each : ℕ) (body : Node) : Type 0 where
  pub ordered : IsOrdered least most
  pub each_is : each ≡ width (core_of body)
  pub body_is : is_measured body ≡ true

ordered_of : (least : ℕ) (most : Option ℕ) → is_ordered least most ≡ true → IsOrdered least most
ordered_of least None h = tt
ordered_of least (Some most) h =
    let p = and_parts (nat_le least most) (nat_lt 0 most) h in
    (low least most p.0, some most p.1)
  where
    low : (a b : ℕ) → nat_le a b ≡ true → a ≤ b
    low a b e = grind (arith, nat_tests)

    some : (b : ℕ) → nat_lt 0 b ≡ true → 0 < b
    some b e = grind (arith, nat_tests)

pub repeat-Repeat : (least : ℕ) (most : Option ℕ) (each : ℕ) (body : Box Node Global) → is_measured (Repeat least most each body) ≡ true → IsRepeat least most each body.value
repeat-Repeat least most each body h =
    let e = sym (ap (λ (s : Sized). s.measured) (sized-Repeat least most each body)) ∙ h in
    let p = and_parts (is_ordered least most && (each == width (core_of body.value))) (is_measured body.value) e in
    let q = and_parts (is_ordered least most) (each == width (core_of body.value)) p.0 in
    record { ordered = ordered_of least most q.0; each_is = eqb-true _ _ q.1; body_is = p.1 }

pub width-Literal : (text : Vec ℕ Global) → length text.items ≡ width (core_of (Literal text))
width-Literal text = sym (ap width (core-Literal text) ∙ spelled_width text.items)

pub width-Characters : (table : CharacterTable) → table.rows ≡ width (core_of (Characters table))
width-Characters table = let some = table.some in let e : table.rows ≡ suc (table.rows - 1) = omega arith in e ∙ sym (ap width (core-Characters table))

pub width-Cat : (whole : ℕ) (a b : Box Node Global) → is_measured (Cat whole a b) ≡ true → whole ≡ width (core_of (Cat whole a b))
width-Cat whole a b h = (pair-Cat whole a b h).whole_is ∙ sym (ap width (core-Cat whole a b))

pub width-Alt : (whole : ℕ) (a b : Box Node Global) → is_measured (Alt whole a b) ≡ true → whole ≡ width (core_of (Alt whole a b))
width-Alt whole a b h = (pair-Alt whole a b h).whole_is ∙ sym (ap width (core-Alt whole a b))

pub width-Repeat : (least : ℕ) (most : Option ℕ) (each : ℕ) (body : Box Node Global) → is_measured (Repeat least most each body) ≡ true →
    each * count_of least most ≡ width (core_of (Repeat least most each body))
width-Repeat least most each body h =
    let p = repeat-Repeat least most each body h in
    ap (λ n. n * count_of least most) p.each_is ∙ sym (width-repeated least most (core_of body.value) p.ordered) ∙ sym (ap width (core-Repeat least most each body))
