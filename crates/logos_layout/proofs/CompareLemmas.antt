-- Two texts whose tokens print alike spell the same tokens.
use Rattle.std.proofs.Common.{◌≡◌, ℕ, Bool, List, IsTrue, IsUtf8, bytes_eq, ap, sym, subst, ◌∙◌}
use Rattle.std.proofs.lemmas.Slice.Eq.{bytes_eq-Decides}
use Rattle.logos_layout.specs.Layout.{ArePrinted, SpellsSame}
use Rattle.logos_token.specs.PrintedAgain.{bare}
use Rattle.logos_token.specs.Printing.{printed}
use Rattle.logos_token.specs.Spelling.{Spells}
use Rattle.logos_token.proofs.printing.PrintRuns.{prints_again}
use Rattle.logos_token.proofs.reading.SpellingLaws.{spells-one}

pub same_tokens : (text other one two : List ℕ) → IsUtf8 text → IsUtf8 other → ArePrinted text one → ArePrinted other two → one ≡ two → SpellsSame text other
same_tokens text other one two u v a b e =
    let p = prints_again text u a.tokens a.spelled in
    let q = prints_again other v b.tokens b.spelled in
    let same_text : printed b.tokens ≡ printed a.tokens = sym b.is ∙ (sym e ∙ a.is) in
    let spelled : Spells (printed a.tokens) q.again = subst (λ (bytes : List ℕ). Spells bytes q.again) same_text q.spelled in
    let same_run = spells-one (printed a.tokens) q.again p.again spelled p.spelled in
    record {
      tokens = a.tokens;
      spelled = a.spelled;
      again = record {
        again = b.tokens;
        spelled = b.spelled;
        same = sym q.same ∙ (ap bare same_run ∙ p.same);
      };
    }

-- the same, by the test of their printed texts
pub same_by : (text other one two : List ℕ) (same : Bool) → same ≡ bytes_eq one two → IsUtf8 text → IsUtf8 other → ArePrinted text one → ArePrinted other two → IsTrue same → SpellsSame text other
same_by text other one two same e u v a b t = same_tokens text other one two u v a b ((bytes_eq-Decides one two).0 (sym e ∙ t))
