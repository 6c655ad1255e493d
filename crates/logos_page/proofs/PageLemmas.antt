-- The content of a page that is appended to step by step.
use Rattle.std.proofs.Common.{◌≡◌, ◌≤◌, ℕ, suc, ◌+◌, List, [], ◌∷◌, ◌++◌, append_assoc, sym, ap, ◌∙◌, refl, arith, subst, Bool}
use Rattle.std.proofs.lemmas.List.{append-nil}
use Rattle.logos_page.specs.Pages.{PageValue, OccurInOrder, Gains, Adds, Shows, begun, ended, painted, times}
use Rattle.logos_page.specs.declared.page.Style.{Style}

-- texts that occur in a prefix and in the rest occur in the whole
occur_both : (one other : List (List ℕ)) (front back : List ℕ) → OccurInOrder one front → OccurInOrder other back → OccurInOrder (one ++ other) (front ++ back)
occur_both [] [] front back s t = tt
occur_both [] (text ∷ other) front back s t =
    (front ++ t.0, t.1, ap (λ x. front ++ x) t.2 ∙ sym (append_assoc front t.0 (text ++ t.1)), t.3)
occur_both (text ∷ one) other front back s t =
    (s.0, s.1 ++ back, ap (λ x. x ++ back) s.2 ∙ append_assoc s.0 (text ++ s.1) back ∙ ap (λ x. s.0 ++ x) (append_assoc text s.1 back), occur_both one other s.1 back s.3 t)

adds_then : (one other : List (List ℕ)) (old middle new : List ℕ) → Adds one old middle → Adds other middle new → Adds (one ++ other) old new
adds_then one other old middle new a b = record {
  added = a.added ++ b.added;
  is = b.is ∙ ap (λ x. x ++ b.added) a.is ∙ append_assoc old a.added b.added;
  occur = occur_both one other a.added b.added a.occur b.occur;
}

adds_nothing : (text : List ℕ) → Adds [] text text
adds_nothing text = record { added = []; is = sym (append-nil text); occur = tt }

-- nothing was pushed
pub shows_nothing : (page : PageValue) → Shows [] page page
shows_nothing page = record { colored = refl; whole = λ w. (w, adds_nothing page.text) }

-- one step after another
pub shows_then : {one other : List (List ℕ)} {old middle new : PageValue} → Shows one old middle → Shows other middle new → Shows (one ++ other) old new
shows_then {one} {other} {old} {middle} {new} a b = record {
  colored = b.colored ∙ a.colored;
  whole = λ w. let m = b.whole w in let f = a.whole m.0 in (f.0, adds_then one other old.text middle.text new.text f.1 m.1);
}

-- text that is pushed is shown
pub shown : {bytes : List ℕ} {old new : PageValue} → Gains bytes old new → Shows (bytes ∷ []) old new
shown {bytes} {old} {new} g = record {
  colored = g.colored;
  whole = λ w. let m = g.whole w in (m.0, record { added = bytes; is = m.1; occur = ([], [], sym (append-nil bytes), tt) });
}

-- text that is pushed, without a claim about it
pub grown : {bytes : List ℕ} {old new : PageValue} → Gains bytes old new → Shows [] old new
grown {bytes} {old} {new} g = record {
  colored = g.colored;
  whole = λ w. let m = g.whole w in (m.0, record { added = bytes; is = m.1; occur = tt });
}

pub gains_nothing : (page : PageValue) → Gains [] page page
gains_nothing page = record { colored = refl; whole = λ w. (w, sym (append-nil page.text)) }

-- one text after another
pub gains_then : {one other : List ℕ} {old middle new : PageValue} → Gains one old middle → Gains other middle new → Gains (one ++ other) old new
gains_then {one} {other} {old} {middle} {new} a b = record {
  colored = b.colored ∙ a.colored;
  whole = λ w. let m = b.whole w in let f = a.whole m.0 in (f.0, m.1 ∙ ap (λ x. x ++ other) f.1 ∙ append_assoc old.text one other);
}

-- the facts about shown text may be dropped
pub unseen : {texts : List (List ℕ)} {old new : PageValue} → Shows texts old new → Shows [] old new
unseen {texts} {old} {new} s = record {
  colored = s.colored;
  whole = λ w. let m = s.whole w in (m.0, record { added = m.1.added; is = m.1.is; occur = tt });
}

times_next : (count : ℕ) (text : List ℕ) → times (count + 1) text ≡ times count text ++ text
times_next count text = let e : suc count ≡ count + 1 = omega arith in subst (λ k. times k text ≡ times count text ++ text) e refl

-- a text once more
pub times_gained : (text : List ℕ) (count : ℕ) (old middle new : PageValue) → Gains (times count text) old middle → Gains text middle new → Gains (times (count + 1) text) old new
times_gained text count old middle new a b = subst (λ bytes. Gains bytes old new) (sym (times_next count text)) (gains_then a b)

pub times_all : (text : List ℕ) (count wanted : ℕ) (old new : PageValue) → count ≤ wanted → wanted ≤ count → Gains (times count text) old new → Gains (times wanted text) old new
times_all text count wanted old new l h g = let e : count ≡ wanted = omega (arith, l, h) in subst (λ k. Gains (times k text) old new) e g

-- a text in a style
pub painted_gained : (style : Style) (text : List ℕ) (old begins middle new : PageValue) → Gains (begun old.is_colored style) old begins → Gains text begins middle → Gains (ended middle.is_colored) middle new →
    Gains (painted old.is_colored style text) old new
painted_gained style text old begins middle new b t e =
    let same : middle.is_colored ≡ old.is_colored = t.colored ∙ b.colored in
    gains_then b (gains_then t (subst (λ c. Gains (ended c) middle new) same e))

-- a text that was gained with the colors that a page had before
pub gains_as : (text : Bool → List ℕ) {is_colored : Bool} {middle new : PageValue} → middle.is_colored ≡ is_colored → Gains (text middle.is_colored) middle new → Gains (text is_colored) middle new
gains_as text {is_colored} {middle} {new} e g = subst (λ c. Gains (text c) middle new) e g

-- the same fact about shown text
pub shows_as : (texts : Bool → List (List ℕ)) {is_colored : Bool} {middle new : PageValue} → middle.is_colored ≡ is_colored → Shows (texts middle.is_colored) middle new → Shows (texts is_colored) middle new
shows_as texts {is_colored} {middle} {new} e s = subst (λ c. Shows (texts c) middle new) e s

-- text that is shown first stays shown
pub first_shown : {one other : List (List ℕ)} {old middle new : PageValue} → Shows one old middle → Shows other middle new → Shows one old new
first_shown {one} {other} {old} {middle} {new} s t = subst (λ texts. Shows texts old new) (append-nil one) (shows_then s (unseen t))
