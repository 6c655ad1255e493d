-- The items of a stream are those of all that was read.
use Rattle.std.proofs.Common.{◌≡◌, ◌∙◌, ℕ, ◌+◌, ◌<◌, ◌^◌, Bool, true, false, List, [], ◌∷◌, ◌++◌, append_assoc, append-nil, length, take, drop, Option, IsTrue, refl, sym, ap, subst, arith}
use Rattle.std.proofs.lemmas.List.{length-append, length-take, take-append-drop, take_all}
use Rattle.std.proofs.lemmas.Str.{IsUtf8-nil}
use Rattle.logos_code.specs.Code.{CodeValue}
use Rattle.logos_code.specs.Headline.{IsSound}
use Rattle.logos_code.specs.Items.{Callback, Item}
use Rattle.logos_code.specs.Runs.{CodeFinds, Runs, RunsOn}
use Rattle.logos_machine.specs.Streams.{AreBegun, MayFollow, RunsOver, item_later}
use Rattle.logos_machine.proofs.LaterLemmas.{runs_go_later}
use Rattle.logos_machine.proofs.PartLemmas.{next_first, parts_are_of_the_whole}
use Rattle.logos_stream.specs.Fronts.{FindsUpTo, end_of, item_in, item_with}
use Rattle.logos_stream.specs.Nexts.{FinishesNext, YieldsNext, WaitsNext}
use Rattle.logos_stream.specs.Wholes.{AreFound, HasGiven, StreamsAreOfTheWhole}
use Rattle.logos_stream.specs.WindowValue.{GoesPast, ReadsOn, WindowValue}
use Rattle.logos_stream.specs.declared.item.StreamItem.{StreamItem}

module _ (code : CodeValue) (callback : Callback) where
  -- a fact that holds regardless of the bytes that follow holds if none follow
  closed : (last : Bool) (bytes : List ℕ) (items : List Item) (to : ℕ) → AreBegun code callback bytes items to → AreFound last code callback bytes items to
  closed false bytes items to h = h
  closed true bytes items to h = λ later r.
      let e : bytes ++ [] ≡ bytes = append-nil bytes in
      subst (λ (l : List ℕ). Runs code callback l 0 (items ++ later)) e (h [] (λ _. IsUtf8-nil) later (subst (λ (l : List ℕ). Runs code callback l to later) (sym e) r))

  grows : (was now : Bool) (bytes grown : List ℕ) (items : List Item) (to : ℕ) → (was ≡ true → (grown ≡ []) × (now ≡ true)) → MayFollow code grown → AreFound was code callback bytes items to →
      AreFound now code callback (bytes ++ grown) items to
  grows false now bytes grown items to h text f = closed now (bytes ++ grown) items to ((parts_are_of_the_whole callback).grown code bytes grown items to text f)
  grows true now bytes grown items to h text f =
      let k = h refl in
      let e : bytes ≡ bytes ++ grown = sym (append-nil bytes) ∙ ap (λ l. bytes ++ l) (sym k.0) in
      subst (λ (b : Bool). AreFound b code callback (bytes ++ grown) items to) (sym k.1) (subst (λ (l : List ℕ). AreFound true code callback l items to) e f)

  module _ (sound : IsSound code) (passed lexed : List ℕ) (items : List Item) where
    abbrev whole : List ℕ
    whole = passed ++ lexed

    start : length passed + 0 ≡ length passed
    start = omega arith

    one_more : (last : Bool) (item : Item) (to : ℕ) → AreFound last code callback whole items (length passed) → FindsUpTo code callback lexed last item to →
        AreFound last code callback whole (items ++ item_later (length passed) item ∷ []) (length passed + to)
    one_more false item to h f = (parts_are_of_the_whole callback).item code passed lexed items 0 to item sound
        (subst (λ (n : ℕ). AreBegun code callback whole items n) (sym start) h) f
    one_more true item to h f = λ later r.
        let there : RunsOn code callback whole (length passed) (item_later (length passed) item) (length passed + to) =
        subst (λ (n : ℕ). RunsOn code callback whole n (item_later (length passed) item) (length passed + to)) start ((runs_go_later callback).next code passed lexed 0 to item sound f) in
        let e : (items ++ (item_later (length passed) item ∷ [])) ++ later ≡ items ++ (item_later (length passed) item ∷ later) = append_assoc items (item_later (length passed) item ∷ []) later in
        subst (λ (l : List Item). Runs code callback whole 0 l) (sym e)
        (h (item_later (length passed) item ∷ later) (next_first code.leaves callback whole (CodeFinds code whole) there later r))

    none_more : (to : ℕ) → AreFound false code callback whole items (length passed) → ((more : List ℕ) → MayFollow code more → RunsOver code callback (lexed ++ more) 0 to) →
        AreFound false code callback whole items (length passed + to)
    none_more to h f = (parts_are_of_the_whole callback).over code passed lexed items 0 to sound (subst (λ (n : ℕ). AreBegun code callback whole items n) (sym start) h) f

    no_more : AreFound true code callback whole items (length passed) → Runs code callback lexed 0 [] → Runs code callback whole 0 items
    no_more h f =
        let there : Runs code callback whole (length passed) [] = subst (λ (n : ℕ). Runs code callback whole n []) start ((runs_go_later callback).runs code passed lexed 0 [] sound f) in
        subst (λ (l : List Item). Runs code callback whole 0 l) (append-nil items) (h [] there)

  module _ {R : Type 0} (passed : List ℕ) (old new : WindowValue R) (to : ℕ) (past : GoesPast to old new) where
    abbrev further : List ℕ
    further = passed ++ (new.skipped ++ new.slice)

    far : length further ≡ length passed + to
    far = let w = past.within in omega (arith, w, length-append passed (new.skipped ++ new.slice), ap length past.passed, length-take to old.lexed)

    same : further ++ new.lexed ≡ passed ++ old.lexed
    same = ap (λ l. (passed ++ l) ++ new.lexed) past.passed ∙ ap (λ l. (passed ++ take to old.lexed) ++ l) past.lexed
        ∙ append_assoc passed (take to old.lexed) (drop to old.lexed) ∙ ap (λ l. passed ++ l) (take-append-drop to old.lexed)

    goes_further : (items more : List Item) → HasGiven code callback passed old items → (length further < 2 ^ 64 → AreFound old.is_last code callback (passed ++ old.lexed) more (length passed + to)) →
        HasGiven code callback further new more
    goes_further items more h f = record {
      mode = past.utf8 ∙ h.mode;
      offset = λ small.
          let before = h.offset (omega (arith, far, small)) in
          let e = past.offset (omega (arith, before, far, small)) in omega (arith, e, before, far);
      found = λ small.
          subst (λ (b : Bool). AreFound b code callback (further ++ new.lexed) more (length further)) (sym past.is_last)
          (subst (λ (l : List ℕ). AreFound old.is_last code callback l more (length further)) (sym same)
          (subst (λ (n : ℕ). AreFound old.is_last code callback (passed ++ old.lexed) more n) (sym far) (f small)));
    }

    pub nearer : length further < 2 ^ 64 → length passed < 2 ^ 64
    nearer small = omega (arith, far, small)

  module _ {R : Type 0} (passed : List ℕ) (old new : WindowValue R) (items : List Item) (h : HasGiven code callback passed old items) where
    yields_one : (item : StreamItem) → IsSound code → YieldsNext code callback old new item →
        HasGiven code callback (passed ++ (new.skipped ++ new.slice)) new (items ++ item_with item new.slice ∷ [])
    yields_one item sound g =
        let past = g.shows.past in
        let to = end_of g.found in
        goes_further passed old new to past items (items ++ item_with item new.slice ∷ []) h
        (λ small.
        let near = nearer passed old new to past small in
        let at = h.offset near in
        let fits : old.offset + to < 2 ^ 64 = omega (arith, at, far passed old new to past, small) in
        let e : item_with item new.slice ≡ item_later (length passed) (item_in g.found old.lexed) = g.shows.shown fits ∙ ap (λ n. item_later n (item_in g.found old.lexed)) at in
        subst (λ (i : Item). AreFound old.is_last code callback (passed ++ old.lexed) (items ++ i ∷ []) (length passed + to)) (sym e)
        (one_more sound passed old.lexed items old.is_last (item_in g.found old.lexed) to (h.found near) g.first.finds))

    waits_on : IsSound code → WaitsNext code callback old new → HasGiven code callback (passed ++ (new.skipped ++ new.slice)) new items
    waits_on sound w =
        let past = w.waits.past in
        goes_further passed old new w.passed past items items h
        (λ small.
        let begun = subst (λ (b : Bool). AreFound b code callback (passed ++ old.lexed) items (length passed)) w.unsettled (h.found (nearer passed old new w.passed past small)) in
        subst (λ (b : Bool). AreFound b code callback (passed ++ old.lexed) items (length passed + w.passed)) (sym w.unsettled) (none_more sound passed old.lexed items w.passed begun w.over))

    ends_all : IsSound code → length passed < 2 ^ 64 → FinishesNext code callback old new → Runs code callback (passed ++ (new.skipped ++ new.slice)) 0 items
    ends_all sound small f =
        let n = length old.lexed in
        let all : passed ++ old.lexed ≡ passed ++ (new.skipped ++ new.slice) = ap (λ l. passed ++ l) (sym (f.past.passed ∙ take_all n old.lexed (omega arith))) in
        let found = subst (λ (b : Bool). AreFound b code callback (passed ++ old.lexed) items (length passed)) f.last (h.found small) in
        subst (λ (l : List ℕ). Runs code callback l 0 items) all (no_more sound passed old.lexed items found f.over)

    reads_more : (remaining : R → Option (List ℕ)) → ReadsOn remaining old new → HasGiven code callback passed new items
    reads_more remaining r = record {
      mode = r.utf8 ∙ h.mode;
      offset = λ small. r.offset ∙ h.offset small;
      found = λ small.
          let grown = grows old.is_last new.is_last (passed ++ old.lexed) r.grown items (length passed) r.last (λ text. r.text (subst IsTrue (sym (r.utf8 ∙ h.mode)) text)) (h.found small) in
          subst (λ (l : List ℕ). AreFound new.is_last code callback l items (length passed)) (append_assoc passed old.lexed r.grown ∙ ap (λ l. passed ++ l) (sym r.lexed)) grown;
    }

pub streams_are_of_the_whole : {R : Type 0} (remaining : R → Option (List ℕ)) (callback : Callback) → StreamsAreOfTheWhole remaining callback
streams_are_of_the_whole remaining callback = record {
  begins = λ code reader bound. record {
    mode = refl;
    offset = λ small. refl;
    found = λ small. (parts_are_of_the_whole callback).none code [];
  };
  reads = λ code passed old new items h r. reads_more code callback passed old new items h remaining r;
  yields = λ code passed old new items item sound h g. yields_one code callback passed old new items h item sound g;
  waits = λ code passed old new items sound h w. waits_on code callback passed old new items h sound w;
  ends = λ code passed old new items sound small h f. ends_all code callback passed old new items h sound small f;
}
