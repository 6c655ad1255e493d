use Rattle.std.proofs.Common.{◌∙◌, ap, refl, sym}
use Rattle.std.proofs.IntoIterSteps.{All-taken}
use Rattle.logos_relex.proofs.PutLemmas.{on_err, puts_former, puts_last, spliced, spliced_last}
use Rattle.logos_relex.proofs.lexed.Lexed.put.Goals.{in-Former+in_ok-splice-in-Former, in-Last+in_ok-splice-in-Last}
use Rattle.logos_relex.proofs.lexed.Lexed.put.Goals as goal

pub returns-in_err-splice-in-Former-clause-stays : goal.returns-in_err-splice-in-Former-clause-stays
returns-in_err-splice-in-Former-clause-stays c = on_err c.from_residual.result _ (record { chunks = c.in_err-splice-in-Former.ensures.err.0; last = refl; length_is = refl })

pub returns-in_err-splice-in-Last-clause-stays : goal.returns-in_err-splice-in-Last-clause-stays
returns-in_err-splice-in-Last-clause-stays c = on_err c.from_residual-in_err-splice-in-Last.result _ (record { chunks = c.in_err-splice-in-Last.ensures.err.0; last = refl; length_is = refl })

pub returns-clause-puts : goal.returns-clause-puts
returns-clause-puts c = elim c.match-after.branch [
  | in-Former+in_ok-splice-in-Former w ↦
      let old = c.args.self.now.chunks.items in
      let h = w.in_ok-splice-in-Former.ensures.items in
      let made = All-taken h.0 h.1 h.3 ∙ h.2.0 in
      let is = ap (λ l. l.chunks.items) w.self-is ∙ spliced old _ _ _ _ _ h.4 made in
      puts_former c.args.self.now _ c.args.from w.in-Former.to c.args.length c.args.made w.in-Former.is is (ap (λ l. l.last) w.self-is) refl
  | in-Last+in_ok-splice-in-Last w ↦
      let old = c.args.self.now.chunks.items in
      let h = w.in_ok-splice-in-Last.ensures.items in
      let made = All-taken h.0 h.1 h.3 ∙ h.2.0 in
      let is = ap (λ l. l.chunks.items) w.self-is ∙ spliced_last old _ _ _ _ _ h.4 made (sym c.args.self.now.chunks.ok.0) in
      puts_last c.args.self.now _ c.args.from c.args.length c.args.made w.in-Last.is is (ap (λ l. l.last) w.self-is) refl
]
