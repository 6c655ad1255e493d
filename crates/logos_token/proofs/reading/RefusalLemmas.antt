-- A refused source spells no tokens within the limits.
use Rattle.std.proofs.Common.{◌≡◌, ℕ, ◌≤◌, List, length, Result, Ok, Err, IfOk, IfErr, MatchResult, arith, refl}
use Rattle.logos_token.specs.declared.token.views.TokenStream.{TokenStream}
use Rattle.logos_token.specs.declared.token.reader.TokenError.{TokenError}
use Rattle.logos_token.specs.declared.token.reader.TokenError.TheVariants.{Lexical, LimitSource, LimitTokenNesting, Memory}
use Rattle.logos_token.specs.Tokens.{TokenList, depth_of}
use Rattle.logos_token.specs.Spelling.{Spells}
use Rattle.logos_token.specs.Refusals.{IsRefusal, SpellsNothing}
use Rattle.logos_token.specs.Views.{stream_tokens}
use Rattle.logos_token.proofs.reading.SpellingLaws.{spells-one, unreadable-excludes, deep-excludes}

pub refused-nothing : (bytes : List ℕ) (error : TokenError) → IsRefusal bytes error → SpellsNothing bytes error
refused-nothing bytes (Lexical kind span) r = λ tokens s. unreadable-excludes bytes kind span tokens r s
refused-nothing bytes LimitSource r = tt
refused-nothing bytes (LimitTokenNesting span) r = λ tokens s. deep-excludes bytes span tokens r s
refused-nothing bytes Memory r = tt

pub refused-memory : (bytes : List ℕ) (error : TokenError) → IsRefusal bytes error → (tokens : TokenList) → Spells bytes tokens → length bytes ≤ 16777216 → depth_of tokens ≤ 128 → error ≡ Memory
refused-memory bytes (Lexical kind span) r tokens s short shallow = absurd (unreadable-excludes bytes kind span tokens r s)
refused-memory bytes LimitSource r tokens s short shallow = absurd (omega (arith, r))
refused-memory bytes (LimitTokenNesting span) r tokens s short shallow = absurd (omega (arith, deep-excludes bytes span tokens r s))
refused-memory bytes Memory r tokens s short shallow = refl

-- the meaning of a result, given the meaning of its error for the source
module _ (bytes : List ℕ) (result : Result TokenStream TokenError) (refused : IfErr result (IsRefusal bytes)) where
  pub result-nothing : IfErr result (SpellsNothing bytes)
  result-nothing = go result refused
    where
      go : (r : Result TokenStream TokenError) → IfErr r (IsRefusal bytes) → IfErr r (SpellsNothing bytes)
      go (Ok stream) h = tt
      go (Err error) h = refused-nothing bytes error h

  pub result-complete : IfOk result (λ stream. Spells bytes (stream_tokens stream)) → (tokens : TokenList) → Spells bytes tokens → length bytes ≤ 16777216 → depth_of tokens ≤ 128 →
      MatchResult result (λ stream. stream_tokens stream ≡ tokens) (λ error. error ≡ Memory)
  result-complete = go result refused
    where
      go : (r : Result TokenStream TokenError) → IfErr r (IsRefusal bytes) → IfOk r (λ stream. Spells bytes (stream_tokens stream)) → (tokens : TokenList) → Spells bytes tokens → length bytes ≤ 16777216 → depth_of tokens ≤ 128 →
          MatchResult r (λ stream. stream_tokens stream ≡ tokens) (λ error. error ≡ Memory)
      go (Ok stream) h spelled tokens s short shallow = spells-one bytes (stream_tokens stream) tokens spelled s
      go (Err error) h spelled tokens s short shallow = refused-memory bytes error h tokens s short shallow
