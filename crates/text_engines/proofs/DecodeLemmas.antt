-- There is one text for an input of decode.
use Rattle.std.proofs.Common.{◌≡◌, ℕ, List, Result, Ok, Err, MatchResult, sym, ap, ◌∙◌, inl, inr, arith}
use Rattle.bgp_codec.specs.declared.rule.Rule.{Rule}
use Rattle.bgp_framing.specs.Frames.{SplitsOnce}
use Rattle.text_engines.specs.Decoding.{Output, StreamGives, frames_output}
use Rattle.text_engines.specs.Laws.{DecodesToOne}

stream_one : SplitsOnce → (rule : Rule) (octets : List ℕ) (one other : Output) → StreamGives rule octets one → StreamGives rule octets other → one ≡ other
stream_one once rule octets one other a b =
    let same = (once octets).1 a.0 b.0 a.1 b.1 a.2 b.2 in
    a.3 ∙ ap (λ (frames : List (List ℕ)). frames_output rule frames a.1) same.0 ∙ ap (frames_output rule b.0) same.1 ∙ sym b.3

hex_one : {E : Type 0} → SplitsOnce → (rule : Rule) (read : Result (List ℕ) E) (bad one other : Output)
    → MatchResult read (λ octets. StreamGives rule octets one) (λ _. one ≡ bad) → MatchResult read (λ octets. StreamGives rule octets other) (λ _. other ≡ bad)
    → one ≡ other
hex_one once rule (Ok octets) bad one other a b = stream_one once rule octets one other a b
hex_one once rule (Err e) bad one other a b = a ∙ sym b

pub decode_one : SplitsOnce → DecodesToOne
decode_one once rule input one other (inl a) (inl b) = a.1 ∙ sym b.1
decode_one once rule input one other (inl a) (inr b) = absurd (omega (arith, a.0, b.0))
decode_one once rule input one other (inr a) (inl b) = absurd (omega (arith, a.0, b.0))
decode_one once rule input one other (inr a) (inr b) = hex_one once rule _ _ one other a.1 b.1
