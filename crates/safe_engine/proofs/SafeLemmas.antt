-- Answers for prefixes, one more at a time.
use Rattle.std.proofs.Common.{◌≡◌, ◌≢◌, ℕ, zero, suc, ◌+◌, ◌<◌, Bool, true, false, List, [], ◌∷◌, ◌++◌, map, take, length, get_or, append_assoc, refl, sym, ap, ◌∙◌, arith}
use Rattle.std.specs.Prelude.{◌&&◌, Ok, Err, IfErr, is_ok}
use Rattle.std.specs.List.{All}
use Rattle.std.proofs.lemmas.List.{take_more, map-append, append-nil}
use Rattle.std.proofs.lemmas.List.Elements.{All-append}
use Rattle.std.proofs.lemmas.List.Folds.{list_all-append}
use Rattle.std.proofs.lemmas.Grind.{flat_map-append}
use Rattle.prefix_lanes.specs.Bits.{PrefixView}
use Rattle.ranked_policy.specs.Plans.{Plan}
use Rattle.ranked_policy.specs.declared.network.Origin.{Origin}
use Rattle.wheel_search.specs.declared.refusal.WheelError.TheVariants.{Memory}
use Rattle.safe_engine.specs.Answers.{Answer, Found, IsFound, IsSearched, found_text, answers_text, are_known, PutsFound, PutsAnswers}

one : {X : Type 0} (P : X → Type 0) (x : X) → P x → All P (x ∷ [])
one P x p zero d below = p
one P x p (suc k) d below = absurd (omega (arith, below))

and_true : (b : Bool) → (b && true) ≡ b
and_true true = refl
and_true false = refl

-- an answer more
pub answered_more : (net : Plan) (most : ℕ) (os : List Origin) (i : ℕ) (o : Origin) (old mid new : List ℕ) (known is_known : Bool)
    → i < length os → o ≡ get_or os i o → PutsAnswers net most (take i os) old mid known → PutsFound net most o.prefix mid new is_known
    → PutsAnswers net most (take (i + 1) os) old new (known && is_known)
answered_more net most os i o old mid new known is_known lt is puts found =
    let h = puts.1 in
    let a : Answer = record { prefix = o.prefix; found = found.0 } in
    let made : List Answer = h.answers in
    let text_of : Answer → List ℕ = λ x. found_text x.prefix x.found in
    let origins : take (i + 1) os ≡ take i os ++ o ∷ [] = take_more os i o lt ∙ ap (λ (x : Origin). take i os ++ x ∷ []) (sym is) in
    let text : answers_text (made ++ a ∷ []) ≡ answers_text made ++ found_text o.prefix found.0 =
    flat_map-append text_of made (a ∷ []) ∙ ap (λ (t : List ℕ). answers_text made ++ t) (append-nil (found_text o.prefix found.0)) in (
      answers_text (made ++ a ∷ []),
      record {
        answers = made ++ a ∷ [];
        prefixes =
            map-append (λ (x : Answer). x.prefix) made (a ∷ [])
            ∙ ap (λ (qs : List PrefixView). qs ++ o.prefix ∷ []) h.prefixes
            ∙ sym (map-append (λ (x : Origin). x.prefix) (take i os) (o ∷ []))
            ∙ ap (map (λ (x : Origin). x.prefix)) (sym origins);
        each = All-append (λ x. IsFound net most x.prefix x.found) made (a ∷ []) h.each (one (λ x. IsFound net most x.prefix x.found) a found.1);
        printed = refl;
        all_known =
            ap (λ (b : Bool). b && is_known) h.all_known
            ∙ ap (λ (b : Bool). are_known made && b) (found.3 ∙ sym (and_true (is_ok found.0)))
            ∙ sym (list_all-append (λ (x : Answer). is_ok x.found) made (a ∷ []));
      },
      found.2
          ∙ ap (λ (t : List ℕ). t ++ found_text o.prefix found.0) (puts.2 ∙ ap (λ (t : List ℕ). old ++ t) h.printed)
          ∙ append_assoc old (answers_text made) (found_text o.prefix found.0)
          ∙ ap (λ (t : List ℕ). old ++ t) (sym text),
    )

-- what the search answered is an answer, if it wanted no memory
pub puts_found : (net : Plan) (most : ℕ) (q : PrefixView) (found : Found) (old new : List ℕ) (known : Bool) → IsSearched net most q found → IfErr found (λ why. why ≢ Memory)
    → new ≡ old ++ found_text q found → known ≡ is_ok found → PutsFound net most q old new known
puts_found net most q (Ok safety) old new known searched memory text is = (Ok safety, searched, text, is)
puts_found net most q (Err why) old new known searched memory text is = (Err why, (memory, searched), text, is)
