-- Answers for prefixes, one more at a time.
use Rattle.std.proofs.Common.{◌≡◌, ◌≢◌, ℕ, zero, suc, ◌+◌, ◌<◌, Bool, true, false, List, [], ◌∷◌, ◌++◌, map, drop, take, flat_map, length, get_or, append_assoc, refl, sym, ap, ◌∙◌, arith}
use Rattle.std.specs.Prelude.{◌&&◌, Ok, Err, IfErr, is_ok}
use Rattle.std.specs.List.{All}
use Rattle.std.proofs.lemmas.Bool.{ne_eqb}
use Rattle.std.proofs.lemmas.List.{take_more, drop_more, map-append, append-nil}
use Rattle.std.proofs.lemmas.List.Elements.{All-append}
use Rattle.std.proofs.lemmas.List.Folds.{list_all-append}
use Rattle.prefix_lanes.specs.Bits.{PrefixView}
use Rattle.std.proofs.lemmas.Grind.{flat_map-append}
use Rattle.ranked_policy.specs.Plans.{Plan}
use Rattle.ranked_policy.specs.declared.network.Origin.{Origin}
use Rattle.stable_search.specs.declared.limits.SearchLimits.{SearchLimits}
use Rattle.stable_search.specs.declared.refusal.SearchError.TheVariants.{Memory}
use Rattle.stable_engine.specs.Listing.{route_text}
use Rattle.stable_engine.specs.Answers.{Answer, Found, IsFound, IsSearched, found_text, answers_text, are_known, PutsFound, PutsAnswers}

-- the text of one more
pub text_on : {X : Type 0} (f : X → List ℕ) (xs : List X) (i : ℕ) (x : X) (old new all : List ℕ) → i < length xs → x ≡ get_or xs i x → new ≡ old ++ f x → old ++ flat_map f (drop i xs) ≡ all
    → new ++ flat_map f (drop (i + 1) xs) ≡ all
text_on {X} f xs i x old new all lt is put h =
    ap (λ (t : List ℕ). t ++ flat_map f (drop (i + 1) xs)) put ∙ append_assoc old (f x) (flat_map f (drop (i + 1) xs))
    ∙ ap (λ (t : List ℕ). old ++ t) (sym (ap (flat_map f) (drop_more xs i x lt ∙ ap (λ (y : X). y ∷ drop (i + 1) xs) (sym is)))) ∙ h

one : {X : Type 0} (P : X → Type 0) (x : X) → P x → All P (x ∷ [])
one P x p zero d below = p
one P x p (suc k) d below = absurd (omega (arith, below))

and_true : (b : Bool) → (b && true) ≡ b
and_true true = refl
and_true false = refl

-- an answer more
pub answered_more : (limits : SearchLimits) (net : Plan) (os : List Origin) (i : ℕ) (o : Origin) (old mid new : List ℕ) (known is_known : Bool)
    → i < length os → o ≡ get_or os i o → PutsAnswers limits net (take i os) old mid known → PutsFound limits net o.prefix mid new is_known
    → PutsAnswers limits net (take (i + 1) os) old new (known && is_known)
answered_more limits net os i o old mid new known is_known lt is puts found =
    let h = puts.1 in
    let a : Answer = record { prefix = o.prefix; found = found.0 } in
    let made : List Answer = h.answers in
    let text_of : Answer → List ℕ = λ x. found_text net x.prefix x.found in
    let origins : take (i + 1) os ≡ take i os ++ o ∷ [] = take_more os i o lt ∙ ap (λ (x : Origin). take i os ++ x ∷ []) (sym is) in
    let text : answers_text net (made ++ a ∷ []) ≡ answers_text net made ++ found_text net o.prefix found.0 =
    flat_map-append text_of made (a ∷ []) ∙ ap (λ (t : List ℕ). answers_text net made ++ t) (append-nil (found_text net o.prefix found.0)) in (
      answers_text net (made ++ a ∷ []),
      record {
        answers = made ++ a ∷ [];
        prefixes =
            map-append (λ (x : Answer). x.prefix) made (a ∷ [])
            ∙ ap (λ (qs : List PrefixView). qs ++ o.prefix ∷ []) h.prefixes
            ∙ sym (map-append (λ (x : Origin). x.prefix) (take i os) (o ∷ []))
            ∙ ap (map (λ (x : Origin). x.prefix)) (sym origins);
        each = All-append (λ x. IsFound limits net x.prefix x.found) made (a ∷ []) h.each (one (λ x. IsFound limits net x.prefix x.found) a found.1);
        printed = refl;
        all_known =
            ap (λ (b : Bool). b && is_known) h.all_known
            ∙ ap (λ (b : Bool). are_known made && b) (found.3 ∙ sym (and_true (is_ok found.0)))
            ∙ sym (list_all-append (λ (x : Answer). is_ok x.found) made (a ∷ []));
      },
      found.2
          ∙ ap (λ (t : List ℕ). t ++ found_text net o.prefix found.0) (puts.2 ∙ ap (λ (t : List ℕ). old ++ t) h.printed)
          ∙ append_assoc old (answers_text net made) (found_text net o.prefix found.0)
          ∙ ap (λ (t : List ℕ). old ++ t) (sym text),
    )

-- what the search answered is an answer, if it wanted no memory
pub puts_found : (limits : SearchLimits) (net : Plan) (q : PrefixView) (found : Found) (old new : List ℕ) (known : Bool) → IsSearched limits net q found → IfErr found (λ why. why ≢ Memory)
    → new ≡ old ++ found_text net q found → known ≡ is_ok found → PutsFound limits net q old new known
puts_found limits net q (Ok every) old new known searched memory text is = (Ok every, searched, text, is)
puts_found limits net q (Err why) old new known searched memory text is = (Err why, (memory, searched), text, is)

-- another router was passed
pub route_passed : (q : PrefixView) (u : ℕ) (us : List ℕ) (paths : List (List ℕ)) (k : ℕ) (text : List ℕ) → k < length us → length paths ≡ length us → (get_or us k 0 ≡ u → ⊥)
    → route_text q u (drop k us) (drop k paths) ≡ text → route_text q u (drop (k + 1) us) (drop (k + 1) paths) ≡ text
route_passed q u us paths k text lt size other h =
    let own : drop k us ≡ get_or us k 0 ∷ drop (k + 1) us = drop_more us k 0 lt in
    let theirs : drop k paths ≡ get_or paths k [] ∷ drop (k + 1) paths = drop_more paths k [] (omega (arith, lt, size)) in
    let step : route_text q u (get_or us k 0 ∷ drop (k + 1) us) (get_or paths k [] ∷ drop (k + 1) paths) ≡ route_text q u (drop (k + 1) us) (drop (k + 1) paths) = rw (ne_eqb (get_or us k 0) u other) refl in
    sym step
    ∙ ap (λ (vs : List ℕ). route_text q u vs (get_or paths k [] ∷ drop (k + 1) paths)) (sym own)
    ∙ ap (λ (ps : List (List ℕ)). route_text q u (drop k us) ps) (sym theirs)
    ∙ h
