-- Paths by their digests.
use Rattle.std.proofs.Common.{◌≡◌, ℕ, ◌+◌, ◌<◌, ◌==◌, true, false, List, [], ◌∷◌, ◌++◌, length, map, take, refl, sym, ap, ◌∙◌, append_assoc}
use Rattle.std.specs.Prelude.{slice_set, not}
use Rattle.std.specs.List.{list_any}
use Rattle.std.proofs.lemmas.Bool.{and_parts, and_from, or_parts, or_from, not-true, eqb-false, false_from_ne_true}
use Rattle.std.proofs.lemmas.List.{take_more_set}
use Rattle.ranked_policy.specs.Tests.{is_simple}
use Rattle.net_text.specs.Lexing.{Text, same}
use Rattle.net_text.specs.Words.{path_of}
use Rattle.net_text.specs.Lines.{are_distinct}
use Rattle.net_text.specs.Taking.{digest}
use Rattle.net_text.proofs.AddingLemmas.{same_true}

-- one digest more
pub digest_on : (digests all : List ℕ) (count d : ℕ) (left rest : List Text) (word : Text) → count < length digests → left ≡ word ∷ rest → d ≡ digest (path_of word)
    → all ≡ take count digests ++ map (λ w. digest (path_of w)) left → all ≡ take (count + 1) (slice_set digests count d) ++ map (λ w. digest (path_of w)) rest
digest_on digests all count d left rest word lt l is w =
    w ∙ ap (λ (ws : List Text). take count digests ++ map (λ v. digest (path_of v)) ws) l
    ∙ sym (append_assoc (take count digests) (digest (path_of word) ∷ []) (map (λ v. digest (path_of v)) rest))
    ∙ ap (λ n. (take count digests ++ n ∷ []) ++ map (λ v. digest (path_of v)) rest) (sym is)
    ∙ ap (λ (ns : List ℕ). ns ++ map (λ v. digest (path_of v)) rest) (sym (take_more_set digests count d lt))

-- where a digest is none of those, its path is none of theirs
none_same : (p : List ℕ) (words : List Text) → list_any (λ v. v == digest p) (map (λ w. digest (path_of w)) words) ≡ false → list_any (same p) (map path_of words) ≡ false
none_same p [] e = refl
none_same p (w ∷ ws) e =
    let b = or_parts (digest (path_of w) == digest p) (list_any (λ v. v == digest p) (map (λ x. digest (path_of x)) ws)) e in
    or_from (same p (path_of w)) (list_any (same p) (map path_of ws))
    (false_from_ne_true (same p (path_of w)) (λ t. eqb-false (digest (path_of w)) (digest p) b.0 (ap digest (sym (same_true p (path_of w) t)))))
    (none_same p ws b.1)

-- where no digest is there twice, no path is
pub single_digests : (words : List Text) → is_simple (map (λ w. digest (path_of w)) words) ≡ true → are_distinct (map path_of words) ≡ true
single_digests [] e = refl
single_digests (w ∷ ws) e =
    let b = and_parts (not (list_any (λ v. v == digest (path_of w)) (map (λ x. digest (path_of x)) ws))) (is_simple (map (λ x. digest (path_of x)) ws)) e in
    and_from (not (list_any (same (path_of w)) (map path_of ws))) (are_distinct (map path_of ws))
    (ap not (none_same (path_of w) ws (not-true (list_any (λ v. v == digest (path_of w)) (map (λ x. digest (path_of x)) ws)) b.0)))
    (single_digests ws b.1)
