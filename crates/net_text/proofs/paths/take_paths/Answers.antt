use Rattle.std.proofs.Common.{◌≡◌, ◌∷◌, [], ◌++◌, List, ℕ, map, ap, subst, sym, ◌∙◌, append_assoc}
use Rattle.std.specs.List.{All}
use Rattle.std.proofs.lemmas.List.Elements.{All-tail}
use Rattle.net_text.specs.Lexing.{Text, words_of}
use Rattle.net_text.specs.Words.{path_of}
use Rattle.net_text.specs.Taking.{IsTakeable}
use Rattle.net_text.proofs.paths.take_paths.Goals as goal

one_more : (all taken new : List (List ℕ)) (left rest : List Text) (word : Text) (path : List ℕ) → left ≡ word ∷ rest → path ≡ path_of word → new ≡ taken ++ path ∷ []
    → all ≡ taken ++ map path_of left → all ≡ new ++ map path_of rest
one_more all taken new left rest word path l p n w =
    w ∙ ap (λ (ws : List Text). taken ++ map path_of ws) l ∙ sym (append_assoc taken (path_of word ∷ []) (map path_of rest))
    ∙ ap (λ (q : List ℕ). (taken ++ q ∷ []) ++ map path_of rest) (sym p) ∙ ap (λ (ps : List (List ℕ)). ps ++ map path_of rest) (sym n)

pub words-preserved : goal.words-preserved
words-preserved c = record {
  whole = one_more _ c.words.paths.items c.push.new.self.items _ _ c.in-Some.word.now c.in_ok-take_path.field-0 c.in-Some.ensures.some c.in_ok-take_path.ensures c.in_ok-push.ensures.items c.words.invariant.whole;
  good = All-tail IsTakeable c.in-Some.word.now (words_of c.in-Some.rest.now) (subst (All IsTakeable) c.in-Some.ensures.some c.words.invariant.good);
}
