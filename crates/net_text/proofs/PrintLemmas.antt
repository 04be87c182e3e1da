-- Octets as text, one after the other.
use Rattle.std.proofs.Common.{◌≡◌, ℕ, ◌-◌, drop, ◌≤◌, List, [], ◌∷◌, ◌++◌, length, get_or, take, Option, Some, refl, sym, ap, ◌∙◌, append_assoc, arith}
use Rattle.std.proofs.lemmas.List.{append-nil, take_all}
use Rattle.std.specs.Prelude.{cond, is_ok, OnOk, Result, Ok, Err}
use Rattle.std.specs.declared.alloc.AllocError.{AllocError}
use Rattle.std.specs.List.{flat_map, join_with_byte}
use Rattle.std.specs.Prelude.{map}
use Rattle.bgp_codec.specs.declared.path.Segment.{Segment}
use Rattle.net_text.specs.Printing.{segment_text, segments_text, path_text}

-- seven texts one after the other, the last of which may be refused
pub seven_texts : (r : Result (Unit {0}) AllocError) (old a b c d e f g p q s t u v w : List ℕ) → a ≡ old ++ p → b ≡ a ++ q → c ≡ b ++ s → d ≡ c ++ t → e ≡ d ++ u → f ≡ e ++ v
    → g ≡ cond (is_ok r) (f ++ w) f → OnOk r (g ≡ old ++ ((p ++ (q ++ (s ++ (t ++ (u ++ v))))) ++ w))
seven_texts (Ok x) old a b c d e f g p q s t u v w ea eb ec ed ee ef eg = rw (eg, ef, ee, ed, ec, eb, ea) (simp append_assoc)
seven_texts (Err x) old a b c d e f g p q s t u v w ea eb ec ed ee ef eg = tt

-- eight of them
pub eight_texts : (r : Result (Unit {0}) AllocError) (old a b c d e f g h p q s t u v w x : List ℕ) → a ≡ old ++ p → b ≡ a ++ q → c ≡ b ++ s → d ≡ c ++ t → e ≡ d ++ u → f ≡ e ++ v → g ≡ f ++ w
    → h ≡ cond (is_ok r) (g ++ x) g → OnOk r (h ≡ old ++ ((p ++ (q ++ (s ++ (t ++ (u ++ (v ++ w)))))) ++ x))
eight_texts (Ok y) old a b c d e f g h p q s t u v w x ea eb ec ed ee ef eg eh = rw (eh, eg, ef, ee, ed, ec, eb, ea) (simp append_assoc)
eight_texts (Err y) old a b c d e f g h p q s t u v w x ea eb ec ed ee ef eg eh = tt

-- the same as two lines
pub two_lines : (r : Result (Unit {0}) AllocError) (old p q s t u v w g : List ℕ) → OnOk r (g ≡ old ++ ((p ++ (q ++ (s ++ (t ++ (u ++ v))))) ++ w))
    → OnOk r (g ≡ old ++ (((p ++ (q ++ (s ++ t))) ++ u) ++ (v ++ w)))
two_lines (Ok x) old p q s t u v w g e = e ∙ simp append_assoc
two_lines (Err x) old p q s t u v w g e = tt

-- texts with a mark between them: the first, and each other behind a mark
pub joined_first : {X : Type 0} (f : X → List ℕ) (mark : ℕ) (x : X) (xs : List X) → join_with_byte mark (map f (x ∷ xs)) ≡ f x ++ flat_map (λ y. mark ∷ f y) xs
joined_first f mark x [] = sym (append-nil (f x))
joined_first f mark x (y ∷ ys) = ap (λ (t : List ℕ). f x ++ (mark ∷ t)) (joined_first f mark y ys)

-- where the first was put, the others are what is left to put
pub joined_rest : {X : Type 0} (f : X → List ℕ) (mark : ℕ) (xs : List X) (x d : X) (old new : List ℕ) → 1 ≤ length xs → x ≡ get_or xs 0 d → new ≡ old ++ f x
    → new ++ flat_map (λ y. mark ∷ f y) (take (length xs - 1) (drop 1 xs)) ≡ old ++ join_with_byte mark (map f xs)
joined_rest f mark [] x d old new l is e = absurd (omega arith)
joined_rest f mark (y ∷ ys) x d old new l is e =
    let count : length (y ∷ ys) - 1 ≡ length ys = omega arith in
    let all : take (length ys) ys ≡ ys = take_all (length ys) ys (omega arith) in
    rw (count, all, joined_first f mark y ys, e, is) (simp append_assoc)

-- the same of texts at a place: the first was written, and the others are left
pub joined_front : {X : Type 0} (f : X → List ℕ) (mark : ℕ) (all : List X) (x : X) (left : List X) (old new : List ℕ) → all ≡ x ∷ left → new ≡ old ++ f x
    → new ++ flat_map (λ y. mark ∷ f y) left ≡ old ++ join_with_byte mark (map f all)
joined_front f mark all x left old new is e = rw (is, joined_first f mark x left, e) (simp append_assoc)

-- of a path whose first segment was written
pub path_front : (path : Option (List Segment)) (all : List Segment) (s : Segment) (left : List Segment) (old new : List ℕ) → path ≡ Some all → all ≡ s ∷ left → new ≡ old ++ segment_text s
    → new ++ flat_map (λ t. 45 ∷ segment_text t) left ≡ old ++ path_text path
unfolding segments_text
path_front path all s left old new some is e = rw (some, is) (joined_front segment_text 45 (s ∷ left) s left old new refl e)
