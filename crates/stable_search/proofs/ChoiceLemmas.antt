-- The choices of a part, by its picks.
use Rattle.std.proofs.Common.{◌≡◌, ℕ, zero, suc, ◌<◌, List, [], ◌∷◌, Option, Some, None, IfSome, Bor, length, get_or, sym, ap, subst, ◌∙◌, refl, arith}
use Rattle.std.specs.Slice.{IsItemAt}
use Rattle.std.proofs.lemmas.List.{length-map, get_or-map, get_or_default}
use Rattle.stable_search.specs.declared.every.Component.{Component}
use Rattle.stable_search.specs.declared.group.Group.{Group}
use Rattle.stable_search.specs.declared.seat.Seat.{Seat}
use Rattle.stable_search.specs.Every.{picked_paths, choices_of, IsPathAt}
use Rattle.stable_search.specs.Groups.{IsPartOf}

-- the path of a router in a choice
pub path_picked : (values : List (List (List ℕ))) (pick : List ℕ) (k : ℕ) → k < length values → k < length pick
    → get_or (picked_paths values pick) k [] ≡ get_or (get_or values k []) (get_or pick k 0) []
path_picked [] pick k lt inside = absurd (omega (arith, lt))
path_picked (paths ∷ values) [] k lt inside = absurd (omega (arith, inside))
path_picked (paths ∷ values) (place ∷ pick) zero lt inside = refl
path_picked (paths ∷ values) (place ∷ pick) (suc k) lt inside = path_picked values pick k (omega (arith, lt)) (omega (arith, inside))

inside_picked : (values : List (List (List ℕ))) (pick : List ℕ) (k : ℕ) → k < length values → k < length pick → k < length (picked_paths values pick)
inside_picked [] pick k lt inside = absurd (omega (arith, lt))
inside_picked (paths ∷ values) [] k lt inside = absurd (omega (arith, inside))
inside_picked (paths ∷ values) (place ∷ pick) zero lt inside = omega arith
inside_picked (paths ∷ values) (place ∷ pick) (suc k) lt inside = (let more = inside_picked values pick k (omega (arith, lt)) (omega (arith, inside)) in omega (arith, more))

pub size_picked : (values : List (List (List ℕ))) (pick : List ℕ) → length pick ≡ length values → length (picked_paths values pick) ≡ length values
size_picked [] pick e = refl
size_picked (paths ∷ values) [] e = absurd (omega (arith, e))
size_picked (paths ∷ values) (place ∷ pick) e = ap suc (size_picked values pick (omega (arith, e)))

-- as many choices as picks
pub choices_counted : (part : Component) → length (choices_of part) ≡ length part.picks
choices_counted part = length-map part.picks (picked_paths part.values)

-- a part has as many choices as its group has picks
pub as_many : (seats : List Seat) (levels : List ℕ) (group : Group) (part : Component) → IsPartOf seats levels group part → length (choices_of part) ≡ length group.picks
as_many seats levels group part of = choices_counted part ∙ ap length of.picks

-- the path at a place of a pick
pub path_at : (part : Component) (j k : ℕ) (pick : List ℕ) (place : ℕ) (paths : List (List ℕ)) (path : List ℕ) → j < length part.picks → pick ≡ get_or part.picks j pick → k < length pick → place ≡ get_or pick k place
    → k < length part.values → paths ≡ get_or part.values k paths → place < length paths → path ≡ get_or paths place path → IsPathAt part j k path
path_at part j k pick place paths path jlt pick_is klt place_is inside paths_is lt path_is =
    let choice : get_or (choices_of part) j [] ≡ picked_paths part.values pick =
    get_or-map (picked_paths part.values) part.picks j [] [] jlt ∙ ap (picked_paths part.values) (get_or_default part.picks j [] pick jlt ∙ sym pick_is) in
    let at : get_or (picked_paths part.values pick) k [] ≡ path =
    path_picked part.values pick k inside klt
    ∙ ap (λ (ps : List (List ℕ)). get_or ps (get_or pick k 0) []) (get_or_default part.values k [] paths inside ∙ sym paths_is)
    ∙ ap (λ (n : ℕ). get_or paths n []) (get_or_default pick k 0 place klt ∙ sym place_is)
    ∙ get_or_default paths place [] path lt
    ∙ sym path_is in (
      omega (arith, jlt, choices_counted part),
      subst (λ (c : List (List ℕ)). k < length c) (sym choice) (inside_picked part.values pick k inside klt),
      sym (ap (λ (c : List (List ℕ)). get_or c k []) choice ∙ at),
    )

-- what is said of an item says it of what `get` answers
pub if_item : {X : Type 0} (xs : List X) (i : ℕ) (r : Option (Bor X)) (P : Bor X → Type 0) → IsItemAt xs i r → ((x : Bor X) → i < length xs → x.now ≡ get_or xs i x.now → P x) → IfSome r P
if_item xs i None P h is = tt
if_item xs i (Some x) P h is = is x h.3.0 h.1

pub item_in : {X : Type 0} (xs ys : List X) (i : ℕ) (x : X) → xs ≡ ys → i < length xs → x ≡ get_or xs i x → (i < length ys) × (x ≡ get_or ys i x)
item_in {X} xs ys i x e lt is = (subst (λ (zs : List X). i < length zs) e lt, subst (λ (zs : List X). x ≡ get_or zs i x) e is)
