-- The longest prefix so far that covers, entry by entry.
use Rattle.std.proofs.Common.{◌≡◌, ℕ, ◌+◌, ◌<◌, ◌≤◌, List, [], ◌∷◌, ◌++◌, length, Option, Some, None, refl, sym, ap, subst, ◌∙◌, arith, append_assoc, take, get_or}
use Rattle.std.specs.List.{All}
use Rattle.std.specs.Option.{option_map}
use Rattle.std.proofs.lemmas.List.{take_more, take_all}
use Rattle.std.proofs.lemmas.List.Elements.{All-push, All-weaker, All-append, All-cons, All-nil}
use Rattle.prefix_lanes.specs.declared.cover_table.Candidate.{Candidate}
use Rattle.prefix_lanes.specs.Bits.{PrefixView, Covers}
use Rattle.prefix_lanes.specs.Best.{IsLonger, IsBest}
use Rattle.prefix_lanes.specs.Covering.{IsLongest}

-- an entry that doesn't cover, or is no longer
pub best_stays : (xs : List PrefixView) (q : PrefixView) (best : Option Candidate) (e : PrefixView) → (Covers e q → IsLonger e.len best → ⊥) → IsBest xs q best → IsBest (xs ++ e ∷ []) q best
best_stays xs q None e fails b = All-push (λ x. Covers x q → ⊥) xs e b (λ h. fails h tt)
best_stays xs q (Some best) e fails b = let s = b.1 in (
  b.0,
  record {
    before = s.before;
    behind = s.behind ++ e ∷ [];
    whole = ap (λ l. l ++ e ∷ []) s.whole ∙ append_assoc s.before (b.0 ∷ s.behind) (e ∷ []);
    place = s.place;
    covers = s.covers;
    shorter = s.shorter;
    no_longer = All-push (λ x. Covers x q → x.len ≤ b.0.len) s.behind e s.no_longer (λ h. omega (arith, fails h, b.2));
  },
  b.2,
)

-- an entry that covers and is longer
pub best_changes : (xs : List PrefixView) (q : PrefixView) (best : Option Candidate) (e : PrefixView) (place : ℕ) → length xs ≡ place → Covers e q → IsLonger e.len best → IsBest xs q best
    → IsBest (xs ++ e ∷ []) q (Some (record { place = place; len = e.len }))
best_changes xs q None e place at covers longer b = (
  e,
  record {
    before = xs;
    behind = [];
    whole = refl;
    place = at;
    covers = covers;
    shorter = All-weaker (λ x. Covers x q → ⊥) (λ x. Covers x q → x.len < e.len) (λ x apart h. absurd (apart h)) xs b;
    no_longer = All-nil (λ x. Covers x q → x.len ≤ e.len);
  },
  refl,
)
best_changes xs q (Some best) e place at covers longer b =
    let s = b.1 in
    let Shorter : PrefixView → Type 0 = λ x. Covers x q → x.len < e.len in
    let front : All Shorter s.before = All-weaker (λ x. Covers x q → x.len < b.0.len) Shorter (λ x l h. omega (arith, l h, longer, b.2)) s.before s.shorter in
    let back : All Shorter s.behind = All-weaker (λ x. Covers x q → x.len ≤ b.0.len) Shorter (λ x l h. omega (arith, l h, longer, b.2)) s.behind s.no_longer in
    let all : All Shorter (s.before ++ b.0 ∷ s.behind) = All-append Shorter s.before (b.0 ∷ s.behind) front (All-cons Shorter b.0 s.behind (λ h. omega (arith, longer, b.2)) back) in (
      e,
      record {
        before = xs;
        behind = [];
        whole = refl;
        place = at;
        covers = covers;
        shorter = subst (All Shorter) (sym s.whole) all;
        no_longer = All-nil (λ x. Covers x q → x.len ≤ e.len);
      },
      refl,
    )

longest_of : (xs : List PrefixView) (q : PrefixView) (best : Option Candidate) → IsBest xs q best → IsLongest xs q (option_map (λ b. b.place) best)
longest_of xs q None b = b
longest_of xs q (Some best) b = (b.0, b.1)

-- of all entries, once the last was seen
pub best_of_all : (entries : List PrefixView) (q : PrefixView) (seen best : Option Candidate) (place : ℕ) → length entries ≤ place → seen ≡ best → IsBest (take place entries) q seen
    → IsLongest entries q (option_map (λ b. b.place) best)
best_of_all entries q seen best place l e b = longest_of entries q best (subst (IsBest entries q) e (subst (λ xs. IsBest xs q seen) (take_all place entries l) b))

-- one entry more
pub best_at : (entries : List PrefixView) (q : PrefixView) (best : Option Candidate) (place : ℕ) (e : PrefixView) → place < length entries → e ≡ get_or entries place e
    → IsBest (take place entries ++ e ∷ []) q best → IsBest (take (place + 1) entries) q best
best_at entries q best place e l read b =
    let more : take (place + 1) entries ≡ take place entries ++ e ∷ [] = take_more entries place e l ∙ ap (λ x. take place entries ++ x ∷ []) (sym read) in
    rw more b
