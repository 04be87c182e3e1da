-- What entries give, one more at a time.
use Rattle.std.proofs.Common.{◌≡◌, ℕ, ◌&&◌, ◌||◌, Bool, true, false, cond, List, [], ◌∷◌, ◌++◌, refl, sym, ap, ◌∙◌, arith}
use Rattle.std.specs.Prelude.{◌==◌}
use Rattle.std.specs.List.{list_any}
use Rattle.std.specs.Ordering.{nat_cmp, ordering_then, is_eq}
use Rattle.std.specs.Cmp.{tied_then}
use Rattle.std.specs.BTreeSet.{BTreeSet, contains, Updates}
use Rattle.std.proofs.lemmas.Bool.Decides.{nat_tests}
use Rattle.prefix_lanes.specs.Bits.{PrefixView}
use Rattle.net_text.specs.declared.assignment.Entry.{Entry}
use Rattle.net_text.specs.declared.entries.Key.{Key}
use Rattle.net_text.specs.Assignments.{gives, key_cmp, AreGiven}

pub same_number : (x y : ℕ) → is_eq (nat_cmp x y) ≡ (x == y)
same_number x y = grind (arith, nat_tests)

-- what an entry is found by
abbrev key_at : ℕ → PrefixView → Key
key_at u q = record { router = u; addr = q.addr; len = q.len }

same_key : (u v : ℕ) (p q : PrefixView) → is_eq (key_cmp (key_at u p) (key_at v q)) ≡ ((u == v) && ((p.addr == q.addr) && (p.len == q.len)))
same_key u v p q =
    sym (tied_then (nat_cmp u v) (ordering_then (nat_cmp p.addr q.addr) (nat_cmp p.len q.len)))
    ∙ rw (same_number u v, ← tied_then (nat_cmp p.addr q.addr) (nat_cmp p.len q.len), same_number p.addr q.addr, same_number p.len q.len) refl

pub any_on : {X : Type 0} (p : X → Bool) (xs : List X) (x : X) → list_any p (xs ++ x ∷ []) ≡ cond (p x) true (list_any p xs)
any_on p [] x = cases (p x)
  where
    cases : (b : Bool) → (b || false) ≡ cond b true false
    cases true = refl
    cases false = refl
any_on p (y ∷ ys) x = ap (λ b. p y || b) (any_on p ys x) ∙ swapped (p y) (p x) (list_any p ys)
  where
    swapped : (a b c : Bool) → (a || cond b true c) ≡ cond b true (a || c)
    swapped true true c = refl
    swapped true false c = refl
    swapped false b c = refl

-- one entry more is found by its router and prefix, and the others as they were
pub given_on : (old new : BTreeSet Key) (entries : List Entry) (entry : Entry) → AreGiven old entries → Updates key_cmp old new (key_at entry.router entry.prefix) true → AreGiven new (entries ++ entry ∷ [])
given_on old new entries entry h updates = record {
  same = λ u q.
      updates.0 (key_at u q)
      ∙ ap (λ b. cond b true (contains key_cmp old (key_at u q))) (same_key entry.router u entry.prefix q)
      ∙ ap (λ b. cond (gives u q entry) true b) (h.same u q)
      ∙ sym (any_on (gives u q) entries entry);
}
