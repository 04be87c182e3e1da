-- Prefixes by a test, and words by their look-up.
use Rattle.std.proofs.Common.{◌≡◌, ℕ, Bool, true, false, List, ◌∷◌, refl}
use Rattle.std.specs.Prelude.{◌==◌}
use Rattle.std.specs.Bool.{Decides}
use Rattle.std.specs.List.{Contains}
use Rattle.std.proofs.lemmas.Bool.{and_parts, eqb-true, cond-true, cond-false, false_from_ne_true}
use Rattle.std.proofs.lemmas.Bool.Decides.{Decides-by_or, Decides-or}
use Rattle.std.proofs.lemmas.List.Elements.{Decides-contains}
use Rattle.prefix_lanes.specs.Bits.{PrefixView, is_prefix}
use Rattle.bgp_codec.specs.declared.update.Update.{Update}
use Rattle.rib_tables.specs.Words.{Mentions, lists, mentions}
use Rattle.rib_tables.specs.Tables.{Said, Words, is_of, word_of}
use Rattle.ranked_policy.proofs.TestLemmas.{prefix_test}

-- ---- prefixes

pub is_prefix-true : (p q : PrefixView) → is_prefix p q ≡ true → p ≡ q
is_prefix-true p q = (prefix_test p q).0

pub is_prefix-from : (p q : PrefixView) → p ≡ q → is_prefix p q ≡ true
is_prefix-from p q = (prefix_test p q).1

pub decides_lists : (ps : List PrefixView) (q : PrefixView) → Decides (lists ps q) (Contains ps q)
decides_lists ps q =
    Decides-contains ps q (lists ps q)
    (Decides-by_or (λ (p : PrefixView). is_prefix p q) (λ (p : PrefixView). p ≡ q) (λ (qs : List PrefixView). lists qs q) (λ (p : PrefixView). (is_prefix-true p q, is_prefix-from p q)) refl (λ _ _. refl) ps)

pub decides_mentions : (u : Update) (q : PrefixView) → Decides (mentions u q) (Mentions u q)
decides_mentions u q = Decides-or (lists u.nlri q) (lists u.withdrawn q) (decides_lists u.nlri q) (decides_lists u.withdrawn q)

pub by_test : (b : Bool) (P : Type 0) → Decides b P → (P → ⊥) → b ≡ false
by_test b P d fails = false_from_ne_true b (λ t. fails (d.0 t))

-- ---- words

-- the word of a peer for a prefix, by what it is of
pub is_of-true : (s : Said) (peer : ℕ) (q : PrefixView) → is_of s peer q ≡ true → (s.peer ≡ peer) × (s.prefix ≡ q)
is_of-true s peer q t =
    let parts = and_parts (s.peer == peer) (is_prefix s.prefix q) t in
    (eqb-true s.peer peer parts.0, is_prefix-true s.prefix q parts.1)

module _ (peer : ℕ) (q : PrefixView) where
  pub word_of-first : (s : Said) (xs : Words) → is_of s peer q ≡ true → word_of (s ∷ xs) peer q ≡ s.word
  unfolding word_of
  word_of-first s xs t = cond-true (is_of s peer q) s.word (word_of xs peer q) t

  pub word_of-next : (s : Said) (xs : Words) → is_of s peer q ≡ false → word_of (s ∷ xs) peer q ≡ word_of xs peer q
  unfolding word_of
  word_of-next s xs f = cond-false (is_of s peer q) s.word (word_of xs peer q) f
