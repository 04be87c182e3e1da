-- The last word of a list of UPDATEs, one UPDATE more at a time.
use Rattle.std.proofs.Common.{◌≡◌, ◌≢◌, ℕ, cond, List, [], ◌∷◌, ◌++◌, length, refl, sym, ap, subst, ◌∙◌, arith, inl, inr, ◌⊎◌}
use Rattle.std.specs.List.{All}
use Rattle.std.proofs.lemmas.Bool.{cases_Bool, cond-true, cond-false}
use Rattle.std.proofs.lemmas.Bool.Decides.{not_from_Decides}
use Rattle.std.proofs.lemmas.List.{length-append, append_assoc}
use Rattle.std.proofs.lemmas.List.Elements.{All-nil, All-cons, All-head, All-tail, All-push}
use Rattle.prefix_lanes.specs.Bits.{PrefixView}
use Rattle.bgp_codec.specs.declared.update.Update.{Update}
use Rattle.ranked_policy.specs.declared.network.Origin.{Origin}
use Rattle.ranked_policy.specs.Plans.{IsNamed}
use Rattle.rib_tables.specs.declared.word.Word.{Word}
use Rattle.rib_tables.specs.Words.{nothing, announced_word, Announces, Withdraws, Mentions, Says, lists, mentions, word_after, last_word}
use Rattle.rib_tables.specs.Tables.{Words, word_of, Applies}
use Rattle.rib_tables.specs.Promises.{AppliesAll, IsLastMention, LastWordStays, LastWordGoesOn, OneLastWord, WordFollows, WordsFollow, LastIsLastMention}
use Rattle.rib_tables.proofs.WordLemmas.{decides_lists, decides_mentions}

-- no UPDATE of the list mentions the prefix
abbrev Silent : PrefixView → List Update → Type 0
Silent q us = All (λ u. Mentions u q → ⊥) us

-- an UPDATE says something of each prefix that it mentions, and one thing
says_some : (u : Update) (q : PrefixView) → Mentions u q → (word : Word) × Says u q word
says_some u q m = elim (cases_Bool (lists u.nlri q)) [
  | inl t ↦ (announced_word u.attrs, inl ((decides_lists u.nlri q).0 t, refl))
  | inr f ↦
      let none : Announces u q → ⊥ = not_from_Decides (lists u.nlri q) (decides_lists u.nlri q) f in
      (nothing, inr (none, elim m [ inl a ↦ absurd (none a) | inr w ↦ w ], refl))
]

says_once : (u : Update) (q : PrefixView) (a b : Word) → Says u q a → Says u q b → a ≡ b
says_once u q a b (inl x) (inl y) = x.1 ∙ sym y.1
says_once u q a b (inl x) (inr y) = absurd (y.0 x.0)
says_once u q a b (inr x) (inl y) = absurd (x.0 y.0)
says_once u q a b (inr x) (inr y) = x.2 ∙ sym y.2

says_mentions : (u : Update) (q : PrefixView) (word : Word) → Says u q word → Mentions u q
says_mentions u q word (inl x) = inl x.0
says_mentions u q word (inr x) = inr x.1

mentions_or_not : (u : Update) (q : PrefixView) → Mentions u q ⊎ (Mentions u q → ⊥)
mentions_or_not u q = elim (cases_Bool (mentions u q)) [
  | inl t ↦ inl ((decides_mentions u q).0 t)
  | inr f ↦ inr (not_from_Decides (mentions u q) (decides_mentions u q) f)
]

-- ---- the table after the list

module _ (origins : List Origin) (peer : ℕ) where
  last_from : (us : List Update) (old new : Words) → AppliesAll origins old new peer us → (q : PrefixView) → IsNamed origins q
      → IsLastMention us q (word_of new peer q) ⊎ (Silent q us × (word_of new peer q ≡ word_of old peer q))
  last_from [] old new all q name = inr (All-nil (λ (u : Update). Mentions u q → ⊥), all peer q)
  last_from (u ∷ us) old new all q name =
      let between : Words = all.0 in
      let first : Applies origins old between peer u = all.1 in
      elim (last_from us between new all.2 q name) [
        | inl m ↦ inl (record { before = u ∷ m.before; update = m.update; behind = m.behind; whole = ap (λ (vs : List Update). u ∷ vs) m.whole; says = m.says; last = m.last })
        | inr n ↦ elim (mentions_or_not u q) [
          | inl here ↦
              let some = says_some u q here in
              let is : word_of new peer q ≡ some.0 = n.1 ∙ first.said q some.0 name some.1 in
              inl (record { before = []; update = u; behind = us; whole = refl; says = subst (Says u q) (sym is) some.1; last = n.0 })
          | inr none ↦ inr (All-cons (λ (v : Update). Mentions v q → ⊥) u us none n.0, n.1 ∙ first.unsaid q none)
        ]
      ]

  unnamed_from : (us : List Update) (old new : Words) → AppliesAll origins old new peer us → (q : PrefixView) → (IsNamed origins q → ⊥) → word_of new peer q ≡ word_of old peer q
  unnamed_from [] old new all q none = all peer q
  unnamed_from (u ∷ us) old new all q none = unnamed_from us all.0 new all.2 q none ∙ (let first : Applies origins old all.0 peer u = all.1 in first.unnamed q none)

  others_from : (us : List Update) (old new : Words) → AppliesAll origins old new peer us → (v : ℕ) (q : PrefixView) → v ≢ peer → word_of new v q ≡ word_of old v q
  others_from [] old new all v q apart = all v q
  others_from (u ∷ us) old new all v q apart = others_from us all.0 new all.2 v q apart ∙ (let first : Applies origins old all.0 peer u = all.1 in first.others v q apart)

pub last_word_stays : LastWordStays
last_word_stays origins old new peer us silent all = record {
  last = λ q name.
      elim (last_from origins peer us old new all q name) [ inl m ↦ inl m | inr n ↦ inr (n.0, n.1 ∙ silent q) ];
  unnamed = λ q none. unnamed_from origins peer us old new all q none ∙ silent q;
  others = λ v q apart. others_from origins peer us old new all v q apart;
}

-- ---- one UPDATE more

pub last_word_goes_on : LastWordGoesOn
last_word_goes_on origins old new peer u us applies q name was =
    elim (mentions_or_not u q) [
      | inl here ↦
          let some = says_some u q here in
          let is : word_of new peer q ≡ some.0 = applies.said q some.0 name some.1 in
          inl (record { before = us; update = u; behind = []; whole = refl; says = subst (Says u q) (sym is) some.1; last = All-nil (λ (v : Update). Mentions v q → ⊥) })
      | inr none ↦
          let is : word_of new peer q ≡ word_of old peer q = applies.unsaid q none in
          elim was [
            | inl m ↦ inl (record {
              before = m.before;
              update = m.update;
              behind = m.behind ++ u ∷ [];
              whole = ap (λ (vs : List Update). vs ++ u ∷ []) m.whole ∙ append_assoc m.before (m.update ∷ m.behind) (u ∷ []);
              says = subst (Says m.update q) (sym is) m.says;
              last = All-push (λ (v : Update). Mentions v q → ⊥) m.behind u m.last none;
            })
            | inr n ↦ inr (All-push (λ (v : Update). Mentions v q → ⊥) us u n.0 none, is ∙ n.1)
          ]
    ]

-- ---- one last word

last_split_at : (u : Update) (us : List Update) (q : PrefixView) (word : Word) (before : List Update) (update : Update) (behind : List Update) → u ∷ us ≡ before ++ update ∷ behind
    → Says update q word → Silent q behind → IsLastMention us q word ⊎ (Says u q word × Silent q us)
last_split_at u us q word [] update behind whole says last =
    let first : update ≡ u = cc in
    let rest : behind ≡ us = cc in
    inr (subst (λ (v : Update). Says v q word) first says, subst (Silent q) rest last)
last_split_at u us q word (x ∷ before) update behind whole says last =
    let rest : us ≡ before ++ update ∷ behind = cc in
    inl (record { before = before; update = update; behind = behind; whole = rest; says = says; last = last })

last_split : (u : Update) (us : List Update) (q : PrefixView) (word : Word) → IsLastMention (u ∷ us) q word → IsLastMention us q word ⊎ (Says u q word × Silent q us)
last_split u us q word m = last_split_at u us q word m.before m.update m.behind m.whole m.says m.last

-- what holds of all holds of one in the middle
all_middle : (P : Update → Type 0) (before behind : List Update) (u : Update) → All P (before ++ u ∷ behind) → P u
all_middle P [] behind u all = All-head P u behind all
all_middle P (x ∷ before) behind u all = all_middle P before behind u (All-tail P x (before ++ u ∷ behind) all)

not_silent : (us : List Update) (q : PrefixView) (word : Word) → IsLastMention us q word → Silent q us → ⊥
not_silent us q word m silent =
    all_middle (λ (u : Update). Mentions u q → ⊥) m.before m.behind m.update (subst (Silent q) m.whole silent) (says_mentions m.update q word m.says)

one_mention : (us : List Update) (q : PrefixView) (a b : Word) → IsLastMention us q a → IsLastMention us q b → a ≡ b
one_mention [] q a b x y = absurd (let size = ap length x.whole in omega (arith, size, length-append x.before (x.update ∷ x.behind)))
one_mention (u ∷ us) q a b x y = elim (last_split u us q a x) [
  | inl m ↦ elim (last_split u us q b y) [ inl n ↦ one_mention us q a b m n | inr n ↦ absurd (not_silent us q a m n.1) ]
  | inr m ↦ elim (last_split u us q b y) [ inl n ↦ absurd (not_silent us q b n m.1) | inr n ↦ says_once u q a b m.0 n.0 ]
]

pub one_last_word : OneLastWord
one_last_word us q a b (inl x) (inl y) = one_mention us q a b x y
one_last_word us q a b (inl x) (inr y) = absurd (not_silent us q a x y.0)
one_last_word us q a b (inr x) (inl y) = absurd (not_silent us q b y x.0)
one_last_word us q a b (inr x) (inr y) = x.1 ∙ sym y.1

-- ---- as functions

word_says : (w : Word) (u : Update) (q : PrefixView) → (Mentions u q × Says u q (word_after w u q)) ⊎ ((Mentions u q → ⊥) × (word_after w u q ≡ w))
word_says w u q = elim (cases_Bool (lists u.nlri q)) [
  | inl t ↦
      let a : Announces u q = (decides_lists u.nlri q).0 t in
      inl (inl a, inl (a, cond-true (lists u.nlri q) (announced_word u.attrs) (cond (lists u.withdrawn q) nothing w) t))
  | inr f ↦
      let none : Announces u q → ⊥ = not_from_Decides (lists u.nlri q) (decides_lists u.nlri q) f in
      let rest = cond-false (lists u.nlri q) (announced_word u.attrs) (cond (lists u.withdrawn q) nothing w) f in
      elim (cases_Bool (lists u.withdrawn q)) [
        | inl t ↦ let b : Withdraws u q = (decides_lists u.withdrawn q).0 t in inl (inr b, inr (none, b, rest ∙ cond-true (lists u.withdrawn q) nothing w t))
        | inr g ↦
            let silent : Withdraws u q → ⊥ = not_from_Decides (lists u.withdrawn q) (decides_lists u.withdrawn q) g in
            inr ((λ m. elim m [ inl a ↦ none a | inr b ↦ silent b ]), rest ∙ cond-false (lists u.withdrawn q) nothing w g)
      ]
]

pub word_follows : WordFollows
word_follows origins old new peer u applies q name = elim (word_says (word_of old peer q) u q) [
  | inl says ↦ applies.said q (word_after (word_of old peer q) u q) name says.1
  | inr silent ↦ applies.unsaid q silent.0 ∙ sym silent.1
]

pub words_follow : WordsFollow
words_follow origins old new peer [] all q name = all peer q
words_follow origins old new peer (u ∷ us) all q name =
    words_follow origins all.0 new peer us all.2 q name ∙ ap (λ (w : Word). last_word w us q) (word_follows origins old all.0 peer u all.1 q name)

-- the word after a list is that of its last mention, or the one before where none mentions the prefix
last_or_before : (w : Word) (us : List Update) (q : PrefixView) → IsLastMention us q (last_word w us q) ⊎ (Silent q us × (last_word w us q ≡ w))
last_or_before w [] q = inr (All-nil (λ (u : Update). Mentions u q → ⊥), refl)
last_or_before w (u ∷ us) q = elim (last_or_before (word_after w u q) us q) [
  | inl m ↦ inl (record { before = u ∷ m.before; update = m.update; behind = m.behind; whole = ap (λ (vs : List Update). u ∷ vs) m.whole; says = m.says; last = m.last })
  | inr n ↦ elim (word_says w u q) [
    | inl here ↦ inl (record { before = []; update = u; behind = us; whole = refl; says = subst (Says u q) (sym n.1) here.1; last = n.0 })
    | inr none ↦ inr (All-cons (λ (v : Update). Mentions v q → ⊥) u us none.0 n.0, n.1 ∙ none.1)
  ]
]

pub last_is_last_mention : LastIsLastMention
last_is_last_mention us q = last_or_before nothing us q
