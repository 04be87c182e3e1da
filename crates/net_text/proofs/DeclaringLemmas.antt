-- What the lines of a network text name is what the network has.
use Rattle.std.proofs.Common.{◌≡◌, ℕ, ◌+◌, ◌==◌, Bool, true, false, cond, List, [], ◌∷◌, ◌++◌, map, Result, Ok, Err, refl, sym, ap, subst, ◌∙◌, inl, inr}
use Rattle.std.specs.Prelude.{codes, ◌↔◌}
use mathlib.Core.Logic.{◌⊎◌}
use Rattle.prefix_lanes.specs.Bits.{PrefixView}
use Rattle.ranked_policy.specs.declared.network.NetRouter.{NetRouter}
use Rattle.ranked_policy.specs.declared.network.Link.{Link}
use Rattle.ranked_policy.specs.declared.network.Origin.{Origin}
use Rattle.ranked_policy.specs.declared.network.RankRule.{RankRule}
use Rattle.ranked_policy.specs.Plans.{Plan}
use Rattle.ranked_policy.specs.Adding.{with_link}
use Rattle.bgp_values.specs.declared.width.Width.TheVariants.{Four}
use Rattle.net_text.specs.declared.code.Code.{Code}
use Rattle.net_text.specs.declared.network_so_far.NetworkSoFar.{NetworkSoFar}
use Rattle.net_text.specs.Lexing.{Text, same, words_of}
use Rattle.net_text.specs.Layout.{HasWords}
use Rattle.net_text.specs.Words.{asn_word, id_word, prefix_word}
use Rattle.net_text.specs.Lines.{among, new_router, is_below, with_router, new_origin, comes_before, with_origin, ruled, line_reading}
use Rattle.net_text.specs.Networks.{reading, then_on, empty_draft}
use Rattle.net_text.specs.Declaring.{AnyOf, NamesRouter, NamesLink, NamesOrigin, NetworksHaveWhatIsNamed}
use Rattle.net_text.proofs.LayoutLemmas.{words_stand_between_blanks}
use Rattle.net_text.proofs.AddingLemmas.{AddsTwo, other_word, adds}

-- ---- lists with one more

module _ {X : Type 0} (Is : X → Type 0) where
  among_by : (comes_first : X → X → Bool) (x item : X) (xs : List X) (b : Bool) → (AnyOf Is (among comes_first xs item) ↔ Is item ⊎ AnyOf Is xs)
      → AnyOf Is (cond b (x ∷ among comes_first xs item) (item ∷ x ∷ xs)) ↔ Is item ⊎ AnyOf Is (x ∷ xs)
  among_by comes_first x item xs true h = (
    λ k. elim k [ inl here ↦ inr (inl here) | inr there ↦ elim (h.0 there) [ inl new ↦ inl new | inr old ↦ inr (inr old) ] ],
    λ k. elim k [ inl new ↦ inr (h.1 (inl new)) | inr old ↦ elim old [ inl here ↦ inl here | inr there ↦ inr (h.1 (inr there)) ] ],
  )
  among_by comes_first x item xs false h = (λ k. k, λ k. k)

  among_has : (comes_first : X → X → Bool) (xs : List X) (item : X) → AnyOf Is (among comes_first xs item) ↔ Is item ⊎ AnyOf Is xs
  among_has comes_first [] item = (λ k. k, λ k. k)
  among_has comes_first (x ∷ xs) item = among_by comes_first x item xs (comes_first x item) (among_has comes_first xs item)

  behind_has : (xs : List X) (item : X) → AnyOf Is (xs ++ item ∷ []) ↔ Is item ⊎ AnyOf Is xs
  behind_has [] item = (λ k. k, λ k. k)
  behind_has (x ∷ xs) item =
      let h = behind_has xs item in (
        λ k. elim k [ inl here ↦ inr (inl here) | inr there ↦ elim (h.0 there) [ inl new ↦ inl new | inr old ↦ inr (inr old) ] ],
        λ k. elim k [ inl new ↦ inr (h.1 (inl new)) | inr old ↦ elim old [ inl here ↦ inl here | inr there ↦ inr (h.1 (inr there)) ] ],
      )

  map_has : (f : X → X) → ((x : X) → Is (f x) ↔ Is x) → (xs : List X) → AnyOf Is (map f xs) ↔ AnyOf Is xs
  map_has f h [] = (λ k. k, λ k. k)
  map_has f h (x ∷ xs) =
      let rest = map_has f h xs in (
        λ k. elim k [ inl here ↦ inl ((h x).0 here) | inr there ↦ inr (rest.0 there) ],
        λ k. elim k [ inl here ↦ inl ((h x).1 here) | inr there ↦ inr (rest.1 there) ],
      )

-- ---- one thing, line by line

-- what a draft has of one kind, and which lines name one
module _ {X : Type 0} (Is : X → Type 0) (items : NetworkSoFar → List X) (Names : Text → Type 0) where
  -- a line adds it, where it names it
  abbrev Goes : Type 0
  Goes = (d e : NetworkSoFar) (line : Text) → line_reading d line ≡ Ok e → AnyOf Is (items e) ↔ (AnyOf Is (items d) ⊎ Names line)

  unchanged : (d e : NetworkSoFar) (line : Text) → items e ≡ items d → (Names line → ⊥) → AnyOf Is (items e) ↔ (AnyOf Is (items d) ⊎ Names line)
  unchanged d e line same none = (
    λ k. inl (subst (AnyOf Is) same k),
    λ k. elim k [ inl old ↦ subst (AnyOf Is) (sym same) old | inr new ↦ absurd (none new) ],
  )

  gained : (d e : NetworkSoFar) (line : Text) (item : X) → (AnyOf Is (items e) ↔ Is item ⊎ AnyOf Is (items d)) → (Is item ↔ Names line) → AnyOf Is (items e) ↔ (AnyOf Is (items d) ⊎ Names line)
  gained d e line item has names = (
    λ k. elim (has.0 k) [ inl new ↦ inr (names.0 new) | inr old ↦ inl old ],
    λ k. elim k [ inl old ↦ has.1 (inr old) | inr new ↦ has.1 (inl (names.1 new)) ],
  )

  module _ (goes : Goes) where
    lines_by : (d end : NetworkSoFar) (before : ℕ) (line : Text) (lines : List Text) (r : Result NetworkSoFar Code) → line_reading d line ≡ r
        → ((e : NetworkSoFar) → reading (λ at x words. line_reading x words) (before + 1) e lines ≡ Ok end → AnyOf Is (items end) ↔ (AnyOf Is (items e) ⊎ AnyOf Names lines))
        → then_on (before + 1) r (λ e. reading (λ at x words. line_reading x words) (before + 1) e lines) ≡ Ok end
        → AnyOf Is (items end) ↔ (AnyOf Is (items d) ⊎ (Names line ⊎ AnyOf Names lines))
    lines_by d end before line lines (Err code) is rest h = absurd cc
    lines_by d end before line lines (Ok e) is rest h =
        let here = goes d e line is in
        let there = rest e h in (
          λ k. elim (there.0 k) [ inl one ↦ elim (here.0 one) [ inl old ↦ inl old | inr new ↦ inr (inl new) ] | inr later ↦ inr (inr later) ],
          λ k. elim k [
            | inl old ↦ there.1 (inl (here.1 (inl old)))
            | inr named ↦ elim named [ inl new ↦ there.1 (inl (here.1 (inr new))) | inr later ↦ there.1 (inr later) ]
          ],
        )

    all_lines : (lines : List Text) (d end : NetworkSoFar) (before : ℕ) → reading (λ at x words. line_reading x words) before d lines ≡ Ok end
        → AnyOf Is (items end) ↔ (AnyOf Is (items d) ⊎ AnyOf Names lines)
    all_lines [] d end before h =
        let same_draft : d ≡ end = cc in (
          λ k. inl (subst (λ (x : NetworkSoFar). AnyOf Is (items x)) (sym same_draft) k),
          λ k. elim k [ inl old ↦ subst (λ (x : NetworkSoFar). AnyOf Is (items x)) same_draft old | inr none ↦ absurd none ],
        )
    all_lines (line ∷ lines) d end before h = lines_by d end before line lines (line_reading d line) refl (λ e k. all_lines lines e end (before + 1) k) h

    from_nothing : (lines : List Text) (d end : NetworkSoFar) (before : ℕ) → items d ≡ [] → reading (λ at x words. line_reading x words) before d lines ≡ Ok end → AnyOf Is (items end) ↔ AnyOf Names lines
    from_nothing lines d end before none h =
        let all = all_lines lines d end before h in (
          λ k. elim (all.0 k) [ inl old ↦ absurd (subst (AnyOf Is) none old) | inr named ↦ named ],
          λ k. all.1 (inr k),
        )

-- ---- words that name it

here_words : (line : Text) (words : List Text) → HasWords line words → words ≡ words_of line
here_words line words h = (words_stand_between_blanks line words).1 h

has_words : (line : Text) (words : List Text) → words_of line ≡ words → HasWords line words
has_words line words e = (words_stand_between_blanks line words).0 (sym e)

-- two words behind the first, read in one way
two_words : (c a b x y : Text) → c ∷ a ∷ b ∷ [] ≡ c ∷ x ∷ y ∷ [] → (a ≡ x) × (b ≡ y)
two_words c a b x y e = (cc, cc)

one_reading : {X : Type 0} (read : Text → Result X Code) (a x : Text) (u v : X) → a ≡ x → read a ≡ Ok u → read x ≡ Ok v → u ≡ v
one_reading read a x u v e h k =
    let same_answer = sym h ∙ ap read e ∙ k in
    cc

-- a word, then two words that are read as these
module _ {X Y : Type 0} (word : Text) (read : Text → Result X Code) (read_other : Text → Result Y Code) (x : X) (y : Y) where
  abbrev NamesTwo : Text → Type 0
  NamesTwo line = (a : Text) × (b : Text) × HasWords line (word ∷ a ∷ b ∷ []) × (read a ≡ Ok x) × (read_other b ≡ Ok y)

  names_two : (make : X → Y → NetworkSoFar) (line : Text) (e : NetworkSoFar) (h : AddsTwo word read read_other make e (words_of line)) → (h.x ≡ x) × (h.y ≡ y) ↔ NamesTwo line
  names_two make line e h = (
    λ k. (h.a, h.b, has_words line _ h.are, h.one ∙ ap (λ (n : X). Ok n) k.0, h.other ∙ ap (λ (n : Y). Ok n) k.1),
    λ k. let same_words = two_words word h.a h.b k.0 k.1 (sym h.are ∙ sym (here_words line _ k.2)) in
        (one_reading read h.a k.0 h.x x same_words.0 h.one k.3, one_reading read_other h.b k.1 h.y y same_words.1 h.other k.4),
  )

  not_named : same word word ≡ true → (line other : Text) (rest : List Text) → words_of line ≡ other ∷ rest → same other word ≡ false → NamesTwo line → ⊥
  not_named fits line other rest is differs k = other_word other word rest (k.0 ∷ k.1 ∷ []) differs fits (sym is ∙ sym (here_words line _ k.2))

-- ---- routers

ruled_by : (u id v : ℕ) (rule : RankRule) (r : NetRouter) (b : Bool) → ((cond b (record r { rules = r.rules ++ rule ∷ [] }) r).asn ≡ u) × ((cond b (record r { rules = r.rules ++ rule ∷ [] }) r).id ≡ id) ↔ (r.asn ≡ u) × (r.id ≡ id)
ruled_by u id v rule r true = (λ k. k, λ k. k)
ruled_by u id v rule r false = (λ k. k, λ k. k)

module _ (u id : ℕ) where
  abbrev IsIt : NetRouter → Type 0
  IsIt r = (r.asn ≡ u) × (r.id ≡ id)

  router_goes : Goes IsIt (λ d. d.net.routers) (NamesRouter u id)
  router_goes d e line h =
      elim (adds d e line h) [
        | inl r ↦ gained IsIt (λ d. d.net.routers) (NamesRouter u id) d e line (new_router r.x r.y)
            (subst (λ (x : NetworkSoFar). AnyOf IsIt x.net.routers ↔ IsIt (new_router r.x r.y) ⊎ AnyOf IsIt d.net.routers) r.new (among_has IsIt is_below d.net.routers (new_router r.x r.y)))
            (names_two (codes "router") (asn_word Four) id_word u id (with_router d) line e r)
        | inr k ↦ elim k [
          | inl l ↦ unchanged IsIt (λ d. d.net.routers) (NamesRouter u id) d e line (ap (λ (x : NetworkSoFar). x.net.routers) (sym l.new)) (not_named (codes "router") (asn_word Four) id_word u id refl line _ _ l.are refl)
          | inr k ↦ elim k [
            | inl o ↦ unchanged IsIt (λ d. d.net.routers) (NamesRouter u id) d e line (ap (λ (x : NetworkSoFar). x.net.routers) (sym o.new)) (not_named (codes "router") (asn_word Four) id_word u id refl line _ _ o.are refl)
            | inr k ↦ elim k [
              | inl r ↦ (
                  let kept = map_has IsIt (ruled r.u (record { prefix = r.q; paths = r.paths })) (λ x. ruled_by u id r.u (record { prefix = r.q; paths = r.paths }) x (x.asn == r.u)) d.net.routers in
                  let all = subst (λ (x : NetworkSoFar). AnyOf IsIt x.net.routers ↔ AnyOf IsIt d.net.routers) r.new kept in
                  (λ has. inl (all.0 has), λ has. elim has [ inl old ↦ all.1 old | inr new ↦ absurd (not_named (codes "router") (asn_word Four) id_word u id refl line _ _ r.are refl new) ])
                  )
              | inr n ↦ unchanged IsIt (λ d. d.net.routers) (NamesRouter u id) d e line (ap (λ (x : Plan). x.routers) n.new) (λ k. n.router k.0 k.1 (sym (here_words line _ k.2)))
            ]
          ]
        ]
      ]

-- ---- links

module _ (u v : ℕ) where
  abbrev IsThat : Link → Type 0
  IsThat l = (l.one ≡ u) × (l.other ≡ v)

  link_goes : Goes IsThat (λ d. d.net.links) (NamesLink u v)
  link_goes d e line h =
      elim (adds d e line h) [
        | inl r ↦ unchanged IsThat (λ d. d.net.links) (NamesLink u v) d e line (ap (λ (x : NetworkSoFar). x.net.links) (sym r.new)) (not_named (codes "link") (asn_word Four) (asn_word Four) u v refl line _ _ r.are refl)
        | inr k ↦ elim k [
          | inl l ↦ gained IsThat (λ d. d.net.links) (NamesLink u v) d e line (record { one = l.x; other = l.y })
              (subst (λ (x : NetworkSoFar). AnyOf IsThat x.net.links ↔ IsThat (record { one = l.x; other = l.y }) ⊎ AnyOf IsThat d.net.links) l.new (behind_has IsThat d.net.links (record { one = l.x; other = l.y })))
              (names_two (codes "link") (asn_word Four) (asn_word Four) u v (λ a b. record d { net = with_link d.net a b }) line e l)
          | inr k ↦ elim k [
            | inl o ↦ unchanged IsThat (λ d. d.net.links) (NamesLink u v) d e line (ap (λ (x : NetworkSoFar). x.net.links) (sym o.new)) (not_named (codes "link") (asn_word Four) (asn_word Four) u v refl line _ _ o.are refl)
            | inr k ↦ elim k [
              | inl r ↦ unchanged IsThat (λ d. d.net.links) (NamesLink u v) d e line (ap (λ (x : NetworkSoFar). x.net.links) (sym r.new)) (not_named (codes "link") (asn_word Four) (asn_word Four) u v refl line _ _ r.are refl)
              | inr n ↦ unchanged IsThat (λ d. d.net.links) (NamesLink u v) d e line (ap (λ (x : Plan). x.links) n.new) (λ k. n.link k.0 k.1 (sym (here_words line _ k.2)))
            ]
          ]
        ]
      ]

-- ---- origins

module _ (u : ℕ) (q : PrefixView) where
  abbrev IsHere : Origin → Type 0
  IsHere o = (o.router ≡ u) × (o.prefix ≡ q)

  origin_goes : Goes IsHere (λ d. d.net.origins) (NamesOrigin u q)
  origin_goes d e line h =
      elim (adds d e line h) [
        | inl r ↦ unchanged IsHere (λ d. d.net.origins) (NamesOrigin u q) d e line (ap (λ (x : NetworkSoFar). x.net.origins) (sym r.new)) (not_named (codes "origin") (asn_word Four) prefix_word u q refl line _ _ r.are refl)
        | inr k ↦ elim k [
          | inl l ↦ unchanged IsHere (λ d. d.net.origins) (NamesOrigin u q) d e line (ap (λ (x : NetworkSoFar). x.net.origins) (sym l.new)) (not_named (codes "origin") (asn_word Four) prefix_word u q refl line _ _ l.are refl)
          | inr k ↦ elim k [
            | inl o ↦ gained IsHere (λ d. d.net.origins) (NamesOrigin u q) d e line (new_origin o.x o.y)
                (subst (λ (x : NetworkSoFar). AnyOf IsHere x.net.origins ↔ IsHere (new_origin o.x o.y) ⊎ AnyOf IsHere d.net.origins) o.new (among_has IsHere comes_before d.net.origins (new_origin o.x o.y)))
                (names_two (codes "origin") (asn_word Four) prefix_word u q (with_origin d) line e o)
            | inr k ↦ elim k [
              | inl r ↦ unchanged IsHere (λ d. d.net.origins) (NamesOrigin u q) d e line (ap (λ (x : NetworkSoFar). x.net.origins) (sym r.new)) (not_named (codes "origin") (asn_word Four) prefix_word u q refl line _ _ r.are refl)
              | inr n ↦ unchanged IsHere (λ d. d.net.origins) (NamesOrigin u q) d e line (ap (λ (x : Plan). x.origins) n.new) (λ k. n.origin k.0 k.1 (sym (here_words line _ k.2)))
            ]
          ]
        ]
      ]

pub networks_have_what_is_named : NetworksHaveWhatIsNamed
networks_have_what_is_named lines net h =
    let end : NetworkSoFar = record { named = h.named; net = net } in
    record {
      routers = λ u id. from_nothing (IsIt u id) (λ d. d.net.routers) (NamesRouter u id) (router_goes u id) lines (empty_draft lines) end 0 refl h.whole;
      links = λ u v. from_nothing (IsThat u v) (λ d. d.net.links) (NamesLink u v) (link_goes u v) lines (empty_draft lines) end 0 refl h.whole;
      origins = λ u q. from_nothing (IsHere u q) (λ d. d.net.origins) (NamesOrigin u q) (origin_goes u q) lines (empty_draft lines) end 0 refl h.whole;
    }
