-- Values that settle: where all of a level have settled, its places follow together.
use Rattle.std.proofs.Common.{◌≡◌, ◌≢◌, ℕ, ◌<◌, ◌≤◌, ◌+◌, ◌-◌, ◌*◌, ◌%◌, ◌^◌, List, length, get_or, set, refl, sym, ap, subst, ◌∙◌, arith, inl, inr}
use Rattle.std.specs.Prelude.{◌↔◌}
use Rattle.std.specs.Int.{bit_at, w64}
use Rattle.std.specs.Int.RustNames.{bit_or, bit_xor}
use lib.Bits.{bit_and}
use Rattle.std.proofs.lemmas.Bool.{cases_eq}
use Rattle.std.proofs.lemmas.Nat.{or_comm}
use Rattle.std.proofs.lemmas.List.{length-set, get_or-set_same, get_or-set_other}
use Rattle.std.proofs.lemmas.Nat.Bits.{bit_at-zero, bit_at_clear_other, bit_at_set_same, bit_at_set_other}
use Rattle.stable_search.specs.declared.way.Way.{Way}
use Rattle.stable_search.specs.Following.{FitsTo, IsOnlyFit, Answers, FitsLevel, FollowTogether, IsBesides, IsNear, AreAlike, Tells, IsSettled, Settles}
use Rattle.stable_search.specs.Picks.{Has, IsIn}
use Rattle.stable_search.proofs.FollowLemmas.{has_common}
use Rattle.stable_search.proofs.KeepLemmas.{has_both, has_either}
use Rattle.stable_search.proofs.PickLemmas.{falls}

has_none : (v : ℕ) → Has 0 v → ⊥
has_none v h = (let z = bit_at-zero v in omega (arith, z, h))

-- ---- sets

-- the other values, but for settled ones
pub rivals_left : (values settled value : ℕ) → value < 64 → (rival : ℕ) → rival < 64 → Has values rival → (Has settled rival → ⊥) → (rival ≢ value)
    → Has (bit_and (bit_xor values (bit_and values settled)) (18446744073709551615 - 1 * 2 ^ value % 18446744073709551616)) rival
rivals_left values settled value low rival below has not apart =
    let loose : ℕ = bit_xor values (bit_and values settled) in
    let stays : Has loose rival = elim ((falls values settled).either rival has) [
      | inl there ↦ there
      | inr gone ↦ absurd (not ((has_common values settled rival).0 gone).1)
    ] in
    bit_at_clear_other w64 loose value low rival below apart ∙ stays

-- one value more of a place
module _ (settled : List ℕ) (place value : ℕ) where
  abbrev one_more : ℕ
  one_more = bit_or (get_or settled place 0) (1 * 2 ^ value % 18446744073709551616)

  abbrev added_to : List ℕ
  added_to = set settled place one_more

  pub settled_on : place < length settled → value < 64 → IsSettled settled place value added_to
  settled_on lt low = record {
    size = length-set settled place one_more;
    exact = λ other theirs. elim (cases_eq other place) [
      | inl same ↦
          let here : get_or added_to other 0 ≡ one_more = ap (λ (n : ℕ). get_or added_to n 0) same ∙ get_or-set_same settled place one_more 0 lt in
          let was : get_or settled other 0 ≡ get_or settled place 0 = ap (λ (n : ℕ). get_or settled n 0) same in
          elim (cases_eq theirs value) [
            | inl is ↦ (
              (λ h. inr (same, is)),
              (λ h. subst (λ (n : ℕ). Has n theirs) (sym here) (subst (Has one_more) (sym is) (bit_at_set_same w64 (get_or settled place 0) value low))),
            )
            | inr not ↦
                let keeps : bit_at one_more theirs ≡ bit_at (get_or settled place 0) theirs = bit_at_set_other w64 (get_or settled place 0) value low theirs not in (
                  (λ h. inl (subst (λ (n : ℕ). Has n theirs) (sym was) (sym keeps ∙ subst (λ (n : ℕ). Has n theirs) here h))),
                  (λ h. elim h [
                    | inl old ↦ subst (λ (n : ℕ). Has n theirs) (sym here) (keeps ∙ subst (λ (n : ℕ). Has n theirs) was old)
                    | inr added ↦ absurd (not added.1)
                  ]),
                )
          ]
      | inr differ ↦
          let other_is : get_or added_to other 0 ≡ get_or settled other 0 = get_or-set_other settled place other one_more 0 differ in (
            (λ h. inl (subst (λ (n : ℕ). Has n theirs) other_is h)),
            (λ h. elim h [
              | inl old ↦ subst (λ (n : ℕ). Has n theirs) (sym other_is) old
              | inr added ↦ absurd (differ added.0)
            ]),
          )
    ];
  }

-- ---- the values that fit one, and what fits them

module _ (end : Way) (theirs value : ℕ) where
  pub record BesidesBelow (n partners rivals : ℕ) : Type 0 where
    pub partner : (their : ℕ) → their < n → Has theirs their → Has (get_or end.fits.items their 0) value → Has partners their
    pub rival : (their : ℕ) → their < n → Has theirs their → Has (get_or end.fits.items their 0) value
        → (other : ℕ) → Has (get_or end.fits.items their 0) other → Has rivals other

  pub besides_start : (partners rivals : ℕ) → BesidesBelow 0 partners rivals
  besides_start partners rivals = record {
    partner = λ t lt. absurd (omega (arith, lt));
    rival = λ t lt. absurd (omega (arith, lt));
  }

  pub besides_on : (n partners rivals fits more all : ℕ) → n < 64 → fits ≡ get_or end.fits.items n 0 → more ≡ bit_or partners (1 * 2 ^ n % 18446744073709551616) → all ≡ bit_or rivals fits
      → BesidesBelow n partners rivals → BesidesBelow (n + 1) more all
  besides_on n partners rivals fits more all low is more_is all_is b = record {
    partner = λ t lt has fit. subst (λ (m : ℕ). Has m t) (sym more_is) (elim (cases_eq t n) [
      | inl same ↦ subst (Has (bit_or partners (1 * 2 ^ n % 18446744073709551616))) (sym same) (bit_at_set_same w64 partners n low)
      | inr differ ↦ has_either partners (1 * 2 ^ n % 18446744073709551616) t (b.partner t (omega (arith, lt, differ)) has fit)
    ]);
    rival = λ t lt has fit other fits_other. subst (λ (m : ℕ). Has m other) (sym all_is) (elim (cases_eq t n) [
      | inl same ↦
          let here : Has fits other = subst (λ (m : ℕ). Has m other) (ap (λ (k : ℕ). get_or end.fits.items k 0) same ∙ sym is) fits_other in
          subst (λ (m : ℕ). Has m other) (or_comm fits rivals) (has_either fits rivals other here)
      | inr differ ↦ has_either rivals fits other (b.rival t (omega (arith, lt, differ)) has fit other fits_other)
    ]);
  }

  pub besides_skip : (n partners rivals fits : ℕ) → fits ≡ get_or end.fits.items n 0 → (Has theirs n → Has fits value → ⊥) → BesidesBelow n partners rivals → BesidesBelow (n + 1) partners rivals
  besides_skip n partners rivals fits is not b = record {
    partner = λ t lt has fit. elim (cases_eq t n) [
      | inl same ↦ absurd (gone t same has fit)
      | inr differ ↦ b.partner t (omega (arith, lt, differ)) has fit
    ];
    rival = λ t lt has fit. elim (cases_eq t n) [
      | inl same ↦ absurd (gone t same has fit)
      | inr differ ↦ b.rival t (omega (arith, lt, differ)) has fit
    ];
  }
    where
      gone : (t : ℕ) → t ≡ n → Has theirs t → Has (get_or end.fits.items t 0) value → ⊥
      gone t same has fit = not (subst (Has theirs) same has) (subst (λ (m : ℕ). Has m value) (ap (λ (k : ℕ). get_or end.fits.items k 0) same ∙ sym is) fit)

  pub besides_all : (n partners rivals : ℕ) → 64 ≤ n → BesidesBelow n partners rivals → IsBesides end theirs value partners rivals
  besides_all n partners rivals le b = record {
    partner = λ t lt. b.partner t (omega (arith, lt, le));
    rival = λ t lt. b.rival t (omega (arith, lt, le));
  }

-- ---- what is told

module _ (ends : List Way) (sets levels settled : List ℕ) (place value : ℕ) where
  -- each rival that fits is left
  abbrev pub KeepsRivals : ℕ → Type 0
  KeepsRivals left =
      (one other : List ℕ) → IsIn sets one → IsIn sets other → AreAlike levels (get_or levels place 0) settled one other
      → FitsTo ends place one value → (rival : ℕ) → rival < 64 → Has (get_or sets place 0) rival
      → (Has (get_or settled place 0) rival → ⊥) → (rival ≢ value) → FitsTo ends place other rival → Has left rival

  pub rivals_on : length levels ≡ length sets → (left partners rivals k : ℕ) (end : Way) → k < length ends → end ≡ get_or ends k end → (end.from < length sets) → (end.to ≡ place) × (end.from ≢ place)
      → IsBesides end (get_or sets end.from 0) value partners rivals → IsNear levels settled place partners end → KeepsRivals left → KeepsRivals (bit_and left rivals)
  rivals_on size left partners rivals k end lt is from heard besides near keeps one other one_in other_in alike fits rival below has not apart rival_fits =
      let at : get_or ends k end ≡ end = sym is in
      let u : ℕ = get_or one end.from 0 in
      let mine : Has (get_or end.fits.items u 0) value =
      subst (λ (w : Way). Has (get_or w.fits.items (get_or one w.from 0) 0) value) at (fits k end lt (subst (λ (w : Way). (w.to ≡ place) × (w.from ≢ place)) is heard)) in
      let theirs : Has (get_or end.fits.items (get_or other end.from 0) 0) rival =
      subst (λ (w : Way). Has (get_or w.fits.items (get_or other w.from 0) 0) rival) at (rival_fits k end lt (subst (λ (w : Way). (w.to ≡ place) × (w.from ≢ place)) is heard)) in
      let inside : Has (get_or sets end.from 0) u = one_in.each end.from from in
      let low : u < 64 = one_in.low end.from in
      let in_levels : end.from < length levels = omega (arith, from, size) in
      let same : get_or other end.from 0 ≡ u = elim near [
        | inl less ↦ sym (alike.low end.from in_levels less)
        | inr level ↦ (alike.same end.from in_levels level.0 u (level.1 u (besides.partner u low inside mine))).0 refl
      ] in
      has_both left rivals rival (keeps one other one_in other_in alike fits rival below has not apart rival_fits)
      (besides.rival u low inside mine rival (subst (λ (n : ℕ). Has (get_or end.fits.items n 0) rival) same theirs))

  pub rivals_none : (left : ℕ) → left ≡ 0 → KeepsRivals left → Tells ends sets levels settled place value
  rivals_none left none keeps one other one_in other_in alike fits rival below has not apart rival_fits =
      has_none rival (subst (λ (n : ℕ). Has n rival) none (keeps one other one_in other_in alike fits rival below has not apart rival_fits))

-- ---- values that settle

module _ (ends : List Way) (sets levels : List ℕ) (size : length levels ≡ length sets) (level : ℕ) where
  pub settles_start : (settled : List ℕ) → length settled ≡ length sets → ((i : ℕ) → get_or settled i 0 ≡ 0) → Settles ends sets levels level settled
  settles_start settled long zero = record {
    size = long ∙ sym size;
    low = λ place value h. absurd (none place value h);
    agree = λ one other one_in other_in alike place lt own value h. absurd (none place value h);
    alike = λ one other one_in other_in same one_fits other_fits. record {
      low = same;
      same = λ place lt own value h. absurd (none place value h);
    };
    halfway = λ pick inside. record {
      more = pick;
      inside = inside;
      same = λ place differ. refl;
      fits = λ place lt own value h. absurd (none place value h);
    };
  }
    where
      none : (place value : ℕ) → Has (get_or settled place 0) value → ⊥
      none place value h = has_none value (subst (λ (n : ℕ). Has n value) (zero place) h)

  alike_back : (settled one other : List ℕ) → AreAlike levels level settled one other → AreAlike levels level settled other one
  alike_back settled one other a = record {
    low = λ place lt under. sym (a.low place lt under);
    same = λ place lt own value h. (let x = a.same place lt own value h in (x.1, x.0));
  }

  module _ (answers : (place : ℕ) → place < length sets → get_or levels place 0 ≡ level → Answers ends sets place)
      (settled : List ℕ) (s : Settles ends sets levels level settled) (place value : ℕ) (lt : place < length sets) (own : get_or levels place 0 ≡ level)
      (low : value < 64) (has : Has (get_or sets place 0) value) (tells : Tells ends sets levels settled place value) where
    inside : place < length levels
    inside = omega (arith, lt, size)

    -- two values that fit one pick are one
    one_fits : (pick : List ℕ) → IsIn sets pick → (a b : ℕ) → a < 64 → b < 64 → Has (get_or sets place 0) a → Has (get_or sets place 0) b → FitsTo ends place pick a → FitsTo ends place pick b → a ≡ b
    one_fits pick pick_in a b alow blow ahas bhas afits bfits =
        let best = answers place lt own pick pick_in in
        best.alone a alow ahas afits ∙ sym (best.alone b blow bhas bfits)

    -- where the value fits a pick, it fits one that is alike
    told : (one other : List ℕ) → IsIn sets one → IsIn sets other → AreAlike levels level settled one other → FitsTo ends place one value → FitsTo ends place other value
    told one other one_in other_in alike fits =
        let best = answers place lt own other other_in in
        elim (cases_eq best.value value) [
          | inl same ↦ subst (FitsTo ends place other) same best.fits
          | inr differ ↦ elim (cases_eq (bit_at (get_or settled place 0) best.value) 1) [
            | inl known ↦
                let back = s.agree other one other_in one_in (alike_back settled one other alike) place inside own best.value known best.fits in
                absurd (differ (one_fits one one_in best.value value best.below low best.has has back fits))
            | inr loose ↦
                absurd (tells one other one_in other_in (subst (λ (m : ℕ). AreAlike levels m settled one other) (sym own) alike) fits best.value best.below best.has loose differ best.fits)
          ]
        ]

    module _ (new : List ℕ) (is : IsSettled settled place value new) where
      -- what is alike in more is alike in less
      less : (one other : List ℕ) → AreAlike levels level new one other → AreAlike levels level settled one other
      less one other a = record {
        low = a.low;
        same = λ q qlt qown v h. a.same q qlt qown v ((is.exact q v).1 (inl h));
      }

      agree_on : (one other : List ℕ) → IsIn sets one → IsIn sets other → AreAlike levels level new one other → (q : ℕ) → q < length levels → get_or levels q 0 ≡ level → (v : ℕ)
          → Has (get_or new q 0) v → FitsTo ends q one v → FitsTo ends q other v
      agree_on one other one_in other_in alike q qlt qown v h fits = elim ((is.exact q v).0 h) [
        | inl old ↦ s.agree one other one_in other_in (less one other alike) q qlt qown v old fits
        | inr added ↦
            let here : FitsTo ends place one value = subst (λ (n : ℕ). FitsTo ends n one value) added.0 (subst (FitsTo ends q one) added.1 fits) in
            subst (FitsTo ends q other) (sym added.1) (subst (λ (n : ℕ). FitsTo ends n other value) (sym added.0) (told one other one_in other_in (less one other alike) here))
      ]

      -- the place has the value in both, where both fit
      both_have : (one other : List ℕ) → IsIn sets one → IsIn sets other → AreAlike levels level settled one other → FitsLevel ends levels level one → FitsLevel ends levels level other
          → get_or one place 0 ≡ value → get_or other place 0 ≡ value
      both_have one other one_in other_in alike one_level other_level e =
          one_fits other other_in (get_or other place 0) value (other_in.low place) low (other_in.each place lt) has (other_level place inside own)
          (told one other one_in other_in alike (subst (FitsTo ends place one) e (one_level place inside own)))

      alike_on : (one other : List ℕ) → IsIn sets one → IsIn sets other → ((q : ℕ) → q < length levels → get_or levels q 0 < level → get_or one q 0 ≡ get_or other q 0)
          → FitsLevel ends levels level one → FitsLevel ends levels level other → AreAlike levels level new one other
      alike_on one other one_in other_in same one_level other_level =
          let a = s.alike one other one_in other_in same one_level other_level in
          record {
            low = same;
            same = λ q qlt qown v h. elim ((is.exact q v).0 h) [
              | inl old ↦ a.same q qlt qown v old
              | inr added ↦
                  subst (λ (n : ℕ). get_or one n 0 ≡ v ↔ get_or other n 0 ≡ v) (sym added.0)
                  (subst (λ (w : ℕ). get_or one place 0 ≡ w ↔ get_or other place 0 ≡ w) (sym added.1)
                  (both_have one other one_in other_in a one_level other_level, both_have other one other_in one_in (alike_back settled one other a) other_level one_level))
            ];
          }

      module _ (pick : List ℕ) (pick_in : IsIn sets pick) (more : List ℕ) (more_in : IsIn sets more)
          (more_same : (q : ℕ) → (get_or levels q 0 ≢ level) → get_or more q 0 ≡ get_or pick q 0)
          (more_fits : (q : ℕ) → q < length levels → get_or levels q 0 ≡ level → (v : ℕ) → Has (get_or settled q 0) v → (get_or more q 0 ≡ v ↔ FitsTo ends q more v))
          (best : IsOnlyFit ends sets place more) where
        abbrev next : List ℕ
        next = set more place best.value

        at_place : get_or next place 0 ≡ best.value
        at_place = get_or-set_same more place best.value 0 (omega (arith, lt, more_in.size))

        elsewhere : (q : ℕ) → (q ≢ place) → get_or next q 0 ≡ get_or more q 0
        elsewhere q differ = get_or-set_other more place q best.value 0 differ

        next_in : IsIn sets next
        next_in = record {
          size = length-set more place best.value ∙ more_in.size;
          low = λ q. elim (cases_eq q place) [
            | inl same ↦ (let a : get_or next q 0 ≡ best.value = ap (λ (n : ℕ). get_or next n 0) same ∙ at_place in let b = best.below in omega (arith, a, b))
            | inr other ↦ (let a = elsewhere q other in let b = more_in.low q in omega (arith, a, b))
          ];
          each = λ q qlt. elim (cases_eq q place) [
            | inl same ↦
                let a : get_or next q 0 ≡ best.value = ap (λ (n : ℕ). get_or next n 0) same ∙ at_place in
                subst (Has (get_or sets q 0)) (sym a) (subst (λ (n : ℕ). Has (get_or sets n 0) best.value) (sym same) best.has)
            | inr other ↦ subst (Has (get_or sets q 0)) (sym (elsewhere q other)) (more_in.each q qlt)
          ];
        }

        -- the place keeps a settled value where it has one, and comes to none
        settled_same : (v : ℕ) → Has (get_or settled place 0) v → (get_or more place 0 ≡ v ↔ best.value ≡ v)
        settled_same v h =
            let known = s.low place v h in (
              (λ e. one_fits more more_in best.value v best.below known.0 best.has known.1 best.fits ((more_fits place inside own v h).0 e)),
              (λ e. (more_fits place inside own v h).1 (subst (FitsTo ends place more) e best.fits)),
            )

        next_alike : AreAlike levels level settled more next
        next_alike = record {
          low = λ q qlt under. sym (elsewhere q (λ same. (let a : get_or levels q 0 ≡ level = ap (λ (n : ℕ). get_or levels n 0) same ∙ own in omega (arith, a, under))));
          same = λ q qlt qown v h. elim (cases_eq q place) [
            | inl same ↦
                let x = settled_same v (subst (λ (n : ℕ). Has (get_or settled n 0) v) same h) in
                let now : get_or next q 0 ≡ best.value = ap (λ (n : ℕ). get_or next n 0) same ∙ at_place in
                let was : get_or more q 0 ≡ get_or more place 0 = ap (λ (n : ℕ). get_or more n 0) same in
                ((λ e. now ∙ x.0 (sym was ∙ e)), (λ e. was ∙ x.1 (sym now ∙ e)))
            | inr other ↦ (let a = elsewhere q other in ((λ e. a ∙ e), (λ e. sym a ∙ e)))
          ];
        }

        next_fits : (q : ℕ) → q < length levels → get_or levels q 0 ≡ level → (v : ℕ) → Has (get_or new q 0) v → (get_or next q 0 ≡ v ↔ FitsTo ends q next v)
        next_fits q qlt qown v h = elim ((is.exact q v).0 h) [
          | inl old ↦
              let a = next_alike.same q qlt qown v old in
              let f = more_fits q qlt qown v old in (
                (λ e. s.agree more next more_in next_in next_alike q qlt qown v old (f.0 (a.1 e))),
                (λ g. a.0 (f.1 (s.agree next more next_in more_in (alike_back settled more next next_alike) q qlt qown v old g))),
              )
          | inr added ↦
              subst (λ (n : ℕ). get_or next n 0 ≡ v ↔ FitsTo ends n next v) (sym added.0)
              (subst (λ (w : ℕ). get_or next place 0 ≡ w ↔ FitsTo ends place next w) (sym added.1) (
                (λ e. told more next more_in next_in next_alike (subst (FitsTo ends place more) (sym at_place ∙ e) best.fits)),
                (λ g.
                    at_place
                    ∙ one_fits more more_in best.value value best.below low best.has has best.fits (told next more next_in more_in (alike_back settled more next next_alike) g)),
              ))
        ]

        next_same : (q : ℕ) → (get_or levels q 0 ≢ level) → get_or next q 0 ≡ get_or pick q 0
        next_same q differ = elsewhere q (λ same. differ (ap (λ (n : ℕ). get_or levels n 0) same ∙ own)) ∙ more_same q differ

      pub settles_on : Settles ends sets levels level new
      settles_on = record {
        size = is.size ∙ s.size;
        low = λ q v h. elim ((is.exact q v).0 h) [
          | inl old ↦ s.low q v old
          | inr added ↦ (subst (λ (w : ℕ). w < 64) (sym added.1) low, subst (λ (n : ℕ). Has (get_or sets n 0) v) (sym added.0) (subst (Has (get_or sets place 0)) (sym added.1) has))
        ];
        agree = agree_on;
        alike = alike_on;
        halfway = λ pick pick_in.
            (let h = s.halfway pick pick_in in
            let best = answers place lt own h.more h.inside in
            record {
              more = set h.more place best.value;
              inside = next_in pick pick_in h.more h.inside h.same h.fits best;
              same = next_same pick pick_in h.more h.inside h.same h.fits best;
              fits = next_fits pick pick_in h.more h.inside h.same h.fits best;
            });
      }

  -- where all values of the level have settled, its places follow together
  pub all_settled : (settled : List ℕ) → Settles ends sets levels level settled
      → ((place value : ℕ) → place < length sets → get_or levels place 0 ≡ level → Has (get_or sets place 0) value → Has (get_or settled place 0) value) → FollowTogether ends sets levels level
  all_settled settled s all pick pick_in =
      let h = s.halfway pick pick_in in
      let here : (place : ℕ) → place < length levels → get_or levels place 0 ≡ level → Has (get_or settled place 0) (get_or h.more place 0) = λ place lt own.
      (let inside : place < length sets = omega (arith, lt, size) in all place (get_or h.more place 0) inside own (h.inside.each place inside)) in
      let fits : FitsLevel ends levels level h.more = λ place lt own. (h.fits place lt own (get_or h.more place 0) (here place lt own)).0 refl in
      record {
        more = h.more;
        inside = h.inside;
        same = h.same;
        fits = fits;
        alone = λ other other_in low other_fits place lt own.
            (let a = s.alike h.more other h.inside other_in (λ q qlt under. h.same q (λ e. omega (arith, e, under)) ∙ sym (low q qlt under)) fits other_fits in
            (a.same place lt own (get_or h.more place 0) (here place lt own)).0 refl);
      }
