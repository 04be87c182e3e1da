-- A stream splits in one way.
use Rattle.std.proofs.Common.{◌≡◌, ℕ, zero, suc, ◌+◌, ◌-◌, ◌≤◌, Bool, true, false, List, [], ◌∷◌, ◌++◌, length, take, drop, Option, Some, None, refl, sym, ap, ◌∙◌, append_assoc, arith, inl, inr, ◌⊎◌}
use Rattle.std.specs.Prelude.{nat_le}
use Rattle.std.specs.List.{concat, AllByRecursion}
use Rattle.std.proofs.lemmas.Bool.{leb-true, leb-false, le-leb}
use Rattle.std.proofs.lemmas.List.{take_at, drop_at, take-append-le, length-append, length-take, length-drop, take-append-drop}
use Rattle.std.proofs.lemmas.List.Folds.{concat-append}
use Rattle.bgp_codec.specs.declared.fault.Fault.{Fault}
use Rattle.bgp_codec.specs.Header.{header_fault, length_field, IsFrame, HeaderIsItsFront}
use Rattle.bgp_framing.specs.Frames.{Splits, SplitsOnce, SplitsInPieces, SplitsBehindAFrame, SplitsIntoNothing, IsPartial, RestIs}
use Rattle.std.specs.Prelude.{slice_range}
use Rattle.bgp_framing.specs.Held.{HasFrame, NextIsFirst}
use Rattle.bgp_framing.specs.declared.framer.Next.TheVariants.{Whole, More, Bad}
use Rattle.bgp_framing.proofs.FrontLemmas.{header_fault-take, length_field-take, is_whole}

all-append : (fs gs : List (List ℕ)) → AllByRecursion IsFrame fs → AllByRecursion IsFrame gs → AllByRecursion IsFrame (fs ++ gs)
all-append [] gs p q = q
all-append (f ∷ fs) gs p q = (p.0, all-append fs gs p.1 q)

pub pieces_law : SplitsInPieces
pieces_law a b fs gs r s first second = record {
  whole = ap (λ (x : List ℕ). x ++ b) first.whole ∙ append_assoc (concat fs) r b ∙ ap (λ (x : List ℕ). concat fs ++ x) second.whole
      ∙ sym (append_assoc (concat fs) (concat gs) s) ∙ ap (λ (x : List ℕ). x ++ s) (sym (concat-append fs gs));
  each = all-append fs gs first.each second.each;
  last = second.last;
}

-- ---- what a frame in front says of the octets

pub record HasFront (octets frame : List ℕ) : Type 0 where
  pub long : 19 ≤ length octets
  pub good : header_fault octets ≡ None
  pub field : length_field octets ≡ length frame
  pub enough : length frame ≤ length octets

module _ (front : HeaderIsItsFront) where
  pub front_of : (octets frame more : List ℕ) → IsFrame frame → octets ≡ frame ++ more → HasFront octets frame
  front_of octets frame more is e =
      let n = length frame in
      let cut : take n octets ≡ frame = ap (take n) e ∙ take_at frame more n refl in
      let size : length octets ≡ n + length more = ap length e ∙ length-append frame more in
      record {
        long = omega (arith, size, is.has_header);
        good = sym (header_fault-take front n octets is.has_header) ∙ ap header_fault cut ∙ is.good;
        field = sym (length_field-take front n octets is.has_header) ∙ ap length_field cut ∙ sym is.whole;
        enough = omega (arith, size);
      }

  -- two frames in front of one list are one
  same_front : (octets f g x y : List ℕ) → IsFrame f → IsFrame g → octets ≡ f ++ x → octets ≡ g ++ y → (f ≡ g) × (x ≡ y)
  same_front octets f g x y pf pg ef eg =
      let n : length g ≡ length f = sym (front_of octets g y pg eg).field ∙ (front_of octets f x pf ef).field in (
        sym (take_at f x (length f) refl) ∙ ap (take (length f)) (sym ef ∙ eg) ∙ take_at g y (length f) n,
        sym (drop_at f x (length f) refl) ∙ ap (drop (length f)) (sym ef ∙ eg) ∙ drop_at g y (length f) n,
      )

  only : (fs gs : List (List ℕ)) (r s : List ℕ) → AllByRecursion IsFrame fs → AllByRecursion IsFrame gs
      → ((f m : List ℕ) → IsFrame f → r ≡ f ++ m → ⊥) → ((f m : List ℕ) → IsFrame f → s ≡ f ++ m → ⊥)
      → concat fs ++ r ≡ concat gs ++ s → (fs ≡ gs) × (r ≡ s)
  only [] [] r s p q nr ns e = (refl, e)
  only [] (g ∷ gs) r s p q nr ns e = absurd (nr g (concat gs ++ s) q.0 (e ∙ append_assoc g (concat gs) s))
  only (f ∷ fs) [] r s p q nr ns e = absurd (ns f (concat fs ++ r) p.0 (sym e ∙ append_assoc f (concat fs) r))
  only (f ∷ fs) (g ∷ gs) r s p q nr ns e =
      let here = same_front ((f ++ concat fs) ++ r) f g (concat fs ++ r) (concat gs ++ s) p.0 q.0 (append_assoc f (concat fs) r) (e ∙ append_assoc g (concat gs) s) in
      let there = only fs gs r s p.1 q.1 nr ns here.1 in
      (ap (λ (x : List ℕ). x ∷ fs) here.0 ∙ ap (λ (xs : List (List ℕ)). g ∷ xs) there.0, there.1)

  -- a list begins with a frame or it doesn't
  abbrev BeginsWithNone : List ℕ → Type 0
  BeginsWithNone octets = (f m : List ℕ) → IsFrame f → octets ≡ f ++ m → ⊥

  bool_cases : (b : Bool) → (b ≡ true) ⊎ (b ≡ false)
  bool_cases true = inl refl
  bool_cases false = inr refl

  option_cases : (o : Option Fault) → (o ≡ None) ⊎ ((f : Fault) × (o ≡ Some f))
  option_cases None = inl refl
  option_cases (Some f) = inr (f, refl)

  front_cases : (octets : List ℕ) → HasFrame octets ⊎ BeginsWithNone octets
  front_cases octets =
      elim (bool_cases (nat_le 19 (length octets))) [
        | inr short ↦ inr (λ f m is e. let t = le-leb 19 (length octets) (front_of octets f m is e).long in cc)
        | inl long ↦ elim (option_cases (header_fault octets)) [
          | inr bad ↦ inr (λ f m is e. let t = (front_of octets f m is e).good in let u = bad.1 in cc)
          | inl good ↦ elim (bool_cases (nat_le (length_field octets) (length octets))) [
            | inr part ↦ inr (λ f m is e. let h = front_of octets f m is e in let t = le-leb (length_field octets) (length octets) (omega (arith, h.field, h.enough)) in cc)
            | inl whole ↦
                let wide : 19 ≤ length octets = leb-true 19 (length octets) long in
                let enough : length_field octets ≤ length octets = leb-true (length_field octets) (length octets) whole in
                let w = is_whole front octets (take 19 octets) (length_field octets) wide refl (header_fault-take front 19 octets (omega arith) ∙ good) (sym (length_field-take front 19 octets (omega arith))) enough in
                inl (length_field octets, enough, w.2)
          ]
        ]
      ]

  -- a frame in front, and a split of what stands behind it
  pub behind_frame : (octets : List ℕ) (n : ℕ) (fs : List (List ℕ)) (rest : List ℕ) → IsFrame (take n octets) → Splits (drop n octets) fs rest → Splits octets (take n octets ∷ fs) rest
  behind_frame octets n fs rest is s = record {
    whole = sym (take-append-drop n octets) ∙ ap (λ (x : List ℕ). take n octets ++ x) s.whole ∙ sym (append_assoc (take n octets) (concat fs) rest);
    each = (is, s.each);
    last = s.last;
  }

  split_within : (n : ℕ) (octets : List ℕ) → length octets ≤ n → (frames : List (List ℕ)) × (rest : List ℕ) × Splits octets frames rest
  split_within zero octets h = ([], octets, record { whole = refl; each = tt; last = λ f m is e. let long = (front_of octets f m is e).long in omega arith })
  split_within (suc n) octets h =
      elim (front_cases octets) [
        | inl has ↦
            let len : length (take has.0 octets) ≡ length_field (take has.0 octets) = has.2.whole in
            let wide : 19 ≤ has.0 = omega (arith, length-take has.0 octets, has.2.has_header) in
            let more = split_within n (drop has.0 octets) (omega (arith, length-drop has.0 octets)) in
            (take has.0 octets ∷ more.0, more.1, behind_frame octets has.0 more.0 more.1 has.2 more.2)
        | inr none ↦ ([], octets, record { whole = refl; each = tt; last = none })
      ]

  pub once_law : SplitsOnce
  once_law octets = (
    split_within (length octets) octets (omega arith),
    λ fs gs r s p q. only fs gs r s p.each q.each p.last q.last (sym p.whole ∙ q.whole),
  )

  -- ---- what stands in front is the first frame

  none_in_partial : (held : List ℕ) → IsPartial held → BeginsWithNone held
  none_in_partial held (inl short) f m is e = let h = front_of held f m is e in omega (arith, h.long)
  none_in_partial held (inr part) f m is e = let h = front_of held f m is e in omega (arith, h.field, h.enough, part.2)

  none_at_fault : (held : List ℕ) (fault : Fault) → header_fault held ≡ Some fault → BeginsWithNone held
  none_at_fault held fault bad f m is e = let good = (front_of held f m is e).good in cc

  no_frames : (held : List ℕ) → BeginsWithNone held → (frames : List (List ℕ)) (rest : List ℕ) → Splits held frames rest → frames ≡ []
  no_frames held none frames rest s =
      let all : Splits held [] held = record { whole = refl; each = tt; last = none } in
      (only frames [] rest held s.each tt s.last none (sym s.whole)).0

  pub first_law : NextIsFirst
  first_law held (Whole start end) is = λ frames rest s.
      let more = split_within (length (drop end held)) (drop end held) (omega arith) in
      let whole = behind_frame held end more.0 more.1 is.2 more.2 in
      let same = only frames (take end held ∷ more.0) rest more.1 s.each whole.each s.last whole.last (sym s.whole ∙ whole.whole) in
      let all_of : end - 0 ≡ end = omega arith in
      let cut : slice_range held start end ≡ take end held = rw (is.0, all_of) refl in
      (more.0, same.0 ∙ ap (λ (x : List ℕ). x ∷ more.0) (sym cut))
  first_law held More is = no_frames held (none_in_partial held is)
  first_law held (Bad fault) is = no_frames held (none_at_fault held fault is.1)

  -- ---- octets that are held, and more behind them

  pub front_splits : (held left : List ℕ) (n : ℕ) (fs : List (List ℕ)) (rest : List ℕ) → n ≤ length held → IsFrame (take n held) → Splits (drop n held ++ left) fs rest
      → Splits (held ++ left) (take n held ∷ fs) rest
  front_splits held left n fs rest h is s = record {
    whole = ap (λ (x : List ℕ). x ++ left) (sym (take-append-drop n held)) ∙ append_assoc (take n held) (drop n held) left ∙ ap (λ (x : List ℕ). take n held ++ x) s.whole
        ∙ sym (append_assoc (take n held) (concat fs) rest);
    each = (is, s.each);
    last = s.last;
  }

  pub some_split : (octets : List ℕ) → (frames : List (List ℕ)) × (rest : List ℕ) × Splits octets frames rest
  some_split octets = split_within (length octets) octets (omega arith)

  pub partial_splits : (held : List ℕ) → IsPartial held → Splits held [] held
  partial_splits held is = record { whole = refl; each = tt; last = none_in_partial held is }

  pub fault_splits : (held : List ℕ) (fault : Fault) → header_fault held ≡ Some fault → Splits held [] held
  fault_splits held fault bad = record { whole = refl; each = tt; last = none_at_fault held fault bad }

  pub field_of_frame : (held : List ℕ) (n : ℕ) → n ≤ length held → IsFrame (take n held) → length_field held ≡ n
  field_of_frame held n h is =
      let len : length (take n held) ≡ n = omega (arith, length-take n held) in
      sym (length_field-take front n held (omega (arith, len, is.has_header))) ∙ sym is.whole ∙ len

  rest_len : (rest : List ℕ) (b : Bool) → nat_le 19 (length rest) ≡ b → BeginsWithNone rest → IsPartial rest ⊎ ((f : Fault) × (19 ≤ length rest) × (header_fault rest ≡ Some f))
  rest_len rest false short none = inl (inl (leb-false 19 (length rest) short))
  rest_len rest true long none =
      let l : 19 ≤ length rest = leb-true 19 (length rest) long in
      elim (option_cases (header_fault rest)) [
        | inr f ↦ inr (f.0, l, f.1)
        | inl good ↦ elim (bool_cases (nat_le (length_field rest) (length rest))) [
          | inl enough ↦ absurd (
              let n : length_field rest ≤ length rest = leb-true (length_field rest) (length rest) enough in
              let w = is_whole front rest (take 19 rest) (length_field rest) l refl (header_fault-take front 19 rest (omega arith) ∙ good) (sym (length_field-take front 19 rest (omega arith))) n in
              none (take (length_field rest) rest) (drop (length_field rest) rest) w.2 (sym (take-append-drop (length_field rest) rest)))
          | inr few ↦ inl (inr (l, good, leb-false (length_field rest) (length rest) few))
        ]
      ]

  pub rest_law : RestIs
  rest_law octets frames rest s = rest_len rest (nat_le 19 (length rest)) refl s.last

  pub behind_law : SplitsBehindAFrame
  behind_law octets more end h is = (field_of_frame octets end h is, λ frames rest s. front_splits octets more end frames rest h is s)

  pub nothing_law : SplitsIntoNothing
  nothing_law octets = (
    partial_splits octets,
    λ fault more long bad.
        let front_is : take 19 (octets ++ more) ≡ take 19 octets = take-append-le 19 octets more long in
        let here : header_fault (octets ++ more) ≡ Some fault =
        sym (header_fault-take front 19 (octets ++ more) (omega arith)) ∙ ap header_fault front_is ∙ header_fault-take front 19 octets (omega arith) ∙ bad in
        (here, fault_splits (octets ++ more) fault here),
  )
