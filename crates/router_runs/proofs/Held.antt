-- While a side is joined, what it took of its incarnation is what it used and what it holds.
use Rattle.std.proofs.Common.{◌≡◌, ◌≢◌, ℕ, ◌==◌, Bool, true, false, cond, List, [], ◌∷◌, ◌++◌, refl, ap, sym, ◌∙◌, subst, arith, append_assoc}
use Rattle.std.proofs.lemmas.List.{append_cancel_left}
use Rattle.std.proofs.lemmas.Bool.Decides.{nat_tests}
use mathlib.Core.List.{IsPrefix}
use Rattle.bgp_codec.specs.declared.message.Message.{Message}
use Rattle.run_model.specs.Links.{Entry, Dial, Says, Mark, Shut, Joined, End, said, has_shut, incarnation}
use Rattle.run_model.specs.Octets.{Passing, Octet, octets_of, passing}
use Rattle.run_model.specs.Streams.{octets_in, all_written}
use Rattle.run_model.specs.Facts.{EndFacts}
use Rattle.router_runs.proofs.Lower.{Laws, said-append, passing_more}
use Rattle.router_runs.proofs.Streams.{piece_in}

-- ---- octets behind entries that do not end their incarnation

own_octets : (c : Bool) (e : ℕ) (os : List ℕ) → (e == e) ≡ c → c ≡ true → octets_in {M = Message} e (octets_of e os) ≡ os
own_octets c e [] is hit = refl
own_octets c e (o ∷ os) is hit = ap (λ (t : Bool). cond t (o ∷ octets_in {M = Message} e (octets_of e os)) (octets_in {M = Message} e (octets_of e os))) (is ∙ hit) ∙ ap (λ w. o ∷ w) (own_octets c e os is hit)

behind_piece : (c : Bool) (bs xs os : List ℕ) → cond c (bs ++ (xs ++ os)) (xs ++ os) ≡ cond c (bs ++ xs) xs ++ os
behind_piece true bs xs os = sym (append_assoc bs xs os)
behind_piece false bs xs os = refl

behind_end : (c s : Bool) (xs ys os : List ℕ) → (cond c true s ≡ true → os ≡ []) → ((s ≡ true → os ≡ []) → ys ≡ xs ++ os) → cond c [] ys ≡ cond c [] xs ++ os
behind_end true s xs ys os none same = sym (none refl)
behind_end false s xs ys os none same = same none

octets_behind : (written : Message → List ℕ) (e : ℕ) (entries : List (Entry Message)) (os : List ℕ) → (has_shut e entries ≡ true → os ≡ [])
    → octets_in e (passing written entries ++ octets_of e os) ≡ octets_in e (passing written entries) ++ os
octets_behind written e [] os none = own_octets (e == e) e os refl (grind (arith, nat_tests))
octets_behind written e (Dial f ∷ rest) os none = octets_behind written e rest os none
octets_behind written e (Says f m ∷ rest) os none =
    ap (octets_in e) (append_assoc (octets_of f (written m)) (passing written rest) (octets_of e os))
    ∙ (piece_in (e == f) e f (written m) (passing written rest ++ octets_of e os) refl
    ∙ (ap (λ w. cond (e == f) (written m ++ w) w) (octets_behind written e rest os none)
    ∙ (behind_piece (e == f) (written m) (octets_in e (passing written rest)) os
    ∙ ap (λ w. w ++ os) (sym (piece_in (e == f) e f (written m) (passing written rest) refl)))))
octets_behind written e (Mark f n ∷ rest) os none = octets_behind written e rest os none
octets_behind written e (Shut f ∷ rest) os none =
    behind_end (e == f) (has_shut e rest) (octets_in e (passing written rest)) (octets_in e (passing written rest ++ octets_of e os)) os none (octets_behind written e rest os)

-- ---- no octet of an incarnation stands behind its end

-- where an octet of an incarnation comes next, something is said in it
next_said : (written : Message → List ℕ) (e o : ℕ) (os : List (Passing Message)) (entries : List (Entry Message)) → Octet e o ∷ os ≡ passing written entries → said e entries ≢ []
next_said written e o os [] is none = cc is
next_said written e o os (Dial f ∷ rest) is none = cc is
next_said written e o os (Says f m ∷ rest) is none = at (next_said written e o os rest) (written m) is
  where
    none_in : (c : Bool) (ms : List Message) → cond c (m ∷ ms) ms ≡ [] → (c ≡ false) × (ms ≡ [])
    none_in true ms h = absurd (cc h)
    none_in false ms h = (refl, h)

    at : (Octet e o ∷ os ≡ passing written rest → said e rest ≢ []) → (bs : List ℕ) → Octet e o ∷ os ≡ octets_of f bs ++ passing written rest → ⊥
    at go [] next = go next (none_in (e == f) (said e rest) none).1
    at go (b ∷ bs) next =
        let same : e ≡ f = cc next in
        let hit : (e == f) ≡ true = grind (arith, nat_tests, same) in
        let miss : (e == f) ≡ false = (none_in (e == f) (said e rest) none).0 in
        cc (hit, miss)
next_said written e o os (Mark f n ∷ rest) is none = cc is
next_said written e o os (Shut f ∷ rest) is none = cc is

-- entries that end an incarnation have a place where they do
end_in : (e : ℕ) (entries : List (Entry Message)) → has_shut e entries ≡ true → (before behind : List (Entry Message)) × (entries ≡ before ++ Shut e ∷ behind)
end_in e [] h = absurd (cc h)
end_in e (Dial f ∷ rest) h = (let k = end_in e rest h in (Dial f ∷ k.0, k.1, ap (λ l. Dial f ∷ l) k.2))
end_in e (Says f m ∷ rest) h = (let k = end_in e rest h in (Says f m ∷ k.0, k.1, ap (λ l. Says f m ∷ l) k.2))
end_in e (Mark f n ∷ rest) h = (let k = end_in e rest h in (Mark f n ∷ k.0, k.1, ap (λ l. Mark f n ∷ l) k.2))
end_in e (Shut f ∷ rest) h = at (end_in e rest) (e == f) refl h
  where
    at : (has_shut e rest ≡ true → (before behind : List (Entry Message)) × (rest ≡ before ++ Shut e ∷ behind))
        → (c : Bool) → (e == f) ≡ c → cond c true (has_shut e rest) ≡ true → (before behind : List (Entry Message)) × (Shut f ∷ rest ≡ before ++ Shut e ∷ behind)
    at go true is k = (let same : f ≡ e = grind (arith, nat_tests, is) in ([], rest, ap (λ (n : ℕ). Shut n ∷ rest) same))
    at go false is k = (let r = go k in (Shut f ∷ r.0, r.1, ap (λ l. Shut f ∷ l) r.2))

module _ (laws : Laws) where
  -- so an end that took the end of an incarnation holds no octet of it, where nothing is said behind it
  none_held : (written : Message → List ℕ) (e : ℕ) (taken appended : List (Entry Message)) → IsPrefix taken appended
      → ((before behind : List (Entry Message)) → appended ≡ before ++ Shut e ∷ behind → said e behind ≡ [])
      → (os : List ℕ) → IsPrefix (passing written taken ++ octets_of e os) (passing written appended) → has_shut e taken ≡ true → os ≡ []
  none_held written e taken appended front none [] passed ended = refl
  none_held written e taken appended front none (o ∷ os) passed ended =
      let place = end_in e taken ended in
      let before = place.0 in
      let behind = place.1 in
      let whole : appended ≡ before ++ Shut e ∷ (behind ++ front.0) = sym front.1 ∙ (ap (λ l. l ++ front.0) place.2 ∙ append_assoc before (Shut e ∷ behind) front.0) in
      let quiet : said e behind ++ said e front.0 ≡ [] = sym (said-append laws e behind front.0) ∙ none before (behind ++ front.0) whole in
      let next : octets_of e (o ∷ os) ++ passed.0 ≡ passing written front.0 =
      append_cancel_left (passing written taken) (octets_of e (o ∷ os) ++ passed.0) (passing written front.0)
      (sym (append_assoc (passing written taken) (octets_of e (o ∷ os)) passed.0) ∙ (passed.1 ∙ (ap (passing written) (sym front.1) ∙ passing_more laws written taken front.0))) in
      absurd (next_said written e o (octets_of e os ++ passed.0) front.0 next (second_empty (said e behind) (said e front.0) quiet))
    where
      second_empty : (xs ys : List Message) → xs ++ ys ≡ [] → ys ≡ []
      second_empty [] ys h = h
      second_empty (x ∷ xs) ys h = absurd (cc h)

  -- an end that is joined took the octets of what it used in its incarnation, and then those that are held
  pub used_and_held : (written : Message → List ℕ) (e : ℕ) (a b : End Message) → EndFacts a b → a.phase ≡ Joined → incarnation a ≡ e
      → octets_in e (passing written a.taken) ≡ all_written written (said e a.taken)
      → ((before behind : List (Entry Message)) → b.appended ≡ before ++ Shut e ∷ behind → said e behind ≡ [])
      → (held : List ℕ) → IsPrefix (passing written a.taken ++ octets_of e held) (passing written b.appended)
      → octets_in e (passing written a.taken ++ octets_of e held) ≡ all_written written (said e a.used) ++ held
  used_and_held written e a b facts joined own all none held passed =
      let used : said e a.used ≡ said e a.taken = subst (λ n. said n a.used ≡ said n a.taken) own (facts.whole joined) in
      octets_behind written e a.taken held (none_held written e a.taken b.appended facts.front none held passed)
      ∙ ap (λ w. w ++ held) (all ∙ ap (all_written written) (sym used))
