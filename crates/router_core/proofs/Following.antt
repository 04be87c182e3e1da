-- Tables that follow a session have of its peer what its side says, and of every other peer what they had.
use Rattle.std.proofs.Common.{◌≡◌, ℕ, ◌==◌, ◌<◌, ◌≤◌, [], Bool, true, false, cond, List, Option, None, Some, refl, sym, ap, ◌∙◌, subst, arith, inl, inr}
use Rattle.std.specs.Prelude.{◌≢◌, ◌↔◌, ◌⊎◌}
use Rattle.std.specs.List.{Contains, AllByRecursion}
use Rattle.std.proofs.lemmas.Bool.{eqb-true, eqb-false}
use Rattle.prefix_lanes.specs.Bits.{PrefixView}
use Rattle.bgp_codec.specs.declared.update.Update.{Update}
use Rattle.ranked_policy.specs.declared.network.Origin.{Origin}
use Rattle.rib_tables.specs.declared.word.Word.{Word}
use Rattle.rib_tables.specs.Words.{nothing, path_in, last_word}
use Rattle.rib_tables.specs.Tables.{word_of}
use Rattle.rib_tables.specs.Owners.{RibView, ComesUp, ForgetsPeer, HearsUpdate}
use Rattle.router_model.specs.Sides.{Side, is_up}
use Rattle.router_model.specs.State.{heard, last_told}
use Rattle.router_side.specs.Freshness.{IsUnsaid}
use Rattle.router_core.specs.Views.{Follows}
use Rattle.bgp_values.specs.declared.width.Width.{Width}
use Rattle.bgp_codec.specs.AsNumbers.{AsnFits}
use Rattle.router_core.specs.Following.{Followed, ComesUpAgain}

-- ---- all but one peer is as it was

pub record Leaves (old new : RibView) (v : ℕ) : Type 0 where
  pub net : new.net ≡ old.net
  pub router : new.router ≡ old.router
  pub originated : new.originated ≡ old.originated
  pub kept : new.kept ≡ old.kept
  pub established : (y : ℕ) → y ≢ v → (Contains new.established y ↔ Contains old.established y)
  pub heard : (y : ℕ) (q : PrefixView) → y ≢ v → word_of new.heard y q ≡ word_of old.heard y q
  pub sent : (y : ℕ) (q : PrefixView) → y ≢ v → word_of new.sent y q ≡ word_of old.sent y q

pub leaves_same : (t : RibView) (v : ℕ) → Leaves t t v
leaves_same t v = record {
  net = refl;
  router = refl;
  originated = refl;
  kept = refl;
  established = λ y n. ((λ h. h), (λ h. h));
  heard = λ y q n. refl;
  sent = λ y q n. refl;
}

leaves_as : (old new : RibView) (v : ℕ) → new ≡ old → Leaves old new v
leaves_as old new v e = subst (λ (t : RibView). Leaves old t v) (sym e) (leaves_same old v)

leaves_up : (old new : RibView) (v : ℕ) → ComesUp old new v → Leaves old new v
leaves_up old new v c = record {
  net = ap (λ (t : RibView). t.net) c.rest;
  router = ap (λ (t : RibView). t.router) c.rest;
  originated = ap (λ (t : RibView). t.originated) c.rest;
  kept = ap (λ (t : RibView). t.kept) c.rest;
  established = λ y n. ((λ h. elim ((c.established y).0 h) [ inl e ↦ absurd (n e) | inr k ↦ k ]), (λ h. (c.established y).1 (inr h)));
  heard = λ y q n. ap (λ (t : RibView). word_of t.heard y q) c.rest;
  sent = λ y q n. ap (λ (t : RibView). word_of t.sent y q) c.rest;
}

leaves_forgotten : (old new : RibView) (v : ℕ) → ForgetsPeer old new v → Leaves old new v
leaves_forgotten old new v f = record {
  net = ap (λ (t : RibView). t.net) f.rest;
  router = ap (λ (t : RibView). t.router) f.rest;
  originated = ap (λ (t : RibView). t.originated) f.rest;
  kept = ap (λ (t : RibView). t.kept) f.rest;
  established = λ y n. ((λ h. ((f.established y).0 h).1), (λ h. (f.established y).1 (n, h)));
  heard = λ y q n. f.heard.others y q n;
  sent = λ y q n. f.sent.others y q n;
}

pub leaves_heard : (old new : RibView) (v : ℕ) (u : Update) → HearsUpdate old new v u → Leaves old new v
leaves_heard old new v u h = record {
  net = ap (λ (t : RibView). t.net) h.rest;
  router = ap (λ (t : RibView). t.router) h.rest;
  originated = ap (λ (t : RibView). t.originated) h.rest;
  kept = ap (λ (t : RibView). t.kept) h.rest;
  established = λ y n. ((λ k. subst (λ (t : RibView). Contains t.established y) h.rest k), (λ k. subst (λ (t : RibView). Contains t.established y) (sym h.rest) k));
  heard = λ y q n. h.words.others y q n;
  sent = λ y q n. ap (λ (t : RibView). word_of t.sent y q) h.rest;
}

pub leaves_then : (a b c : RibView) (v : ℕ) → Leaves a b v → Leaves b c v → Leaves a c v
leaves_then a b c v l m = record {
  net = m.net ∙ l.net;
  router = m.router ∙ l.router;
  originated = m.originated ∙ l.originated;
  kept = m.kept ∙ l.kept;
  established = λ y n. ((λ h. (l.established y n).0 ((m.established y n).0 h)), (λ h. (m.established y n).1 ((l.established y n).1 h)));
  heard = λ y q n. m.heard y q n ∙ l.heard y q n;
  sent = λ y q n. m.sent y q n ∙ l.sent y q n;
}

leaves_again : (b : Bool) (old new : RibView) (v : ℕ) → ComesUpAgain b old new v → Leaves old new v
leaves_again true old new v e = leaves_as old new v e
leaves_again false old new v h = leaves_then old h.0 new v (leaves_forgotten old h.0 v h.1) (leaves_up h.0 new v h.2)

pub leaves : (old new : RibView) (v : ℕ) (was now : Option ℕ) → Followed old new v was now → Leaves old new v
leaves old new v None None e = leaves_as old new v e
leaves old new v None (Some now) c = leaves_up old new v c
leaves old new v (Some was) None f = leaves_forgotten old new v f
leaves old new v (Some was) (Some now) h = leaves_again (was == now) old new v h

-- ---- each word is what it was, or is gone

abbrev Stays : Word → Word → Type 0
Stays old new = (new ≡ old) ⊎ (new ≡ nothing)

stay_again : (b : Bool) (old new : RibView) (v : ℕ) (q : PrefixView) → ComesUpAgain b old new v
    → Stays (word_of old.heard v q) (word_of new.heard v q) × Stays (word_of old.sent v q) (word_of new.sent v q)
stay_again true old new v q e = (inl (ap (λ (t : RibView). word_of t.heard v q) e), inl (ap (λ (t : RibView). word_of t.sent v q) e))
stay_again false old new v q h =
    (inr (ap (λ (t : RibView). word_of t.heard v q) h.2.rest ∙ h.1.heard.gone q), inr (ap (λ (t : RibView). word_of t.sent v q) h.2.rest ∙ h.1.sent.gone q))

stay_there : (old new : RibView) (v : ℕ) (q : PrefixView) (was now : Option ℕ) → Followed old new v was now
    → Stays (word_of old.heard v q) (word_of new.heard v q) × Stays (word_of old.sent v q) (word_of new.sent v q)
stay_there old new v q None None e = (inl (ap (λ (t : RibView). word_of t.heard v q) e), inl (ap (λ (t : RibView). word_of t.sent v q) e))
stay_there old new v q None (Some now) c = (inl (ap (λ (t : RibView). word_of t.heard v q) c.rest), inl (ap (λ (t : RibView). word_of t.sent v q) c.rest))
stay_there old new v q (Some was) None f = (inr (f.heard.gone q), inr (f.sent.gone q))
stay_there old new v q (Some was) (Some now) h = stay_again (was == now) old new v q h

stay : (old new : RibView) (v : ℕ) (was now : Option ℕ) → Followed old new v was now → (y : ℕ) (q : PrefixView) (b : Bool) → (y == v) ≡ b
    → Stays (word_of old.heard y q) (word_of new.heard y q) × Stays (word_of old.sent y q) (word_of new.sent y q)
stay old new v was now f y q true e =
    subst (λ n. Stays (word_of old.heard n q) (word_of new.heard n q) × Stays (word_of old.sent n q) (word_of new.sent n q)) (sym (eqb-true y v e)) (stay_there old new v q was now f)
stay old new v was now f y q false e =
    let l = leaves old new v was now f in
    let other = eqb-false y v e in
    (inl (l.heard y q other), inl (l.sent y q other))

-- so what holds of each word, and of none, holds still
module _ (Holds : Word → Type 0) (none : Holds nothing) (old new : RibView) (v : ℕ) (was now : Option ℕ) (f : Followed old new v was now) where
  holds_still : (a b : Word) → Stays a b → Holds a → Holds b
  holds_still a b d h = elim d [ inl e ↦ subst Holds (sym e) h | inr e ↦ subst Holds (sym e) none ]

  pub all_sent : ((y : ℕ) (q : PrefixView) → Holds (word_of old.sent y q)) → (y : ℕ) (q : PrefixView) → Holds (word_of new.sent y q)
  all_sent h y q = holds_still (word_of old.sent y q) (word_of new.sent y q) (stay old new v was now f y q (y == v) refl).1 (h y q)

  pub all_heard : ((y : ℕ) (q : PrefixView) → Holds (word_of old.heard y q)) → (y : ℕ) (q : PrefixView) → Holds (word_of new.heard y q)
  all_heard h y q = holds_still (word_of old.heard y q) (word_of new.heard y q) (stay old new v was now f y q (y == v) refl).0 (h y q)

abbrev pub IsShort : Width → Word → Type 0
IsShort width word = AllByRecursion (AsnFits width) (path_in word)

-- ---- what the tables have of a peer

module _ (origins : List Origin) where
  -- of another peer
  pub follows_there : (old new : RibView) (v y : ℕ) (s : Side) → Leaves old new v → y ≢ v → Follows origins old y s → Follows origins new y s
  follows_there old new v y s l n f = record {
    up = ((λ h. f.up.0 ((l.established y n).0 h)), (λ h. (l.established y n).1 (f.up.1 h)));
    heard = λ q k. l.heard y q n ∙ f.heard q k;
    told = λ q k. l.sent y q n ∙ f.told q k;
  }

  -- octets and the outbox are nothing to them
  pub follows_alike : (t : RibView) (v : ℕ) (s z : Side) → z.session.state ≡ s.session.state → z.link ≡ s.link → z.acted ≡ s.acted → z.sent ≡ s.sent → Follows origins t v s → Follows origins t v z
  follows_alike t v s z x l a b f =
      let up : is_up z ≡ is_up s = rw x refl in
      record {
        up = ((λ h. up ∙ f.up.0 h), (λ h. f.up.1 (sym up ∙ h)));
        heard = λ q k. f.heard q k ∙ rw (x, l, a) refl;
        told = λ q k. f.told q k ∙ rw (x, l, b) refl;
      }

  module _ (v : ℕ) (s t : Side) (acted : t.acted ≡ s.acted) (sent : t.sent ≡ s.sent) where
    clash : true ≡ false → ⊥
    clash e = absurd cc

    silent_heard : (q : PrefixView) → t.acted t.link.epoch ≡ [] → heard t q ≡ nothing
    silent_heard q e = ap (λ (us : List Update). last_word nothing us q) e

    silent_told : (q : PrefixView) → t.sent t.link.epoch ≡ [] → last_told t q ≡ nothing
    silent_told q e = ap (λ (us : List Update). last_word nothing us q) e

    again : (old new : RibView) (d : Bool) → (s.link.epoch == t.link.epoch) ≡ d → is_up s ≡ true → is_up t ≡ true → s.link.epoch ≤ t.link.epoch
        → (s.link.epoch < t.link.epoch → IsUnsaid t t.link.epoch) → Follows origins old v s → ComesUpAgain d old new v → Follows origins new v t
    again old new true ed es et onward unsaid f e =
        let same : t.link.epoch ≡ s.link.epoch = sym (eqb-true s.link.epoch t.link.epoch ed) in
        subst (λ (r : RibView). Follows origins r v t) (sym e) (record {
          up = ((λ h. et), (λ h. f.up.1 es));
          heard = λ q k. f.heard q k ∙ rw (es, et, acted, same) refl;
          told = λ q k. f.told q k ∙ rw (es, et, sent, same) refl;
        })
    again old new false ed es et onward unsaid f h =
        let less : s.link.epoch < t.link.epoch = (let n = eqb-false s.link.epoch t.link.epoch ed in omega (arith, n, onward)) in
        let new_one = unsaid less in
        record {
          up = ((λ k. et), (λ k. (h.2.established v).1 (inl refl)));
          heard = λ q k. ap (λ (r : RibView). word_of r.heard v q) h.2.rest ∙ h.1.heard.gone q ∙ sym (rw et (silent_heard q new_one.0));
          told = λ q k. ap (λ (r : RibView). word_of r.sent v q) h.2.rest ∙ h.1.sent.gone q ∙ sym (rw et (silent_told q new_one.1));
        }

    pub follows_by : (old new : RibView) (b c : Bool) → is_up s ≡ b → is_up t ≡ c → s.link.epoch ≤ t.link.epoch
        → (is_up t ≡ true → (is_up s ≡ false) ⊎ (s.link.epoch < t.link.epoch) → IsUnsaid t t.link.epoch) → Follows origins old v s
        → Followed old new v (cond b (Some s.link.epoch) None) (cond c (Some t.link.epoch) None) → Follows origins new v t
    follows_by old new false false es et onward unsaid f e =
        subst (λ (r : RibView). Follows origins r v t) (sym e) (record {
          up = ((λ k. absurd (clash (sym (f.up.0 k) ∙ es))), (λ k. absurd (clash (sym k ∙ et))));
          heard = λ q k. f.heard q k ∙ rw (es, et) refl;
          told = λ q k. f.told q k ∙ rw (es, et) refl;
        })
    follows_by old new false true es et onward unsaid f c =
        let new_one = unsaid et (inl es) in
        record {
          up = ((λ k. et), (λ k. (c.established v).1 (inl refl)));
          heard = λ q k. ap (λ (r : RibView). word_of r.heard v q) c.rest ∙ f.heard q k ∙ rw (es, et) (sym (silent_heard q new_one.0));
          told = λ q k. ap (λ (r : RibView). word_of r.sent v q) c.rest ∙ f.told q k ∙ rw (es, et) (sym (silent_told q new_one.1));
        }
    follows_by old new true false es et onward unsaid f g =
        record {
          up = ((λ k. absurd (((g.established v).0 k).0 refl)), (λ k. absurd (clash (sym k ∙ et))));
          heard = λ q k. g.heard.gone q ∙ rw et refl;
          told = λ q k. g.sent.gone q ∙ rw et refl;
        }
    follows_by old new true true es et onward unsaid f h =
        again old new (s.link.epoch == t.link.epoch) refl es et onward (λ less. unsaid et (inr less)) f h
