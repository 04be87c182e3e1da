-- What is originated from now on, or no longer, as a step of the router.
use Rattle.std.proofs.Common.{◌≡◌, ℕ, ◌+◌, ◌≤◌, Bool, true, false, cond, List, refl, sym, ap, subst, ◌∙◌}
use Rattle.std.specs.Prelude.{◌≢◌, ◌↔◌, IsTrue, nat_lt, Ok, Err, ◌⊎◌}
use Rattle.std.specs.List.{Contains}
use Rattle.std.proofs.Math.Path.{fun_ext}
use Rattle.std.proofs.lemmas.Bool.{false_from_ne_true}
use Rattle.std.proofs.lemmas.Bool.Decides.{same_from_decides, not_from_Decides}
use mathlib.Core.Logic.{inl, inr}
use Rattle.prefix_lanes.specs.Bits.{PrefixView, is_prefix}
use Rattle.ranked_policy.specs.Plans.{IsOrigin, IsNamed}
use Rattle.rib_tables.specs.Words.{lists}
use Rattle.rib_tables.specs.Owners.{RibView, Originating, Withdrawing}
use Rattle.router_model.specs.declared.command.Command.TheVariants.{Originate, Withdraw}
use Rattle.router_model.specs.declared.refusal.RouterError.TheVariants as error
use Rattle.router_model.specs.declared.refusal.Stepped.TheVariants as stepped
use Rattle.router_model.specs.Settings.{Setting, is_origin}
use Rattle.run_model.specs.Network.{alone}
use Rattle.router_model.specs.Step.{Obeys}
use Rattle.router_model.specs.Calls.{Obey, Gives, answer}
use Rattle.run_model.specs.declared.stamps.TheConstants.{GREATEST_STAMP}
use Rattle.router_core.specs.Views.{RouterView, IsSound, IsTabled, plain_of}
use Rattle.router_core.specs.Calling.{no_step}
use Rattle.router_core.proofs.NoStep.{gives_no_step}
use Rattle.router_core.proofs.Naming.{is_prefix-true, is_prefix-from, decides_lists, lists_is, origin_is}

-- the router with other tables, at this stamp
abbrev pub with_tables : RouterView → RibView → ℕ → RouterView
with_tables x t stamp = record { net = x.net; number = x.number; own_open = x.own_open; peers = x.peers; tables = t; marks = x.marks; stamp = stamp }

-- the tables with this list of originated prefixes
abbrev with_originated : RibView → List PrefixView → RibView
with_originated t ps = record { net = t.net; router = t.router; heard = t.heard; sent = t.sent; established = t.established; originated = ps; kept = t.kept }

-- ---- the list after

listed_more : (ps qs : List PrefixView) (q : PrefixView) → ((p : PrefixView) → (Contains qs p ↔ ((p ≡ q) ⊎ Contains ps p))) → (p : PrefixView) (b : Bool)
    → is_prefix q p ≡ b → lists qs p ≡ cond b true (lists ps p)
listed_more ps qs q h p true e = (decides_lists qs p).1 ((h p).1 (inl (sym (is_prefix-true q p e))))
listed_more ps qs q h p false e =
    same_from_decides (lists qs p) (lists ps p) (decides_lists qs p) (
      λ t. (h p).1 (inr ((decides_lists ps p).0 t)),
      λ k. elim ((h p).0 k) [ inl same ↦ absurd (not_from_Decides (is_prefix q p) (is_prefix-true q p, is_prefix-from q p) e (sym same)) | inr there ↦ (decides_lists ps p).1 there ],
    )

listed_less : (ps qs : List PrefixView) (q : PrefixView) → ((p : PrefixView) → (Contains qs p ↔ ((p ≢ q) × Contains ps p))) → (p : PrefixView) (b : Bool)
    → is_prefix q p ≡ b → lists qs p ≡ cond b false (lists ps p)
listed_less ps qs q h p true e = false_from_ne_true (lists qs p) (λ t. ((h p).0 ((decides_lists qs p).0 t)).0 (sym (is_prefix-true q p e)))
listed_less ps qs q h p false e =
    same_from_decides (lists qs p) (lists ps p) (decides_lists qs p) (
      λ t. (h p).1 ((λ same. not_from_Decides (is_prefix q p) (is_prefix-true q p, is_prefix-from q p) e (sym same)), (decides_lists ps p).0 t),
      λ k. (decides_lists ps p).1 ((h p).0 k).1,
    )

-- ---- what stays sound

module _ (x : RouterView) (stamp : ℕ) (sound : IsSound x) (few : stamp ≤ GREATEST_STAMP) where
  tabled : (ps : List PrefixView) → ((p : PrefixView) → Contains ps p → IsNamed x.net.origins p) → IsTabled (with_tables x (with_originated x.tables ps) stamp)
  tabled ps named =
      let t = sound.tabled in
      record {
        net = t.net;
        router = t.router;
        peers = λ v l. let f = t.peers v l in record { up = f.up; heard = f.heard; told = f.told };
        fresh = t.fresh;
        width = t.width;
        short = t.short;
        sent = t.sent;
        kept = t.kept;
        tellable = t.tellable;
        originated = λ q l. named q ((decides_lists ps q).0 l);
      }

  pub stays_sound : (t : RibView) → IsTabled (with_tables x t stamp) → IsSound (with_tables x t stamp)
  stays_sound t h = record {
    network = sound.network;
    router = sound.router;
    numbers = sound.numbers;
    links = sound.links;
    own_open = sound.own_open;
    sayable = sound.sayable;
    stamp = few;
    tabled = h;
    marked = record { over = sound.marked.over; unfinished = sound.marked.unfinished; queue = sound.marked.queue };
  }

  named_before : (p : PrefixView) → Contains x.tables.originated p → IsNamed x.net.origins p
  named_before p c = sound.tabled.originated p ((decides_lists x.tables.originated p).1 c)

  is_named : (q : PrefixView) → IsOrigin x.net.origins x.number q → IsNamed x.net.origins q
  is_named q o = (o.0, o.1, o.2, o.3, o.4.0)

  pub sound_originating : (t : RibView) (q : PrefixView) → Originating x.tables t q → IsOrigin x.net.origins x.number q → IsSound (with_tables x t stamp)
  sound_originating t q made origin =
      let named : (p : PrefixView) → Contains t.originated p → IsNamed x.net.origins p =
      λ p k. elim ((made.originated p).0 k) [ inl same ↦ subst (IsNamed x.net.origins) (sym same) (is_named q origin) | inr there ↦ named_before p there ] in
      stays_sound t (subst (λ (s : RibView). IsTabled (with_tables x s stamp)) (sym made.rest) (tabled t.originated named))

  pub sound_withdrawing : (t : RibView) (q : PrefixView) → Withdrawing x.tables t q → IsSound (with_tables x t stamp)
  sound_withdrawing t q made =
      stays_sound t (subst (λ (s : RibView). IsTabled (with_tables x s stamp)) (sym made.rest) (tabled t.originated (λ p k. named_before p ((made.originated p).0 k).1)))

-- ---- what is answered

module _ (g : Setting) (x : RouterView) (same : g.net ≡ x.net) (q : PrefixView) where
  test_is : (b : Bool) → (IsTrue b ↔ IsOrigin x.net.origins x.number q) → is_origin g.net.origins x.number q ≡ b
  test_is b h = rw same (sym (origin_is x.net.origins x.number q b h))

  pub no_origin_to_originate : (b : Bool) → (IsTrue b ↔ IsOrigin x.net.origins x.number q) → b ≡ false
      → Gives g x.number (Err error.NotOrigin) (answer g x.number (plain_of x) (Obey (Originate q))) (plain_of x) (Obey (Originate q)) (plain_of x)
  no_origin_to_originate b h f = rw (test_is b h, f) (refl, refl)

  pub no_origin_to_withdraw : (b : Bool) → (IsTrue b ↔ IsOrigin x.net.origins x.number q) → b ≡ false
      → Gives g x.number (Err error.NotOrigin) (answer g x.number (plain_of x) (Obey (Withdraw q))) (plain_of x) (Obey (Withdraw q)) (plain_of x)
  no_origin_to_withdraw b h f = rw (test_is b h, f) (refl, refl)

  module _ (b : Bool) (h : IsTrue b ↔ IsOrigin x.net.origins x.number q) (yes : b ≡ true) (o : Bool) (k : IsTrue o ↔ Contains x.tables.originated q) where
    pub origin : is_origin g.net.origins x.number q ≡ true
    origin = test_is b h ∙ yes

    pub listed : lists x.tables.originated q ≡ o
    listed = sym (lists_is x.tables.originated q o k)

    pub originated_already : o ≡ true
        → Gives g x.number (Ok stepped.Nothing) (answer g x.number (plain_of x) (Obey (Originate q))) (plain_of x) (Obey (Originate q)) (plain_of x)
    originated_already e = rw (origin, listed, e) (refl, refl)

    pub withdrawn_already : o ≡ false
        → Gives g x.number (Ok stepped.Nothing) (answer g x.number (plain_of x) (Obey (Withdraw q))) (plain_of x) (Obey (Withdraw q)) (plain_of x)
    withdrawn_already e = rw (origin, listed, e) (refl, refl)

    pub no_step_to_originate : o ≡ false → Gives g x.number (Err (no_step x.stamp)) (answer g x.number (plain_of x) (Obey (Originate q))) (plain_of x) (Obey (Originate q)) (plain_of x)
    no_step_to_originate e = rw (origin, listed, e) (gives_no_step g x.number (nat_lt GREATEST_STAMP (x.stamp + 1)) (plain_of x) (Obey (Originate q)) (alone (Obeys (Originate q))))

    pub no_step_to_withdraw : o ≡ true → Gives g x.number (Err (no_step x.stamp)) (answer g x.number (plain_of x) (Obey (Withdraw q))) (plain_of x) (Obey (Withdraw q)) (plain_of x)
    no_step_to_withdraw e = rw (origin, listed, e) (gives_no_step g x.number (nat_lt GREATEST_STAMP (x.stamp + 1)) (plain_of x) (Obey (Withdraw q)) (alone (Obeys (Withdraw q))))

    left : (t : RibView) (ps : List PrefixView) (made : Bool) → t ≡ with_originated x.tables ps → ((p : PrefixView) → lists ps p ≡ cond (is_prefix q p) made (lists x.tables.originated p))
        → (stamp : ℕ) → plain_of (with_tables x t stamp) ≡ record { router = record (plain_of x).router { originated = λ p. cond (is_prefix q p) made (lists x.tables.originated p) }; stamp = stamp }
    left t ps made rest all stamp =
        ap (λ (s : RibView). plain_of (with_tables x s stamp)) rest
        ∙ ap (λ (f : PrefixView → Bool). record { router = record (plain_of x).router { originated = f }; stamp = stamp }) (fun_ext all)

    pub originates : (t : RibView) → Originating x.tables t q → o ≡ false → nat_lt GREATEST_STAMP (x.stamp + 1) ≡ false
        → Gives g x.number (Ok stepped.Did) (answer g x.number (plain_of x) (Obey (Originate q))) (plain_of x) (Obey (Originate q)) (plain_of (with_tables x t (x.stamp + 1)))
    originates t made e early =
        rw (origin, listed, e, early)
        (refl, left t t.originated true made.rest (λ p. listed_more x.tables.originated t.originated q made.originated p (is_prefix q p) refl) (x.stamp + 1))

    pub withdraws : (t : RibView) → Withdrawing x.tables t q → o ≡ true → nat_lt GREATEST_STAMP (x.stamp + 1) ≡ false
        → Gives g x.number (Ok stepped.Did) (answer g x.number (plain_of x) (Obey (Withdraw q))) (plain_of x) (Obey (Withdraw q)) (plain_of (with_tables x t (x.stamp + 1)))
    withdraws t made e early =
        rw (origin, listed, e, early)
        (refl, left t t.originated false made.rest (λ p. listed_less x.tables.originated t.originated q made.originated p (is_prefix q p) refl) (x.stamp + 1))
