-- A kept path that is told to one peer, as a step of the router.
use Rattle.std.proofs.Common.{◌≡◌, ℕ, ◌+◌, ◌<◌, ◌≤◌, ◌==◌, Bool, true, false, cond, List, [], ◌∷◌, ◌++◌, refl, sym, ap, subst, ◌∙◌, arith, inl, inr, set}
use Rattle.std.proofs.lemmas.Bool.{eq-eqb, eqb-true, eqb-false, ne_eqb}
use Rattle.std.proofs.lemmas.Bool.Decides.{not_from_Decides}
use Rattle.prefix_lanes.specs.Bits.{PrefixView, is_prefix}
use Rattle.bgp_codec.specs.declared.update.Update.{Update}
use Rattle.session_fsm.specs.declared.state.State.{State}
use Rattle.ranked_policy.specs.Plans.{IsNamed}
use Rattle.rib_tables.specs.declared.word.Word.{Word}
use Rattle.rib_tables.specs.declared.word.Word.TheVariants.{Sequence}
use Rattle.rib_tables.specs.Words.{nothing, word_after, last_word}
use Rattle.rib_tables.specs.Tables.{Words, word_of, path_of}
use Rattle.rib_tables.specs.Owners.{RibView, TellsKept}
use Rattle.router_model.specs.Settings.{identifier}
use Rattle.router_model.specs.Sides.{Side, is_up, is_established, told}
use Rattle.router_model.specs.State.{telling, last_told}
use Rattle.run_model.specs.declared.stamps.TheConstants.{GREATEST_STAMP}
use Rattle.router_side.specs.Freshness.{IsFresh, is_opening, is_away}
use Rattle.router_side.specs.SideOf.{side, side_opening}
use Rattle.router_core.specs.declared.peers.Peer.{Peer}
use Rattle.router_core.specs.Views.{RouterView, IsSound, IsTabled, Follows, IsPathWord, IsAt, config_of, sides_of, told_now, plain_of, told_to}
use Rattle.router_core.proofs.PeerLemmas.{listed_set, numbers_set, sides_set, changed, unchanged}
use Rattle.router_core.proofs.Naming.{is_prefix-true, is_prefix-from}

-- ---- words

last_more : (w : Word) (us : List Update) (u : Update) (p : PrefixView) → last_word w (us ++ u ∷ []) p ≡ word_after (last_word w us p) u p
last_more w [] u p = refl
last_more w (t ∷ us) u p = last_more (word_after w t p) us u p

module _ (id : ℕ) (q p : PrefixView) where
  says_here : is_prefix q p ≡ true → (path : List ℕ) (w : Word) → word_after w (telling id q path) p ≡ Sequence path
  says_here e [] w = rw e refl
  says_here e (v ∷ path) w = rw e refl

  says_there : is_prefix q p ≡ false → (path : List ℕ) (w : Word) → word_after w (telling id q path) p ≡ w
  says_there e [] w = rw e refl
  says_there e (v ∷ path) w = rw e refl

-- ---- the side that tells

not_opening : (state : State) → is_established state ≡ true → is_opening state ≡ true → ⊥
not_opening state h k = grind arith

not_away : (state : State) → is_established state ≡ true → is_away state ≡ true → ⊥
not_away state h k = grind arith

module _ (s : Side) (up : is_up s ≡ true) (u : Update) where
  sent_later : (n : ℕ) → s.link.epoch < n → (told s u).sent n ≡ s.sent n
  sent_later n lt = (let apart : (n == s.link.epoch) ≡ false = ne_eqb n s.link.epoch (λ e. absurd (omega (arith, e, lt))) in rw apart refl)

  fresh_told : IsFresh s → IsFresh (told s u)
  fresh_told h = record {
    later = λ n lt. let unsaid = h.later n lt in (unsaid.0, sent_later n lt ∙ unsaid.1);
    opening = λ o. absurd (not_opening s.session.state up o);
    away = λ a. absurd (not_away s.session.state up a);
  }

  told_word : (p : PrefixView) → told_now (told s u) p ≡ word_after (last_told s p) u p
  told_word p =
      let here : (s.link.epoch == s.link.epoch) ≡ true = eq-eqb s.link.epoch s.link.epoch refl in
      rw (up, here) (last_more nothing (s.sent s.link.epoch) u p)

-- ---- the tables and the sides

abbrev with_sent : RibView → Words → RibView
with_sent t ws = record { net = t.net; router = t.router; heard = t.heard; sent = ws; established = t.established; originated = t.originated; kept = t.kept }

-- the peer at a place, the tables and the stamp are others
abbrev pub with_peer_and_tables : RouterView → ℕ → Peer → RibView → ℕ → RouterView
with_peer_and_tables x i peer t stamp = record { net = x.net; number = x.number; own_open = x.own_open; peers = set x.peers i peer; tables = t; marks = x.marks; stamp = stamp }

module _ (x : RouterView) (sound : IsSound x) (v i : ℕ) (place : IsAt x.peers v i) (peer : Peer) (named : peer.number ≡ v) where
  tabled : IsTabled x
  tabled = sound.tabled

  sound_with : (t : RibView) (stamp : ℕ) → stamp ≤ GREATEST_STAMP → IsTabled (with_peer_and_tables x i peer t stamp) → IsSound (with_peer_and_tables x i peer t stamp)
  sound_with t stamp few h = record {
    network = sound.network;
    router = sound.router;
    numbers = numbers_set x.peers v i peer place named ∙ sound.numbers;
    links = λ w. listed_set x.peers v i peer place named w ∙ sound.links w;
    own_open = sound.own_open;
    sayable = sound.sayable;
    stamp = few;
    tabled = h;
    marked = record { over = sound.marked.over; unfinished = sound.marked.unfinished; queue = sound.marked.queue };
  }

  sides_with : (f : Side → Side) → side peer.side ≡ f (sides_of x v) → (t : RibView) (stamp : ℕ) → sides_of (with_peer_and_tables x i peer t stamp) ≡ changed (sides_of x) v f
  sides_with f is t stamp = sides_set (side_opening (config_of x.net) x.net.settings.width) x.peers v i peer f place named is

  -- ---- nothing changes but the room

  same_sides : side peer.side ≡ sides_of x v → (stamp : ℕ) → sides_of (with_peer_and_tables x i peer x.tables stamp) ≡ sides_of x
  same_sides is stamp = sides_with (λ s. s) is x.tables stamp ∙ unchanged (sides_of x) v

  pub sound_still : side peer.side ≡ sides_of x v → IsSound (with_peer_and_tables x i peer x.tables x.stamp)
  sound_still is =
      let sides = same_sides is x.stamp in
      sound_with x.tables x.stamp sound.stamp (record {
        net = tabled.net;
        router = tabled.router;
        peers = λ w l. subst (λ (f : ℕ → Side). Follows x.net.origins x.tables w (f w)) (sym sides) (tabled.peers w l);
        fresh = λ w. subst (λ (f : ℕ → Side). IsFresh (f w)) (sym sides) (tabled.fresh w);
        width = λ w. ap (λ (f : ℕ → Side). (f w).width) sides ∙ tabled.width w;
        short = tabled.short;
        sent = tabled.sent;
        kept = tabled.kept;
        tellable = tabled.tellable;
        originated = tabled.originated;
      })

  pub plain_still : side peer.side ≡ sides_of x v → plain_of (with_peer_and_tables x i peer x.tables x.stamp) ≡ plain_of x
  plain_still is = ap (λ (f : ℕ → Side). record { router = record (plain_of x).router { sides = f }; stamp = x.stamp }) (same_sides is x.stamp)

  -- ---- the kept path of a prefix is told

  module _ (q : PrefixView) (up : is_up (sides_of x v) ≡ true) (t : RibView) (tells : TellsKept x.tables t v q) where
    abbrev u : Update
    u = telling (identifier x.net.routers x.number) q (path_of x.tables.kept q)

    word_by : (p : PrefixView) (b : Bool) → is_prefix q p ≡ b → IsNamed x.net.origins p → (w : Word) → word_of x.tables.sent v p ≡ w → word_of t.sent v p ≡ word_after w u p
    word_by p true e n w is = ap (word_of t.sent v) (sym (is_prefix-true q p e)) ∙ tells.told ∙ sym (says_here (identifier x.net.routers x.number) q p e (path_of x.tables.kept q) w)
    word_by p false e n w is =
        tells.others v p (inr (λ same. not_from_Decides (is_prefix q p) (is_prefix-true q p, is_prefix-from q p) e (sym same)))
        ∙ is ∙ sym (says_there (identifier x.net.routers x.number) q p e (path_of x.tables.kept q) w)

    follows_told : Follows x.net.origins x.tables v (sides_of x v) → Follows x.net.origins (with_sent x.tables t.sent) v (told (sides_of x v) u)
    follows_told f = record {
      up = f.up;
      heard = f.heard;
      told = λ p n.
          let before : word_of x.tables.sent v p ≡ last_told (sides_of x v) p = f.told p n ∙ rw up refl in
          word_by p (is_prefix q p) refl n (last_told (sides_of x v) p) before ∙ sym (told_word (sides_of x v) up u p);
    }

    follows_by : (w : ℕ) (b : Bool) → (w == v) ≡ b → Follows x.net.origins x.tables w (sides_of x w) → Follows x.net.origins (with_sent x.tables t.sent) w (cond b (told (sides_of x w) u) (sides_of x w))
    follows_by w true e f =
        let same : w ≡ v = eqb-true w v e in
        subst (λ (n : ℕ). Follows x.net.origins (with_sent x.tables t.sent) n (told (sides_of x n) u)) (sym same)
        (follows_told (subst (λ (n : ℕ). Follows x.net.origins x.tables n (sides_of x n)) same f))
    follows_by w false e f = record { up = f.up; heard = f.heard; told = λ p n. tells.others w p (inl (eqb-false w v e)) ∙ f.told p n }

    fresh_by : (w : ℕ) (b : Bool) → (w == v) ≡ b → IsFresh (cond b (told (sides_of x w) u) (sides_of x w))
    fresh_by w true e = (let same : w ≡ v = eqb-true w v e in fresh_told (sides_of x w) (ap (λ (n : ℕ). is_up (sides_of x n)) same ∙ up) u (tabled.fresh w))
    fresh_by w false e = tabled.fresh w

    width_by : (w : ℕ) (b : Bool) → (cond b (told (sides_of x w) u) (sides_of x w)).width ≡ x.net.settings.width
    width_by w true = tabled.width w
    width_by w false = tabled.width w

    path_told : (a b : Word) → a ≡ b → IsPathWord b → IsPathWord a
    path_told a b e h = subst IsPathWord (sym e) h

    sent_by : (w : ℕ) (p : PrefixView) (a b : Bool) → (w == v) ≡ a → is_prefix q p ≡ b → IsPathWord (word_of t.sent w p)
    sent_by w p true true e k =
        path_told (word_of t.sent w p) (Sequence (path_of x.tables.kept q))
        (ap (λ (n : ℕ). word_of t.sent n p) (eqb-true w v e) ∙ ap (word_of t.sent v) (sym (is_prefix-true q p k)) ∙ tells.told) refl
    sent_by w p true false e k =
        path_told (word_of t.sent w p) (word_of x.tables.sent w p)
        (tells.others w p (inr (λ same. not_from_Decides (is_prefix q p) (is_prefix-true q p, is_prefix-from q p) k (sym same)))) (tabled.sent w p)
    sent_by w p false b e k = path_told (word_of t.sent w p) (word_of x.tables.sent w p) (tells.others w p (inl (eqb-false w v e))) (tabled.sent w p)

    module _ (is : side peer.side ≡ told (sides_of x v) u) (stamp : ℕ) where
      sides : (s : RibView) → sides_of (with_peer_and_tables x i peer s stamp) ≡ changed (sides_of x) v (λ (a : Side). told a u)
      sides s = sides_with (λ a. told a u) is s stamp

      tabled_told : IsTabled (with_peer_and_tables x i peer (with_sent x.tables t.sent) stamp)
      tabled_told =
          let now = sides (with_sent x.tables t.sent) in
          record {
            net = tabled.net;
            router = tabled.router;
            peers = λ w l. subst (λ (f : ℕ → Side). Follows x.net.origins (with_sent x.tables t.sent) w (f w)) (sym now) (follows_by w (w == v) refl (tabled.peers w l));
            fresh = λ w. subst (λ (f : ℕ → Side). IsFresh (f w)) (sym now) (fresh_by w (w == v) refl);
            width = λ w. ap (λ (f : ℕ → Side). (f w).width) now ∙ width_by w (w == v);
            short = tabled.short;
            sent = λ w p. sent_by w p (w == v) (is_prefix q p) refl refl;
            kept = tabled.kept;
            tellable = tabled.tellable;
            originated = tabled.originated;
          }

      pub sound_told : stamp ≤ GREATEST_STAMP → IsSound (with_peer_and_tables x i peer t stamp)
      sound_told few = sound_with t stamp few (subst (λ (s : RibView). IsTabled (with_peer_and_tables x i peer s stamp)) (sym tells.rest) tabled_told)

      pub plain_told : stamp ≡ x.stamp + 1 → plain_of (with_peer_and_tables x i peer t stamp) ≡ told_to (plain_of x) x.net x.number v q
      plain_told next =
          ap (λ (s : RibView). plain_of (with_peer_and_tables x i peer s stamp)) tells.rest
          ∙ ap (λ (f : ℕ → Side). record { router = record (plain_of x).router { sides = f }; stamp = stamp }) (sides (with_sent x.tables t.sent))
          ∙ ap (λ (n : ℕ). record { router = record (plain_of x).router { sides = changed (sides_of x) v (λ (a : Side). told a u) }; stamp = n }) next
