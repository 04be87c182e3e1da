-- The lists of a part as what the definitions record, and the peers that are marked.
use Rattle.std.proofs.Common.{◌≡◌, ℕ, suc, ◌<◌, ◌==◌, Bool, true, false, not, cond, ◌&&◌, ◌||◌, List, [], ◌∷◌, map, length, Option, Some, refl, sym, ap, subst, ◌∙◌, arith, get_or, drop}
use Rattle.std.specs.List.{find, AllPairs}
use Rattle.std.proofs.Math.Path.{fun_ext}
use Rattle.std.proofs.lemmas.Bool.{eqb-true, eq-eqb, ne_eqb, eqb-false}
use Rattle.std.proofs.lemmas.List.Kept.{AllPairs-filter}
use Rattle.std.proofs.lemmas.List.Folds.{Any-from_list_any, list_any-from_Any}
use Rattle.prefix_lanes.specs.Bits.{PrefixView, is_prefix}
use Rattle.ranked_policy.specs.declared.network.Origin.{Origin}
use Rattle.ranked_policy.specs.Plans.{Plan, IsNetwork, IsNamed, numbers}
use Rattle.rib_tables.specs.Words.{lists}
use Rattle.rib_tables.specs.Tables.{Paths, path_of}
use Rattle.snap_marker.specs.declared.part.Channel.{Channel}
use Rattle.snap_marker.specs.Parts.{Seen, seen, peers_of, epoch_in, channel_in, waits_for_marker, kept_in, originated_in, messages}
use Rattle.router_model.specs.Settings.{names, linked, peers}
use Rattle.router_model.specs.Sides.{Side, marked, is_up}
use Rattle.router_model.specs.Step.{awaits_marker}
use Rattle.router_side.specs.SideOf.{side}
use Rattle.router_core.specs.declared.peers.Peer.{Peer}
use Rattle.router_core.specs.Views.{side_at, listed}
use Rattle.router_core.specs.Recorded.{paths_of, own_of, channels_of, down_in, Become, marked_if_up}
use Rattle.router_core.proofs.Naming.{is_prefix-true, is_prefix-from}

-- ---- kept paths and what is originated, by prefix

kept_at : (o : Origin) (os : List Origin) (kept : Paths) (q : PrefixView) (b : Bool) → is_prefix o.prefix q ≡ b → kept_in (paths_of os kept) q ≡ cond (names os q) (path_of kept q) []
    → cond b (path_of kept o.prefix) (kept_in (paths_of os kept) q) ≡ cond (b || names os q) (path_of kept q) []
kept_at o os kept q true e h = ap (path_of kept) (is_prefix-true o.prefix q e)
kept_at o os kept q false e h = h

pub kept_is : (os : List Origin) (kept : Paths) (q : PrefixView) → kept_in (paths_of os kept) q ≡ cond (names os q) (path_of kept q) []
kept_is [] kept q = refl
kept_is (o ∷ os) kept q = kept_at o os kept q (is_prefix o.prefix q) refl (kept_is os kept q)

own_at : (o : Origin) (os : List Origin) (own : List PrefixView) (q : PrefixView) (b c : Bool) → is_prefix o.prefix q ≡ b → lists own o.prefix ≡ c
    → originated_in (own_of os own) q ≡ cond (names os q) (lists own q) false
    → originated_in (cond c (o.prefix ∷ own_of os own) (own_of os own)) q ≡ cond (b || names os q) (lists own q) false
own_at o os own q true true e t h = rw e (sym (ap (lists own) (sym (is_prefix-true o.prefix q e)) ∙ t))
own_at o os own q true false e t h =
    let f : lists own q ≡ false = ap (lists own) (sym (is_prefix-true o.prefix q e)) ∙ t in
    rw f (h ∙ both_false (names os q) (lists own q) f)
  where
    both_false : (b c : Bool) → c ≡ false → cond b c false ≡ false
    both_false true c h = h
    both_false false c h = refl
own_at o os own q false true e t h = rw e h
own_at o os own q false false e t h = h

pub own_is : (os : List Origin) (own : List PrefixView) (q : PrefixView) → originated_in (own_of os own) q ≡ cond (names os q) (lists own q) false
own_is [] own q = refl
own_is (o ∷ os) own q = own_at o os own q (is_prefix o.prefix q) (lists own o.prefix) refl refl (own_is os own q)

pub is_named : (os : List Origin) (q : PrefixView) → names os q ≡ true → IsNamed os q
is_named os q h = let found = Any-from_list_any (λ (o : Origin). is_prefix o.prefix q) os h in (found.0, found.1, found.2, found.3, is_prefix-true found.1.prefix q found.4)

pub named_is : (os : List Origin) (q : PrefixView) → IsNamed os q → names os q ≡ true
named_is os q n = list_any-from_Any (λ (o : Origin). is_prefix o.prefix q) os (n.0, n.1, n.2, n.3, is_prefix-from n.1.prefix q n.4)

where_named : {X : Type 0} (x y : X) (b : Bool) → (b ≡ false → x ≡ y) → cond b x y ≡ x
where_named x y true h = refl
where_named x y false h = sym (h refl)

pub kept_as : (os : List Origin) (kept : Paths) → ((q : PrefixView) → (IsNamed os q → ⊥) → path_of kept q ≡ []) → kept_in (paths_of os kept) ≡ path_of kept
kept_as os kept none =
    fun_ext (λ q. kept_is os kept q ∙ where_named (path_of kept q) [] (names os q) (λ f. none q (λ n. let t = sym f ∙ named_is os q n in absurd cc)))

not_true : (b : Bool) → (b ≡ true → ⊥) → b ≡ false
not_true true h = absurd (h refl)
not_true false h = refl

pub own_as : (os : List Origin) (own : List PrefixView) → ((q : PrefixView) → lists own q ≡ true → IsNamed os q) → originated_in (own_of os own) ≡ lists own
own_as os own all =
    fun_ext (λ q. own_is os own q ∙ where_named (lists own q) false (names os q) (λ f. not_true (lists own q) (λ t. let k = sym f ∙ named_is os q (all q t) in absurd cc)))

-- ---- channels, by peer

first_seen : (x y : Seen) (xs ys : List Seen) → (x ∷ xs) ≡ (y ∷ ys) → x ≡ y
first_seen x y xs ys h = ap (λ (zs : List Seen). get_or zs 0 x) h

rest_seen : (x y : Seen) (xs ys : List Seen) → (x ∷ xs) ≡ (y ∷ ys) → xs ≡ ys
rest_seen x y xs ys h = ap (drop 1) h

abbrev as_seen : Option ℕ → Peer → Seen
as_seen first p = record { peer = p.number; epoch = (side p.side).link.epoch; is_open = awaits_marker first p.number; updates = [] }

pub peers_as : (first : Option ℕ) (cs : List Channel) (ps : List Peer) → map seen cs ≡ channels_of first ps → peers_of cs ≡ map (λ p. p.number) ps
peers_as first [] [] h = refl
peers_as first [] (p ∷ ps) h = absurd cc
peers_as first (c ∷ cs) [] h = absurd cc
peers_as first (c ∷ cs) (p ∷ ps) h =
    let one = first_seen (seen c) (as_seen first p) (map seen cs) (channels_of first ps) h in
    let rest = peers_as first cs ps (rest_seen (seen c) (as_seen first p) (map seen cs) (channels_of first ps) h) in
    ap (λ (n : ℕ). n ∷ peers_of cs) (ap (λ (s : Seen). s.peer) one) ∙ ap (λ (ns : List ℕ). p.number ∷ ns) rest

turned : (a b : ℕ) → (a == b) ≡ (b == a)
turned a b = by_test (a == b) refl
  where
    by_test : (t : Bool) → (a == b) ≡ t → (a == b) ≡ (b == a)
    by_test true e = e ∙ sym (eq-eqb b a (sym (eqb-true a b e)))
    by_test false e = e ∙ sym (ne_eqb b a (λ k. eqb-false a b e (sym k)))

pub epochs_as : (none : Side) (first : Option ℕ) (cs : List Channel) (ps : List Peer) → none.link.epoch ≡ 0 → map seen cs ≡ channels_of first ps → (v : ℕ) → epoch_in cs v ≡ (side_at none ps v).link.epoch
epochs_as none first [] [] z h v = sym z
epochs_as none first [] (p ∷ ps) z h v = absurd cc
epochs_as none first (c ∷ cs) [] z h v = absurd cc
epochs_as none first (c ∷ cs) (p ∷ ps) z h v =
    let one = first_seen (seen c) (as_seen first p) (map seen cs) (channels_of first ps) h in
    let rest = epochs_as none first cs ps z (rest_seen (seen c) (as_seen first p) (map seen cs) (channels_of first ps) h) v in
    let test : (v == c.peer) ≡ (p.number == v) = ap (λ (s : Seen). v == s.peer) one ∙ turned v p.number in
    epoch_here (p.number == v) (v == c.peer) test (ap (λ (s : Seen). s.epoch) one) rest
  where
    epoch_here : (b t : Bool) → t ≡ b → c.epoch ≡ (side p.side).link.epoch → epoch_in cs v ≡ (side_at none ps v).link.epoch
        → cond t c.epoch (epoch_in cs v) ≡ (cond b (side p.side) (side_at none ps v)).link.epoch
    epoch_here true t e x r = rw e x
    epoch_here false t e x r = rw e r

pub waits_as : (first : Option ℕ) (cs : List Channel) (ps : List Peer) → map seen cs ≡ channels_of first ps → (v : ℕ) → (listed v ps ≡ false → awaits_marker first v ≡ true) → waits_for_marker cs v ≡ awaits_marker first v
waits_as first [] [] h v k = sym (k refl)
waits_as first [] (p ∷ ps) h v k = absurd cc
waits_as first (c ∷ cs) [] h v k = absurd cc
waits_as first (c ∷ cs) (p ∷ ps) h v k =
    let one = first_seen (seen c) (as_seen first p) (map seen cs) (channels_of first ps) h in
    let test : (v == c.peer) ≡ (p.number == v) = ap (λ (s : Seen). v == s.peer) one ∙ turned v p.number in
    waits_here (p.number == v) (v == c.peer) refl test (ap (λ (s : Seen). s.is_open) one)
    (λ f. waits_as first cs ps (rest_seen (seen c) (as_seen first p) (map seen cs) (channels_of first ps) h) v (λ l. k (rw f l)))
  where
    waits_here : (b t : Bool) → (p.number == v) ≡ b → t ≡ b → c.is_open ≡ awaits_marker first p.number → (b ≡ false → waits_for_marker cs v ≡ awaits_marker first v) → cond t c.is_open (waits_for_marker cs v) ≡ awaits_marker first v
    waits_here true t n e x r = rw e (x ∙ ap (awaits_marker first) (eqb-true p.number v n))
    waits_here false t n e x r = rw e (r refl)

pub channels_as : (first : Option ℕ) (cs : List Channel) (ps : List Peer) → map seen cs ≡ channels_of first ps → (v : ℕ) → channel_in cs v ≡ []
channels_as first [] [] h v = refl
channels_as first [] (p ∷ ps) h v = absurd cc
channels_as first (c ∷ cs) [] h v = absurd cc
channels_as first (c ∷ cs) (p ∷ ps) h v =
    let one = first_seen (seen c) (as_seen first p) (map seen cs) (channels_of first ps) h in
    channel_here (v == c.peer) (ap (λ (s : Seen). messages s.updates) one) (channels_as first cs ps (rest_seen (seen c) (as_seen first p) (map seen cs) (channels_of first ps) h) v)
  where
    channel_here : (b : Bool) → messages c.updates.items ≡ [] → channel_in cs v ≡ [] → cond b (messages c.updates.items) (channel_in cs v) ≡ []
    channel_here true x r = x
    channel_here false x r = r

-- ---- the first peer that is down

-- each number is below those behind it
abbrev pub Rises : List Peer → Type 0
Rises ps = AllPairs (λ a b. a < b) (map (λ p. p.number) ps)

pub rises : (net : Plan) → IsNetwork net → (u : ℕ) (ps : List Peer) → map (λ p. p.number) ps ≡ peers net u → Rises ps
rises net n u ps e = subst (λ (ns : List ℕ). AllPairs (λ a b. a < b) ns) (sym e) (AllPairs-filter (λ a b. a < b) (linked net u) (numbers net.routers) n.plan.rising)

-- what is found is found by another test that agrees on the list
find_same : (p q : ℕ → Bool) (xs : List ℕ) → ((k d : ℕ) → k < length xs → p (get_or xs k d) ≡ q (get_or xs k d)) → find p xs ≡ find q xs
find_same p q [] h = refl
find_same p q (x ∷ xs) h =
    let rest = find_same p q xs (λ k d l. h (suc k) d (omega (arith, l))) in
    ap (λ (b : Bool). cond b (Some x) (find p xs)) (h 0 x (omega arith)) ∙ ap (λ (r : Option ℕ). cond (q x) (Some x) r) rest

down_here : (none : Side) (p : Peer) (ps : List Peer) → Rises (p ∷ ps) → find (λ v. not (is_up (side_at none (p ∷ ps) v))) (map (λ q. q.number) ps) ≡ find (λ v. not (is_up (side_at none ps v))) (map (λ q. q.number) ps)
down_here none p ps r =
    let ns = map (λ (q : Peer). q.number) ps in
    find_same (λ v. not (is_up (side_at none (p ∷ ps) v))) (λ v. not (is_up (side_at none ps v))) ns
    (λ k d l.
    let above : p.number < get_or ns k d = r 0 (suc k) d (omega arith) (omega (arith, l)) in
    rw (ne_eqb p.number (get_or ns k d) (λ e. absurd (omega (arith, above, e)))) refl)

rest_rises : (p : Peer) (ps : List Peer) → Rises (p ∷ ps) → Rises ps
rest_rises p ps r = λ i j d lt le. r (suc i) (suc j) d (omega (arith, lt)) (omega (arith, le))

down_by : (none : Side) (p : Peer) (ps : List Peer) (b : Bool) → is_up (side p.side) ≡ b → down_in ps ≡ find (λ v. not (is_up (side_at none (p ∷ ps) v))) (map (λ q. q.number) ps)
    → cond b (down_in ps) (Some p.number) ≡ cond (not (is_up (side_at none (p ∷ ps) p.number))) (Some p.number) (find (λ v. not (is_up (side_at none (p ∷ ps) v))) (map (λ q. q.number) ps))
down_by none p ps true e h = rw (eq-eqb p.number p.number refl, e) h
down_by none p ps false e h = rw (eq-eqb p.number p.number refl, e) refl

pub down_is : (none : Side) (ps : List Peer) → Rises ps → down_in ps ≡ find (λ v. not (is_up (side_at none ps v))) (map (λ p. p.number) ps)
down_is none [] r = refl
down_is none (p ∷ ps) r = down_by none p ps (is_up (side p.side)) refl (down_is none ps (rest_rises p ps r) ∙ sym (down_here none p ps r))

-- ---- peers that change

pub become_numbers : (f : Side → Side) (ps qs : List Peer) → Become f ps qs → map (λ p. p.number) qs ≡ map (λ p. p.number) ps
become_numbers f [] [] h = refl
become_numbers f [] (q ∷ qs) h = absurd h
become_numbers f (p ∷ ps) [] h = absurd h
become_numbers f (p ∷ ps) (q ∷ qs) h = ap (λ (n : ℕ). n ∷ map (λ (w : Peer). w.number) qs) h.0 ∙ ap (λ (ns : List ℕ). p.number ∷ ns) (become_numbers f ps qs h.2)

pub become_listed : (f : Side → Side) (ps qs : List Peer) → Become f ps qs → (v : ℕ) → listed v qs ≡ listed v ps
become_listed f [] [] h v = refl
become_listed f [] (q ∷ qs) h v = absurd h
become_listed f (p ∷ ps) [] h v = absurd h
become_listed f (p ∷ ps) (q ∷ qs) h v = ap (λ (n : ℕ). cond (n == v) true (listed v qs)) h.0 ∙ ap (λ (b : Bool). cond (p.number == v) true b) (become_listed f ps qs h.2 v)

become_by : (f : Side → Side) (b l : Bool) (s x y : Side) → y ≡ cond l (f x) x → cond b (f s) y ≡ cond (cond b true l) (f (cond b s x)) (cond b s x)
become_by f true l s x y e = refl
become_by f false l s x y e = e

pub become_sides : (f : Side → Side) (none : Side) (ps qs : List Peer) → Become f ps qs → (v : ℕ) → side_at none qs v ≡ cond (listed v ps) (f (side_at none ps v)) (side_at none ps v)
become_sides f none [] [] h v = refl
become_sides f none [] (q ∷ qs) h v = absurd h
become_sides f none (p ∷ ps) [] h v = absurd h
become_sides f none (p ∷ ps) (q ∷ qs) h v =
    ap (λ (n : ℕ). cond (n == v) (side q.side) (side_at none qs v)) h.0 ∙ ap (λ (s : Side). cond (p.number == v) s (side_at none qs v)) h.1
    ∙ become_by f (p.number == v) (listed v ps) (side p.side) (side_at none ps v) (side_at none qs v) (become_sides f none ps qs h.2 v)

marked_by : (b c : Bool) (s : ℕ) (x : Side) → is_up x ≡ c → cond b (cond c (marked s x) x) x ≡ cond (b && c) (marked s x) x
marked_by true c s x e = refl
marked_by false c s x e = refl

pub marked_sides : (none : Side) (s : ℕ) (ps qs : List Peer) → Become (marked_if_up s) ps qs → (v : ℕ)
    → side_at none qs v ≡ cond (listed v ps && is_up (side_at none ps v)) (marked s (side_at none ps v)) (side_at none ps v)
marked_sides none s ps qs h v = become_sides (marked_if_up s) none ps qs h v ∙ marked_by (listed v ps) (is_up (side_at none ps v)) s (side_at none ps v) refl
