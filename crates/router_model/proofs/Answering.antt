-- The steps that calls answer are steps, and a call is idle only where there is none.
use Rattle.std.proofs.Common.{◌≡◌, ℕ, ◌-◌, ◌<◌, ◌≤◌, ◌==◌, Bool, true, false, ◌&&◌, ◌||◌, cond, List, [], ◌∷◌, ◌++◌, length, refl, ap, sym, ◌∙◌, arith, subst, Option, None, Some}
use Rattle.std.specs.Prelude.{nat_lt, not, is_some, filter}
use Rattle.std.specs.List.{find, list_any}
use Rattle.std.proofs.lemmas.Bool.Decides.{nat_tests}
use mathlib.Core.List.{IsPrefix}
use Rattle.prefix_lanes.specs.Bits.{PrefixView}
use Rattle.bgp_codec.specs.declared.message.Message.{Message}
use Rattle.bgp_framing.specs.Held.{is_waiting}
use Rattle.ranked_policy.specs.Plans.{IsNetwork, numbers}
use Rattle.run_model.specs.Links.{Entry, Dial, Says, Mark, Shut}
use Rattle.run_model.specs.Octets.{Passing, Octet, Control, octets_of}
use Rattle.run_model.specs.Network.{alone, puts, takes}
use Rattle.outbox.specs.Items.{passes, octets_in_front, item_of, next_item}
use Rattle.router_model.specs.declared.command.Command.{Command}
use Rattle.router_model.specs.declared.command.Command.TheVariants as command
use Rattle.outbox.specs.declared.item.What.{What}
use Rattle.outbox.specs.declared.item.What.TheVariants as item
use Rattle.router_model.specs.declared.refusal.RouterError.{RouterError}
use Rattle.router_model.specs.declared.refusal.RouterError.TheVariants as error
use Rattle.router_model.specs.Sides.{is_up}
use Rattle.router_model.specs.Settings.{Setting, linked, peers, is_origin, prefixes}
use Rattle.router_model.specs.State.{Router, is_unadvertised, undecided, is_waiting_peer}
use Rattle.router_model.specs.Step.{Obeys, Ticks, Handles, Decides, Advertises, RouterEvent, HasSize, MayObey, May, overflows, is_greater}
use Rattle.router_model.specs.Calls.{Call, Obey, Tick, Put, Take, Handle, Decide, Advertise, Steps, judged, unless, first_of, if_so, put_event, advertise_event, has_room, bars, bars_command, command_event, event_of, overflows_at, IsEventOf}
use Rattle.router_model.specs.Laws.{AnswersAreSteps}

-- what a judgement that answers a step has passed
pub record Passed (why : Option RouterError) (event : Option RouterEvent) (over : Bool) (e : RouterEvent) : Type 0 where
  pub free : why ≡ None
  pub is : event ≡ Some e
  pub fits : over ≡ false

passed : (why : Option RouterError) (event : Option RouterEvent) (ends over : Bool) (e : RouterEvent) → judged why event ends over ≡ Steps e → Passed why event over e
passed (Some why) event ends over e h = absurd cc
passed None None ends over e h = absurd cc
passed None (Some d) true over e h = absurd cc
passed None (Some d) false true e h = absurd cc
passed None (Some d) false false e h = record { free = refl; is = cc; fits = refl }

free_of : (b : Bool) (why : RouterError) → unless b why ≡ None → b ≡ true
free_of true why h = refl
free_of false why h = absurd cc

both_free : (a b : Option RouterError) → first_of a b ≡ None → (a ≡ None) × (b ≡ None)
both_free None b h = (refl, h)
both_free (Some why) b h = absurd cc

so : (b : Bool) (d e : RouterEvent) → if_so b d ≡ Some e → (b ≡ true) × (d ≡ e)
so true d e h = (refl, cc)
so false d e h = absurd cc

turned : (b : Bool) → not b ≡ true → b ≡ false
turned true h = absurd cc
turned false h = refl

-- ---- lists

found_at : {A : Type 0} (p : A → Bool) (x v : A) (rest : Option A) (b : Bool) → p x ≡ b → (rest ≡ Some v → p v ≡ true) → cond b (Some x) rest ≡ Some v → p v ≡ true
found_at p x v rest true e f h = (let same : x ≡ v = cc in subst (λ k. p k ≡ true) same e)
found_at p x v rest false e f h = f h

pub found : {A : Type 0} (p : A → Bool) (xs : List A) (v : A) → find p xs ≡ Some v → p v ≡ true
found p [] v h = absurd cc
found p (x ∷ xs) v h = found_at p x v (find p xs) (p x) refl (found p xs v) h

-- what is found in a filtered list passes the filter
kept_at : (p q : ℕ → Bool) (x v : ℕ) (rest : List ℕ) (b c : Bool) → q x ≡ b → p x ≡ c → (find p rest ≡ Some v → q v ≡ true) → find p (cond b (x ∷ rest) rest) ≡ Some v → q v ≡ true
kept_at p q x v rest true true e d f h = (let same : x ≡ v = (let g : Some x ≡ Some v = rw d at h in cc) in subst (λ k. q k ≡ true) same e)
kept_at p q x v rest true false e d f h = f (rw d at h)
kept_at p q x v rest false c e d f h = f h

pub found_kept : (p q : ℕ → Bool) (xs : List ℕ) (v : ℕ) → find p (filter q xs) ≡ Some v → q v ≡ true
found_kept p q [] v h = absurd cc
found_kept p q (x ∷ xs) v h = kept_at p q x v (filter q xs) (q x) (p x) refl refl (found_kept p q xs v) h

any_found_at : {A : Type 0} (p : A → Bool) (x : A) (xs : List A) (b : Bool) → (b || list_any p xs) ≡ true → (list_any p xs ≡ true → is_some (find p xs) ≡ true) → is_some (cond b (Some x) (find p xs)) ≡ true
any_found_at p x xs true h f = refl
any_found_at p x xs false h f = f h

pub any_found : {A : Type 0} (p : A → Bool) (xs : List A) → list_any p xs ≡ true → is_some (find p xs) ≡ true
any_found p [] h = absurd cc
any_found p (x ∷ xs) h = any_found_at p x xs (p x) h (any_found p xs)

-- ---- the next item

in_front : (e f b : ℕ) (most : ℕ) (rest : List (Passing Message)) (c d : Bool) → (e == f) ≡ c → nat_lt 0 most ≡ d
    → (IsPrefix (octets_of e (octets_in_front (most - 1) e rest)) rest × (length (octets_in_front (most - 1) e rest) ≤ most - 1))
    → IsPrefix (octets_of e (cond (c && d) (b ∷ octets_in_front (most - 1) e rest) [])) (Octet f b ∷ rest) × (length (cond (c && d) (b ∷ octets_in_front (most - 1) e rest) []) ≤ most)
in_front e f b most rest true true p q h =
    let same : e ≡ f = grind (arith, nat_tests, p) in
    let some : 0 < most = grind (arith, nat_tests, q) in
    ((h.0.0, ap (λ k. Octet k b ∷ (octets_of e (octets_in_front (most - 1) e rest) ++ h.0.0)) same ∙ ap (λ w. Octet f b ∷ w) h.0.1), omega (arith, h.1))
in_front e f b most rest true false p q h = ((Octet f b ∷ rest, refl), omega arith)
in_front e f b most rest false d p q h = ((Octet f b ∷ rest, refl), omega arith)

fronts : (most e : ℕ) (out : List (Passing Message)) → IsPrefix (octets_of e (octets_in_front most e out)) out × (length (octets_in_front most e out) ≤ most)
fronts most e [] = (([], refl), omega arith)
fronts most e (Control x ∷ rest) = ((Control x ∷ rest, refl), omega arith)
fronts most e (Octet f b ∷ rest) = in_front e f b most rest (e == f) (nat_lt 0 most) refl refl (fronts (most - 1) e rest)

item_may : (x : Entry Message) (i : What) (cut : ℕ) (rest : List (Passing Message)) → item_of x ≡ Some i → HasSize cut i × IsPrefix (passes i) (Control x ∷ rest)
item_may (Dial e) i cut rest h = (let same : item.Dial e ≡ i = cc in subst (λ k. HasSize cut k × IsPrefix (passes k) (Control (Dial e) ∷ rest)) same (tt, (rest, refl)))
item_may (Says e m) i cut rest h = absurd cc
item_may (Mark e s) i cut rest h = (let same : item.Mark e s ≡ i = cc in subst (λ k. HasSize cut k × IsPrefix (passes k) (Control (Mark e s) ∷ rest)) same (tt, (rest, refl)))
item_may (Shut e) i cut rest h = (let same : item.Shut e ≡ i = cc in subst (λ k. HasSize cut k × IsPrefix (passes k) (Control (Shut e) ∷ rest)) same (tt, (rest, refl)))

has_one : (cut e b : ℕ) (rest : List (Passing Message)) → 1 ≤ cut → 1 ≤ length (octets_in_front cut e (Octet e b ∷ rest))
has_one cut e b rest some =
    let hit : (e == e) ≡ true = grind (arith, nat_tests) in
    let room : nat_lt 0 cut ≡ true = grind (arith, nat_tests) in rw (hit, room) (omega arith)

next_may : (cut : ℕ) (out : List (Passing Message)) (i : What) → 1 ≤ cut → next_item cut out ≡ Some i → HasSize cut i × IsPrefix (passes i) out
next_may cut [] i some h = absurd cc
next_may cut (Control x ∷ rest) i some h = item_may x i cut rest h
next_may cut (Octet e b ∷ rest) i some h =
    let f = fronts cut e (Octet e b ∷ rest) in
    let same : item.Piece e (octets_in_front cut e (Octet e b ∷ rest)) ≡ i = cc in
    subst (λ k. HasSize cut k × IsPrefix (passes k) (Octet e b ∷ rest)) same ((has_one cut e b rest some, f.1), f.0)

put_is : (v : ℕ) (o : Option What) (e : RouterEvent) → put_event v o ≡ Some e → (i : What) × (o ≡ Some i) × (e ≡ puts v i)
put_is v None e h = absurd cc
put_is v (Some i) e h = (i, refl, cc)

told_is : (o : Option ℕ) (e : RouterEvent) → advertise_event o ≡ Some e → (v : ℕ) × (o ≡ Some v) × (e ≡ alone (Advertises v))
told_is None e h = absurd cc
told_is (Some v) e h = (v, refl, cc)

left_so : (a b : Bool) → (a && b) ≡ true → a ≡ true
left_so true b h = refl
left_so false b h = absurd cc

-- a peer that waits has a prefix that it is to be told
waits_up : (b : Bool) (rest : Bool) → cond b rest false ≡ true → (b ≡ true) × (rest ≡ true)
waits_up true rest h = (refl, h)
waits_up false rest h = absurd cc

untold_some : (l b : Bool) (o : Option PrefixView) → l ≡ true → b ≡ true → is_some o ≡ true → is_some (cond (l && b) o None) ≡ true
untold_some true true o p q h = h
untold_some true false o p q h = absurd cc
untold_some false b o p q h = absurd cc

-- ---- each call

command_may : (g : Setting) (u : ℕ) (x : Router) (c : Command) (e : RouterEvent) → bars_command g u x c ≡ None → command_event g u x c ≡ Some e
    → (e ≡ alone (Obeys c)) × MayObey g u x c
command_may g u x (command.Start v) e f h = (cc, free_of (linked g.net u v) error.NoSuchPeer f)
command_may g u x (command.Stop v) e f h = (cc, free_of (linked g.net u v) error.NoSuchPeer f)
command_may g u x (command.Reset v) e f h = (cc, free_of (linked g.net u v) error.NoSuchPeer f)
command_may g u x (command.Originate q) e f h =
    let s = so (not (x.originated q)) (alone (Obeys (command.Originate q))) e h in (sym s.1, (free_of (is_origin g.net.origins u q) error.NotOrigin f, turned (x.originated q) s.0))
command_may g u x (command.Withdraw q) e f h =
    let s = so (x.originated q) (alone (Obeys (command.Withdraw q))) e h in (sym s.1, (free_of (is_origin g.net.origins u q) error.NotOrigin f, s.0))
command_may g u x (command.Snapshot s) e f h = (cc, free_of (is_greater x s) (error.OldSnapshot x.snapshots.last) f)
command_may g u x command.Restart e f h = (cc, tt)

call_may : (g : Setting) → IsNetwork g.net → (u : ℕ) (x : Router) (call : Call) (e : RouterEvent) → bars g u x call ≡ None → event_of g u x call ≡ Some e
    → IsEventOf call e × May g u x e
call_may g net u x (Obey c) e f h = (let m = command_may g u x c e f h in (m.0, subst (λ k. May g u x k) (sym m.0) m.1))
call_may g net u x Tick e f h = (let same : e ≡ alone Ticks = cc in (same, subst (λ k. May g u x k) (sym same) tt))
call_may g net u x (Put v) e f h =
    let p = put_is v (next_item g.net.settings.cut (x.sides v).outbox) e h in
    let m = next_may g.net.settings.cut (x.sides v).outbox p.0 net.plan.settings.cut.0 p.1 in
    ((p.0, p.2), subst (λ k. May g u x k) (sym p.2) (free_of (linked g.net u v) error.NoSuchPeer f, m.0, m.1))
call_may g net u x (Take v stamp what) e f h =
    let same : e ≡ takes v what = cc in
    let b = both_free (unless (linked g.net u v) error.NoSuchPeer) (unless (not (is_waiting (x.sides v).held)) (error.Held v)) f in
    (same, subst (λ k. May g u x k) (sym same) (free_of (linked g.net u v) error.NoSuchPeer b.0, turned (is_waiting (x.sides v).held) (free_of (not (is_waiting (x.sides v).held)) (error.Held v) b.1)))
call_may g net u x (Handle v) e f h =
    let s = so (is_waiting (x.sides v).held) (alone (Handles v)) e h in (sym s.1, subst (λ k. May g u x k) s.1 (free_of (linked g.net u v) error.NoSuchPeer f, s.0))
call_may g net u x Decide e f h = (let s = so (is_some (undecided g u x)) (alone Decides) e h in (sym s.1, subst (λ k. May g u x k) s.1 s.0))
call_may g net u x Advertise e f h =
    let t = told_is (find (has_room g u x) (peers g.net u)) e h in
    let v = t.0 in
    let room = left_so (is_waiting_peer g u x v) _ (found (has_room g u x) (peers g.net u) v t.1) in
    let up = waits_up (is_up (x.sides v)) (list_any (is_unadvertised g u x v) (prefixes g)) room in
    let near = found_kept (has_room g u x) (linked g.net u) (numbers g.net.routers) v t.1 in
    ((v, t.2), subst (λ k. May g u x k) (sym t.2) (untold_some (linked g.net u v) (is_up (x.sides v)) (find (is_unadvertised g u x v) (prefixes g)) near up.0 (any_found (is_unadvertised g u x v) (prefixes g) up.1)))

no_overflow : (g : Setting) (u : ℕ) (x : Router) (o : Option RouterEvent) (e : RouterEvent) → o ≡ Some e → overflows_at g u x o ≡ false → overflows g u x e ≡ false
no_overflow g u x o e h f = subst (λ k. overflows_at g u x k ≡ false) h f

pub answers_are_steps : AnswersAreSteps
answers_are_steps g net u x call e h =
    let p = passed (bars g u x.router call) (event_of g u x.router call) _ _ e h in
    let m = call_may g net u x.router call e p.free p.is in
    (m.0, record { may = m.1; numbers = no_overflow g u x.router (event_of g u x.router call) e p.is p.fits; leaves = refl })
