-- A call is idle only where none of its events may come.
use Rattle.std.proofs.Common.{◌≡◌, ℕ, nat_eq, Bool, true, false, ◌&&◌, ◌||◌, cond, List, [], ◌∷◌, ◌++◌, refl, arith, subst, Option, None, Some}
use Rattle.std.specs.Prelude.{not, is_some, filter}
use Rattle.std.specs.List.{find, list_any}
use Rattle.std.proofs.lemmas.Bool.Decides.{nat_tests}
use mathlib.Core.List.{IsPrefix}
use Rattle.prefix_lanes.specs.Bits.{PrefixView}
use Rattle.bgp_codec.specs.declared.message.Message.{Message}
use Rattle.bgp_framing.specs.Held.{is_waiting}
use Rattle.ranked_policy.specs.Plans.{IsNetwork, numbers}
use Rattle.run_model.specs.Links.{Dial, Says, Mark, Shut}
use Rattle.run_model.specs.Octets.{Passing, Octet, Control}
use Rattle.run_model.specs.Network.{alone, puts}
use Rattle.outbox.specs.Items.{passes, next_item}
use Rattle.router_model.specs.declared.command.Command.{Command}
use Rattle.router_model.specs.declared.command.Command.TheVariants as command
use Rattle.outbox.specs.declared.item.What.{What}
use Rattle.outbox.specs.declared.item.What.TheVariants as item
use Rattle.router_model.specs.declared.refusal.RouterError.{RouterError}
use Rattle.router_model.specs.Sides.{is_up}
use Rattle.router_model.specs.Settings.{Setting, linked, peers, prefixes}
use Rattle.router_model.specs.State.{Router, is_unadvertised, undecided, is_waiting_peer}
use Rattle.router_model.specs.Step.{Obeys, Handles, Decides, Advertises, RouterEvent, HasSize, MayObey, May}
use Rattle.router_model.specs.Calls.{Call, Obey, Tick, Put, Take, Handle, Decide, Advertise, Idle, judged, if_so, put_event, advertise_event, blocked, has_room, bars, command_event, event_of, IsEventOf}
use Rattle.router_model.specs.Laws.{IdleWhereNothingMayCome}
use Rattle.router_model.proofs.Peers.{is_peer}

-- what a judgement that answers nothing has passed
idle : (why : Option RouterError) (event : Option RouterEvent) (ends over : Bool) → judged why event ends over ≡ Idle → (why ≡ None) × (event ≡ None)
idle why event ends over h = grind arith

not_so : (b : Bool) (d : RouterEvent) → if_so b d ≡ None → b ≡ false
not_so true d h = absurd cc
not_so false d h = refl

so_not : (b : Bool) → not b ≡ false → b ≡ true
so_not true h = refl
so_not false h = absurd cc

no_put : (v : ℕ) (o : Option What) → put_event v o ≡ None → o ≡ None
no_put v None h = refl
no_put v (Some i) h = absurd cc

no_telling : (o : Option ℕ) → advertise_event o ≡ None → o ≡ None
no_telling None h = refl
no_telling (Some v) h = absurd cc

not_blocked : (o w : Option ℕ) → blocked o w ≡ None → o ≡ None → w ≡ None
not_blocked None None h e = refl
not_blocked None (Some v) h e = absurd cc
not_blocked (Some x) w h e = absurd cc

-- nothing is put from an outbox without a next item
from_none : (cut : ℕ) (i : What) (rest : List (Passing Message)) → HasSize cut i → passes i ++ rest ≡ [] → ⊥
from_none cut (item.Dial e) rest size h = absurd cc
from_none cut (item.Piece e []) rest size h = absurd (let one = size.0 in omega arith)
from_none cut (item.Piece e (b ∷ bs)) rest size h = absurd cc
from_none cut (item.Mark e s) rest size h = absurd cc
from_none cut (item.Shut e) rest size h = absurd cc

from_says : (cut e : ℕ) (m : Message) (i : What) (rest out : List (Passing Message)) → HasSize cut i → passes i ++ rest ≡ Control (Says e m) ∷ out → ⊥
from_says cut e m (item.Dial d) rest out size h = absurd cc
from_says cut e m (item.Piece d []) rest out size h = absurd (let one = size.0 in omega arith)
from_says cut e m (item.Piece d (b ∷ bs)) rest out size h = absurd cc
from_says cut e m (item.Mark d s) rest out size h = absurd cc
from_says cut e m (item.Shut d) rest out size h = absurd cc

nothing_next : (cut : ℕ) (out : List (Passing Message)) (i : What) → next_item cut out ≡ None → HasSize cut i → IsPrefix (passes i) out → ⊥
nothing_next cut [] i h size p = from_none cut i p.0 size p.1
nothing_next cut (Control (Dial e) ∷ out) i h size p = absurd cc
nothing_next cut (Control (Says e m) ∷ out) i h size p = from_says cut e m i p.0 out size p.1
nothing_next cut (Control (Mark e s) ∷ out) i h size p = absurd cc
nothing_next cut (Control (Shut e) ∷ out) i h size p = absurd cc
nothing_next cut (Octet e b ∷ out) i h size p = absurd cc

-- ---- a linked peer that waits is found

missed : (p : ℕ → Bool) (x : ℕ) (rest : List ℕ) (b c : Bool) → p x ≡ c → find p (cond b (x ∷ rest) rest) ≡ None → (find p rest ≡ None) × (b ≡ true → c ≡ false)
missed p x rest true true e h = absurd (let g : Some x ≡ None = rw e at h in cc)
missed p x rest true false e h = (rw e at h, λ t. refl)
missed p x rest false c e h = (h, λ t. absurd cc)

none_found_at : (p q : ℕ → Bool) (x : ℕ) (xs : List ℕ) (v : ℕ) (b : Bool) → nat_eq v x ≡ b → (b || list_any (nat_eq v) xs) ≡ true → q v ≡ true → p v ≡ true
    → find p (cond (q x) (x ∷ filter q xs) (filter q xs)) ≡ None → (list_any (nat_eq v) xs ≡ true → find p (filter q xs) ≡ None → ⊥) → ⊥
none_found_at p q x xs v true e h hq hp none f =
    let same : v ≡ x = grind (arith, nat_tests, e) in
    let m = missed p x (filter q xs) (q x) (p x) refl none in
    let c : p x ≡ false = m.1 (subst (λ k. q k ≡ true) same hq) in
    let d : p x ≡ true = subst (λ k. p k ≡ true) same hp in absurd cc
none_found_at p q x xs v false e h hq hp none f = f h (missed p x (filter q xs) (q x) (p x) refl none).0

pub none_found : (p q : ℕ → Bool) (xs : List ℕ) (v : ℕ) → list_any (nat_eq v) xs ≡ true → q v ≡ true → p v ≡ true → find p (filter q xs) ≡ None → ⊥
none_found p q [] v h hq hp none = absurd cc
none_found p q (x ∷ xs) v h hq hp none = none_found_at p q x xs v (nat_eq v x) refl h hq hp none (λ g n. none_found p q xs v g hq hp n)

found_any_at : {A : Type 0} (p : A → Bool) (x : A) (xs : List A) (b : Bool) → is_some (cond b (Some x) (find p xs)) ≡ true → (is_some (find p xs) ≡ true → list_any p xs ≡ true) → (b || list_any p xs) ≡ true
found_any_at p x xs true h f = refl
found_any_at p x xs false h f = f h

found_any : {A : Type 0} (p : A → Bool) (xs : List A) → is_some (find p xs) ≡ true → list_any p xs ≡ true
found_any p [] h = absurd cc
found_any p (x ∷ xs) h = found_any_at p x xs (p x) h (found_any p xs)

is_told : (l b : Bool) (o : Option PrefixView) → is_some (cond (l && b) o None) ≡ true → (l ≡ true) × (b ≡ true) × (is_some o ≡ true)
is_told true true o h = (refl, refl, h)
is_told true false o h = absurd cc
is_told false b o h = absurd cc

waits : (b r : Bool) → b ≡ true → r ≡ true → cond b r false ≡ true
waits true r e h = h
waits false r e h = absurd cc

-- ---- each call

idle_command : (g : Setting) (u : ℕ) (x : Router) (c : Command) → command_event g u x c ≡ None → MayObey g u x c → ⊥
idle_command g u x (command.Start v) h m = absurd cc
idle_command g u x (command.Stop v) h m = absurd cc
idle_command g u x (command.Reset v) h m = absurd cc
idle_command g u x (command.Originate q) h m =
    let s : x.originated q ≡ true = so_not (x.originated q) (not_so (not (x.originated q)) (alone (Obeys (command.Originate q))) h) in let f = m.1 in absurd cc
idle_command g u x (command.Withdraw q) h m = (let s = not_so (x.originated q) (alone (Obeys (command.Withdraw q))) h in let f = m.1 in absurd cc)
idle_command g u x (command.Snapshot s) h m = absurd cc
idle_command g u x command.Restart h m = absurd cc

idle_call : (g : Setting) → IsNetwork g.net → (u : ℕ) (x : Router) (call : Call) → bars g u x call ≡ None → event_of g u x call ≡ None
    → (e : RouterEvent) → IsEventOf call e → May g u x e → ⊥
idle_call g net u x (Obey c) f h e is may = idle_command g u x c h (subst (λ k. May g u x k) is may)
idle_call g net u x Tick f h e is may = absurd cc
idle_call g net u x (Put v) f h e is may =
    let m : May g u x (puts v is.0) = subst (λ k. May g u x k) is.1 may in
    nothing_next g.net.settings.cut (x.sides v).outbox is.0 (no_put v (next_item g.net.settings.cut (x.sides v).outbox) h) m.1 m.2
idle_call g net u x (Take v stamp what) f h e is may = absurd cc
idle_call g net u x (Handle v) f h e is may =
    let m : May g u x (alone (Handles v)) = subst (λ k. May g u x k) is may in
    let s = not_so (is_waiting (x.sides v).held) (alone (Handles v)) h in let t = m.1 in absurd cc
idle_call g net u x Decide f h e is may =
    let m : May g u x (alone Decides) = subst (λ k. May g u x k) is may in
    let s = not_so (is_some (undecided g u x)) (alone Decides) h in absurd cc
idle_call g net u x Advertise f h e is may =
    let v = is.0 in
    let m : May g u x (alone (Advertises v)) = subst (λ k. May g u x k) is.1 may in
    let t = is_told (linked g.net u v) (is_up (x.sides v)) (find (is_unadvertised g u x v) (prefixes g)) m in
    let w = waits (is_up (x.sides v)) (list_any (is_unadvertised g u x v) (prefixes g)) t.1 (found_any (is_unadvertised g u x v) (prefixes g) t.2) in
    let o = no_telling (find (has_room g u x) (peers g.net u)) h in
    none_found (is_waiting_peer g u x) (linked g.net u) (numbers g.net.routers) v (is_peer g net u v t.0) t.0 w
    (not_blocked (find (has_room g u x) (peers g.net u)) (find (is_waiting_peer g u x) (peers g.net u)) f o)

pub idle_where_nothing_may_come : IdleWhereNothingMayCome
idle_where_nothing_may_come g net u x call h e is may =
    let p = idle (bars g u x.router call) (event_of g u x.router call) _ _ h in idle_call g net u x.router call p.0 p.1 e is may
