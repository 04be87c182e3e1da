-- Peers among a network's routers, named prefixes, and what is in a pipe.
use Rattle.std.proofs.Common.{◌≡◌, ℕ, zero, suc, ◌+◌, ◌<◌, ◌∷◌, ◌++◌, drop, flat_map, Bool, true, false, cond, List, [], length, get_or, filter, is_some, Option, None, Some, MatchOption, ◌↔◌, IsTrue, Decides, append_assoc, refl, sym, ap, subst, ◌∙◌, arith, inl, inr, Contains}
use Rattle.std.proofs.lemmas.List.{drop_more, get_or_default}
use Rattle.ranked_policy.specs.Plans.{Plan, IsRouter, numbers}
use Rattle.ranked_policy.specs.Policies.{Table, IsTable, IsTableOf}
use Rattle.outbox.specs.declared.item.Item.{Item}
use Rattle.router_model.specs.Settings.{Setting, linked, peers}
use Rattle.router_model.specs.Calls.{Stamped}
use Rattle.router_core.specs.Views.{RouterView, plain_of}
use Rattle.world_core.specs.World.{Nothing, Stops, where_linked}
use Rattle.world_core.specs.Views.{WorldView, setting_of, IsRouterOf, comes_next, NothingComes}
use Rattle.world_core.proofs.Stepping.{known, unknown}
use Rattle.net_text.specs.declared.code.Code.TheVariants as kinds
use Rattle.net_text.specs.Printing.{code_text}
use Rattle.text_engines.specs.declared.status.TheConstants.{DONE}
use Rattle.text_engines.specs.Decoding.{Output, output, refused}
use Rattle.why_engine.specs.Explaining.{ArePeers, IsPeer, ExplainsWorld, pipes_to, router_text}

there_more : {X : Type 0} (x : X) (xs : List X) (y : X) → Contains xs y → Contains (x ∷ xs) y
there_more x xs y c = (suc c.0, omega (arith, c.1), c.2)

-- what passes a test stands in the list, and passes
filtered : (p : ℕ → Bool) (xs : List ℕ) (y : ℕ) → Contains (filter p xs) y → (p y ≡ true) × Contains xs y
filtered p [] y c = absurd (let l = c.1 in omega (arith, l))
filtered p (x ∷ xs) y c = at (p x) refl (filtered p xs y) c
  where
    more : (p y ≡ true) × Contains xs y → (p y ≡ true) × Contains (x ∷ xs) y
    more h = (h.0, there_more x xs y h.1)

    front : p x ≡ true → (Contains (filter p xs) y → (p y ≡ true) × Contains xs y) → Contains (x ∷ filter p xs) y → (p y ≡ true) × Contains (x ∷ xs) y
    front t rest (zero, l, e) = (ap p (sym e) ∙ t, (0, omega arith, e))
    front t rest (suc k, l, e) = more (rest (k, omega (arith, l), e))

    at : (b : Bool) → p x ≡ b → (Contains (filter p xs) y → (p y ≡ true) × Contains xs y) → Contains (cond (p x) (x ∷ filter p xs) (filter p xs)) y → (p y ≡ true) × Contains (x ∷ xs) y
    at true t rest h = front t rest (subst (λ (b : Bool). Contains (cond b (x ∷ filter p xs) (filter p xs)) y) t h)
    at false t rest h = more (rest (subst (λ (b : Bool). Contains (cond b (x ∷ filter p xs) (filter p xs)) y) t h))

-- a number of the list of a router's peers is a peer
pub peer_at : (x : RouterView) (vs : List ℕ) (i : ℕ) → ArePeers x vs → i < length vs → IsPeer x (get_or vs i 0)
peer_at x vs i are lt =
    let v = get_or vs i 0 in
    filtered (linked x.net x.number) (numbers x.net.routers) v (subst (λ (ws : List ℕ). Contains ws v) are (i, lt, get_or_default vs i v 0 lt))

-- where nothing comes, nothing is in the pipe of the two
nothing_there : (x : WorldView) (u v : ℕ) → IsRouter x.net.routers u → IsRouter x.net.routers v → linked x.net u v ≡ true → NothingComes x u v → comes_next x u v ≡ None
nothing_there x u v one other joined (inl none) = none
nothing_there x u v one other joined (inr stops) =
    let g = setting_of x.net in
    let a : where_linked g u v Nothing ≡ Nothing = rw (known g x.net u refl one, known g x.net v refl other, joined) refl in
    let k : Nothing ≡ Stops stops.0 = sym a ∙ stops.1 g refl Nothing in
    absurd cc

-- what a reader of the pipe says
pub pipe_says : {A : Type 0} (what : A → Item) (x : WorldView) (r : RouterView) (v : ℕ) (found : Option A) → x.net ≡ r.net → IsRouter r.net.routers r.number → IsPeer r v
    → MatchOption found (NothingComes x r.number v) (λ i. comes_next x r.number v ≡ Some (what i)) → is_some found ≡ is_some (comes_next x r.number v)
pipe_says what x r v None same there peer none =
    sym (ap is_some (nothing_there x r.number v (rw same there) (rw same peer.1) (rw same peer.0) none))
pipe_says what x r v (Some i) same there peer is = sym (ap is_some is)

-- a test and what it tests, by way of what both are the same as
pub same_truth : {P Q : Type 0} (a b : Bool) → IsTrue a ↔ P → P ↔ Q → Decides b Q → a ≡ b
same_truth true true one other test = refl
same_truth true false one other test = sym (test.1 (other.0 (one.0 refl)))
same_truth false true one other test = one.1 (other.1 (test.0 refl))
same_truth false false one other test = refl

-- the text of one more
pub text_on : {X : Type 0} (f : X → List ℕ) (xs : List X) (i : ℕ) (x : X) (old new all : List ℕ) → i < length xs → x ≡ get_or xs i x → new ≡ old ++ f x → old ++ flat_map f (drop i xs) ≡ all
    → new ++ flat_map f (drop (i + 1) xs) ≡ all
text_on {X} f xs i x old new all lt is put h =
    ap (λ (t : List ℕ). t ++ flat_map f (drop (i + 1) xs)) put ∙ append_assoc old (f x) (flat_map f (drop (i + 1) xs))
    ∙ ap (λ (t : List ℕ). old ++ t) (sym (ap (flat_map f) (drop_more xs i x lt ∙ ap (λ (y : X). y ∷ drop (i + 1) xs) (sym is)))) ∙ h

-- the text of a router is that of the world
pub explained : (x : WorldView) (net : Plan) (u : ℕ) (table : Table) (r : RouterView) (out : Output) → x.net ≡ net → IsTableOf net u table → IsTable table → IsRouterOf x u r
    → out ≡ output (router_text r.number table (plain_of r).router (pipes_to x r.number) (peers r.net r.number) r.net.origins) DONE → ExplainsWorld u x out
explained x net u table r out same owned holds there printed = λ (g : Setting) (e : g.net ≡ x.net).
    inr (
      table,
      holds,
      subst (λ (n : Plan). IsTableOf n u table) (sym (e ∙ same)) owned,
      printed ∙ ap (λ (v : ℕ). output (router_text v table (plain_of r).router (pipes_to x v) (peers r.net v) r.net.origins) DONE) there.number
          ∙ ap (λ (n : Plan). output (router_text u table (plain_of r).router (pipes_to x u) (peers n u) n.origins) DONE) (there.network ∙ sym e)
          ∙ ap (λ (s : Stamped). output (router_text u table s.router (pipes_to x u) (peers g.net u) g.net.origins) DONE) there.state,
    )

-- there is no such router
pub nobody : (x : WorldView) (net : Plan) (u : ℕ) (code : List ℕ) (out : Output) → x.net ≡ net → (IsRouter net.routers u → ⊥) → code ≡ code_text kinds.UnknownRouter → out ≡ refused 0 code → ExplainsWorld u x out
nobody x net u code out same none is printed = λ (g : Setting) (e : g.net ≡ x.net). inl (unknown g net u (e ∙ same) none, printed ∙ ap (refused 0) is)
