-- A Turn in which nothing is done.
use Rattle.std.proofs.Common.{◌≡◌, ℕ, suc, ◌<◌, arith, true, ◌&&◌, not, List, [], ◌∷◌, ◌++◌, get_or, replicate, All, refl, ap, sym, ◌∙◌, subst, None, inl}
use Rattle.std.specs.Prelude.{Ok, is_some}
use Rattle.bgp_framing.specs.Held.{is_waiting}
use Rattle.outbox.specs.declared.item.Item.{Item}
use Rattle.outbox.specs.Items.{next_item}
use Rattle.run_model.specs.Stamps.{Collected}
use Rattle.snap_marker.specs.Recordings.{MadeOffer}
use Rattle.ranked_policy.specs.Plans.{Plan}
use Rattle.router_model.specs.declared.refusal.Stepped.TheVariants as stepped
use Rattle.router_model.specs.Settings.{Setting, IsSetting, linked}
use Rattle.router_model.specs.Step.{next_offer}
use Rattle.router_model.specs.Calls.{Call, Put, Handle, Decide, Advertise, Answer, answer, Gives}
use Rattle.router_core.specs.Views.{RouterView, plain_of, sides_of, Shows, Answers}
use Rattle.world_core.proofs.Quiet.{put_idle, handle_idle, parts, none_is}
use Rattle.worker_loop.specs.declared.worker.Worker.{Worker}
use Rattle.worker_loop.specs.Acts.{Act, Seen}
use Rattle.worker_loop.specs.declared.chore.Chore.{Chore}
use Rattle.worker_loop.specs.declared.chore.Chore.TheVariants.{Turn}
use Rattle.worker_loop.specs.Following.{Stage, Each, Meets, Turns, Obeys, Follows, Did}
use Rattle.worker_loop.specs.Whole.{seen_of, peers_of, MayPass, IsQuiet, IsLaterWorker, IsSameBut}
use Rattle.worker_loop.proofs.Acting.{Rests, does_none}
use Rattle.worker_loop.proofs.Trying.{put_none, call_nothing, offer_none}
use Rattle.worker_loop.proofs.Chaining.{did_at, did_of, did_again, seen_same, same_peers, obeys_of}

still : (a : Seen) → Rests a a
still a = record { put = refl; taken = refl; room = refl; made = refl }

-- ---- what is tried with a peer, and with each

meets_nothing : (g : Setting) (x : RouterView) (v : ℕ) (a : Seen) → g.net ≡ x.net → a.router ≡ plain_of x → IsQuiet x v → (acts : List Act) × Meets g x.number v a acts a
meets_nothing g x v a net is quiet =
    let u = x.number in
    let t = parts (linked x.net u v) (is_some (next_item g.net.settings.cut (sides_of x v).outbox)) (is_waiting (sides_of x v).held) (quiet g.net.settings.cut) in
    let link : linked g.net u v ≡ true = ap (λ (n : Plan). linked n u v) net ∙ t.0 in
    let put = subst (λ r. Shows 0 (Ok None) (answer g u r (Put v))) (sym is)
    (subst (λ (r : Answer). Shows 0 (Ok None) r) (sym (put_idle g u v (plain_of x) link (none_is (next_item g.net.settings.cut (sides_of x v).outbox) t.1))) refl) in
    let handle = subst (λ r. Gives g u (Ok stepped.Nothing) (answer g u r (Handle v)) r (Handle v) r) (sym is)
    (subst (λ (r : Answer). Gives g u (Ok stepped.Nothing) r (plain_of x) (Handle v) (plain_of x)) (sym (handle_idle g u v (plain_of x) link t.2)) (refl, refl)) in
    let p = put_none g u v 0 a a put refl (still a) refl in
    let h = call_nothing g u (Handle v) a a handle (still a) refl in
    (p.0 ++ h.0, (a, p.0, h.0, refl, p.1, (a, [], h.0, refl, record { only = inl refl; does = does_none g u a a refl (still a) refl }, h.1)))

each_nothing : (P : ℕ → Stage) (vs : List ℕ) (a : Seen) → All (λ v. (acts : List Act) × P v a acts a) vs → (acts : List Act) × Each P vs a acts a
each_nothing P [] a all = ([], (refl, refl))
each_nothing P (v ∷ vs) a all =
    let here = all 0 v (omega arith) in
    let rest = each_nothing P vs a (λ k d below. all (suc k) d (omega (arith, below))) in
    (here.0 ++ rest.0, (a, here.0, rest.0, refl, here.1, rest.1))

-- ---- a whole Turn

-- where the router has nothing to put, to handle, to decide, to tell and to offer
pub turn_of_nothing : (g : Setting) (x : RouterView) (vs : List ℕ) (a : Seen) → g.net ≡ x.net → IsSetting g → a.router ≡ plain_of x → All (IsQuiet x) vs
    → Answers (Ok stepped.Nothing) x Decide x → Answers (Ok stepped.Nothing) x Advertise x → next_offer (plain_of x).router ≡ None
    → (acts : List Act) × Turns g x.number vs a acts a
turn_of_nothing g x vs a net set is quiet decides tells offers =
    let u = x.number in
    let given = λ (call : Call) (all : Answers (Ok stepped.Nothing) x call x). call_nothing g u call a a
    (subst (λ r. Gives g u (Ok stepped.Nothing) (answer g u r call) r call r) (sym is) (all g net set.chooses)) (still a) refl in
    let e = each_nothing (Meets g u) vs a (λ k d below. meets_nothing g x (get_or vs k d) a net is (quiet k d below)) in
    let d = given Decide decides in
    let t = given Advertise tells in
    let o = offer_none g u a a (ap (λ r. next_offer r.router) is ∙ offers) refl (still a) refl in
    (e.0 ++ (d.0 ++ (t.0 ++ o.0)), (a, e.0, d.0 ++ (t.0 ++ o.0), refl, e.1, (a, d.0, t.0 ++ o.0, refl, d.1, (a, t.0, o.0, refl, t.1, o.1))))

-- ---- Turns that a worker passes over

-- where it may pass over one, it did all that its gate gave together
pub passes_on : {L D G W : Type 0} → (put taken : L → ℕ → List Item) (room : L → ℕ → ℕ) (made : D → List (Collected MadeOffer)) (wiring : L → W) (a m b : Worker L D G)
    (given now : List Chore) (n : ℕ) → IsLaterWorker wiring a m → IsSameBut m b → now ≡ given ++ replicate n Turn
    → Did (λ k. Follows k a.router.number (peers_of a) given) a.router.net (seen_of put taken room made a) (seen_of put taken room made m)
    → (0 < n → MayPass put taken room made m)
    → Did (λ k. Follows k a.router.number (peers_of a) now) a.router.net (seen_of put taken room made a) (seen_of put taken room made b)
passes_on put taken room made wiring a m b given now n later same more before may =
    let u = a.router.number in
    let net = a.router.net in
    let peers = peers_of a in
    let first = seen_of put taken room made a in
    let here = seen_of put taken room made m in
    let one = λ (some : 0 < n). did_at (λ v k. Obeys k v peers Turn) net m.router.net u m.router.number here here later.net later.number
    (obeys_of m.router.net m.router.number peers (peers_of m) Turn here here (same_peers wiring a m later) (may some)) in
    subst (λ s. Did (λ k. Follows k u peers now) net first s) (sym (seen_same put taken room made m b same))
    (did_of (λ k x. Obeys k u peers x) net (given ++ replicate n Turn) now first here (sym more) (did_again (λ k x. Obeys k u peers x) net given Turn n first here before one))
