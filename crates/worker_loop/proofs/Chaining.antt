-- What was done, one after the other.
use Rattle.std.proofs.Common.{◌≡◌, ℕ, zero, suc, ◌+◌, ◌<◌, arith, replicate, List, [], ◌∷◌, ◌++◌, length, All, refl, sym, ap, ◌∙◌, subst, append_assoc, add-one, take, get_or, length-append, ◌≤◌, inl, inr, Some, None}
use Rattle.std.specs.Prelude.{slice_get}
use Rattle.std.proofs.lemmas.Option.{slice_get_cases, get_or_from_slice_get, slice_get_within}
use Rattle.std.proofs.Math.Seq.{take-suc}
use Rattle.std.proofs.lemmas.List.{append-nil}
use Rattle.std.proofs.lemmas.List.Elements.{All-push}
use Rattle.ranked_policy.specs.Plans.{Plan}
use Rattle.router_model.specs.Settings.{Setting, peers}
use Rattle.worker_loop.specs.declared.chore.Chore.{Chore}
use Rattle.worker_loop.specs.declared.worker.Worker.{Worker}
use Rattle.outbox.specs.declared.item.Item.{Item}
use Rattle.run_model.specs.Stamps.{Collected}
use Rattle.snap_marker.specs.Recordings.{MadeOffer}
use Rattle.router_core.specs.Views.{plain_of}
use Rattle.worker_loop.specs.Whole.{IsLaterWorker, IsSameWorker, IsSameBut, PipesStand, peers_of, seen_of}
use Rattle.worker_loop.specs.Acts.{Act, Seen}
use Rattle.worker_loop.specs.Following.{Stage, Then, Nothing, Each, Obeys, Did}

-- the same router, later
pub did_at : (P : ℕ → Setting → Stage) (net later : Plan) (u v : ℕ) (a b : Seen) → later ≡ net → v ≡ u → Did (P v) later a b → Did (P u) net a b
did_at P net later u v a b same number d =
    λ g is set. subst (λ n. (acts : List Act) × P n g a acts b) number (d g (is ∙ sym same) set)

pub did_then : (P Q : Setting → Stage) (net : Plan) (a m b : Seen) → Did P net a m → Did Q net m b → Did (λ g. Then (P g) (Q g)) net a b
did_then P Q net a m b p q =
    λ g is set. (let x = p g is set in let y = q g is set in (x.0 ++ y.0, (m, x.0, y.0, refl, x.1, y.1)))

pub did_nothing : (net : Plan) (a b : Seen) → a ≡ b → Did (λ g. Nothing) net a b
did_nothing net a b same = λ g is set. ([], (refl, same))

-- ---- one by one

each_more : {X : Type 0} → (P : X → Stage) (xs : List X) (x : X) (a m b : Seen) (front here : List Act) → Each P xs a front m → P x m here b
    → Each P (xs ++ x ∷ []) a (front ++ here) b
each_more P [] x a m b front here (none, still) p =
    let whole : front ++ here ≡ here ++ [] = ap (λ l. l ++ here) none ∙ sym (append-nil here) in
    (b, here, [], whole, subst (λ s. P x s here b) (sym still) p, (refl, refl))
each_more P (y ∷ xs) x a m b front here (k, first, rest, whole, one, others) p =
    (k, first, rest ++ here, ap (λ l. l ++ here) whole ∙ append_assoc first rest here, one, each_more P xs x k m b rest here others p)

pub did_more : {X : Type 0} → (P : Setting → X → Stage) (net : Plan) (xs ys : List X) (x : X) (a m b : Seen) → ys ≡ xs ++ x ∷ []
    → Did (λ g. Each (P g) xs) net a m → Did (λ g. P g x) net m b → Did (λ g. Each (P g) ys) net a b
did_more P net xs ys x a m b more p q =
    λ g is set. (let f = p g is set in let h = q g is set in (f.0 ++ h.0, subst (λ k. Each (P g) k a (f.0 ++ h.0) b) (sym more) (each_more (P g) xs x a m b f.0 h.0 f.1 h.1)))

pub did_of : {X : Type 0} → (P : Setting → X → Stage) (net : Plan) (xs ys : List X) (a b : Seen) → xs ≡ ys → Did (λ g. Each (P g) xs) net a b → Did (λ g. Each (P g) ys) net a b
did_of P net xs ys a b same d = subst (λ k. Did (λ g. Each (P g) k) net a b) same d

-- the same once more, so many times, if it changes nothing
pub did_again : {X : Type 0} → (P : Setting → X → Stage) (net : Plan) (xs : List X) (x : X) (n : ℕ) (a b : Seen) → Did (λ g. Each (P g) xs) net a b → (0 < n → Did (λ g. P g x) net b b)
    → Did (λ g. Each (P g) (xs ++ replicate n x)) net a b
did_again P net xs x zero a b p q = did_of P net xs (xs ++ []) a b (sym (append-nil xs)) p
did_again P net xs x (suc n) a b p q =
    did_of P net ((xs ++ x ∷ []) ++ replicate n x) (xs ++ replicate (suc n) x) a b (append_assoc xs (x ∷ []) (replicate n x))
    (did_again P net (xs ++ x ∷ []) x n a b (did_more P net xs (xs ++ x ∷ []) x a b b refl p (q (omega arith))) (λ some. q (omega arith)))

-- ---- lists that grow

pub one_more : {X : Type 0} → (xs : List X) (i : ℕ) (x : X) → i < length xs → x ≡ get_or xs i x → take (i + 1) xs ≡ take i xs ++ x ∷ []
one_more xs i x below is = ap (λ n. take n xs) (add-one i) ∙ take-suc xs i x below ∙ ap (λ y. take i xs ++ y ∷ []) (sym is)

pub next_of : (xs : List ℕ) (i x : ℕ) → slice_get xs i ≡ Some x → take (i + 1) xs ≡ take i xs ++ x ∷ []
next_of xs i x at = one_more xs i x (slice_get_within xs i x at) (sym (get_or_from_slice_get xs i x x at))

pub none_behind : (xs : List ℕ) (i : ℕ) → slice_get xs i ≡ None → length xs ≤ i
none_behind xs i none = elim (slice_get_cases xs i).1 [ inl here ↦ absurd (let some = sym none ∙ here.2 in cc) | inr far ↦ far.0 ]

pub all_below : (xs : List ℕ) (n : ℕ) → ((i x : ℕ) → slice_get xs i ≡ Some x → i < n) → length xs ≤ n
all_below xs n below = elim (slice_get_cases xs n).1 [ inl here ↦ absurd (let less = below n here.0 here.2 in omega (arith, less)) | inr far ↦ far.0 ]

pub all_more : (P : Chore → Type 0) (cs ds : List Chore) (c : Chore) → ds ≡ cs ++ c ∷ [] → All P cs → P c → All P ds
all_more P cs ds c e all here = subst (All P) (sym e) (All-push P cs c all here)

pub one_longer : {A : Type 0} → (xs ys : List A) (x : A) (n : ℕ) → ys ≡ xs ++ x ∷ [] → n ≡ length xs → n + 1 ≡ length ys
one_longer xs ys x n e h = ap (λ k. k + 1) h ∙ sym (length-append xs (x ∷ [])) ∙ ap length (sym e)

-- ---- the same worker, later

pub same_on : {L D G W : Type 0} → (wiring : L → W) (a m b : Worker L D G) → IsLaterWorker wiring a m → IsLaterWorker wiring m b → IsLaterWorker wiring a b
same_on wiring a m b p q = record { net = q.net ∙ p.net; number = q.number ∙ p.number; lines = q.lines ∙ p.lines }

pub same_peers : {L D G W : Type 0} → (wiring : L → W) (a b : Worker L D G) → IsLaterWorker wiring a b → peers_of b ≡ peers_of a
same_peers wiring a b s = ap (λ net. peers net b.router.number) s.net ∙ ap (λ u. peers a.router.net u) s.number

-- its peers and their pipes stand where they stood
pub peer_stays : {L D G W : Type 0} → (wiring : L → W) (a b : Worker L D G) → IsLaterWorker wiring a b → (place v : ℕ) → slice_get (peers_of a) place ≡ Some v → slice_get (peers_of b) place ≡ Some v
peer_stays wiring a b s place v h = subst (λ ns. slice_get ns place ≡ Some v) (sym (same_peers wiring a b s)) h

pub pipe_stays : {L D G W : Type 0} → (stands : W → ℕ → ℕ → Type 0) (wiring : L → W) (a b : Worker L D G) → IsLaterWorker wiring a b → (place v : ℕ) → stands (wiring a.lines) place v
    → stands (wiring b.lines) place v
pipe_stays stands wiring a b s place v h = subst (λ w. stands w place v) (sym s.lines) h

pub pipes_stay : {L D G W : Type 0} → (stands : W → ℕ → ℕ → Type 0) (wiring : L → W) (a b : Worker L D G) → IsLaterWorker wiring a b → PipesStand stands wiring a → PipesStand stands wiring b
pipes_stay stands wiring a b s all place v at =
    pipe_stays stands wiring a b s place v (all place v (subst (λ ns. slice_get ns place ≡ Some v) (same_peers wiring a b s) at))

pub later_still : {L D G W : Type 0} → (wiring : L → W) (a m b : Worker L D G) → IsSameWorker wiring a m → IsSameWorker wiring m b → IsSameWorker wiring a b
later_still wiring a m b p q = record { later = same_on wiring a m b p.later q.later; gate = q.gate ∙ p.gate; chores = q.chores ∙ p.chores }

-- a worker that was given a chore did nothing yet
pub seen_same : {L D G : Type 0} → (put taken : L → ℕ → List Item) (room : L → ℕ → ℕ) (made : D → List (Collected MadeOffer)) (a b : Worker L D G) → IsSameBut a b
    → seen_of put taken room made b ≡ seen_of put taken room made a
seen_same put taken room made a b s =
    λ i. record { router = plain_of (s.router i); put = put (s.lines i); taken = taken (s.lines i); room = room (s.lines i); made = made (s.desk i); events = s.events i }

pub did_from : (P : Setting → Stage) (net : Plan) (a m b : Seen) → m ≡ a → Did P net m b → Did P net a b
did_from P net a m b same d = subst (λ s. Did P net s b) same d

pub next_same : {L D G W : Type 0} → (wiring : L → W) (a m b : Worker L D G) → IsLaterWorker wiring a m → IsSameBut m b → IsLaterWorker wiring a b
next_same wiring a m b p s = record {
  net = ap (λ r. r.net) s.router ∙ p.net;
  number = ap (λ r. r.number) s.router ∙ p.number;
  lines = ap wiring s.lines ∙ p.lines;
}

pub obeys_of : (net : Plan) (u : ℕ) (peers others : List ℕ) (chore : Chore) (a b : Seen) → others ≡ peers → Did (λ g. Obeys g u others chore) net a b → Did (λ g. Obeys g u peers chore) net a b
obeys_of net u peers others chore a b same d = subst (λ k. Did (λ g. Obeys g u k chore) net a b) same d
