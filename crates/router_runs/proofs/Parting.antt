-- A recording that waits for more markers, or is finished and its part queued.
use Rattle.std.proofs.Common.{◌≡◌, ℕ, nat_eq, Bool, true, false, ◌||◌, cond, List, [], ◌∷◌, ◌++◌, refl, ap, sym, ◌∙◌, arith, None, Some}
use Rattle.std.specs.List.{list_any}
use Rattle.std.proofs.lemmas.List.{append-nil}
use Rattle.std.proofs.lemmas.Bool.Decides.{nat_tests}
use Rattle.bgp_codec.specs.declared.message.Message.{Message}
use Rattle.ranked_policy.specs.Plans.{IsNetwork}
use Rattle.run_model.specs.Links.{End}
use Rattle.run_model.specs.Recordings.{Finishes}
use Rattle.run_model.specs.Routes.{Acts, router_after}
use Rattle.run_model.specs.Offers.{IsPartOf, Finished}
use Rattle.snap_marker.specs.Recordings.{RouterOffer, Recording, Snapshots, goes_on, queueing}
use Rattle.router_model.specs.Settings.{Setting, linked, peers}
use Rattle.router_runs.specs.Model.{network_of}
use Rattle.router_runs.specs.Mirrors.{ModelRouter, Goes, ReadsSnapshots}
use Rattle.router_runs.proofs.Going.{no_goes, one_goes}
use Rattle.router_runs.proofs.Lower.{Laws}

-- where none of some passes, no member does
pub none_passes : (p : ℕ → Bool) (xs : List ℕ) (v : ℕ) → list_any p xs ≡ false → list_any (nat_eq v) xs ≡ true → p v ≡ false
none_passes p [] v none is = absurd (cc is)
none_passes p (y ∷ ys) v none is = at (p y) (nat_eq v y) refl refl none is (λ k l. none_passes p ys v k l)
  where
    at : (c d : Bool) → p y ≡ c → nat_eq v y ≡ d → (p y || list_any p ys) ≡ false → (nat_eq v y || list_any (nat_eq v) ys) ≡ true
        → (list_any p ys ≡ false → list_any (nat_eq v) ys ≡ true → p v ≡ false) → p v ≡ false
    at true d hp hv none is rest = absurd (let k = rw hp at none in cc k)
    at false true hp hv none is rest = (let same : v ≡ y = grind (arith, nat_tests, hv) in ap p same ∙ hp)
    at false false hp hv none is rest = (let k = rw hp at none in let l = rw hv at is in rest k l)

module _ (laws : Laws) (g : Setting) (net : IsNetwork g.net) (u : ℕ) (far : ℕ → End Message) (Still : Type 0) where
  pub record Parts (k : ModelRouter) (z : Snapshots) : Type 0 where
    pub m : ModelRouter
    pub offers : List RouterOffer
    pub old : Snapshots
    pub goes : Goes g u far Still 0 k m offers
    pub ends : m.recorder.ends ≡ k.recorder.ends
    pub copy : m.recorder.copy ≡ k.recorder.copy
    pub kept : m.kept ≡ k.kept
    pub originated : m.originated ≡ k.originated
    pub kept_at : m.kept_at ≡ k.kept_at
    pub originated_at : m.originated_at ≡ k.originated_at
    pub reads : ReadsSnapshots g u z m

  pub record PartsFrom (k : ModelRouter) (old z : Snapshots) : Type 0 where
    pub parts : Parts k z
    pub queue : z.queue ≡ old.queue ++ parts.offers
    pub last : z.last ≡ old.last

  -- all markers came, or not
  parts_at : (b : Bool) (k : ModelRouter) (r : Recording) (z : Snapshots) → list_any r.waits (peers g.net u) ≡ b → k.recorder.last ≡ z.last → k.recorder.unfinished ≡ Some r.number → ((v : ℕ) → linked g.net u v ≡ true → k.recorder.waits v ≡ r.waits v)
      → IsPartOf (network_of g) u k r.number k.recorder.channel r.part
      → PartsFrom k z (cond b (record z { unfinished = Some r }) (queueing (record z { unfinished = None }) (Finished r.number r.part ∷ [])))
  parts_at true k r z is last unfinished waits part = record {
    parts = record {
      m = k;
      offers = [];
      old = z;
      goes = no_goes g u far Still k;
      ends = refl;
      copy = refl;
      kept = refl;
      originated = refl;
      kept_at = refl;
      originated_at = refl;
      reads = record { last = last; unfinished = unfinished; recording = record { waits = waits; some = is; part = part } };
    };
    queue = sym (append-nil z.queue);
    last = refl;
  }
  parts_at false k r z is last unfinished waits part = record {
    parts = record {
      m = router_after (network_of g) u k (Acts (Finishes r.number));
      offers = Finished r.number r.part ∷ [];
      old = z;
      goes = one_goes g u far Still k (Acts (Finishes r.number)) (Finished r.number r.part ∷ [])
          ((unfinished, λ v near. waits v near ∙ none_passes r.waits (peers g.net u) v is (laws.links g.net net u v near).peer), tt) (r.part, part, refl) (λ s c h i. refl);
      ends = refl;
      copy = refl;
      kept = refl;
      originated = refl;
      kept_at = refl;
      originated_at = refl;
      reads = record { last = last; unfinished = refl; recording = tt };
    };
    queue = refl;
    last = refl;
  }

  pub parts_on : (k : ModelRouter) (r : Recording) (z : Snapshots) → k.recorder.last ≡ z.last → k.recorder.unfinished ≡ Some r.number → ((v : ℕ) → linked g.net u v ≡ true → k.recorder.waits v ≡ r.waits v)
      → IsPartOf (network_of g) u k r.number k.recorder.channel r.part → PartsFrom k z (goes_on (peers g.net u) r z)
  parts_on k r z last unfinished waits part = parts_at (list_any r.waits (peers g.net u)) k r z refl last unfinished waits part
