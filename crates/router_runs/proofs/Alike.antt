-- What is read of a router's recording, where no end is looked at.
use Rattle.std.proofs.Common.{◌≡◌, ℕ, Bool, filter, ap, sym, ◌∙◌, subst, Option, None, Some}
use Rattle.bgp_codec.specs.declared.message.Message.{Message}
use Rattle.run_model.specs.Links.{End}
use Rattle.run_model.specs.Routes.{IsNotPending}
use Rattle.run_model.specs.Offers.{IsPartOf}
use Rattle.snap_marker.specs.Recordings.{RouterPart, Recording, Snapshots}
use Rattle.router_model.specs.Messages.{is_update}
use Rattle.router_model.specs.Settings.{Setting}
use Rattle.router_runs.specs.Model.{network_of}
use Rattle.router_runs.specs.Mirrors.{ModelRouter, ReadsRecording, ReadsSnapshots}

-- they record the same
pub record IsLike (n m : ModelRouter) : Type 0 where
  pub last : m.recorder.last ≡ n.recorder.last
  pub unfinished : m.recorder.unfinished ≡ n.recorder.unfinished
  pub waits : m.recorder.waits ≡ n.recorder.waits
  pub copy : m.recorder.copy ≡ n.recorder.copy
  pub kept_at : m.kept_at ≡ n.kept_at
  pub originated_at : m.originated_at ≡ n.originated_at
  pub channel : (v : ℕ) → filter is_update (m.recorder.channel v) ≡ filter is_update (n.recorder.channel v)

part_alike : (g : Setting) (u k : ℕ) (p : RouterPart) (n m : ModelRouter) → IsLike n m → IsPartOf (network_of g) u n k n.recorder.channel p → IsPartOf (network_of g) u m k m.recorder.channel p
part_alike g u k p n m l part = (
  part.0,
  ap (λ (f : ℕ → Option (ℕ → End Message)). f k) l.copy ∙ part.1,
  (λ q named. part.2 q named ∙ ap (λ f. f k q) (sym l.kept_at)),
  (λ q named. part.3 q named ∙ ap (λ f. f k q) (sym l.originated_at)),
  part.4,
  (
    (λ h. subst (λ f. IsNotPending (network_of g) u part.0 (f k) (m.originated_at k)) (sym l.kept_at) (subst (λ f. IsNotPending (network_of g) u part.0 (n.kept_at k) (f k)) (sym l.originated_at) (part.5.0 h))),
    (λ h. part.5.1 (subst (λ f. IsNotPending (network_of g) u part.0 (f k) (n.originated_at k)) l.kept_at (subst (λ f. IsNotPending (network_of g) u part.0 (m.kept_at k) (f k)) l.originated_at h))),
  ),
  (λ v near. part.6 v near ∙ sym (l.channel v)),
)

recording_alike : (g : Setting) (u : ℕ) (o : Option Recording) (n m : ModelRouter) → IsLike n m → ReadsRecording g u o n → ReadsRecording g u o m
recording_alike g u None n m l r = tt
recording_alike g u (Some k) n m l r =
    record { waits = λ v near. ap (λ (f : ℕ → Bool). f v) l.waits ∙ r.waits v near; some = r.some; part = part_alike g u k.number k.part n m l r.part }

pub snapshots_alike : (g : Setting) (u : ℕ) (z : Snapshots) (n m : ModelRouter) → IsLike n m → ReadsSnapshots g u z n → ReadsSnapshots g u z m
snapshots_alike g u z n m l r = record { last = l.last ∙ r.last; unfinished = l.unfinished ∙ r.unfinished; recording = recording_alike g u z.unfinished n m l r.recording }
