-- Routers that record snapshots by markers (Chandy and Lamport 1985): the state of each router as it records, and of
-- each channel what comes between the recording and the peer's marker.
use Rattle.std.specs.Prelude.{ℕ, ◌<◌, ◌≤◌, ◌≡◌, ◌≢◌, ◌==◌, Bool, true, false, ◌&&◌, not, cond, List, [], ◌∷◌, ◌++◌, Option, Some, None}
use mathlib.Core.List.{IsPrefix}
use mathlib.Core.Logic.{◌⊎◌}
use Rattle.run_model.specs.Links.{Dial, Says, Mark, Shut, End, Move, Dials, Tells, Marks, HangsUp, Takes, said, new_end, after, taking, May, is_up, is_joined, incarnation}
pub use Rattle.run_model.specs.Links.{IsNext}

-- a router's ends and what it records. No router keeps the copies: only definitions speak of them
pub record Recorder (M : Type 0) : Type 0 where
  pub ends : ℕ → End M  -- by peer
  pub last : ℕ  -- the last number recorded, 0 at first
  pub copy : ℕ → Option (ℕ → End M)  -- the ends as a number was recorded, its markers appended
  pub unfinished : Option ℕ  -- the number being recorded
  pub waits : ℕ → Bool  -- the peers whose marker it waits for
  pub channel : ℕ → List M  -- by peer, the messages used since the recording
  pub part : ℕ → Option (ℕ → List M)  -- the channels of each finished recording

pub data Act (M : Type 0) : Type 0 where
  Moves : (peer : ℕ) (move : Move M) → Act M  -- one that neither appends nor takes a marker
  EndsChannel : (peer incarnation number : ℕ) → Act M  -- takes the marker that a channel waits for
  IgnoresMarker : (peer incarnation number : ℕ) → Act M
  Begins : (number : ℕ) (whole : Bool) → Act M  -- records by a command; whole: every linked session is up
  Follows : (peer incarnation number : ℕ) (whole : Bool) → Act M  -- records by the first marker of a number
  Finishes : (number : ℕ) → Act M  -- every channel has its marker

module _ {M : Type 0} where
  abbrev pub with_end : (ℕ → End M) → ℕ → End M → ℕ → End M
  with_end f v a = λ y. cond (y == v) a (f y)

  -- the end towards an Established peer with a marker appended, any other as it was
  abbrev pub marked : ℕ → End M → End M
  marked s a = cond (is_up a) (after a (Marks s)) a

  -- the message that a move uses
  abbrev pub used_by : End M → Move M → List M
  used_by a Dials = []
  used_by a (Tells m) = []
  used_by a (Marks s) = []
  used_by a HangsUp = []
  used_by a (Takes (Dial e)) = []
  used_by a (Takes (Says e m)) = cond (is_joined a.phase && (incarnation a == e)) (m ∷ []) []
  used_by a (Takes (Mark e s)) = []
  used_by a (Takes (Shut e)) = []

  -- a session that leaves Established loses the unfinished recording
  abbrev pub unfinished_after : Bool → Move M → Option ℕ → Option ℕ
  unfinished_after up HangsUp n = cond up None n
  unfinished_after up _ n = n

  -- a router records a number: mark is what that does to each end
  abbrev pub recording_by : (ℕ → End M → End M) → Recorder M → (ℕ → End M) → ℕ → Bool → (ℕ → Bool) → Recorder M
  recording_by mark x ends s whole waits = record {
    ends = λ y. mark s (ends y);
    last = s;
    copy = λ n. cond (n == s) (Some (λ y. mark s (ends y))) (x.copy n);
    unfinished = cond whole (Some s) None;
    waits = waits;
    channel = λ y. [];
    part = x.part;
  }

  abbrev pub recording : Recorder M → (ℕ → End M) → ℕ → Bool → (ℕ → Bool) → Recorder M
  recording = recording_by marked

  -- the marker of number s of peer v's incarnation e is taken
  abbrev pub taking_marker : Recorder M → ℕ → ℕ → ℕ → (ℕ → Bool) → Recorder M
  taking_marker x v e s waits = record {
    ends = with_end x.ends v (taking (x.ends v) (Mark e s));
    last = x.last;
    copy = x.copy;
    unfinished = x.unfinished;
    waits = waits;
    channel = x.channel;
    part = x.part;
  }

  abbrev pub recorder_after : Recorder M → Act M → Recorder M
  recorder_after x (Moves v move) = record {
    ends = with_end x.ends v (after (x.ends v) move);
    last = x.last;
    copy = x.copy;
    unfinished = unfinished_after (is_up (x.ends v)) move x.unfinished;
    waits = x.waits;
    channel =
        λ y. cond (y == v) (cond (x.waits y) (x.channel y ++ used_by (x.ends v) move) (x.channel y)) (x.channel y);
    part = x.part;
  }
  recorder_after x (EndsChannel v e s) = taking_marker x v e s (λ y. cond (y == v) false (x.waits y))
  recorder_after x (IgnoresMarker v e s) = taking_marker x v e s x.waits
  recorder_after x (Begins s whole) = recording x x.ends s whole (λ y. true)
  recorder_after x (Follows v e s whole) =
      recording x (with_end x.ends v (taking (x.ends v) (Mark e s))) s whole (λ y. not (y == v))
  recorder_after x (Finishes s) = record {
    ends = x.ends;
    last = x.last;
    copy = x.copy;
    unfinished = None;
    waits = x.waits;
    channel = x.channel;
    part = λ n. cond (n == s) (Some x.channel) (x.part n);
  }

  -- a move that has to do with no marker
  abbrev pub IsPlain : Move M → Type 0
  IsPlain (Marks s) = ⊥
  IsPlain (Takes (Mark e s)) = ⊥
  IsPlain _ = Unit {0}

  abbrev pub AllUp : (ℕ → Bool) → (ℕ → End M) → Bool → Type 0
  AllUp linked ends whole = whole ≡ true → (v : ℕ) → linked v ≡ true → is_up (ends v) ≡ true

  -- when router u may act: far v is the end of v towards u. A router heeds a marker in Established alone, and only one
  -- of the end's own incarnation; a greater number is recorded, an awaited marker ends its channel, and every other is
  -- ignored
  abbrev pub MayAct : ℕ → Recorder M → (ℕ → End M) → (ℕ → Bool) → Act M → Type 0
  MayAct u x far linked (Moves v move) = (u ≢ v) × IsPlain move × May (x.ends v) (far v) move
  MayAct u x far linked (EndsChannel v e s) =
      (u ≢ v) × IsNext (x.ends v) (far v) (Mark e s) × (is_up (x.ends v) ≡ true) × (e ≡ incarnation (x.ends v))
      × (x.unfinished ≡ Some s) × (x.waits v ≡ true)
  MayAct u x far linked (IgnoresMarker v e s) =
      (u ≢ v) × IsNext (x.ends v) (far v) (Mark e s)
      × ((is_up (x.ends v) ≡ false)
      ⊎ ((e ≢ incarnation (x.ends v)) ⊎ ((s ≤ x.last) × ((x.unfinished ≢ Some s) ⊎ (x.waits v ≡ false)))))
  MayAct u x far linked (Begins s whole) = (x.last < s) × AllUp linked x.ends whole
  MayAct u x far linked (Follows v e s whole) =
      (u ≢ v) × IsNext (x.ends v) (far v) (Mark e s) × (is_up (x.ends v) ≡ true) × (e ≡ incarnation (x.ends v))
      × (x.last < s) × AllUp linked x.ends whole
  MayAct u x far linked (Finishes s) = (x.unfinished ≡ Some s) × ((v : ℕ) → linked v ≡ true → x.waits v ≡ false)

abbrev pub Recorders : Type 0 → Type 0
Recorders M = ℕ → Recorder M

pub record RecordingStep (M : Type 0) : Type 0 where
  pub router : ℕ
  pub act : Act M

abbrev pub Copies : Type 0 → Type 0
Copies M = ℕ → Option (ℕ → End M)

module _ {M : Type 0} where
  abbrev pub stepped : Recorders M → RecordingStep M → Recorders M
  stepped w m = λ u. cond (u == m.router) (recorder_after (w u) m.act) (w u)

  abbrev pub IsRecordingRun : (ℕ → ℕ → Bool) → Recorders M → List (RecordingStep M) → Type 0
  IsRecordingRun linked w [] = Unit {0}
  IsRecordingRun linked w (m ∷ ms) =
      MayAct m.router (w m.router) (λ v. (w v).ends m.router) (linked m.router) m.act
      × IsRecordingRun linked (stepped w m) ms

  abbrev pub recorders_after : Recorders M → List (RecordingStep M) → Recorders M
  recorders_after w [] = w
  recorders_after w (m ∷ ms) = recorders_after (stepped w m) ms

  abbrev pub new_recorder : Recorder M
  new_recorder = record {
    ends = λ v. new_end;
    last = 0;
    copy = λ n. None;
    unfinished = None;
    waits = λ v. false;
    channel = λ v. [];
    part = λ n. None;
  }

  abbrev pub first_recorders : Recorders M
  first_recorders = λ u. new_recorder

  -- ms is the recorded channel from v to u in snapshot s, by the copies of the two (Chandy and Lamport 1985): both
  -- recorded in one incarnation of the link; what u had taken as it recorded, v had appended as it recorded; ms is what
  -- v had said by then and u had not used
  abbrev pub IsChannel : Copies M → Copies M → ℕ → ℕ → ℕ → List M → Type 0
  IsChannel of_u of_v u v s ms =
      (cu : ℕ → End M) × (cv : ℕ → End M) × (of_u s ≡ Some cu) × (of_v s ≡ Some cv)
      × (incarnation (cu v) ≡ incarnation (cv u))
      × IsPrefix (cu v).taken (cv u).appended
      × (said (incarnation (cu v)) (cv u).appended ≡ said (incarnation (cu v)) (cu v).used ++ ms)
      × (is_up (cu v) ≡ true)

-- each channel of a finished recording is that of a consistent cut
abbrev pub IsConsistentCut : Type 0 → Type 0
IsConsistentCut M =
    (linked : ℕ → ℕ → Bool) (steps : List (RecordingStep M)) → IsRecordingRun linked first_recorders steps
    → (u v s : ℕ) → u ≢ v
    → linked u v ≡ true → (channels : ℕ → List M)
    → (recorders_after first_recorders steps u).part s ≡ Some channels
    → IsChannel (recorders_after first_recorders steps u).copy (recorders_after first_recorders steps v).copy u v s (channels v)
