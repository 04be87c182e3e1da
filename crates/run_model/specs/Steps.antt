-- What holds of a router's ends and recordings in the states of runs, for its next event.
use Rattle.std.specs.Prelude.{ℕ, ◌≡◌, ◌≢◌, ◌==◌, ◌≤◌, nat_lt, Bool, true, false, cond, List, [], ◌∷◌, ◌++◌, Some}
use mathlib.Core.Logic.{◌⊎◌}
use mathlib.Core.List.{IsPrefix}
use Rattle.run_model.specs.Links.{Entry, Dial, Says, Mark, Shut, End, Joined, has_shut, is_up, incarnation, heard_number, dialling, next_incarnation}
use Rattle.run_model.specs.Facts.{EndFacts}
use Rattle.run_model.specs.Octets.{Passing, passing, OnlyOctets}
use Rattle.run_model.specs.Recordings.{Act, Finishes}
use Rattle.run_model.specs.Routes.{Network, IsNetwork, NetworkStep, records, HasAllParts, IsRunOf, reached}
use Rattle.run_model.specs.Places.{IsCutOfLink, step_of}
use Rattle.run_model.specs.NetworkLinks.{reached_end}
use Rattle.run_model.specs.Offers.{IsIn}

-- in every run of the network the facts of link ends hold of both ends of each link; one of them is that what an end
-- took is a beginning of what its peer appended
abbrev pub NetworkEndFactsHold : (M P W : Type 0) → Type 0
NetworkEndFactsHold M P W =
    (g : Network M P W) (ts : List (NetworkStep M P W)) → IsRunOf g ts → (u v : ℕ) → u ≢ v
    → EndFacts (reached_end g ts u v) (reached_end g ts v u)

-- an end that is joined took no marker of its own incarnation whose number is above the last that its router recorded: markers
-- are obeyed as they are taken
abbrev pub MarkersAreObeyed : (M P W : Type 0) → Type 0
MarkersAreObeyed M P W =
    (g : Network M P W) (ts : List (NetworkStep M P W)) → IsRunOf g ts → (u v : ℕ) → u ≢ v → (reached_end g ts u v).phase ≡ Joined
    → (s : ℕ) → IsIn (Mark (incarnation (reached_end g ts u v)) s) (reached_end g ts u v).taken → s ≤ (reached g ts u).recorder.last

-- of a snapshot that every router finished, the copies of the ends are what a consistent cut leaves of each link; and octets
-- that were taken by then, handled or not, had been appended by then
abbrev pub CopiesAreACut : (M P W : Type 0) → Type 0
CopiesAreACut M P W =
    (g : Network M P W) → IsNetwork g → (ts : List (NetworkStep M P W)) → IsRunOf g ts → (s : ℕ)
    → HasAllParts g (reached g ts) s → (u v : ℕ) (channels : ℕ → List M) (cu cv : ℕ → End M) → g.linked u v ≡ true
    → (reached g ts u).recorder.part s ≡ Some channels → (reached g ts u).recorder.copy s ≡ Some cu
    → (reached g ts v).recorder.copy s ≡ Some cv
    → IsCutOfLink g (cu v) (cv u) (channels v)
    × ((written : M → List ℕ) (held : List (Passing M)) → OnlyOctets held
    → ((cu v).taken ≡ (cv u).appended → held ≡ [])
    → IsPrefix (passing written (cu v).taken ++ held) (passing written ((reached g ts v).recorder.ends u).appended)
    → IsPrefix (passing written (cu v).taken ++ held) (passing written (cv u).appended))

-- an end that was up as its router recorded has sent its marker
abbrev pub CopiesAreMarked : (M P W : Type 0) → Type 0
CopiesAreMarked M P W =
    (g : Network M P W) (ts : List (NetworkStep M P W)) → IsRunOf g ts → (u s v : ℕ) (c : ℕ → End M)
    → (reached g ts u).recorder.copy s ≡ Some c → is_up (c v) ≡ true → IsIn (Mark (incarnation (c v)) s) (c v).appended

-- one event of a router may be several of the model: if those behind the one that records at most finish the recording,
-- the copies are the router's state after all of them
abbrev pub CopiesAreTheState : (M P W : Type 0) → Type 0
CopiesAreTheState M P W =
    (g : Network M P W) (before behind later : List (NetworkStep M P W)) (u s : ℕ) (act : Act M) (c : ℕ → End M)
    → IsRunOf g (before ++ step_of u act ∷ (behind ++ later)) → records act s ≡ true
    → (behind ≡ []) ⊎ (behind ≡ step_of u (Finishes s) ∷ [])
    → (reached g (before ++ step_of u act ∷ (behind ++ later)) u).recorder.copy s ≡ Some c
    → ((reached g (before ++ step_of u act ∷ behind) u).recorder.ends ≡ c)
    × ((reached g (before ++ step_of u act ∷ behind) u).kept ≡ (reached g (before ++ step_of u act ∷ (behind ++ later)) u).kept_at s)
    × ((reached g (before ++ step_of u act ∷ behind) u).originated ≡ (reached g (before ++ step_of u act ∷ (behind ++ later)) u).originated_at s)

-- the greatest number heard, and whether it is shut, entry by entry: what a link end keeps of what it took
pub record Heard : Type 0 where
  pub number : ℕ
  pub shut : Bool

module _ {M : Type 0} where
  abbrev pub heard_with : Heard → Entry M → Heard
  heard_with h (Dial e) = cond (nat_lt h.number e) (record { number = e; shut = false }) h
  heard_with h (Says e m) = h
  heard_with h (Mark e s) = h
  heard_with h (Shut e) = cond (e == h.number) (record { number = h.number; shut = true }) h

  abbrev pub heard_in : Heard → List (Entry M) → Heard
  heard_in h [] = h
  heard_in h (x ∷ xs) = heard_in (heard_with h x) xs

abbrev pub nothing_heard : Heard
nothing_heard = record { number = 0; shut = false }

-- in every run of the network a link end keeps enough: the number heard and whether it is shut are those of all that it took,
-- and its next dial has the next number
abbrev pub LinkEndsKeepEnough : (M P W : Type 0) → Type 0
LinkEndsKeepEnough M P W =
    (g : Network M P W) (ts : List (NetworkStep M P W)) → IsRunOf g ts → (u v : ℕ) → u ≢ v
    → ((heard_in nothing_heard (reached_end g ts u v).taken).number ≡ heard_number (reached_end g ts u v))
    × ((heard_in nothing_heard (reached_end g ts u v).taken).shut ≡ has_shut (heard_number (reached_end g ts u v)) (reached_end g ts u v).taken)
    × (incarnation (dialling (reached_end g ts u v)) ≡ next_incarnation (reached_end g ts u v))
