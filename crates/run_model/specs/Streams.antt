-- The octets of one incarnation of a direction, as one stream.
use Rattle.std.specs.Prelude.{ℕ, ◌≡◌, ◌≢◌, ◌==◌, true, cond, List, [], ◌∷◌, ◌++◌, map}
use Rattle.std.specs.List.{concat}
use mathlib.Core.List.{IsPrefix}
use Rattle.run_model.specs.Links.{Entry, Dial, Says, Mark, Shut, said, answers, incarnation, heard_number, End, LinkStep, IsRun, opening, ends_after}
use Rattle.run_model.specs.Octets.{Passing, Octet, Control, octets_of, passing, OnlyOctets, AllFrames, IsFraming}
use Rattle.run_model.specs.Facts.{EndFacts}

module _ {M : Type 0} where
  -- the octets of messages, one message behind the other
  abbrev pub all_written : (M → List ℕ) → List M → List ℕ
  all_written written messages = concat (map written messages)

  -- the octets of incarnation e among what passes, up to the end of that incarnation
  abbrev pub octets_in : ℕ → List (Passing M) → List ℕ
  octets_in e [] = []
  octets_in e (Octet f b ∷ rest) = cond (e == f) (b ∷ octets_in e rest) (octets_in e rest)
  octets_in e (Control (Dial f) ∷ rest) = octets_in e rest
  octets_in e (Control (Says f m) ∷ rest) = octets_in e rest
  octets_in e (Control (Mark f s) ∷ rest) = octets_in e rest
  octets_in e (Control (Shut f) ∷ rest) = cond (e == f) [] (octets_in e rest)

-- if one list is a beginning of what passes, its octets of an incarnation are a beginning of the others' octets of it
abbrev pub BeginningsPass : Type 0 → Type 0
BeginningsPass M = (e : ℕ) (xs ys : List (Passing M)) → IsPrefix xs ys → IsPrefix (octets_in e xs) (octets_in e ys)

-- in any beginning of what passes for some entries, the octets of an incarnation are a beginning of those of the messages said
-- in it
abbrev pub OctetsBeginWhatIsSaid : Type 0 → Type 0
OctetsBeginWhatIsSaid M =
    (written : M → List ℕ) (e : ℕ) (entries : List (Entry M)) (passed : List (Passing M))
    → IsPrefix passed (passing written entries) → IsPrefix (octets_in e passed) (all_written written (said e entries))

-- in every run nothing is said in an incarnation behind its end
abbrev pub NothingSaidBehindShut : Type 0 → Type 0
NothingSaidBehindShut M =
    (moves : List (LinkStep M)) → IsRun opening moves → (u v e : ℕ) → u ≢ v → (before behind : List (Entry M))
    → (ends_after opening moves u v).appended ≡ before ++ Shut e ∷ behind → said e behind ≡ []

-- in every run, in each beginning of what an end appended, the octets of an incarnation are all those of the messages
-- said in it
abbrev pub AllOctetsPass : Type 0 → Type 0
AllOctetsPass M =
    (written : M → List ℕ) (moves : List (LinkStep M)) → IsRun opening moves → (u v e : ℕ) → u ≢ v
    → (entries : List (Entry M)) → IsPrefix entries (ends_after opening moves u v).appended
    → octets_in e (passing written entries) ≡ all_written written (said e entries)

-- in every run, the octets of the messages that an end used are a beginning of those that it took, whatever it took
-- behind them
abbrev pub UsedOctetsWereTaken : Type 0 → Type 0
UsedOctetsWereTaken M =
    (written : M → List ℕ) (moves : List (LinkStep M)) → IsRun opening moves → (u v e : ℕ) → u ≢ v
    → (rest : List (Passing M))
    → IsPrefix (all_written written (said e (ends_after opening moves u v).used))
    (octets_in e (passing written (ends_after opening moves u v).taken ++ rest))

-- ---- of two ends, whatever led to them

-- no octet of another incarnation comes to an end that has heard its own number, as every joined end has
abbrev pub NoStaleOctetAtAnEnd : (M : Type 0) → (List ℕ → Type 0) → Type 0
NoStaleOctetAtAnEnd M is_frame =
    (written : M → List ℕ) → IsFraming is_frame → (a b : End M) → EndFacts a b → EndFacts b a
    → heard_number a ≡ incarnation a → AllFrames is_frame written b.appended
    → (e octet : ℕ) (octets held : List ℕ) → ((f rest : List ℕ) → is_frame f → held ≢ f ++ rest)
    → IsPrefix (passing written a.taken ++ (octets_of (incarnation a) held ++ octets_of e (octet ∷ octets))) (passing written b.appended)
    → e ≡ incarnation a

-- an end that is about to join by its own dial has dropped no octet since the dial that it answers
abbrev pub NoneDroppedAtAnEnd : Type 0 → Type 0
NoneDroppedAtAnEnd M =
    (written : M → List ℕ) (a b : End M) → EndFacts a b → EndFacts b a → answers a ≡ true
    → (dropped : List (Passing M)) → OnlyOctets dropped
    → IsPrefix (passing written a.taken ++ dropped) (passing written b.appended) → dropped ≡ []
