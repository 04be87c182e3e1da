-- What passes a direction of a link: the octets of messages, cut anyhow, and the other entries whole.
use Rattle.std.specs.Prelude.{ℕ, ◌≡◌, ◌≢◌, true, List, [], ◌∷◌, ◌++◌, length, Some, slice_get}
use mathlib.Core.List.{IsPrefix}
use mathlib.Core.Logic.{◌⊎◌}
use Rattle.run_model.specs.Links.{Entry, Dial, Says, Mark, Shut, Joined, LinkStep, IsRun, opening, ends_after, answers, incarnation}

-- an octet of an incarnation, or an entry that is no message
pub data Passing (M : Type 0) : Type 0 where
  Octet : (incarnation value : ℕ) → Passing M
  Control : (entry : Entry M) → Passing M

module _ {M : Type 0} where
  abbrev pub octets_of : ℕ → List ℕ → List (Passing M)
  octets_of e [] = []
  octets_of e (b ∷ bs) = Octet e b ∷ octets_of e bs

  -- what passes for these entries, each message being written as its octets
  abbrev pub passing : (M → List ℕ) → List (Entry M) → List (Passing M)
  passing written [] = []
  passing written (Dial e ∷ rest) = Control (Dial e) ∷ passing written rest
  passing written (Says e m ∷ rest) = octets_of e (written m) ++ passing written rest
  passing written (Mark e s ∷ rest) = Control (Mark e s) ∷ passing written rest
  passing written (Shut e ∷ rest) = Control (Shut e) ∷ passing written rest

  abbrev pub OnlyOctets : List (Passing M) → Type 0
  OnlyOctets [] = Unit {0}
  OnlyOctets (Octet e b ∷ rest) = OnlyOctets rest
  OnlyOctets (Control x ∷ rest) = ⊥

  abbrev pub OnlyMessages : List (Entry M) → Type 0
  OnlyMessages [] = Unit {0}
  OnlyMessages (Dial e ∷ rest) = ⊥
  OnlyMessages (Says e m ∷ rest) = OnlyMessages rest
  OnlyMessages (Mark e s ∷ rest) = ⊥
  OnlyMessages (Shut e ∷ rest) = ⊥

  -- every message of these entries is good, whatever good means
  abbrev pub AllGood : (M → Type 0) → List (Entry M) → Type 0
  AllGood is_good [] = Unit {0}
  AllGood is_good (Dial e ∷ rest) = AllGood is_good rest
  AllGood is_good (Says e m ∷ rest) = is_good m × AllGood is_good rest
  AllGood is_good (Mark e s ∷ rest) = AllGood is_good rest
  AllGood is_good (Shut e ∷ rest) = AllGood is_good rest

  -- every message of these entries is written as a frame
  abbrev pub AllFrames : (List ℕ → Type 0) → (M → List ℕ) → List (Entry M) → Type 0
  AllFrames is_frame written entries = AllGood (λ m. is_frame (written m)) entries

-- frames tell where they end (RFC 4271 section 4.1: the length stands in the header): none is empty, none begins another
pub record IsFraming (is_frame : List ℕ → Type 0) : Type 0 where
  pub some : (f : List ℕ) → is_frame f → f ≢ []
  pub prefix_free : (f g a b : List ℕ) → is_frame f → is_frame g → f ++ a ≡ g ++ b → f ≡ g

-- for every way in which messages are written
module _ (M : Type 0) (is_frame : List ℕ → Type 0) where
  -- a whole frame that stands behind what was taken is the next message
  abbrev pub NextFrameIsNextMessage : Type 0
  NextFrameIsNextMessage =
      (written : M → List ℕ) → IsFraming is_frame → (taken appended : List (Entry M)) (e : ℕ) (f rest : List ℕ)
      → AllFrames is_frame written appended
      → is_frame f → IsPrefix taken appended
      → IsPrefix (passing written taken ++ octets_of e (f ++ rest)) (passing written appended)
      → (m : M) × (f ≡ written m) × (slice_get appended (length taken) ≡ Some (Says e m))

  -- octets that are held are a beginning of the next message, or the next message is a beginning of them
  abbrev pub HeldBeginsNextMessage : Type 0
  HeldBeginsNextMessage =
      (written : M → List ℕ) → IsFraming is_frame → (taken appended : List (Entry M)) (e : ℕ) (held : List ℕ)
      → AllFrames is_frame written appended
      → IsPrefix taken appended → held ≢ []
      → IsPrefix (passing written taken ++ octets_of e held) (passing written appended)
      → (m : M) × (slice_get appended (length taken) ≡ Some (Says e m)) × is_frame (written m)
      × (IsPrefix held (written m) ⊎ IsPrefix (written m) held)

  -- if no whole frame stands there and another entry comes, no octet is held, and that entry is the next one
  abbrev pub NextControlIsNextEntry : Type 0
  NextControlIsNextEntry =
      (written : M → List ℕ) → IsFraming is_frame
      → (taken appended : List (Entry M)) (e : ℕ) (x : Entry M) (held : List ℕ) → AllFrames is_frame written appended
      → IsPrefix taken appended
      → IsPrefix (passing written taken ++ (octets_of e held ++ Control x ∷ [])) (passing written appended)
      → ((f rest : List ℕ) → is_frame f → held ≢ f ++ rest) → (held ≡ [])
      × (slice_get appended (length taken) ≡ Some x)

  -- no octet of another incarnation comes to an end that is joined
  abbrev pub NoStaleOctetWhileJoined : Type 0
  NoStaleOctetWhileJoined =
      (written : M → List ℕ) → IsFraming is_frame → (moves : List (LinkStep M)) → IsRun opening moves → (u v : ℕ)
      → u ≢ v → AllFrames is_frame written (ends_after opening moves v u).appended
      → (ends_after opening moves u v).phase ≡ Joined
      → (e octet : ℕ) (octets held : List ℕ) → ((f rest : List ℕ) → is_frame f → held ≢ f ++ rest)
      → IsPrefix
      (passing written (ends_after opening moves u v).taken
      ++ (octets_of (incarnation (ends_after opening moves u v)) held ++ octets_of e (octet ∷ octets)))
      (passing written (ends_after opening moves v u).appended)
      → e ≡ incarnation (ends_after opening moves u v)

-- for messages that are written in any way
module _ (M : Type 0) where
  -- if octets were dropped and another entry comes, the octets were those of whole messages, and the entry stands
  -- behind them
  abbrev pub DroppedOctetsAreMessages : Type 0
  DroppedOctetsAreMessages =
      (written : M → List ℕ) (taken appended : List (Entry M)) (x : Entry M) (dropped : List (Passing M))
      → IsPrefix taken appended → OnlyOctets dropped
      → IsPrefix (passing written taken ++ (dropped ++ Control x ∷ [])) (passing written appended)
      → (messages : List (Entry M)) × OnlyMessages messages × (passing written messages ≡ dropped)
      × IsPrefix (taken ++ (messages ++ x ∷ [])) appended

  -- octets that were taken and not handled stand before a marker that was not taken: what was taken inside a cut was
  -- appended inside, octet by octet
  abbrev pub OctetsStayBeforeMark : Type 0
  OctetsStayBeforeMark =
      (written : M → List ℕ) (taken before later : List (Entry M)) (e s : ℕ) (octets : List (Passing M))
      → IsPrefix taken before → OnlyOctets octets
      → IsPrefix (passing written taken ++ octets) (passing written (before ++ Mark e s ∷ later))
      → IsPrefix (passing written taken ++ octets) (passing written before)

  -- an end that is about to join by its own dial has dropped no octet since the dial that it answers
  abbrev pub NoneDroppedBeforeAnswer : Type 0
  NoneDroppedBeforeAnswer =
      (written : M → List ℕ) (moves : List (LinkStep M)) → IsRun opening moves → (u v : ℕ) → u ≢ v
      → answers (ends_after opening moves u v) ≡ true
      → (dropped : List (Passing M)) → OnlyOctets dropped
      → IsPrefix (passing written (ends_after opening moves u v).taken ++ dropped) (passing written (ends_after opening moves v u).appended)
      → dropped ≡ []

-- what passes for entries and then others is what passes for the first, and then what passes for the others
abbrev pub PassingAppends : (M : Type 0) → Type 0
PassingAppends M = (written : M → List ℕ) (xs ys : List (Entry M)) → passing written (xs ++ ys) ≡ passing written xs ++ passing written ys
