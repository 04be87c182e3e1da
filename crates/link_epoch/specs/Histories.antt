-- Histories of a link end: what it did and heard in order, and what its state says of them.
use Rattle.std.specs.Prelude.{ℕ, ◌≡◌, ◌≢◌, ◌<◌, ◌≤◌, ◌↔◌, max, List, [], ◌∷◌, ◌++◌, IsTrue}
use Rattle.link_epoch.specs.declared.link_end.Phase.TheVariants.{Offered, Joined}
use Rattle.link_epoch.specs.declared.link_end.Sign.{Sign}
use Rattle.link_epoch.specs.declared.link_end.Sign.TheVariants.{Dial, Shut}
use Rattle.link_epoch.specs.declared.link_end.Heard.TheVariants as heard
use Rattle.link_epoch.specs.Ends.{LinkView, opening, next_number, dialled, hung_up, heard_by, meaning_of}

-- what an end does or meets: it dials, hangs up, or hears a sign (a dial that is refused is none)
pub data Move : Type 0 where
  Dials : Move
  HangsUp : Move
  Hears : (sign : Sign) → Move

abbrev pub after : LinkView → Move → LinkView
after a Dials = dialled a
after a HangsUp = hung_up a
after a (Hears s) = heard_by a s

abbrev pub after_all : LinkView → List Move → LinkView
after_all a [] = a
after_all a (m ∷ ms) = after_all (after a m) ms

-- an end after this history, from its opening
abbrev pub end_after : List Move → LinkView
end_after ms = after_all opening ms

-- the numbers that an end dialled, in order
abbrev pub numbers_from : LinkView → List Move → List ℕ
numbers_from a [] = []
numbers_from a (Dials ∷ ms) = next_number a ∷ numbers_from (dialled a) ms
numbers_from a (HangsUp ∷ ms) = numbers_from (hung_up a) ms
numbers_from a (Hears s ∷ ms) = numbers_from (heard_by a s) ms

abbrev pub numbers_dialled : List Move → List ℕ
numbers_dialled ms = numbers_from opening ms

-- the signs that an end heard, in order
abbrev pub signs_heard : List Move → List Sign
signs_heard [] = []
signs_heard (Dials ∷ ms) = signs_heard ms
signs_heard (HangsUp ∷ ms) = signs_heard ms
signs_heard (Hears s ∷ ms) = s ∷ signs_heard ms

-- the greatest of some numbers, 0 if there is none
abbrev pub greatest : List ℕ → ℕ
greatest [] = 0
greatest (n ∷ ns) = max n (greatest ns)

-- the greatest number that these signs dial, 0 if there is none
abbrev pub greatest_dial : List Sign → ℕ
greatest_dial [] = 0
greatest_dial (Dial n ∷ ss) = max n (greatest_dial ss)
greatest_dial (Shut n ∷ ss) = greatest_dial ss

-- the last number dialled is the greatest
abbrev pub EpochIsGreatest : Type 0
EpochIsGreatest = (ms : List Move) → (end_after ms).epoch ≡ greatest (numbers_dialled ms)

-- each number dialled is above all before it
abbrev pub NumbersRise : Type 0
NumbersRise = (ms : List Move) (before later : List ℕ) (n : ℕ) → numbers_dialled ms ≡ before ++ n ∷ later → greatest before < n

abbrev pub HeardIsGreatest : Type 0
HeardIsGreatest = (ms : List Move) → (end_after ms).heard ≡ greatest_dial (signs_heard ms)

-- the peer dialled this number, above all that it had dialled before
abbrev pub IsHeard : ℕ → List Sign → Type 0
IsHeard n signs = (before : List Sign) × (later : List Sign) × (signs ≡ before ++ Dial n ∷ later) × (greatest_dial before < n)

-- the peer shut this number, the greatest that it had dialled
abbrev pub IsShut : ℕ → List Sign → Type 0
IsShut n signs = (before : List Sign) × (later : List Sign) × (signs ≡ before ++ Shut n ∷ later) × (greatest_dial before ≡ n)

abbrev pub HeardIsShut : Type 0
HeardIsShut = (ms : List Move) → IsTrue (end_after ms).heard_is_shut ↔ IsShut (end_after ms).heard (signs_heard ms)

-- a peer that shuts no number above those that it has dialled
abbrev pub ShutsWhatItDialled : List Sign → Type 0
ShutsWhatItDialled signs = (before later : List Sign) (n : ℕ) → signs ≡ before ++ Shut n ∷ later → n ≤ greatest_dial before

-- of such a peer, the number heard is shut exactly where a Shut of it was heard at all
abbrev pub HeardIsShutAnywhere : Type 0
HeardIsShutAnywhere = (ms : List Move) → ShutsWhatItDialled (signs_heard ms)
    → IsTrue (end_after ms).heard_is_shut ↔ ((before : List Sign) × (later : List Sign) × (signs_heard ms ≡ before ++ Shut (end_after ms).heard ∷ later))

-- these moves have no hanging up
abbrev pub NeverHangsUp : List Move → Type 0
NeverHangsUp [] = Unit {0}
NeverHangsUp (Dials ∷ ms) = NeverHangsUp ms
NeverHangsUp (HangsUp ∷ ms) = ⊥
NeverHangsUp (Hears s ∷ ms) = NeverHangsUp ms

-- the end dialled, and has not hung up since
abbrev pub HoldsOn : List Move → Type 0
HoldsOn ms = (before : List Move) × (later : List Move) × (ms ≡ before ++ Dials ∷ later) × NeverHangsUp later

-- an end is joined exactly where its last number was dialled here, heard, and not hung up since
abbrev pub JoinedWhereDialledAndHeard : Type 0
JoinedWhereDialledAndHeard = (ms : List Move) → ((end_after ms).phase ≡ Joined) ↔ (HoldsOn ms × IsHeard (end_after ms).epoch (signs_heard ms))

-- a sign joins exactly where it is a Dial of the offered number, above all that was heard
abbrev pub JoinsAtItsOwnNumber : Type 0
JoinsAtItsOwnNumber = (a : LinkView) (s : Sign) → (meaning_of a s ≡ heard.Joined) ↔ ((s ≡ Dial a.epoch) × (a.heard < a.epoch) × (a.phase ≡ Offered))

-- a sign is an offer exactly where it is a Dial above all that was heard and dialled, and the end is not joined
abbrev pub OffersAboveTheOwn : Type 0
OffersAboveTheOwn = (a : LinkView) (s : Sign) (n : ℕ) → (meaning_of a s ≡ heard.Offered n) ↔ ((s ≡ Dial n) × (a.heard < n) × (a.epoch < n) × (a.phase ≢ Joined))

-- a sign closes exactly where it is a Shut of the number that was dialled, heard and joined
abbrev pub ClosesAtItsOwnNumber : Type 0
ClosesAtItsOwnNumber = (a : LinkView) (s : Sign) → (meaning_of a s ≡ heard.Closed) ↔ ((s ≡ Shut a.epoch) × (a.heard ≡ a.epoch) × (a.phase ≡ Joined))
