-- UPDATEs that were acted on or sent, in the octets that spell them.
-- n is an incarnation, o an OPEN; a place is that of an UPDATE in octets.
use Rattle.std.specs.Prelude.{ℕ, ◌≡◌, ◌≤◌, ◌-◌, ◌==◌, Bool, true, cond, List, [], ◌∷◌, ◌++◌, length, take, drop, get_or, Result, Ok, Err}
use Rattle.std.specs.List.{AllByRecursion}
use Rattle.bgp_values.specs.declared.width.Width.{Width}
use Rattle.bgp_codec.specs.declared.fault.Fault.{Fault}
use Rattle.bgp_codec.specs.declared.message.Message.{Message}
use Rattle.bgp_codec.specs.declared.message.Message.TheVariants.{OpenMsg, UpdateMsg, NoticeMsg, AliveMsg}
use Rattle.bgp_codec.specs.declared.update.Update.{Update}
use Rattle.bgp_codec.specs.Header.{IsFrame}
use Rattle.bgp_codec.specs.Faults.{reading}
use Rattle.router_side.specs.declared.block.Block.{Block}
use Rattle.router_side.specs.declared.block.Stored.{Stored}
use Rattle.router_side.specs.declared.history.PastUpdate.{PastUpdate}
use Rattle.router_side.specs.Layout.{announcement_start}
use Rattle.router_side.specs.Sayings.{nobody}

-- the UPDATEs of an incarnation
abbrev pub history : List PastUpdate → ℕ → List Update
history [] n = []
history (one ∷ others) n = cond (n == one.epoch) (one.update ∷ history others n) (history others n)

-- the UPDATE that was read, if it is one
abbrev pub updates_read : Result Message Fault → List Update
updates_read (Ok (OpenMsg o)) = []
updates_read (Ok (UpdateMsg update)) = update ∷ []
updates_read (Ok (NoticeMsg notice)) = []
updates_read (Ok AliveMsg) = []
updates_read (Err fault) = []

abbrev pub dated : ℕ → List Update → List PastUpdate
dated n [] = []
dated n (update ∷ updates) = record { epoch = n; update = update } ∷ dated n updates

-- the incarnation of an UPDATE, and how many octets it has
pub record Place : Type 0 where
  pub epoch : ℕ
  pub len : ℕ

-- each place takes the next octets
abbrev pub told_in : Width → List Place → List ℕ → List PastUpdate
told_in width [] octets = []
told_in width (place ∷ others) octets =
    dated place.epoch (updates_read (reading (nobody width) (take place.len octets)))
    ++ told_in width others (drop place.len octets)

-- the octets of each place are a frame, and there are no others
abbrev pub AreKept : List Place → List ℕ → Type 0
AreKept [] octets = octets ≡ []
AreKept (place ∷ others) octets =
    (place.len ≤ length octets) × IsFrame (take place.len octets) × AreKept others (drop place.len octets)

-- the octets of an UPDATE from its stored ones: all of its `len`, or those behind `announcement_start`
abbrev pub spelt_by : Bool → ℕ → List ℕ → List ℕ
spelt_by short len octets = cond short (announcement_start len (get_or octets 0 0) ++ octets) octets

abbrev pub spelt : Stored → List ℕ → List ℕ
spelt place octets = spelt_by place.short place.len octets

-- how many octets of an UPDATE are stored
abbrev pub stored_len : Stored → ℕ
stored_len place = cond place.short (place.len - 29) place.len

-- the octets that stored ones spell; each place takes the next
abbrev pub spelt_in : List Stored → List ℕ → List ℕ
spelt_in [] octets = []
spelt_in (place ∷ others) octets =
    spelt place (take (stored_len place) octets) ++ spelt_in others (drop (stored_len place) octets)

-- the stored octets of a place spell a frame, of the length that the place says
abbrev pub IsStored : Stored → List ℕ → Type 0
IsStored place octets = IsFrame (spelt place octets) × (place.len ≡ length (spelt place octets))

-- the stored octets of each place spell a frame, and there are no other octets
abbrev pub AreStored : List Stored → List ℕ → Type 0
AreStored [] octets = octets ≡ []
AreStored (place ∷ others) octets =
    (stored_len place ≤ length octets) × IsStored place (take (stored_len place) octets)
    × AreStored others (drop (stored_len place) octets)

-- octets are appended; of an UPDATE that announces a path, those behind the front
pub record PutsBehind (front whole old new : List ℕ) : Type 0 where
  pub rest : List ℕ
  pub appended : new ≡ old ++ rest
  pub front_is : front ≡ announcement_start (length whole) (get_or rest 0 0)
  pub spells : spelt_by true (length whole) rest ≡ whole

-- the places of UPDATEs that are stored
abbrev pub places_of : List Stored → List Place
places_of [] = []
places_of (place ∷ others) = record { epoch = place.epoch; len = place.len } ∷ places_of others

-- the UPDATEs that were told, by stored octets
abbrev pub told_stored : Width → List Stored → List ℕ → List PastUpdate
told_stored width stored octets = told_in width (places_of stored) (spelt_in stored octets)

-- the places of blocks, and what is spelt at them
abbrev pub entries_in : List Block → List Place
entries_in [] = []
entries_in (block ∷ blocks) = places_of block.places.items ++ entries_in blocks

abbrev pub octets_in : List Block → List ℕ
octets_in [] = []
octets_in (block ∷ blocks) = spelt_in block.places.items block.octets.items ++ octets_in blocks

-- the UPDATEs that were told, by blocks
abbrev pub told_by_blocks : Width → List Block → List PastUpdate
told_by_blocks width [] = []
told_by_blocks width (block ∷ blocks) =
    told_stored width block.places.items block.octets.items ++ told_by_blocks width blocks

-- the octets of each block are stored in this way
abbrev pub AreAllStored : List Block → Type 0
AreAllStored blocks = AllByRecursion (λ (block : Block). AreStored block.places.items block.octets.items) blocks

-- the places, their octets, and the room for more
pub record Past : Type 0 where
  pub entries : List Place
  pub octets : List ℕ
  pub room : ℕ
  pub places : ℕ

-- the UPDATEs that were told, if AS numbers have this width
abbrev pub told_with : Width → Past → List PastUpdate
told_with width store = told_in width store.entries store.octets
