-- What is known of the offers for one number: how many of them are kept, and how many routers they await.
use Rattle.std.specs.Prelude.{ℕ, suc, ◌≡◌, ◌≢◌, ◌<◌, ◌≤◌, ◌==◌, true, cond, List, [], ◌∷◌, length, take, vec_len, vec_capacity, Some}
use Rattle.std.specs.Ordering.{nat_cmp}
use Rattle.std.specs.Map.{lookup}
use Rattle.std.specs.BTreeMap.{is_at}
use Rattle.snap_marker.specs.declared.part.Offer.{Offer}
use Rattle.snap_marker.specs.Recordings.{MadeOffer}
use Rattle.snap_collector.specs.declared.book.Book.{Book}
use Rattle.snap_collector.specs.Collecting.{made_in}
use Rattle.snap_collector.specs.Collector.{kept_of}
use Rattle.snap_collector.specs.Verdicts.{Member, any_lost, has_part}

-- how many of the routers have no part among the offers
abbrev pub missing : List Member → List MadeOffer → ℕ
missing [] ms = 0
missing (m ∷ rest) ms = cond (has_part ms m.router (λ part. true)) (missing rest ms) (suc (missing rest ms))

-- how many routers the offers await: none if one offer is a loss
abbrev pub missing_parts : List Member → List MadeOffer → ℕ
missing_parts members ms = cond (any_lost ms) 0 (missing members ms)

-- how often a router is among the members
abbrev pub times : List Member → ℕ → ℕ
times [] u = 0
times (m ∷ rest) u = cond (m.router == u) (suc (times rest u)) (times rest u)

-- so many of these offers are kept, and so many routers awaited
pub record IsBooked (members : List Member) (offers : List Offer) (kept awaited : ℕ) : Type 0 where
  pub inside : kept ≤ length offers
  pub exact : made_in (take kept offers) ≡ kept_of members (made_in offers)
  pub waiting : awaited ≢ 0 → kept ≡ length offers
  pub awaits : awaited ≡ missing_parts members (made_in offers)

abbrev pub IsBook : List Member → Book → Type 0
IsBook members b = IsBooked members b.offers.items b.kept b.awaited

-- the offers for a number without the room in their list
abbrev pub entry_of : ℕ × Book → ℕ × List Offer
entry_of e = (e.0, e.1.offers.items)

-- each book is one of the members
abbrev pub AreBooks : List Member → List (ℕ × Book) → Type 0
AreBooks members es = (s : ℕ) (b : Book) → lookup (is_at (nat_cmp s)) es ≡ Some b → IsBook members b

-- the number has a book, with room for an offer more
pub record HasRoom (es : List (ℕ × Book)) (s : ℕ) : Type 0 where
  pub book : Book
  pub there : lookup (is_at (nat_cmp s)) es ≡ Some book
  pub room : vec_len book.offers < vec_capacity book.offers
