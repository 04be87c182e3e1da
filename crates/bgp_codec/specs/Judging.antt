-- What the search for a fault remembers of the attributes that it passed, and what it answers where it finds none. It
-- takes no memory for values.
use Rattle.std.specs.Prelude.{◌≡◌, ◌<◌, ℕ, false, List, [], ◌∷◌, length, Option, Some, None, IfSome, Ok, slice_index_or}
use Rattle.bgp_values.specs.declared.width.Width.{Width}
use Rattle.bgp_codec.specs.declared.judging.Came.{Came}
use Rattle.bgp_codec.specs.declared.attributes.Attrs.{Attrs}
use Rattle.bgp_codec.specs.declared.message.Message.{Message}
use Rattle.bgp_codec.specs.declared.message.Message.TheVariants.{UpdateMsg}
use Rattle.bgp_codec.specs.declared.path.Segment.{Segment}
use Rattle.bgp_codec.specs.declared.update.Update.{Update}
use Rattle.bgp_codec.specs.declared.parts.UpdateParts.{UpdateParts}
use Rattle.bgp_codec.specs.UpdateReading.{has_code, path_reading}

-- the first number of a list, or none
abbrev pub first_number : List ℕ → Option ℕ
first_number [] = None
first_number (n ∷ ns) = Some n

-- a mark for each code that an octet can be: which of them are there; the octets of the path, and the next hop
pub record Remembers (width : Width) (came : Came) (a : Attrs) : Type 0 where
  pub marks : length came.codes ≡ 256
  pub codes : (code : ℕ) → code < 256 → slice_index_or came.codes code false ≡ has_code a code
  pub path : IfSome came.path (λ octets. (ss : List Segment) × (path_reading width octets.now ≡ Ok ss) × (a.path ≡ Some ss))
  pub no_path : came.path ≡ None → a.path ≡ None
  pub next_hop : came.next_hop ≡ a.next_hop

-- the parts are those of an UPDATE
pub record Shows (parts : UpdateParts) (u : Update) : Type 0 where
  pub withdrawn : parts.withdrawn ≡ u.withdrawn
  pub path : parts.path ≡ u.attrs.path
  pub next_hop : parts.next_hop ≡ u.attrs.next_hop
  pub nlri : parts.nlri ≡ u.nlri

-- the parts are those of the UPDATE that the message is
abbrev pub ShowsUpdate : UpdateParts → Message → Type 0
ShowsUpdate parts message = (u : Update) × (message ≡ UpdateMsg u) × Shows parts u
