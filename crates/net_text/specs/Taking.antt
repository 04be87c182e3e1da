-- What is left of a word, which words can be taken into memory as a path, and what a first reading tells of paths.
use Rattle.std.specs.Prelude.{◌≡◌, ◌≤◌, ℕ, ◌+◌, ◌*◌, ◌^◌, ◌%◌, not, nat_le, true, List, [], ◌++◌, length, map, take, Option, None, Some, Result, Ok, Err, if◌then◌else◌}
use Rattle.std.specs.List.{list_all, fold}
use denote.Ref.{Bor}
use Rattle.bgp_values.specs.declared.width.Width.{Width}
use Rattle.ranked_policy.specs.declared.network.NetRouter.{NetRouter}
use Rattle.net_text.specs.declared.code.Code.{Code}
use Rattle.net_text.specs.declared.code.Code.TheVariants.{OutOfLimit, UnknownRouter}
use Rattle.net_text.specs.declared.numbers.TheConstants.{DIGEST_FACTOR}
use Rattle.net_text.specs.declared.numbers.Parts.{Parts}
use Rattle.net_text.specs.declared.numbers.Numbers.{Numbers}
use Rattle.net_text.specs.declared.paths.PathBrief.{PathBrief}
use Rattle.net_text.specs.declared.paths.PathsBrief.{PathsBrief}
use Rattle.ranked_policy.specs.declared.limits.TheConstants.{LONGEST_PATH, MOST_PATHS}
use Rattle.net_text.specs.Lexing.{Text, parts}
use Rattle.net_text.specs.Lines.{are_short}
use Rattle.net_text.specs.Words.{is_router, path_of, value_of}
use Rattle.bgp_values.specs.declared.width.Width.TheVariants.{Four}
use Rattle.bgp_values.specs.Ranges.{is_asn}

abbrev pub parts_in : Option (Bor Text) → List Text
parts_in None = []
parts_in (Some word) = parts 45 word.now

-- the parts that are left of a word
abbrev pub parts_left : Parts → List Text
parts_left p = parts_in p.0

-- the numbers that are left of a path: those that were read, and those of parts
abbrev pub numbers_left : Numbers → List ℕ
numbers_left n = n.read.now ++ map value_of (parts_left n.left)

-- the numbers of a path are ones that an AS can have, and at most 16
pub record IsTakeable (word : Text) : Type 0 where
  pub numbers : list_all (is_asn Four) (path_of word) ≡ true
  pub short : length (path_of word) ≤ LONGEST_PATH

-- ---- what is known of a path by its numbers

-- the first fault of a path's numbers: one outside its limit anywhere, then one of no router anywhere
abbrev pub routers_word : Width → List NetRouter → List ℕ → Result (Unit {0}) Code
routers_word width routers path =
    if not (list_all (is_asn width) path) then Err OutOfLimit
    else if not (list_all (is_router routers) path) then Err UnknownRouter
    else Ok tt

-- the digest of a path that goes on by one number, from the digest of the numbers before
abbrev pub digest_next : ℕ → ℕ → ℕ
digest_next d v = (d * DIGEST_FACTOR % 2 ^ 64 + v) % 2 ^ 64

abbrev pub digest : List ℕ → ℕ
digest path = fold digest_next 0 path

-- ---- what a first reading tells of a rule's paths

pub record IsBrief (brief : PathBrief) (word : Text) : Type 0 where
  pub digest : brief.digest ≡ digest (path_of word)
  pub short : brief.is_short ≡ nat_le (length (path_of word)) LONGEST_PATH

pub record AreBrief (brief : PathsBrief) (words : List Text) : Type 0 where
  pub count : brief.count ≡ length words
  pub short : brief.are_short ≡ are_short (map path_of words)
  pub digests : length words ≤ MOST_PATHS → take brief.count brief.digests ≡ map (λ w. digest (path_of w)) words
