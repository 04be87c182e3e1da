-- What one word stands for, and its fault: that it cannot be read, then a number outside its limit, then a router that is not known.
use Rattle.std.specs.Prelude.{ℕ, ◌+◌, ◌-◌, ◌*◌, ◌^◌, ◌==◌, ◌&&◌, not, nat_le, Bool, false, List, [], ◌∷◌, map, Option, Some, None, Result, Ok, Err, if◌then◌else◌, codes, min}
use Rattle.std.specs.List.{list_all, list_any}
use Rattle.prefix_lanes.specs.Bits.{PrefixView, masked, is_prefix}
use Rattle.bgp_values.specs.declared.width.Width.{Width}
use Rattle.bgp_values.specs.Ranges.{is_asn, is_unicast}
use Rattle.ranked_policy.specs.Tests.{is_simple}
use Rattle.ranked_policy.specs.declared.network.NetRouter.{NetRouter}
use Rattle.ranked_policy.specs.declared.network.Origin.{Origin}
use Rattle.net_text.specs.declared.code.Code.{Code}
use Rattle.net_text.specs.declared.code.Code.TheVariants.{Unreadable, UnknownRouter, OutOfLimit, NotSimple, BadPrefix}
use Rattle.net_text.specs.Lexing.{Text, parts, same}

infixl 10 ◌>>=◌
abbrev pub ◌>>=◌ : {A B : Type 0} → Result A Code → (A → Result B Code) → Result B Code
(Ok x) >>= f = f x
(Err code) >>= f = Err code

-- ---- numbers

abbrev pub is_digit : ℕ → Bool
is_digit x = nat_le 48 x && nat_le x 57

abbrev pub is_number : Text → Bool
is_number [] = false
is_number (x ∷ xs) = list_all is_digit (x ∷ xs)

-- digits behind those that make n
abbrev pub value_behind : ℕ → Text → ℕ
value_behind n [] = n
value_behind n (x ∷ xs) = value_behind (n * 10 + (x - 48)) xs

-- the number that digits spell, or the greatest that 64 bits hold, which is above each limit
abbrev pub value_of : Text → ℕ
value_of word = min (2 ^ 64 - 1) (value_behind 0 word)

-- a number that passes a test
abbrev pub number_word : (ℕ → Bool) → Text → Result ℕ Code
number_word test word =
    if not (is_number word) then Err Unreadable
    else if not (test (value_of word)) then Err OutOfLimit
    else Ok (value_of word)

-- ---- routers

abbrev pub is_router : List NetRouter → ℕ → Bool
is_router routers u = list_any (λ r. r.asn == u) routers

abbrev pub asn_word : Width → Text → Result ℕ Code
asn_word width word = number_word (is_asn width) word

abbrev pub router_word : Width → List NetRouter → Text → Result ℕ Code
router_word width routers word = asn_word width word >>= λ u. if not (is_router routers u) then Err UnknownRouter else Ok u

-- ---- addresses

abbrev pub is_octet : Text → Bool
is_octet part = is_number part && nat_le (value_of part) 255

abbrev pub address_of_parts : List Text → Option ℕ
address_of_parts (a ∷ b ∷ c ∷ d ∷ []) =
    if is_octet a && is_octet b && is_octet c && is_octet d
    then Some (((value_of a * 256 + value_of b) * 256 + value_of c) * 256 + value_of d)
    else None
address_of_parts other = None

-- four octets with dots between them
abbrev pub address_of : Text → Option ℕ
address_of word = address_of_parts (parts 46 word)

-- an address of one host (RFC 4271 section 4.2)
abbrev pub unicast : Option ℕ → Result ℕ Code
unicast None = Err Unreadable
unicast (Some address) = if not (is_unicast address) then Err Unreadable else Ok address

abbrev pub id_word : Text → Result ℕ Code
id_word word = unicast (address_of word)

-- ---- prefixes

abbrev pub cleared : ℕ → ℕ → PrefixView
cleared addr len = record { addr = masked addr len; len = len }

abbrev pub prefix_behind : Option ℕ → Text → Option PrefixView
prefix_behind None len = None
prefix_behind (Some addr) len = if is_number len && nat_le (value_of len) 32 then Some (cleared addr (value_of len)) else None

abbrev pub prefix_of_parts : List Text → Option PrefixView
prefix_of_parts (addr ∷ len ∷ []) = prefix_behind (address_of addr) len
prefix_of_parts other = None

-- an address, a slash and a length, the bits behind the length cleared
abbrev pub prefix_of : Text → Option PrefixView
prefix_of word = prefix_of_parts (parts 47 word)

abbrev pub prefix_or_fault : Option PrefixView → Result PrefixView Code
prefix_or_fault None = Err BadPrefix
prefix_or_fault (Some q) = Ok q

abbrev pub prefix_word : Text → Result PrefixView Code
prefix_word word = prefix_or_fault (prefix_of word)

abbrev pub is_named : List Origin → PrefixView → Bool
is_named origins q = list_any (λ origin. is_prefix origin.prefix q) origins

-- a prefix that a router originates
abbrev pub origin_word : List Origin → Text → Result PrefixView Code
origin_word origins word = prefix_word word >>= λ q. if not (is_named origins q) then Err BadPrefix else Ok q

-- ---- paths

-- numbers with dashes between them
abbrev pub path_of : Text → List ℕ
path_of word = map value_of (parts 45 word)

-- the first fault of a path: a part that cannot be read anywhere in it, then a number outside its limit anywhere in it,
-- then an unknown router anywhere in it
abbrev pub path_word : Width → List NetRouter → Text → Result (Unit {0}) Code
path_word width routers word =
    if not (list_all is_number (parts 45 word)) then Err Unreadable
    else if not (list_all (is_asn width) (path_of word)) then Err OutOfLimit
    else if not (list_all (is_router routers) (path_of word)) then Err UnknownRouter
    else Ok tt

abbrev pub is_from : ℕ → List ℕ → Bool
is_from u [] = false
is_from u (v ∷ vs) = v == u

-- a path of a rule of router u
abbrev pub rule_path_word : Width → List NetRouter → ℕ → Text → Result (Unit {0}) Code
rule_path_word width routers u word = path_word width routers word >>= λ _. if is_from u (path_of word) && is_simple (path_of word) then Ok tt else Err NotSimple

-- the first fault of the paths of a rule of router u
abbrev pub rule_path_words : Width → List NetRouter → ℕ → List Text → Result (Unit {0}) Code
rule_path_words width routers u [] = Ok tt
rule_path_words width routers u (word ∷ words) = rule_path_word width routers u word >>= λ _. rule_path_words width routers u words

-- a path, or the word none for the empty one
abbrev pub is_none : Text → Bool
is_none word = same word (codes "none")

abbrev pub assigned_word : Width → List NetRouter → Text → Result (Unit {0}) Code
assigned_word width routers word = if is_none word then Ok tt else path_word width routers word

abbrev pub assigned_path : Text → List ℕ
assigned_path word = if is_none word then [] else path_of word
