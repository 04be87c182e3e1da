-- Assignment texts: the path that each line gives a router for a prefix.
use Rattle.std.specs.Prelude.{ℕ, ◌≡◌, ◌==◌, ◌&&◌, not, nat_lt, Bool, List, [], ◌∷◌, ◌++◌, length, Result, Ok, Err, if◌then◌else◌, codes}
use Rattle.std.specs.declared.cmp.Ordering.{Ordering}
use Rattle.std.specs.Ordering.{nat_cmp, ordering_then}
use Rattle.std.specs.BTreeSet.{BTreeSet, contains}
use Rattle.std.specs.List.{list_any}
use Rattle.prefix_lanes.specs.Bits.{PrefixView, is_prefix}
use Rattle.ranked_policy.specs.Plans.{Plan}
use Rattle.ranked_policy.specs.declared.limits.TheConstants.{LONGEST_PATH}
use Rattle.net_text.specs.declared.code.Code.{Code}
use Rattle.net_text.specs.declared.code.Code.TheVariants as kinds
use Rattle.net_text.specs.declared.code.Refused.{Refused}
use Rattle.net_text.specs.declared.assignment.Entry.{Entry}
use Rattle.net_text.specs.declared.entries.Key.{Key}
use Rattle.net_text.specs.Lexing.{Text, same, words_of, is_skipped, is_ascii}
use Rattle.net_text.specs.Words.{◌>>=◌, router_word, origin_word, assigned_word, assigned_path}
use Rattle.net_text.specs.Networks.{refused_at, reading, AreGood}

abbrev pub gives : ℕ → PrefixView → Entry → Bool
gives u q entry = (entry.router == u) && is_prefix entry.prefix q

-- by router, then by address, then by length
abbrev pub key_cmp : Key → Key → Ordering
key_cmp g h = ordering_then (nat_cmp g.router h.router) (ordering_then (nat_cmp g.addr h.addr) (nat_cmp g.len h.len))

-- these are the routers and prefixes that the entries give paths for
pub record AreGiven (given : BTreeSet Key) (entries : List Entry) : Type 0 where
  pub same : (u : ℕ) (q : PrefixView) → contains key_cmp given (record { router = u; addr = q.addr; len = q.len }) ≡ list_any (gives u q) entries

abbrev pub path_line : Plan → ℕ → List Entry → List Text → Result (List Entry) Code
path_line net line entries (a ∷ b ∷ c ∷ []) =
    router_word net.settings.width net.routers a >>= λ u. origin_word net.origins b >>= λ q. assigned_word net.settings.width net.routers c >>= λ _.
    if list_any (gives u q) entries then Err kinds.Repeated
    else if nat_lt LONGEST_PATH (length (assigned_path c)) then Err kinds.OutOfLimit
    else Ok (entries ++ (record { line = line; router = u; prefix = q; path = assigned_path c }) ∷ [])
path_line net line entries words = Err kinds.BadForm

abbrev pub words_entry : Plan → ℕ → List Entry → List Text → Result (List Entry) Code
words_entry net line entries [] = Ok entries
words_entry net line entries (name ∷ words) = if same name (codes "path") then path_line net line entries words else Err kinds.BadForm

-- what a line adds to the entries, or its first fault
abbrev pub entry_reading : Plan → ℕ → List Entry → Text → Result (List Entry) Code
entry_reading net line entries text =
    if is_skipped text then Ok entries
    else if not (is_ascii text) then Err kinds.BadForm
    else words_entry net line entries (words_of text)

-- the entries of a text, or its first faulty line; so many lines stand before it
abbrev pub assignment_reading : Plan → ℕ → List Text → Result (List Entry) Refused
assignment_reading net before lines = reading (entry_reading net) before [] lines

-- a text is refused for its first faulty line, or memory ran out at a line, where no line so far has a fault
abbrev pub RefusesAssignment : Plan → ℕ → List Text → ℕ → Code → Type 0
RefusesAssignment net before lines line kinds.Memory = AreGood (entry_reading net) before [] lines line
RefusesAssignment net before lines line code = assignment_reading net before lines ≡ Err (refused_at line code)
