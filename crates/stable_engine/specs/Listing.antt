-- The text printed of all stable assignments of a network for a prefix.
use Rattle.std.specs.Prelude.{ℕ, ◌==◌, ◌&&◌, ◌+◌, ◌^◌, nat_lt, not, Bool, List, [], ◌∷◌, ◌++◌, filter, length, codes, decimal, if◌then◌else◌}
use Rattle.std.specs.List.{flat_map}
use Rattle.prefix_lanes.specs.Bits.{PrefixView}
use Rattle.ranked_policy.specs.declared.network.NetRouter.{NetRouter}
use Rattle.net_text.specs.Printing.{line, prefix_text, marked, numbers_text, routed_line}
use Rattle.stable_search.specs.declared.every.Component.{Component}
use Rattle.stable_search.specs.Every.{choices_of, number_of}

-- ---- lines

-- a number, or that it is too great
abbrev pub count_text : ℕ → List ℕ
count_text n = if nat_lt n (2 ^ 64) then decimal n else codes "many"

-- a prefix, and how many assignments are stable for it
unfoldable pub prefix_line : PrefixView → ℕ → List ℕ
prefix_line q n = line (codes "prefix" ++ (prefix_text q ++ (codes " stable " ++ count_text n)))

abbrev pub paths_behind : List (List ℕ) → List ℕ
paths_behind paths = flat_map (λ path. codes " " ++ numbers_text path) paths

-- a dispute: its number, how many choices it has, and its routers
unfoldable pub dispute_line : ℕ → PrefixView → ℕ → List ℕ → List ℕ
dispute_line i q n us = line (codes "dispute " ++ (decimal i ++ (prefix_text q ++ (codes " stable " ++ (decimal n ++ (codes " routers" ++ marked 32 us))))))

-- a choice: the path of each router of the dispute
unfoldable pub choice_line : List (List ℕ) → List ℕ
choice_line paths = line (codes "choice" ++ paths_behind paths)

-- routers that follow, and their paths
unfoldable pub follow_line : PrefixView → List ℕ → List (List (List ℕ)) → List ℕ
follow_line q us choices = line (codes "follow" ++ (marked 32 us ++ (prefix_text q ++ flat_map paths_behind choices)))

-- a prefix of which not all is known, and why: a word, and routers behind it
unfoldable pub unknown_line : PrefixView → List ℕ → List ℕ → List ℕ
unknown_line q why us = line (codes "prefix" ++ (prefix_text q ++ (codes " unknown " ++ (why ++ marked 32 us))))

-- ---- the routers that have the same path in all

-- the line of a router, if it is among these routers, which have these paths
abbrev pub route_text : PrefixView → ℕ → List ℕ → List (List ℕ) → List ℕ
route_text q u [] paths = []
route_text q u (v ∷ vs) [] = []
route_text q u (v ∷ vs) (path ∷ paths) = if v == u then routed_line (codes "route ") u q path else route_text q u vs paths

-- the line of a router of a part, if the part has one choice
abbrev pub only_text : PrefixView → ℕ → List ℕ → List (List (List ℕ)) → List ℕ
only_text q u vs [] = []
only_text q u vs (choice ∷ []) = route_text q u vs choice
only_text q u vs (choice ∷ other ∷ choices) = []

abbrev pub routes_of : PrefixView → ℕ → List Component → List ℕ
routes_of q u parts = flat_map (λ part. only_text q u part.routers (choices_of part)) parts

abbrev pub routes_text : PrefixView → List NetRouter → List Component → List ℕ
routes_text q routers parts = flat_map (λ r. routes_of q r.asn parts) routers

-- ---- disputes

abbrev pub is_dispute : Component → Bool
is_dispute part = not part.follows && not (length (choices_of part) == 1)

abbrev pub choices_text : List (List (List ℕ)) → List ℕ
choices_text choices = flat_map choice_line choices

abbrev pub dispute_text : ℕ → PrefixView → Component → List ℕ
dispute_text i q part = dispute_line i q (length (choices_of part)) part.routers ++ choices_text (choices_of part)

-- disputes, each with its number; the first has this one
abbrev pub disputes_text : ℕ → PrefixView → List Component → List ℕ
disputes_text i q [] = []
disputes_text i q (part ∷ parts) = dispute_text i q part ++ disputes_text (i + 1) q parts

-- ---- routers that follow

abbrev pub follow_text : PrefixView → Component → List ℕ
follow_text q part = if part.follows then follow_line q part.routers (choices_of part) else []

abbrev pub follows_text : PrefixView → List Component → List ℕ
follows_text q parts = flat_map (λ part. follow_text q part) parts

-- ---- a prefix

abbrev pub every_text : PrefixView → List NetRouter → List Component → List ℕ
every_text q routers parts =
    prefix_line q (number_of parts)
    ++ (routes_text q routers parts ++ (disputes_text 1 q (filter is_dispute parts) ++ follows_text q parts))
