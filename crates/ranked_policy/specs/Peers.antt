-- The peers of a router.
use Rattle.std.specs.Prelude.{ℕ, ◌==◌, Bool, ◌&&◌, ◌||◌, List, filter}
use Rattle.std.specs.List.{list_any}
use Rattle.ranked_policy.specs.declared.network.Link.{Link}
use Rattle.ranked_policy.specs.Plans.{Plan, numbers}

-- a link joins two routers, named either way round
abbrev pub joins : ℕ → ℕ → Link → Bool
joins u v link = ((link.one == u) && (link.other == v)) || ((link.one == v) && (link.other == u))

abbrev pub linked : Plan → ℕ → ℕ → Bool
linked net u v = list_any (joins u v) net.links

-- the peers of a router, rising
abbrev pub peers : Plan → ℕ → List ℕ
peers net u = filter (linked net u) (numbers net.routers)
