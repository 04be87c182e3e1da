-- What the search answers for one of two prefixes that are alike, it answers for the other.
use Rattle.std.proofs.Common.{ℕ, List, [], ◌∷◌, get_or, map}
use Rattle.std.specs.Prelude.{Ok, Err}
use Rattle.prefix_lanes.specs.Bits.{PrefixView}
use Rattle.ranked_policy.specs.Plans.{Plan}
use Rattle.ranked_policy.specs.Policies.{Table, IsTableOf}
use Rattle.dispute_wheels.specs.Feasible.{PermitsAt, IsFeasible, Likes, game_of}
use Rattle.dispute_wheels.specs.Promises.{IsSafe}
use Rattle.dispute_wheels.specs.Wheels as wheels
use Rattle.dispute_wheels.specs.Wheels.{IsRim, AreRims, IsWheel, IsRanked}
use Rattle.stable_engine.specs.Alike.{Alike, HaveOnePolicy, AlikeHaveOnePolicy}
use Rattle.text_engines.specs.Checking.{at_prefix}
use Rattle.wheel_search.specs.declared.rim.Safety.{Safety}
use Rattle.wheel_search.specs.declared.rim.Safety.TheVariants.{Safe, Wheel}
use Rattle.wheel_search.specs.declared.refusal.WheelError.{WheelError}
use Rattle.wheel_search.specs.declared.refusal.WheelError.TheVariants.{UnlistedPaths, Memory}
use Rattle.wheel_search.specs.Found.{as_rim, IsAnswerOf, HasNoRule, HasRule, HasMorePaths, IsRefusal}
use Rattle.safe_engine.specs.Answers.{Found, IsSearched}

-- each router of the network has one policy for the two
abbrev Policies : Plan → PrefixView → PrefixView → Type 0
Policies net q r = (u : ℕ) (t : Table) → IsTableOf net u t → HaveOnePolicy t q r

turned : (net : Plan) (q r : PrefixView) → Policies net q r → Policies net r q
turned net q r policies u t of = let h = policies u t of in record {
  originates = λ v. ((h.originates v).1, (h.originates v).0);
  none = (h.none.1, h.none.0);
  permits = λ path. ((h.permits path).1, (h.permits path).0);
  prefers = λ a b. ((h.prefers a b).1, (h.prefers a b).0);
}

-- ---- paths

module _ (net : Plan) (q r : PrefixView) (policies : Policies net q r) where
  permits_to : (u : ℕ) (path : List ℕ) → PermitsAt net q u path → PermitsAt net r u path
  permits_to u path h = record { table = h.table; of = h.of; permitted = ((policies u h.table h.of).permits path).0 h.permitted }

  feasible_to : (path : List ℕ) → IsFeasible net q path → IsFeasible net r path
  feasible_to [] h = h
  feasible_to (u ∷ []) h = permits_to u (u ∷ []) h
  feasible_to (u ∷ v ∷ rest) h = (permits_to u (u ∷ v ∷ rest) h.0, h.1, feasible_to (v ∷ rest) h.2)

  likes_to : (a b : List ℕ) → Likes net q a b → Likes net r a b
  likes_to a b h = record {
    router = h.router;
    table = h.table;
    of = h.of;
    first = h.first;
    second = h.second;
    preferred = ((policies h.router h.table h.of).prefers a b).0 h.preferred;
  }

  -- ---- wheels

  rim_to : (rim : wheels.Rim) → IsRim (game_of (at_prefix net q)) rim → IsRim (game_of (at_prefix net r)) rim
  rim_to rim h = record {
    spoke = feasible_to rim.spoke h.spoke;
    over = feasible_to rim.over h.over;
    better = likes_to rim.over rim.spoke h.better;
  }

  rims_to : (rims : List wheels.Rim) → AreRims (game_of (at_prefix net q)) rims → AreRims (game_of (at_prefix net r)) rims
  rims_to [] h = h
  rims_to (rim ∷ rims) h = (rim_to rim h.0, rims_to rims h.1)

  wheel_to : (rims : List wheels.Rim) → IsWheel (game_of (at_prefix net q)) rims → IsWheel (game_of (at_prefix net r)) rims
  wheel_to [] h = h
  wheel_to (rim ∷ rims) h = (rim_to rim h.0, rims_to rims h.1, h.2)

  -- ---- refusals

  no_rule_to : (u : ℕ) → HasNoRule (at_prefix net q) u → HasNoRule (at_prefix net r) u
  no_rule_to u h = let policy = policies u h.table h.of in record {
    table = h.table;
    of = h.of;
    other = λ o. h.other ((policy.originates u).1 o);
    none = policy.none.0 h.none;
  }

  rule_to : (u : ℕ) → HasRule (at_prefix net q) u → HasRule (at_prefix net r) u
  rule_to u h = let policy = policies u h.table h.of in record {
    table = h.table;
    of = h.of;
    other = λ o. h.other ((policy.originates u).1 o);
    some = λ none. h.some (policy.none.1 none);
  }

  more_to : (u most : ℕ) → HasMorePaths (at_prefix net q) u most → HasMorePaths (at_prefix net r) u most
  more_to u most h = record {
    paths = h.paths;
    each = λ k d lt. (let e = h.each k d lt in (e.0, feasible_to (get_or h.paths k d) e.1));
    distinct = h.distinct;
    many = h.many;
  }

  refusal_to : (most : ℕ) (why : WheelError) → IsRefusal (at_prefix net q) most why → IsRefusal (at_prefix net r) most why
  refusal_to most (UnlistedPaths u) h = (no_rule_to u h.0, more_to u most h.1, (h.2.0, rule_to h.2.0 h.2.1))
  refusal_to most Memory h = h

-- numbers that fall along paths show it of both
safe_to : (net : Plan) (q r : PrefixView) → Policies net q r → IsSafe (at_prefix net q) → IsSafe (at_prefix net r)
safe_to net q r policies h =
    let back = turned net q r policies in
    record {
      rank = h.rank;
      ranked = record {
        falls = λ u v rest path. h.ranked.falls u v rest (feasible_to net r q back (u ∷ v ∷ rest) path);
        keeps = λ a b mine theirs likes. h.ranked.keeps a b (feasible_to net r q back a mine) (feasible_to net r q back b theirs) (likes_to net r q back a b likes);
      };
      most = h.most;
      low = λ path feasible. h.low path (feasible_to net r q back path feasible);
    }

answer_to : (net : Plan) (q r : PrefixView) → Policies net q r → (safety : Safety) → IsAnswerOf (at_prefix net q) safety → IsAnswerOf (at_prefix net r) safety
answer_to net q r policies Safe h = safe_to net q r policies h
answer_to net q r policies (Wheel rims) h = wheel_to net q r policies (map as_rim rims) h

searched : (net : Plan) (q r : PrefixView) → Policies net q r → (most : ℕ) (found : Found) → IsSearched net most q found → IsSearched net most r found
searched net q r policies most (Ok safety) h = answer_to net q r policies safety h
searched net q r policies most (Err why) h = refusal_to net q r policies most why h

-- an answer for one of two prefixes that are alike is one for the other
pub searched_alike : AlikeHaveOnePolicy → (net : Plan) (most : ℕ) (q r : PrefixView) → Alike net q r → (found : Found) → IsSearched net most q found → IsSearched net most r found
searched_alike law net most q r alike found h = searched net q r (law net q r alike) most found h
