-- What the search answers for one of two prefixes that are alike, it answers for the other.
use Rattle.std.proofs.Common.{ℕ, List, ◌∷◌, get_or, inl, inr}
use Rattle.std.specs.Prelude.{Ok, Err}
use Rattle.prefix_lanes.specs.Bits.{PrefixView}
use Rattle.ranked_policy.specs.Choices.{IsChoice, IsFirstOrNone, HasPathOver}
use Rattle.ranked_policy.specs.declared.network.Link.{Link}
use Rattle.ranked_policy.specs.Plans.{Plan}
use Rattle.ranked_policy.specs.Policies.{Table, IsTableOf}
use Rattle.stable_paths.specs.Stable.{IsBestOf, IsStable}
use Rattle.stable_search.specs.declared.every.Every.{Every}
use Rattle.stable_search.specs.declared.limits.SearchLimits.{SearchLimits}
use Rattle.stable_search.specs.declared.refusal.SearchError.{SearchError}
use Rattle.stable_search.specs.declared.refusal.SearchError.TheVariants as refusals
use Rattle.stable_search.specs.Every.{IsEveryStable}
use Rattle.stable_search.specs.Fits.{MayStand, FitsAt, FitsAmong, FitTogether}
use Rattle.stable_search.specs.Refusals.{HasMoreChoices, MayHaveTooManyPaths, IsRefusal}
use Rattle.text_engines.specs.Checking.{at_prefix}
use Rattle.stable_engine.specs.Alike.{Alike, HaveOnePolicy}
use Rattle.stable_engine.specs.Answers.{Found, IsSearched}
use Rattle.stable_engine.proofs.AlikeRules.{one_policy}

-- each router of the network has one policy for the two
abbrev Policies : Plan → PrefixView → PrefixView → Type 0
Policies net q r = (u : ℕ) (t : Table) → IsTableOf net u t → HaveOnePolicy t q r

turned : (net : Plan) (q r : PrefixView) → Policies net q r → Policies net r q
turned net q r policies u t of = let h = policies u t of in record {
  originates = λ v. ((h.originates v).1, (h.originates v).0);
  none = (h.none.1, h.none.0);
  permits = λ path. ((h.permits path).1, (h.permits path).0);
  prefers = λ a b. ((h.prefers a b).1, (h.prefers a b).0);
}

-- ---- a router

module _ (t : Table) (q r : PrefixView) (h : HaveOnePolicy t q r) where
  choice_to : (Heard : ℕ → List ℕ → Type 0) (path : List ℕ) → IsChoice Heard t q path → IsChoice Heard t r path
  choice_to Heard path c = record {
    peer = c.peer;
    rest = c.rest;
    heard = c.heard;
    some = c.some;
    goes_on = c.goes_on;
    permitted = (h.permits path).0 c.permitted;
  }

  choice_back : (Heard : ℕ → List ℕ → Type 0) (path : List ℕ) → IsChoice Heard t r path → IsChoice Heard t q path
  choice_back Heard path c = record {
    peer = c.peer;
    rest = c.rest;
    heard = c.heard;
    some = c.some;
    goes_on = c.goes_on;
    permitted = (h.permits path).1 c.permitted;
  }

  first_to : (Heard : ℕ → List ℕ → Type 0) (path : List ℕ) → IsFirstOrNone Heard t q path → IsFirstOrNone Heard t r path
  first_to Heard path (inl x) = inl (record {
    choice = choice_to Heard path x.choice;
    before = λ other c apart. (h.prefers path other).0 (x.before other (choice_back Heard other c) apart);
  })
  first_to Heard path (inr x) = inr (x.0, λ other c. x.1 other (choice_back Heard other c))

  best_to : (net : Plan) (paths : ℕ → List ℕ) (path : List ℕ) → IsBestOf (at_prefix net q) paths t path → IsBestOf (at_prefix net r) paths t path
  best_to net paths path (inl own) = inl ((h.originates t.router).0 own.0, own.1)
  best_to net paths path (inr x) = inr (λ o. x.0 ((h.originates t.router).1 o), first_to (HasPathOver net.links paths t.router) path x.1)

  stand_to : (links : List Link) (path : List ℕ) → MayStand links q t path → MayStand links r t path
  stand_to links path (inl own) = inl ((h.originates t.router).0 own.0, own.1)
  stand_to links path (inr x) = inr (
    λ o. x.0 ((h.originates t.router).1 o),
    elim x.1 [ inl none ↦ inl none | inr way ↦ inr ((h.permits path).0 way.0, way.1) ],
  )

  fits_to : (v : ℕ) (path theirs : List ℕ) → FitsAt t q v path theirs → FitsAt t r v path theirs
  fits_to v path theirs f = record {
    over = f.over;
    best = λ may apart. (let b = f.best ((h.permits (t.router ∷ theirs)).1 may) apart in (b.0, (h.prefers path (t.router ∷ theirs)).0 b.1));
  }

  among_to : (net : Plan) (routers : List ℕ) (paths : ℕ → List ℕ) → FitsAmong (at_prefix net q) routers paths t → FitsAmong (at_prefix net r) routers paths t
  among_to net routers paths f = record {
    may = stand_to net.links (paths t.router) f.may;
    fits = λ v listed linked other. fits_to v (paths t.router) (paths v) (f.fits v listed linked (λ o. other ((h.originates t.router).0 o)));
  }

-- ---- the network

stable_to : (net : Plan) (q r : PrefixView) → Policies net q r → (paths : ℕ → List ℕ) → IsStable (at_prefix net q) paths → IsStable (at_prefix net r) paths
stable_to net q r policies paths stable u known =
    let b = stable u known in
    (b.0, b.1, best_to b.0 q r (policies u b.0 b.1) net paths (paths u) b.2)

-- paths of some routers that fit together
pub together_to : (net : Plan) (q r : PrefixView) → Policies net q r → (routers : List ℕ) (paths : ℕ → List ℕ) → FitTogether (at_prefix net q) routers paths → FitTogether (at_prefix net r) routers paths
together_to net q r policies routers paths fit u listed =
    let f = fit u listed in
    (f.0, f.1, among_to f.0 q r (policies u f.0 f.1) net routers paths f.2)

every_to : (net : Plan) (q r : PrefixView) → Policies net q r → (every : Every) → IsEveryStable (at_prefix net q) every → IsEveryStable (at_prefix net r) every
every_to net q r policies every h =
    let back = stable_to net r q (turned net q r policies) in
    record {
      listed = λ paths stable. h.listed paths (back paths stable);
      whole = λ paths have. (let w = h.whole paths have in (w.0, stable_to net q r policies w.0 w.1, w.2));
      decided = λ one other mine theirs. h.decided one other (back one mine) (back other theirs);
      parts = h.parts;
      routers = h.routers;
      apart = h.apart;
      order = h.order;
      needed = h.needed;
      among = record {
        may = h.among.may;
        some = h.among.some;
        stand = λ u router. (let t = h.among.stand u router in (t.0, t.1, λ k d lt. stand_to t.0 q r (policies u t.0 t.1) net.links (get_or (h.among.may u) k d) (t.2 k d lt)));
        has = λ paths stable. h.among.has paths (back paths stable);
        choices = λ k d lt paths. (let same = h.among.choices k d lt paths in (
          (λ c. (let both = same.0 c in (both.0, together_to net q r policies (get_or every.parts k d).routers paths both.1))),
          (λ both. same.1 (both.0, together_to net r q (turned net q r policies) (get_or every.parts k d).routers paths both.1)),
        ));
        unmoved = λ u v disputes trails linked t of own path theirs mine his. (let policy = policies u t of in
            fits_to t q r policy v path theirs
            (h.among.unmoved u v disputes trails linked t of (λ o. own ((policy.originates t.router).0 o)) path theirs mine his));
      };
    }

more_to : (net : Plan) (q r : PrefixView) → Policies net q r → (most : ℕ) (routers : List ℕ) → HasMoreChoices (at_prefix net q) most routers → HasMoreChoices (at_prefix net r) most routers
more_to net q r policies most routers h = record {
  choices = h.choices;
  more = h.more;
  fit = λ k d lt. (let f = h.fit k d lt in (f.0, together_to net q r policies routers f.0 f.1, f.2));
  once = h.once;
}

many_to : (net : Plan) (q r : PrefixView) → Policies net q r → (router : ℕ) → MayHaveTooManyPaths (at_prefix net q) router → MayHaveTooManyPaths (at_prefix net r) router
many_to net q r policies router h =
    let policy = policies router h.table h.of in
    record {
      table = h.table;
      of = h.of;
      other = λ o. h.other ((policy.originates router).1 o);
      none = policy.none.0 h.none;
      paths = h.paths;
      many = h.many;
      may = λ k d lt. stand_to h.table q r policy net.links (get_or h.paths k d) (h.may k d lt);
      once = h.once;
    }

refusal_to : (net : Plan) (q r : PrefixView) → Policies net q r → (limits : SearchLimits) (why : SearchError) → IsRefusal (at_prefix net q) limits why → IsRefusal (at_prefix net r) limits why
refusal_to net q r policies limits (refusals.TooManyPaths router) h = many_to net q r policies router h
refusal_to net q r policies limits (refusals.TooManyChoices routers) h =
    let some = h.0 in (record { some = some.some; rising = some.rising; known = some.known }, more_to net q r policies limits.most routers h.1)
refusal_to net q r policies limits (refusals.TooManySteps routers) h = record { some = h.some; rising = h.rising; known = h.known }
refusal_to net q r policies limits refusals.Memory h = h

searched : (net : Plan) (q r : PrefixView) → Policies net q r → (limits : SearchLimits) (found : Found) → IsSearched limits net q found → IsSearched limits net r found
searched net q r policies limits (Ok every) h = (every_to net q r policies every h.0, h.1)
searched net q r policies limits (Err why) h = refusal_to net q r policies limits why h

-- an answer for one of two prefixes that are alike is one for the other
pub searched_alike : (limits : SearchLimits) (net : Plan) (q r : PrefixView) → Alike net q r → (found : Found) → IsSearched limits net q found → IsSearched limits net r found
searched_alike limits net q r alike found h = searched net q r (one_policy net q r alike) limits found h
