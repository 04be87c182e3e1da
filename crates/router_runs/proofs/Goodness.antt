-- What routers say can be read by their peers.
use Rattle.std.proofs.Common.{◌≡◌, ◌≢◌, ℕ, ◌+◌, ◌*◌, ◌<◌, ◌≤◌, ◌==◌, Bool, true, false, ◌||◌, cond, List, [], ◌∷◌, ◌++◌, length, refl, ap, sym, subst, arith, length-append, Some, None, inl, inr, ◌⊎◌}
use Rattle.std.specs.Prelude.{nat_eq, nat_le, ◌^◌, ◌/◌, map}
use Rattle.std.specs.List.{AllByRecursion, flat_map, list_any}
use Rattle.std.specs.Int.{w16, w32, to_be_bytes, from_be_bytes}
use Rattle.std.proofs.lemmas.Bool.Decides.{nat_tests}
use Rattle.std.proofs.lemmas.Cmp.{nat_eq_equiv}
use Rattle.std.proofs.lemmas.List.{append-nil, length-take}
use Rattle.std.proofs.lemmas.Nat.{from_be_bytes-to_be_bytes_4}
use Rattle.std.proofs.lemmas.List.Elements.{All-contains, recursion_from_All}
use Rattle.std.proofs.lemmas.Map.Views.{list_any-from_Contains}
use Rattle.bgp_codec.specs.UpdateReading.{no_attrs}
use Rattle.prefix_lanes.specs.Bits.{PrefixView, IsCanonical}
use Rattle.bgp_codec.specs.declared.message.Message.{Message}
use Rattle.bgp_codec.specs.declared.message.Message.TheVariants.{OpenMsg, UpdateMsg, NoticeMsg, AliveMsg}
use Rattle.bgp_codec.specs.declared.attributes.Attrs.{Attrs}
use Rattle.bgp_codec.specs.declared.notice.Notice.{Notice}
use Rattle.bgp_codec.specs.declared.open.Open.{Open}
use Rattle.bgp_codec.specs.declared.path.Segment.{Segment}
use Rattle.bgp_codec.specs.declared.path.SegmentKind.TheVariants.{AsSequence}
use Rattle.bgp_codec.specs.declared.update.Update.{Update}
use Rattle.bgp_codec.specs.AsNumbers.{AsnFits, asn_octets}
use Rattle.bgp_codec.specs.Opens.{OpenFits, ParamFits, param_octets, is_peer, number_fault, said_in}
use Rattle.bgp_values.specs.Ranges.{is_hold_time, is_unicast, IsAsn, IsUnicast, greatest_asn}
use Rattle.bgp_values.specs.declared.width.Width.{Width}
use Rattle.bgp_values.specs.declared.width.Width.TheVariants.{Two, Four}
use Rattle.bgp_codec.specs.Updates.{UpdateFits, AttrsFit, attrs_octets, update_octets, prefix_octets, octet_count, long_string, segment_octets, is_from}
use Rattle.bgp_codec.specs.Spelling.{IsWritable, written_body}
use Rattle.bgp_codec.specs.Faults.{IsFrom}
use Rattle.ranked_policy.specs.declared.network.NetRouter as network
use Rattle.ranked_policy.specs.declared.network.Origin.{Origin}
use Rattle.ranked_policy.specs.Plans.{IsRouter, IsNamed, numbers, identifiers}
use Rattle.router_model.specs.Settings.{Setting, identifier}
use Rattle.router_model.specs.State.{open_of, telling, withdrawal, announcement, rule_of, asn_field, params_of}
use Rattle.router_model.specs.Settings.{IsSetting}
use Rattle.router_runs.specs.Runs.{written_in}
use Rattle.router_runs.specs.Kept.{IsGood}
use Rattle.router_runs.specs.Said.{MayKeep, SaidIsGood}
use Rattle.router_runs.proofs.Lower.{Laws}

module _ (laws : Laws) where
  -- ---- numbers and identifiers

  asn_of : (g : Setting) → IsSetting g → (u : ℕ) → IsRouter g.net.routers u → IsAsn g.net.settings.width u
  asn_of g set u is = All-contains (IsAsn g.net.settings.width) (numbers g.net.routers) u set.network.plan.in_range is

  pub small_asn : (g : Setting) → IsSetting g → (u : ℕ) → IsRouter g.net.routers u → u ≤ greatest_asn g.net.settings.width
  small_asn g set u is = (asn_of g set u is).1

  id_at : (P : ℕ → Type 0) (rs : List network.NetRouter) (u : ℕ) → AllByRecursion P (map (λ r. r.id) rs) → list_any (nat_eq u) (map (λ r. r.asn) rs) ≡ true → P (identifier rs u)
  id_at P [] u all is = absurd (cc is)
  id_at P (r ∷ rs) u all is = here (r.asn == u) (nat_eq u r.asn) refl refl is (λ k. id_at P rs u all.1 k)
    where
      here : (c d : Bool) → (r.asn == u) ≡ c → nat_eq u r.asn ≡ d → (nat_eq u r.asn || list_any (nat_eq u) (map (λ i. i.asn) rs)) ≡ true → (list_any (nat_eq u) (map (λ i. i.asn) rs) ≡ true → P (identifier rs u)) → P (cond (r.asn == u) r.id (identifier rs u))
      here true d hc hd is rest = rw hc all.0
      here false true hc hd is rest = absurd (let same : u ≡ r.asn = grind (arith, nat_tests, hd) in let hit : (r.asn == u) ≡ true = grind (arith, nat_tests, same) in cc (hc, hit))
      here false false hc hd is rest = rw hc (rest (rw hd at is))

  id_of : (g : Setting) → IsSetting g → (u : ℕ) → IsRouter g.net.routers u → IsUnicast (identifier g.net.routers u)
  id_of g set u is =
      id_at IsUnicast g.net.routers u (recursion_from_All IsUnicast (identifiers g.net.routers) set.network.plan.unicast) (list_any-from_Contains nat_eq_equiv u (numbers g.net.routers) is)

  id_small : (n : ℕ) → IsUnicast n → n < 2 ^ 32
  id_small n is = (let h = is.1 in omega (arith, h))

  id_unicast : (n : ℕ) → IsUnicast n → is_unicast n ≡ true
  id_unicast n is =
      let low = is.0 in
      let high = is.1 in
      let a : nat_le 1 (n / 16777216) ≡ true = grind (arith, nat_tests, low) in
      let b : nat_le (n / 16777216) 223 ≡ true = grind (arith, nat_tests, high) in rw (a, b) refl

  hold_good : (n : ℕ) → (n ≡ 0) ⊎ (3 ≤ n) → is_hold_time n ≡ true
  hold_good n (inl z) = rw z refl
  hold_good n (inr l) = (let a : nat_le 3 n ≡ true = grind (arith, nat_tests, l) in either (n == 0) (nat_le 3 n) a)
    where
      either : (p q : Bool) → q ≡ true → (p || q) ≡ true
      either true q h = refl
      either false q h = h

  -- ---- each kind of message

  read_good : (g : Setting) (u : ℕ) (m : Message) → ((v : ℕ) → IsFrom (rule_of g.net v u) m) → ((v : ℕ) → IsWritable (rule_of g.net v u) m) → 19 + length (written_body g.net.settings.width m) ≤ 4096 → IsGood g u m
  read_good g u m from may few =
      let short : length (written_in g m) ≤ 4096 = (let l = laws.sizes g.net.settings.width m in omega (arith, l, few)) in
      ((laws.reads (rule_of g.net u u) m (from u) (may u) short).0, λ v. (laws.reads (rule_of g.net v u) m (from v) (may v) short).1)

  -- the field AS, and the parameters, have few octets
  field_small : (c : Bool) (u : ℕ) → nat_le u 65535 ≡ c → cond c u 23456 < 2 ^ 16
  field_small true u h = grind (arith, nat_tests, h)
  field_small false u h = omega arith

  params_fit : (width : Width) (u : ℕ) → AllByRecursion ParamFits (params_of width u) × (length (flat_map param_octets (params_of width u)) < 256)
  params_fit Two u = (tt, omega arith)
  params_fit Four u = ((((omega arith, tt), omega arith), tt), omega arith)

  -- they say the router's number
  same_number : (u : ℕ) → (u == u) ≡ true
  same_number u = grind (arith, nat_tests)

  field_said : (c : Bool) (u : ℕ) → ((cond c u 23456 == u) || (cond c u 23456 == 23456)) ≡ true
  field_said true u = rw same_number refl
  field_said false u = any_true (23456 == u)
    where
      any_true : (p : Bool) → (p || true) ≡ true
      any_true true = refl
      any_true false = refl

  is_said : (width : Width) (u : ℕ) → u ≤ greatest_asn width → is_peer width (Some u) (asn_field u) ≡ true
  is_said Two u small = (let fits : nat_le u 65535 ≡ true = grind (arith, nat_tests, small) in rw (fits, same_number u) refl)
  is_said Four u small = field_said (nat_le u 65535) u

  number_good : (width : Width) (v u : ℕ) → u ≤ greatest_asn width → number_fault width (Some v) (Some u) (said_in (params_of width u)) ≡ None
  number_good Two v u small = refl
  number_good Four v u small = (let same : from_be_bytes w32 (to_be_bytes w32 u) ≡ u = from_be_bytes-to_be_bytes_4 u (omega (arith, small)) in rw (same, same_number u) refl)

  open_good : (g : Setting) → IsSetting g → (u : ℕ) → IsRouter g.net.routers u → IsGood g u (open_of g.net u)
  open_good g set u is =
      let w : Width = g.net.settings.width in
      let small = small_asn g set u is in
      let id = id_of g set u is in
      let params = params_fit w u in
      let o : Open = record { asn = asn_field u; hold = g.net.settings.hold; id = identifier g.net.routers u; params = params_of w u } in
      let fits : OpenFits o = record {
        asn = field_small (nat_le u 65535) u refl;
        hold = set.hold;
        hold_time = hold_good g.net.settings.hold set.network.plan.settings.hold;
        id = id_small (identifier g.net.routers u) id;
        unicast = id_unicast (identifier g.net.routers u) id;
        params = params.0;
        all = params.1;
      } in
      read_good g u (OpenMsg o) (λ v. (is_said w u small, number_good w v u small)) (λ v. fits) (omega (arith, params.1))

  notice_good : (g : Setting) (u : ℕ) (n : Notice) → n.extra ≡ [] → IsGood g u (NoticeMsg n)
  notice_good g u n none = read_good g u (NoticeMsg n) (λ v. tt) (λ v. tt) (let z : length n.extra ≡ 0 = ap length none in omega (arith, z))

  alive_good : (g : Setting) (u : ℕ) → IsGood g u AliveMsg
  alive_good g u = read_good g u AliveMsg (λ v. tt) (λ v. tt) (omega arith)

  -- ---- UPDATEs

  update_good : (g : Setting) (u : ℕ) (x : Update) → UpdateFits g.net.settings.width x → (x.nlri ≢ [] → is_from (Some u) x.attrs ≡ true) → 19 + length (update_octets g.net.settings.width x) ≤ 4096 → IsGood g u (UpdateMsg x)
  update_good g u x fits from few = read_good g u (UpdateMsg x) (λ v. from) (λ v. fits) few

  length_numbers : (width : Width) (ns : List ℕ) → length (flat_map (asn_octets width) ns) ≤ 4 * length ns
  length_numbers width [] = omega arith
  length_numbers Two (n ∷ ns) = omega (arith, length_numbers Two ns, length-append (to_be_bytes w16 n) (flat_map (asn_octets Two) ns))
  length_numbers Four (n ∷ ns) = omega (arith, length_numbers Four ns, length-append (to_be_bytes w32 n) (flat_map (asn_octets Four) ns))

  segment_size : (width : Width) (s : Segment) → length (segment_octets width s) ≤ 2 + 4 * length s.numbers
  segment_size width s = omega (arith, length_numbers width s.numbers)

  prefix_size : (q : PrefixView) → length (flat_map prefix_octets (q ∷ [])) ≤ 5
  prefix_size q = (let l = length-append (prefix_octets q) [] in let t = length-take (octet_count q.len) (to_be_bytes w32 q.addr) in omega (arith, l, t))

  update_size : (width : Width) (x : Update) → length (update_octets width x) ≡ 4 + length (flat_map prefix_octets x.withdrawn) + length (attrs_octets width x.attrs) + length (flat_map prefix_octets x.nlri)
  update_size width x =
      let w : List ℕ = flat_map prefix_octets x.withdrawn in
      let a : List ℕ = attrs_octets width x.attrs in
      let n : List ℕ = flat_map prefix_octets x.nlri in
      let l1 = length-append (long_string w) (long_string a ++ n) in
      let l2 = length-append (long_string a) n in omega (arith, l1, l2)

  canonical : (g : Setting) → IsSetting g → (q : PrefixView) → IsNamed g.net.origins q → IsCanonical q
  canonical g set q named =
      subst IsCanonical named.4 (All-contains (λ (o : Origin). IsCanonical o.prefix) g.net.origins named.1 set.network.plan.origins.canonical (named.0, named.2, named.3))

  same_test : (m n : ℕ) → m ≡ n → (m == n) ≡ true
  same_test m n h = grind (arith, nat_tests, h)

  no_attrs_fit : (width : Width) → AttrsFit width no_attrs
  no_attrs_fit width = record { origin = tt; path = tt; next_hop = tt; med = tt; local_pref = tt; aggregator = tt; other = tt; rising = tt }

  withdrawal_fits : (width : Width) (q : PrefixView) → IsCanonical q → UpdateFits width (withdrawal q)
  withdrawal_fits width q is = record {
    withdrawn = (is, tt);
    attrs = no_attrs_fit width;
    nlri = tt;
    mandatory = λ some. absurd (some refl);
    withdrawn_size = (let l = prefix_size q in omega (arith, l));
    attrs_size = omega arith;
  }

  path_of : ℕ → List ℕ → Attrs
  path_of id path = (announcement id (record { addr = 0; len = 0 }) path).attrs

  attrs_few : (width : Width) (id : ℕ) (q : PrefixView) (path : List ℕ) → length path ≤ 16 → length (attrs_octets width (announcement id q path).attrs) ≤ 96
  attrs_few width id q path short =
      let s : Segment = record { kind = AsSequence; numbers = path } in
      let v : List ℕ = segment_octets width s ++ [] in
      let size : length v ≤ 2 + 4 * length path = (let whole : length v ≡ length (segment_octets width s) = ap length (append-nil (segment_octets width s)) in omega (arith, whole, segment_size width s)) in
      let few : nat_le 256 (length v) ≡ false = grind (arith, nat_tests, size, short) in
      let l = length-append (64 ∷ 2 ∷ length v ∷ v) (64 ∷ 3 ∷ 4 ∷ to_be_bytes w32 id) in
      rw few (omega (arith, l, size, short))

  announcement_fits : (width : Width) (id u : ℕ) (q : PrefixView) (path : List ℕ) → IsCanonical q → IsUnicast id → 1 ≤ length path → length path ≤ 16 → AllByRecursion (AsnFits width) path → UpdateFits width (announcement id q path)
  announcement_fits width id u q path is unicast some short small = record {
    withdrawn = tt;
    attrs = record {
      origin = omega arith;
      path = ((some, (omega (arith, short), small)), tt);
      next_hop = (id_small id unicast, id_unicast id unicast);
      med = tt;
      local_pref = tt;
      aggregator = tt;
      other = tt;
      rising = tt;
    };
    nlri = (is, tt);
    mandatory = λ n. refl;
    withdrawn_size = omega arith;
    attrs_size = (let l = attrs_few width id q path short in omega (arith, l));
  }

  pub said_is_good : SaidIsGood
  said_is_good g set u is (OpenMsg o) said = subst (IsGood g u) (sym said) (open_good g set u is)
  said_is_good g set u is (NoticeMsg n) said = notice_good g u n said
  said_is_good g set u is AliveMsg said = alive_good g u
  said_is_good g set u is (UpdateMsg x) said =
      let q = said.0 in
      let path = said.1 in
      let id = identifier g.net.routers u in
      subst (λ (i : Update). IsGood g u (UpdateMsg i)) (sym said.4) (told path said.3)
    where
      told : (path : List ℕ) → MayKeep g u path → IsGood g u (UpdateMsg (telling (identifier g.net.routers u) said.0 path))
      told [] keep =
          let fits = withdrawal_fits g.net.settings.width said.0 (canonical g set said.0 said.2) in
          update_good g u (withdrawal said.0) fits (λ some. absurd (some refl)) (let l = update_size g.net.settings.width (withdrawal said.0) in let p = prefix_size said.0 in omega (arith, l, p))
      told (v ∷ rest) (inl none) = absurd (cc none)
      told (v ∷ rest) (inr fine) =
          let id : ℕ = identifier g.net.routers u in
          let fits = announcement_fits g.net.settings.width id u said.0 (v ∷ rest) (canonical g set said.0 said.2) (id_of g set u is) (omega arith) fine.short fine.small in
          let first : v ≡ u = (let e = fine.begins.1 in cc e) in
          update_good g u (announcement id said.0 (v ∷ rest)) fits (λ some. same_test v u first)
          (let l = update_size g.net.settings.width (announcement id said.0 (v ∷ rest)) in let p = prefix_size said.0 in let a = attrs_few g.net.settings.width id said.0 (v ∷ rest) fine.short in omega (arith, l, p, a))
