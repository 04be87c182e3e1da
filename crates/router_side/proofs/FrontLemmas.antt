-- A fault is told of in at most 4096 octets; an UPDATE in front is what its frame reads as, whoever the peer is.
use Rattle.std.proofs.Common.{◌≡◌, ◌∙◌, ℕ, ◌+◌, ◌≤◌, ◌==◌, ◌||◌, nat_lt, Bool, true, false, List, [], ◌∷◌, length, take, drop, refl, ap, sym, arith}
use Rattle.std.specs.Prelude.{Option, None, Some, Result, Ok, Err, if◌then◌else◌}
use Rattle.std.proofs.lemmas.List.{length-take-le}
use Rattle.prefix_lanes.specs.Bits.{PrefixView}
use Rattle.bgp_values.specs.declared.width.Width.{Width}
use Rattle.bgp_codec.specs.declared.attributes.Attrs.{Attrs}
use Rattle.bgp_codec.specs.declared.fault.Fault.{Fault}
use Rattle.bgp_codec.specs.declared.message.Message.{Message}
use Rattle.bgp_codec.specs.declared.message.Message.TheVariants.{OpenMsg, UpdateMsg, AliveMsg}
use Rattle.bgp_codec.specs.declared.open.Open.{Open}
use Rattle.bgp_codec.specs.declared.update.Update.{Update}
use Rattle.bgp_codec.specs.Faults.{reading, read_as, notice_reading}
use Rattle.bgp_codec.specs.Header.{IsFrame, HeaderIsItsFront, header_fault, kind_field, length_field}
use Rattle.bgp_codec.specs.Opens.{open_reading}
use Rattle.bgp_codec.specs.Reading.{◌>>=◌}
use Rattle.bgp_codec.specs.Spelling.{WrittenHasAHeader}
use Rattle.bgp_codec.specs.Updates.{missing, is_from}
use Rattle.bgp_codec.specs.UpdateReading.{update_fault, prefixes_reading, attrs_reading, announced_by, nlri_reading, withdrawn_len, attrs_len, update_of, parts_reading, update_reading}
use Rattle.router_model.specs.Sides.{HasUpdate, notification_of, at_hand, front, read_front, rest_behind}
use Rattle.router_side.specs.Sayings.{nobody, IsSayable}
use Rattle.router_side.specs.SideOf.{naming}

pub fault_sayable : WrittenHasAHeader → (width : Width) (first : Fault) → length first.extra ≤ 4075 → IsSayable width (notification_of first)
fault_sayable h width first l = (tt, omega (arith, h width (notification_of first), l))

-- ---- an UPDATE that is read under a rule that names the peer is read under one that names nobody

through : {A B : Type 0} (r : Result A Fault) (f g : A → Result B Fault) (y : B) → ((x : A) → f x ≡ Ok y → g x ≡ Ok y) → (r >>= f) ≡ Ok y → (r >>= g) ≡ Ok y
through (Ok x) f g y h e = h x e
through (Err first) f g y h e = e

is_anyones : {A : Type 0} (b : Bool) (x y : A) (first : Fault) → (if b then Ok x else Err first) ≡ Ok y → ◌≡◌ {A = Result A Fault} (Ok x) (Ok y)
is_anyones true x y first e = e
is_anyones false x y first e = absurd cc

announced_anyones : (v : ℕ) (code : Option ℕ) (a : Attrs) (octets : List ℕ) (ps : List PrefixView) → announced_by code (Some v) a octets ≡ Ok ps → announced_by code None a octets ≡ Ok ps
announced_anyones v (Some code) a octets ps e = absurd cc
announced_anyones v None a octets ps e =
    through (prefixes_reading octets) (λ qs. if is_from (Some v) a then Ok qs else Err (update_fault 11)) (λ qs. Ok qs) ps (λ qs k. is_anyones (is_from (Some v) a) qs ps (update_fault 11) k) e

nlri_anyones : (v : ℕ) (a : Attrs) (octets : List ℕ) (ps : List PrefixView) → nlri_reading (Some v) a octets ≡ Ok ps → nlri_reading None a octets ≡ Ok ps
nlri_anyones v a [] ps e = e
nlri_anyones v a (octet ∷ rest) ps e = announced_anyones v (missing a) a (octet ∷ rest) ps e

nlri_through : (v : ℕ) (a : Attrs) (octets : List ℕ) (f : List PrefixView → Result Update Fault) (u : Update) → (nlri_reading (Some v) a octets >>= f) ≡ Ok u → (nlri_reading None a octets >>= f) ≡ Ok u
nlri_through v a octets f u e = by_read (nlri_reading (Some v) a octets) refl e
  where
    by_read : (r : Result (List PrefixView) Fault) → nlri_reading (Some v) a octets ≡ r → (r >>= f) ≡ Ok u → (nlri_reading None a octets >>= f) ≡ Ok u
    by_read (Ok ps) is k = ap (λ (r : Result (List PrefixView) Fault). r >>= f) (nlri_anyones v a octets ps is) ∙ k
    by_read (Err first) is k = absurd cc

parts_anyones : (width : Width) (w v : ℕ) (withdrawn attrs nlri : List ℕ) (u : Update) → parts_reading (naming width w v) withdrawn attrs nlri ≡ Ok u → parts_reading (nobody width) withdrawn attrs nlri ≡ Ok u
parts_anyones width w v withdrawn attrs nlri u e =
    through (prefixes_reading withdrawn)
    (λ ws. attrs_reading width attrs >>= λ a. nlri_reading (Some v) a nlri >>= λ ps. Ok (update_of ws a ps))
    (λ ws. attrs_reading width attrs >>= λ a. nlri_reading None a nlri >>= λ ps. Ok (update_of ws a ps)) u
    (λ ws k.
    through (attrs_reading width attrs) (λ a. nlri_reading (Some v) a nlri >>= λ ps. Ok (update_of ws a ps)) (λ a. nlri_reading None a nlri >>= λ ps. Ok (update_of ws a ps)) u
    (λ a j. nlri_through v a nlri (λ ps. Ok (update_of ws a ps)) u j) k) e

inside : (b : Bool) (first : Fault) (r s : Result Update Fault) (u : Update) → (r ≡ Ok u → s ≡ Ok u) → (if b then Err first else r) ≡ Ok u → (if b then Err first else s) ≡ Ok u
inside true first r s u h e = e
inside false first r s u h e = h e

update_anyones : (width : Width) (w v : ℕ) (body : List ℕ) (u : Update) → update_reading (naming width w v) body ≡ Ok u → update_reading (nobody width) body ≡ Ok u
unfolding update_reading
update_anyones width w v body u e =
    let first = withdrawn_len body in
    let second = attrs_len body in
    let ws = take first (drop 2 body) in
    let attrs = take second (drop (4 + first) body) in
    let nlri = drop (4 + (first + second)) body in
    let past = nat_lt (length body) (4 + first) || nat_lt (length body) (4 + (first + second)) in
    inside past (update_fault 1) (parts_reading (naming width w v) ws attrs nlri) (parts_reading (nobody width) ws attrs nlri) u (parts_anyones width w v ws attrs nlri u) e

as_update : (r s : Result Update Fault) (u : Update) → ((w : Update) → r ≡ Ok w → s ≡ Ok w) → read_as UpdateMsg r ≡ Ok (UpdateMsg u) → read_as UpdateMsg s ≡ Ok (UpdateMsg u)
as_update (Ok w) s u h e = ap (read_as UpdateMsg) (h w refl) ∙ e
as_update (Err first) s u h e = absurd cc

by_kind : (width : Width) (w v : ℕ) (body : List ℕ) (u : Update) (one two three : Bool)
    → (if one then read_as OpenMsg (open_reading (naming width w v) body) else if two then read_as UpdateMsg (update_reading (naming width w v) body) else if three then Ok (notice_reading body) else Ok AliveMsg) ≡ Ok (UpdateMsg u)
    → (if one then read_as OpenMsg (open_reading (nobody width) body) else if two then read_as UpdateMsg (update_reading (nobody width) body) else if three then Ok (notice_reading body) else Ok AliveMsg) ≡ Ok (UpdateMsg u)
by_kind width w v body u true two three e = no_open (open_reading (naming width w v) body) e
  where
    no_open : (r : Result Open Fault) → read_as OpenMsg r ≡ Ok (UpdateMsg u) → read_as OpenMsg (open_reading (nobody width) body) ≡ Ok (UpdateMsg u)
    no_open (Ok o) k = absurd cc
    no_open (Err first) k = absurd cc
by_kind width w v body u false true three e = as_update (update_reading (naming width w v) body) (update_reading (nobody width) body) u (update_anyones width w v body) e
by_kind width w v body u false false true e = absurd cc
by_kind width w v body u false false false e = absurd cc

pub read_anyones : (width : Width) (w v : ℕ) (octets : List ℕ) (u : Update) → reading (naming width w v) octets ≡ Ok (UpdateMsg u) → reading (nobody width) octets ≡ Ok (UpdateMsg u)
unfolding reading
read_anyones width w v octets u e = by_kind width w v (drop 19 octets) u (kind_field octets == 1) (kind_field octets == 2) (kind_field octets == 3) e

-- ---- the frame in front

of_update : (r : Result Message Fault) (u : Update) → HasUpdate u ≡ at_hand r → r ≡ Ok (UpdateMsg u)
of_update r u h = grind arith

-- an UPDATE at hand is what the frame in front reads as
pub front_reads : HeaderIsItsFront → (width : Width) (octets : List ℕ) (end w v : ℕ) (u : Update) → end ≤ length octets → IsFrame (take end octets) → HasUpdate u ≡ at_hand (front (naming width w v) octets)
    → reading (nobody width) (take end octets) ≡ Ok (UpdateMsg u)
front_reads its width octets end w v u inside is hand =
    let len : length (take end octets) ≡ end = length-take-le end octets inside in
    let at = its end octets (omega (arith, len, is.has_header)) in
    let good : header_fault octets ≡ None = sym at.same_fault ∙ is.good in
    let whole : length_field octets ≡ end = sym at.same_length ∙ sym is.whole ∙ len in
    let in_front : front (naming width w v) octets ≡ reading (naming width w v) (take end octets) =
    ap (λ (f : Option Fault). read_front (naming width w v) f octets) good ∙ ap (λ (n : ℕ). reading (naming width w v) (take n octets)) whole in
    read_anyones width w v (take end octets) u (of_update (reading (naming width w v) (take end octets)) u (hand ∙ ap at_hand in_front))

-- a frame fits a message
pub frame_fits : HeaderIsItsFront → (octets : List ℕ) → IsFrame octets → length octets ≤ 4096
frame_fits its octets is =
    let bounds = (its 19 octets (omega arith)).bounds is.good in
    omega (arith, is.whole, bounds.1)

-- behind it stands what is left
pub front_dropped : HeaderIsItsFront → (octets : List ℕ) (end : ℕ) → end ≤ length octets → IsFrame (take end octets) → drop (length_field octets) octets ≡ rest_behind (header_fault octets) octets
front_dropped its octets end inside is =
    let len : length (take end octets) ≡ end = length-take-le end octets inside in
    let at = its end octets (omega (arith, len, is.has_header)) in
    ap (λ (f : Option Fault). rest_behind f octets) (sym is.good ∙ at.same_fault)
