-- What one calm event of a router leaves of its weight.
use Rattle.std.proofs.Common.{◌≡◌, ◌≢◌, ℕ, suc, ◌+◌, ◌*◌, ◌<◌, ◌≤◌, ◌==◌, Bool, true, false, ◌&&◌, cond, List, [], ◌∷◌, ◌++◌, length, refl, ap, sym, ◌∙◌, subst, arith, Option, None, Some}
use Rattle.std.specs.Prelude.{if◌then◌else◌, nat_lt, slice_get}
use Rattle.std.specs.List.{find}
use Rattle.std.proofs.lemmas.List.{length-append}
use Rattle.std.proofs.lemmas.Bool.{eqb-true}
use Rattle.std.proofs.lemmas.Bool.Decides.{nat_tests}
use Rattle.prefix_lanes.specs.Bits.{PrefixView}
use Rattle.bgp_codec.specs.declared.message.Message.{Message}
use Rattle.bgp_codec.specs.declared.message.Message.TheVariants.{UpdateMsg}
use Rattle.bgp_codec.specs.declared.update.Update.{Update}
use Rattle.bgp_codec.specs.Header.{HeaderIsItsFront}
use Rattle.link_epoch.specs.Histories.{JoinsAtItsOwnNumber, OffersAboveTheOwn}
use Rattle.link_epoch.specs.Ends.{meaning_of}
use Rattle.link_epoch.specs.declared.link_end.Phase.TheVariants as phase
use Rattle.link_epoch.specs.declared.link_end.Sign.{Sign}
use Rattle.link_epoch.specs.declared.link_end.Sign.TheVariants as sign
use Rattle.link_epoch.specs.declared.link_end.Heard.TheVariants as heard
use Rattle.session_fsm.specs.declared.state.State.TheVariants.{Connect}
use Rattle.run_model.specs.Links.{Entry, Says, Mark}
use Rattle.run_model.specs.Octets.{octets_of}
use Rattle.run_model.specs.Network.{alone, puts, takes, offers, taken_from, offered_by}
use Rattle.outbox.specs.declared.item.What.{What}
use Rattle.outbox.specs.declared.item.What.TheVariants as item
use Rattle.outbox.specs.Items.{passes}
use Rattle.snap_marker.specs.Recordings.{closed, ends_channel}
use Rattle.router_model.specs.Settings.{Setting, linked, peers, prefixes}
use Rattle.router_model.specs.Sides.{Side, Draft, NoMessage, at_hand, front, without_front, carried, told, marked, fed, uses, is_up, is_established}
use Rattle.router_model.specs.State.{Router, rule_of, open_of, unadvertised, is_unadvertised, undecided}
use Rattle.router_model.specs.Laws.{all_passes}
use Rattle.router_model.specs.Settings.{identifier}
use Rattle.router_model.specs.Step as step
use Rattle.router_model.specs.Step.{Obeys, Ticks, Handles, Decides, Advertises, RouterEvent, Step, after, says, says_where, handled_at, signed_at, moved, with_side, close_at, heeds, is_greater, records, marked_by, taken}
use Rattle.rest_runs.specs.Calm.{IsCalm}
use Rattle.rest_runs.proofs.Peaks.{dial_in, mark_in, crest, peak}
use Rattle.rest_runs.proofs.Drafts.{message_sinks, sign_sinks}
use Rattle.rest_runs.proofs.Numbers.{count, one_if, own, both_true}
use Rattle.rest_runs.proofs.Weights.{is_unsaid, unsaid_in, unsaid, unsaid_most, weight, sinks_so, told_less, IsOpen, held_less}
use Rattle.rest_runs.specs.Counted.{jobs}
use Rattle.rest_runs.proofs.Jobs.{Stays, closed_stays, seen_stays, ends_stay, begun_records, offer_less}

-- what holds of a side in a run in which no end ever dials above M
pub record Fine (M : ℕ) (s : Side) : Type 0 where
  pub low : s.link.epoch ≤ M
  pub waits : s.link.phase ≡ phase.Offered → s.session.state ≡ Connect
  pub joined : s.held ≢ [] → IsOpen s.session.state

pub record LawsBelow : Type 0 where
  pub header : HeaderIsItsFront
  pub joins : JoinsAtItsOwnNumber
  pub offers : OffersAboveTheOwn

-- 1 for the peer with which an event handles or tells something
abbrev pub deals : RouterEvent → ℕ → ℕ
deals (alone (Handles w)) v = one_if (v == w)
deals (alone (Advertises w)) v = one_if (v == w)
deals _ v = 0

abbrev pub brings : RouterEvent → ℕ → ℕ
brings e v = length (all_passes (taken_from v e))

-- the greatest number in the item that an event takes
abbrev pub peak_in : (Entry Message → ℕ) → RouterEvent → ℕ
peak_in f (takes w i) = peak f (passes i)
peak_in f (alone a) = 0
peak_in f (puts w i) = 0
peak_in f (offers made) = 0

apart : (v w : ℕ) → (v == w) ≡ false → (w == v) ≡ false
apart v w off = grind (arith, nat_tests, off)

module _ (laws : LawsBelow) (g : Setting) (u M K : ℕ) where
  abbrev pub light : Router → ℕ → ℕ
  light x v = weight M (prefixes g) (x.sides v) x.kept

  -- the sides behind an event: towards each peer, what is left, what was said and dealt with is no more than what there
  -- was, what came, and `lift`
  pub record SidesSink (x y : Router) (e : RouterEvent) (lift : ℕ) : Type 0 where
    pub light : (v : ℕ) → linked g.net u v ≡ true → light y v + 12288 * length (says g u x e v) + deals e v ≤ light x v + brings e v + lift
    pub low : (v : ℕ) → linked g.net u v ≡ true → (y.sides v).link.epoch ≤ M
    pub marks : (v : ℕ) → linked g.net u v ≡ true → crest mark_in (says g u x e v) ≤ K

  -- the recordings behind it: none began; or one did; or the event is a decision
  pub record Still (x y : Router) (e : RouterEvent) : Type 0 where
    pub last : y.snapshots.last ≡ x.snapshots.last
    pub jobs : jobs y.snapshots + length (offered_by e) ≤ jobs x.snapshots

  pub record Begun (x y : Router) (e : RouterEvent) : Type 0 where
    pub above : x.snapshots.last < y.snapshots.last
    pub within : y.snapshots.last ≤ K
    pub jobs : jobs y.snapshots ≤ jobs x.snapshots + 1
    pub none : length (offered_by e) ≡ 0

  pub data Outcome (x y : Router) (e : RouterEvent) : Type 0 where
    Goes : (still : Still x y e) (sinks : SidesSink x y e 0) → Outcome x y e
    Marks : (begun : Begun x y e) (sinks : SidesSink x y e 12288) → Outcome x y e
    Chooses : (is : e ≡ alone Decides) (still : Still x y e) (sinks : SidesSink x y e (12289 * length (prefixes g))) → Outcome x y e

  module _ (x : Router) (fine : (v : ℕ) → linked g.net u v ≡ true → Fine M (x.sides v)) where
    -- an event that changes the side towards w alone
    record At (e : RouterEvent) (w : ℕ) (y : Router) : Type 0 where
      side : Side
      here : y.sides w ≡ side
      kept : y.kept ≡ x.kept
      light : weight M (prefixes g) side x.kept + 12288 * length (says g u x e w) + deals e w ≤ light x w + brings e w
      low : side.link.epoch ≤ M
      marks : crest mark_in (says g u x e w) ≤ K
      others : (v : ℕ) → (v == w) ≡ false → (y.sides v ≡ x.sides v) × (says g u x e v ≡ []) × (deals e v ≡ 0)

    one_side : (e : RouterEvent) (w : ℕ) (y : Router) → At e w y → SidesSink x y e 0
    one_side e w y a = record {
      light = λ v near. lighter v (v == w) refl;
      low = λ v near. lower v near (v == w) refl;
      marks = λ v near. few v (v == w) refl;
    }
      where
        there : light y w ≡ weight M (prefixes g) a.side x.kept
        there = ap (λ (s : Side). weight M (prefixes g) s y.kept) a.here ∙ ap (λ (k : PrefixView → List ℕ). weight M (prefixes g) a.side k) a.kept

        away : (v : ℕ) → y.sides v ≡ x.sides v → light y v ≡ light x v
        away v same = ap (λ (s : Side). weight M (prefixes g) s y.kept) same ∙ ap (λ (k : PrefixView → List ℕ). weight M (prefixes g) (x.sides v) k) a.kept

        lighter : (v : ℕ) (b : Bool) → (v == w) ≡ b → light y v + 12288 * length (says g u x e v) + deals e v ≤ light x v + brings e v + 0
        lighter v true is =
            subst (λ (n : ℕ). light y n + 12288 * length (says g u x e n) + deals e n ≤ light x n + brings e n + 0) (sym (eqb-true v w is)) (omega (arith, there, a.light))
        lighter v false is = (let o = a.others v is in omega (arith, away v o.0, ap length o.1, o.2))

        lower : (v : ℕ) → linked g.net u v ≡ true → (b : Bool) → (v == w) ≡ b → (y.sides v).link.epoch ≤ M
        lower v near true is = subst (λ (n : ℕ). (y.sides n).link.epoch ≤ M) (sym (eqb-true v w is)) (omega (arith, a.low, ap (λ (s : Side). s.link.epoch) a.here))
        lower v near false is = omega (arith, (fine v near).low, ap (λ (s : Side). s.link.epoch) (a.others v is).0)

        few : (v : ℕ) (b : Bool) → (v == w) ≡ b → crest mark_in (says g u x e v) ≤ K
        few v true is = subst (λ (n : ℕ). crest mark_in (says g u x e n) ≤ K) (sym (eqb-true v w is)) a.marks
        few v false is = omega (arith, ap (crest mark_in) (a.others v is).1)

    -- ---- a message is handled

    handles : (w : ℕ) → Step g u x (alone (Handles w)) (after g u x (alone (Handles w))) → Outcome x (after g u x (alone (Handles w))) (alone (Handles w))
    handles w s =
        let here = x.sides w in
        let rule = rule_of g.net u w in
        let a : Draft = handled_at g u x w in
        let k = message_sinks M (open_of g.net u) (front rule here.held) here in
        let behind : Side = carried (at_hand (front rule here.held)) (without_front here) a in
        let sunk = sinks_so M (prefixes g) x.kept here behind (length a.says) k.sinks k.same refl in
        let less = held_less laws.header (open_of g.net u) rule here s.may.1 (fine w s.may.0).joined in
        Goes (record {
          last = (seen_stays a.acts (at_hand (front rule here.held)) w (closed (close_at w a.left) x.snapshots)).last ∙ (closed_stays (close_at w a.left) x.snapshots).last;
          jobs = omega (arith, (seen_stays a.acts (at_hand (front rule here.held)) w (closed (close_at w a.left) x.snapshots)).jobs, (closed_stays (close_at w a.left) x.snapshots).jobs);
        })
        (one_side (alone (Handles w)) w (after g u x (alone (Handles w))) (record {
          side = behind;
          here = rw (own w) refl;
          kept = refl;
          light = rw (own w) (omega (arith, sunk, less));
          low = omega (arith, k.low, (fine w s.may.0).low);
          marks = rw (own w) (omega (arith, k.marks));
          others = λ v off. (rw off refl, rw off refl, rw off refl);
        }))

    -- ---- a dial or a hanging up is taken

    if_dropped : (b : Bool) (xs : List ℕ) → length (cond b [] xs) ≤ length xs
    if_dropped true xs = omega arith
    if_dropped false xs = omega arith

    signs : (w : ℕ) (i : What) (z : Sign) → taken g u x w i ≡ moved x w NoMessage (signed_at g u x w z) → ((v : ℕ) → step.says_of_taken g u x w i v ≡ says_where (v == w) (signed_at g u x w z).says) → length (passes i) ≡ 1
        → linked g.net u w ≡ true → ((n : ℕ) → meaning_of (x.sides w).link z ≡ heard.Offered n → (n ≤ M) × ((signed_at g u x w z).overflows ≡ false))
        → Outcome x (taken g u x w i) (takes w i)
    signs w i z is said one near top =
        let here = x.sides w in
        let f = fine w near in
        let a : Draft = signed_at g u x w z in
        let k = sign_sinks M (open_of g.net u) here laws.joins laws.offers f.waits f.low z top in
        let behind : Side = carried NoMessage here a in
        let sunk = sinks_so M (prefixes g) x.kept here behind (length a.says) k.sinks k.same refl in
        let len : brings (takes w i) w ≡ length (passes i ++ []) = rw (own w) refl in
        let passed = length-append (passes i) [] in
        let said_here : step.says_of_taken g u x w i w ≡ a.says = said w ∙ ap (λ (b : Bool). says_where b a.says) (own w) in
        Goes (record {
          last = ap (λ (y : Router). y.snapshots.last) is ∙ (seen_stays a.acts NoMessage w (closed (close_at w a.left) x.snapshots)).last ∙ (closed_stays (close_at w a.left) x.snapshots).last;
          jobs = omega (
            arith,
            ap (λ (y : Router). jobs y.snapshots) is,
            (seen_stays a.acts NoMessage w (closed (close_at w a.left) x.snapshots)).jobs,
            (closed_stays (close_at w a.left) x.snapshots).jobs,
          );
        })
        (one_side (takes w i) w (taken g u x w i) (record {
          side = behind;
          here = ap (λ (y : Router). y.sides w) is ∙ ap (λ (b : Bool). cond b behind here) (own w);
          kept = ap (λ (y : Router). y.kept) is;
          light = omega (arith, sunk, if_dropped a.drops here.held, ap length said_here);
          low = omega (arith, k.low, f.low);
          marks = omega (arith, k.marks, ap (crest mark_in) said_here);
          others = λ v off. (
            ap (λ (y : Router). y.sides v) is ∙ ap (λ (b : Bool). cond b (carried NoMessage (x.sides v) a) (x.sides v)) off,
            said v ∙ ap (λ (b : Bool). says_where b a.says) off,
            refl,
          );
        }))

    -- ---- octets are taken

    octets_long : (n : ℕ) (bs : List ℕ) → length (octets_of {M = Message} n bs) ≡ length bs
    octets_long n [] = refl
    octets_long n (b ∷ bs) = ap suc (octets_long n bs)

    fed_light : (s : Side) (n : ℕ) (octets : List ℕ) (b : Bool) → weight M (prefixes g) (cond b (record s { held = s.held ++ octets }) s) x.kept ≤ weight M (prefixes g) s x.kept + length octets
    fed_light s n octets true = omega (arith, length-append s.held octets)
    fed_light s n octets false = omega arith

    fed_low : (s : Side) (octets : List ℕ) (b : Bool) → (cond b (record s { held = s.held ++ octets }) s).link.epoch ≡ s.link.epoch
    fed_low s octets true = refl
    fed_low s octets false = refl

    pieces : (w n : ℕ) (octets : List ℕ) → linked g.net u w ≡ true → Outcome x (taken g u x w (item.Piece n octets)) (takes w (item.Piece n octets))
    pieces w n octets near =
        let here = x.sides w in
        let len : brings (takes w (item.Piece n octets)) w ≡ length (octets_of {M = Message} n octets ++ []) = rw (own w) refl in
        Goes (record { last = refl; jobs = omega arith })
        (one_side (takes w (item.Piece n octets)) w (taken g u x w (item.Piece n octets)) (record {
          side = fed here n octets;
          here = rw (own w) refl;
          kept = refl;
          light = omega (arith, len, length-append (octets_of {M = Message} n octets) [], octets_long n octets, fed_light here n octets (uses here.link n));
          low = omega (arith, (fine w near).low, fed_low here octets (uses here.link n));
          marks = omega arith;
          others = λ v off. (rw off refl, refl, refl);
        }))

    -- ---- a marker is taken

    marked_side : (b : Bool) (k : ℕ) (s : Side) → (weight M (prefixes g) (cond b (marked k s) s) x.kept ≡ weight M (prefixes g) s x.kept) × ((cond b (marked k s) s).link.epoch ≡ s.link.epoch)
    marked_side true k s = (refl, refl)
    marked_side false k s = (refl, refl)

    one_mark : (b : Bool) (n k : ℕ) → length (says_where b (Mark n k ∷ [])) ≤ 1
    one_mark true n k = omega arith
    one_mark false n k = omega arith

    mark_small : (b c : Bool) (n k : ℕ) → k ≤ K → crest mark_in (says_where b (says_where c (Mark n k ∷ []))) ≤ K
    mark_small true true n k top = omega (arith, top)
    mark_small true false n k top = omega arith
    mark_small false c n k top = omega arith

    -- the router is left as it is, but for its recordings
    mark_stays : (w n k : ℕ) (y : Router) → y.sides ≡ x.sides → y.kept ≡ x.kept → Stays x.snapshots y.snapshots → ((v : ℕ) → says g u x (takes w (item.Mark n k)) v ≡ [])
        → Outcome x y (takes w (item.Mark n k))
    mark_stays w n k y sides kept stays none =
        Goes (record { last = stays.last; jobs = omega (arith, stays.jobs) })
        (record {
          light = λ v near.
              omega (
                arith,
                ap length (none v),
                ap (λ (s : ℕ → Side). weight M (prefixes g) (s v) y.kept) sides,
                ap (λ (p : PrefixView → List ℕ). weight M (prefixes g) (x.sides v) p) kept,
              );
          low = λ v near. omega (arith, (fine v near).low, ap (λ (s : ℕ → Side). (s v).link.epoch) sides);
          marks = λ v near. omega (arith, ap (crest mark_in) (none v));
        })

    marks_by : (w n k : ℕ) (heeded greater : Bool) → heeds g u x w n ≡ heeded → is_greater x k ≡ greater → k ≤ K
        → Outcome x (taken g u x w (item.Mark n k)) (takes w (item.Mark n k))
    marks_by w n k false greater is over top =
        let same : taken g u x w (item.Mark n k) ≡ x = rw is refl in
        subst (λ (y : Router). Outcome x y (takes w (item.Mark n k))) (sym same)
        (mark_stays w n k x refl refl (record { last = refl; jobs = omega arith }) (λ v. ap (λ (b : Bool). says_where (b && is_greater x k) (step.says_markers g u x k v)) is))
    marks_by w n k true false is over top =
        let y : Router = record x { snapshots = ends_channel (peers g.net u) w k x.snapshots.unfinished x.snapshots } in
        let same : taken g u x w (item.Mark n k) ≡ y = rw (is, over) refl in
        subst (λ (y : Router). Outcome x y (takes w (item.Mark n k))) (sym same)
        (mark_stays w n k y refl refl (ends_stay (peers g.net u) w k x.snapshots.unfinished x.snapshots refl) (λ v. ap (λ (b : Bool). says_where (b && is_greater x k) (step.says_markers g u x k v)) is ∙ ap (λ (b : Bool). says_where b (step.says_markers g u x k v)) over))
    marks_by w n k true true is over top =
        let y : Router = records g u x k (Some w) in
        let same : taken g u x w (item.Mark n k) ≡ y = rw (is, over) refl in
        let b = begun_records (peers g.net u) (λ v. is_up (x.sides v)) (step.recording_of g u x k (Some w)) x.snapshots in
        let above : x.snapshots.last < k = grind (arith, nat_tests, over) in
        let said : (v : ℕ) → says g u x (takes w (item.Mark n k)) v ≡ step.says_markers g u x k v = (λ v. ap (λ (b : Bool). says_where (b && is_greater x k) (step.says_markers g u x k v)) is ∙ ap (λ (b : Bool). says_where b (step.says_markers g u x k v)) over) in
        subst (λ (y : Router). Outcome x y (takes w (item.Mark n k))) (sym same)
        (Marks (record { above = omega (arith, above, b.last); within = omega (arith, top, b.last); jobs = b.jobs; none = refl })
        (record {
          light = λ v near.
              omega (
                arith,
                (marked_side (linked g.net u v && is_up (x.sides v)) k (x.sides v)).0,
                ap length (said v),
                one_mark (linked g.net u v && is_up (x.sides v)) (x.sides v).link.epoch k,
              );
          low = λ v near. omega (arith, (fine v near).low, (marked_side (linked g.net u v && is_up (x.sides v)) k (x.sides v)).1);
          marks = λ v near. omega (arith, ap (crest mark_in) (said v), mark_small true (linked g.net u v && is_up (x.sides v)) (x.sides v).link.epoch k top);
        }))

    -- ---- a decision

    decides : Outcome x (after g u x (alone Decides)) (alone Decides)
    decides = at (undecided g u x)
      where
        at : (o : Option PrefixView) → Outcome x (step.keeping x o (Rattle.router_model.specs.State.best_path g u x)) (alone Decides)
        at None = Chooses refl (record { last = refl; jobs = omega arith }) (record { light = λ v near. omega arith; low = λ v near. (fine v near).low; marks = λ v near. omega arith })
        at (Some q) =
            let y : Router = step.keeping x (Some q) (Rattle.router_model.specs.State.best_path g u x) in
            Chooses refl (record { last = refl; jobs = omega arith })
            (record { light = λ v near. omega (arith, unsaid_most (prefixes g) (x.sides v) y.kept); low = λ v near. (fine v near).low; marks = λ v near. omega arith })

    -- ---- an UPDATE is told

    up_if : (b : Bool) (o : Option PrefixView) (q : PrefixView) → cond b o None ≡ Some q → (b ≡ true) × (o ≡ Some q)
    up_if true o q h = (refl, h)
    up_if false o q h = absurd cc

    tells : (w : ℕ) (o : Option PrefixView) → unadvertised g u x w ≡ o → Rattle.std.specs.Prelude.is_some o ≡ true → Outcome x (after g u x (alone (Advertises w))) (alone (Advertises w))
    tells w None is some = absurd cc
    tells w (Some q) is some =
        let here = x.sides w in
        let ups = up_if (linked g.net u w && is_up here) (find (is_unadvertised g u x w) (prefixes g)) q is in
        let near = both_true (linked g.net u w) (is_up here) ups.0 in
        let sent = here.sent here.link.epoch in
        let behind : Side = told here (step.telling_of g u x q) in
        let sent_is : behind.sent behind.link.epoch ≡ sent ++ step.telling_of g u x q ∷ [] = ap (λ (b : Bool). cond b (sent ++ step.telling_of g u x q ∷ []) sent) (own here.link.epoch) in
        let up : is_established here.session.state ≡ true = near.1 in
        let was : unsaid (prefixes g) here x.kept ≡ count (is_unsaid x.kept sent) (prefixes g) = ap (λ (b : Bool). cond b (count (is_unsaid x.kept sent) (prefixes g)) 0) up in
        let is_now : unsaid (prefixes g) behind x.kept ≡ count (is_unsaid x.kept (sent ++ step.telling_of g u x q ∷ [])) (prefixes g) =
        ap (λ (us : List Update). unsaid_in (prefixes g) x.kept here.session.state us) sent_is ∙ ap (λ (b : Bool). cond b (count (is_unsaid x.kept (sent ++ step.telling_of g u x q ∷ [])) (prefixes g)) 0) up in
        let less = told_less (identifier g.net.routers u) x.kept q sent (prefixes g) ups.1 in
        let leaves : after g u x (alone (Advertises w)) ≡ with_side x w (λ s. told s (step.telling_of g u x q)) = ap (λ (o : Option PrefixView). step.telling_to x w o (step.telling_of g u x)) is in
        let said : says g u x (alone (Advertises w)) w ≡ Says here.link.epoch (UpdateMsg (step.telling_of g u x q)) ∷ [] =
        ap (λ (b : Bool). says_where b (step.says_update g u x w (unadvertised g u x w))) (own w) ∙ ap (step.says_update g u x w) is in
        let dealt : deals (alone (Advertises w)) w ≡ 1 = ap one_if (own w) in
        Goes (record { last = ap (λ (y : Router). y.snapshots.last) leaves; jobs = omega (arith, ap (λ (y : Router). jobs y.snapshots) leaves) })
        (one_side (alone (Advertises w)) w (after g u x (alone (Advertises w))) (record {
          side = behind;
          here = ap (λ (y : Router). y.sides w) leaves ∙ ap (λ (b : Bool). cond b behind here) (own w);
          kept = ap (λ (y : Router). y.kept) leaves;
          light = omega (arith, was, is_now, less, ap length said, dealt);
          low = (fine w near.0).low;
          marks = omega (arith, ap (crest mark_in) said);
          others = λ v off. (
            ap (λ (y : Router). y.sides v) leaves ∙ ap (λ (b : Bool). cond b (told (x.sides v) (step.telling_of g u x q)) (x.sides v)) off,
            ap (λ (b : Bool). says_where b (step.says_update g u x v (unadvertised g u x w))) off,
            ap one_if off,
          );
        }))

    -- ---- an item is put, and an offer is made

    put_so : (w : ℕ) (i : What) → linked g.net u w ≡ true → Outcome x (after g u x (puts w i)) (puts w i)
    put_so w i near =
        Goes (record { last = refl; jobs = omega arith })
        (one_side (puts w i) w (after g u x (puts w i)) (record {
          side = step.put_from (x.sides w) i;
          here = rw (own w) refl;
          kept = refl;
          light = omega arith;
          low = (fine w near).low;
          marks = omega arith;
          others = λ v off. (rw off refl, refl, refl);
        }))

    -- ---- any calm event

    dial_said : (w n m : ℕ) → meaning_of (x.sides w).link (sign.Dial n) ≡ heard.Offered m → n ≤ M → m ≤ M
    dial_said w n m is top =
        let j = (laws.offers (x.sides w).link (sign.Dial n) m).0 is in
        let same : n ≡ m = (let e = j.0 in cc e) in
        omega (arith, same, top)

    shut_said : (w n m : ℕ) → meaning_of (x.sides w).link (sign.Shut n) ≡ heard.Offered m → ⊥
    shut_said w n m is = absurd (let e = (laws.offers (x.sides w).link (sign.Shut n) m).0 is in let k = e.0 in cc k)

    takes_so : (w : ℕ) (i : What) → linked g.net u w ≡ true → step.overflows_taking g u x w i ≡ false → peak dial_in (passes i) ≤ M → peak mark_in (passes i) ≤ K → Outcome x (taken g u x w i) (takes w i)
    takes_so w (item.Dial n) near fits dials marks =
        signs w (item.Dial n) (sign.Dial n) refl (λ v. refl) refl near (λ m is. (dial_said w n m is (omega (arith, dials)), fits))
    takes_so w (item.Piece n octets) near fits dials marks = pieces w n octets near
    takes_so w (item.Mark n k) near fits dials marks = marks_by w n k (heeds g u x w n) (is_greater x k) refl refl (omega (arith, marks))
    takes_so w (item.Shut n) near fits dials marks =
        signs w (item.Shut n) (sign.Shut n) refl (λ v. refl) refl near (λ m is. absurd (shut_said w n m is))

    pub calm : (e : RouterEvent) → IsCalm e → Step g u x e (after g u x e) → peak_in dial_in e ≤ M → peak_in mark_in e ≤ K → Outcome x (after g u x e) e
    calm (alone (Obeys c)) is s dials marks = absurd is
    calm (alone Ticks) is s dials marks = absurd is
    calm (alone (Handles w)) is s dials marks = handles w s
    calm (alone Decides) is s dials marks = decides
    calm (alone (Advertises w)) is s dials marks = tells w (unadvertised g u x w) refl s.may
    calm (puts w i) is s dials marks = put_so w i s.may.0
    calm (takes w i) is s dials marks = takes_so w i s.may.0 s.numbers dials marks
    calm (offers made) is s dials marks =
        Goes (record { last = refl; jobs = offer_less x.snapshots made.offer s.may.1 })
        (record { light = λ v near. omega arith; low = λ v near. (fine v near).low; marks = λ v near. omega arith })
