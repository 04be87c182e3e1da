-- A step of a router's sessions, towards all its peers, as events of the laws of runs.
use Rattle.std.proofs.Common.{◌≡◌, ◌≢◌, ℕ, ◌==◌, nat_eq, Bool, true, false, ◌&&◌, ◌||◌, not, cond, List, [], ◌∷◌, ◌++◌, filter, refl, ap, sym, ◌∙◌, arith, append_assoc, subst, Option, None, Some, inl, inr}
use Rattle.std.specs.Prelude.{map}
use Rattle.std.specs.List.{list_any}
use Rattle.std.proofs.lemmas.List.{append-nil, append_cancel_left}
use Rattle.std.proofs.lemmas.Bool.Decides.{nat_tests}
use Rattle.prefix_lanes.specs.Bits.{PrefixView}
use Rattle.bgp_codec.specs.declared.message.Message.{Message}
use Rattle.bgp_codec.specs.declared.message.Message.TheVariants.{UpdateMsg}
use Rattle.bgp_codec.specs.declared.update.Update.{Update}
use Rattle.run_model.specs.Links.{Entry, End}
use Rattle.run_model.specs.Octets.{Passing, passing}
use Rattle.run_model.specs.Offers.{lost_by_close}
use Rattle.snap_marker.specs.Recordings.{RouterOffer}
use Rattle.router_model.specs.Messages.{is_update}
use Rattle.router_model.specs.Settings.{Setting}
use Rattle.router_model.specs.Sides.{Side, is_up}
use Rattle.router_model.specs.State.{Router}
use Rattle.router_model.specs.Recording.{left_of}
use Rattle.router_model.specs.Step.{close_at, or_first}
use Rattle.router_runs.specs.Runs.{written_in}
use Rattle.router_runs.specs.Reading.{Reads, sides_after, model_side, state_of}
use Rattle.router_runs.specs.Doing.{Stands, is_up_in}
use Rattle.router_runs.specs.Kept.{Holds, Advances}
use Rattle.router_runs.specs.Acts.{SaysNoUpdate, HasNoMark}
use Rattle.router_runs.specs.Mirrors.{ModelRouter, Goes}
use Rattle.router_runs.proofs.Acts.{moves_all, all_moves, all_quiet}
use Rattle.router_runs.proofs.Doing.{up_in}
use Rattle.router_runs.proofs.Hanging.{loses, lost_number, all_lose, all_number}
use Rattle.router_runs.proofs.Using.{uses, Hears, used_updates}
use Rattle.router_runs.proofs.Going.{no_goes, then_goes, IsMoved, moved, moves_go}
use Rattle.router_runs.proofs.Quieting.{PassesNoMark, octets_pass_none, none_passes}
use Rattle.router_runs.proofs.Lower.{Laws, passing_more}

-- ---- what is left first

abbrev pub first_left : List ℕ → (ℕ → Option ℕ) → Option (ℕ × ℕ)
first_left [] left = None
first_left (v ∷ vs) left = or_first (close_at v (left v)) (first_left vs left)

-- the recording that is left over, and what is lost
abbrev pub after_first : Option (ℕ × ℕ) → Option ℕ → Option ℕ
after_first None unfinished = unfinished
after_first (Some close) unfinished = None

abbrev pub lost_first : Option (ℕ × ℕ) → Option ℕ → List RouterOffer
lost_first None unfinished = []
lost_first (Some close) unfinished = lost_by_close true unfinished close.0 close.1

after_both : (c d : Option (ℕ × ℕ)) (o : Option ℕ) → after_first d (after_first c o) ≡ after_first (or_first c d) o
after_both None d o = refl
after_both (Some c) None o = refl
after_both (Some c) (Some d) o = refl

none_lost : (v e : ℕ) → lost_by_close {M = Message} {P = PrefixView} {W = List ℕ} true None v e ≡ []
none_lost v e = refl

lost_both : (c d : Option (ℕ × ℕ)) (o : Option ℕ) → lost_first c o ++ lost_first d (after_first c o) ≡ lost_first (or_first c d) o
lost_both None d o = refl
lost_both (Some c) None o = append-nil (lost_by_close true o c.0 c.1)
lost_both (Some c) (Some d) o = append-nil (lost_by_close true o c.0 c.1)

one_lost : (p q : Bool) (o : Option ℕ) (v e : ℕ) → lost_by_close (p && not q) o v e ≡ lost_first (close_at v (left_of p q e)) o
one_lost true true o v e = refl
one_lost true false o v e = refl
one_lost false q o v e = refl

one_after : (p q : Bool) (o : Option ℕ) (v e : ℕ) → cond (p && not q) None o ≡ after_first (close_at v (left_of p q e)) o
one_after true true o v e = refl
one_after true false o v e = refl
one_after false q o v e = refl

module _ (laws : Laws) (g : Setting) (u : ℕ) (far : ℕ → End Message) (Still : Type 0) where
  -- ---- one side

  -- an end that a side is once it has turned
  pub record IsTurned (v : ℕ) (t : Side) (new : List (Entry Message)) (came : List (Passing Message)) (a c : End Message) : Type 0 where
    pub stands : Stands t c (far v)
    pub appended : c.appended ≡ a.appended ++ new
    pub holds : Holds g t came c

  pub record Turns (n : ModelRouter) (v : ℕ) (s t : Side) (new : List (Entry Message)) (came : List (Passing Message)) (us : List Update) (past : List (Entry Message)) : Type 0 where
    pub m : ModelRouter
    pub end : End Message
    pub used : List Message
    pub are : filter is_update used ≡ map UpdateMsg us
    pub goes : Goes g u far Still 0 n m (lost_by_close (is_up s && not (is_up t)) n.recorder.unfinished v s.link.epoch)
    pub moved : IsMoved n m v end (is_up s && not (is_up t)) used
    pub turned : IsTurned v t new came (n.recorder.ends v) end
    pub took : end.taken ≡ (n.recorder.ends v).taken ++ past

  same_loss : (b : Bool) (o : Option ℕ) (v d e : ℕ) → (b ≡ true → d ≡ e) → lost_by_close {M = Message} {P = PrefixView} {W = List ℕ} b o v d ≡ lost_by_close b o v e
  same_loss true o v d e h = ap (lost_by_close true o v) (h refl)
  same_loss false o v d e h = refl

  both_true : (p q : Bool) → (p && q) ≡ true → p ≡ true
  both_true true q h = refl
  both_true false q h = absurd (cc h)

  unmarked_past : (s t : Side) (a c : End Message) (past : List (Entry Message)) (before items : List (Passing Message)) → Holds g s before a → Holds g t (before ++ items) c → c.taken ≡ a.taken ++ past → PassesNoMark items → HasNoMark past
  unmarked_past s t a c past before items h k takes none =
      let whole : passing (written_in g) a.taken ++ (h.rest ++ items) ≡ passing (written_in g) a.taken ++ (passing (written_in g) past ++ k.rest) =
      sym (append_assoc (passing (written_in g) a.taken) h.rest items) ∙ (ap (λ w. w ++ items) (sym h.passed) ∙ (k.passed ∙ (ap (λ w. passing (written_in g) w ++ k.rest) takes ∙ (ap (λ w. w ++ k.rest) (passing_more laws (written_in g) a.taken past) ∙ append_assoc (passing (written_in g) a.taken) (passing (written_in g) past) k.rest)))) in
      none_passes g past k.rest (subst PassesNoMark (append_cancel_left (passing (written_in g) a.taken) (h.rest ++ items) (passing (written_in g) past ++ k.rest) whole) (octets_pass_none h.rest items h.only none))

  pub side_turns : (n : ModelRouter) (v : ℕ) (s t : Side) (new : List (Entry Message)) (before items : List (Passing Message)) (us : List Update) → u ≢ v → Stands s (n.recorder.ends v) (far v) → Holds g s before (n.recorder.ends v)
      → (d : Advances g s t new before items (n.recorder.ends v) (far v)) → SaysNoUpdate new → PassesNoMark items → Hears s t us → (Still → (is_up s && not (is_up t)) ≡ false)
      → Turns n v s t new (before ++ items) us d.past
  side_turns n v s t new before items us apart x h d quiet none hears still =
      let a : End Message = n.recorder.ends v in
      let does = d.does in
      let c : End Message = (sides_after (model_side s a) does.events).end in
      let ms = moves_all laws (model_side s a) does.events in
      let l = all_moves laws does.events (model_side s a) (far v) does.may x.fits x.mine x.theirs in
      let past_none = unmarked_past s t a c d.past before items h d.holds does.takes none in
      let all = all_quiet laws s t new d.past a (far v) x does quiet past_none in
      let lost : loses a ms ≡ (is_up s && not (is_up t)) = all_lose laws does.events (model_side s a) (far v) does.may x.fits x.mine x.theirs ∙ does.leaves in
      let go = moves_go laws g u v apart far Still ms n l.0 all (λ k. lost ∙ still k) in
      let number : (is_up s && not (is_up t)) ≡ true → lost_number a ms ≡ s.link.epoch =
      λ k. (let was : is_up_in (state_of s.session.state) ≡ true = up_in laws s.session.state ∙ both_true (is_up s) (not (is_up t)) k in
      all_number laws does.events (model_side s a) (far v) does.may x.fits x.mine x.theirs was (does.leaves ∙ k) ∙ sym x.reads.epoch) in
      let b : Bool = is_up s && not (is_up t) in
      record {
        m = moved laws g u v apart far Still n ms;
        end = c;
        used = uses a ms;
        are = used_updates laws s t a ms us x.reads (subst (λ i. Reads t i) (sym l.1) does.stands.reads) hears;
        goes = subst (λ o. Goes g u far Still 0 n (moved laws g u v apart far Still n ms) o)
            (ap (λ k. lost_by_close k n.recorder.unfinished v (lost_number a ms)) lost ∙ same_loss b n.recorder.unfinished v (lost_number a ms) s.link.epoch number) go.0;
        moved = subst (λ k. IsMoved n (moved laws g u v apart far Still n ms) v c k (uses a ms)) lost (subst (λ i. IsMoved n (moved laws g u v apart far Still n ms) v i (loses a ms) (uses a ms)) l.1 go.1);
        turned = record { stands = does.stands; appended = does.appends; holds = d.holds };
        took = does.takes;
      }

  -- ---- all sides

  -- what is known of a side
  pub record MayTurn (v : ℕ) (s t : Side) (new : List (Entry Message)) (before items : List (Passing Message)) (us : List Update) (a : End Message) : Type 0 where
    pub apart : u ≢ v
    pub stands : Stands s a (far v)
    pub holds : Holds g s before a
    pub advances : Advances g s t new before items a (far v)
    pub quiet : SaysNoUpdate new
    pub unmarked : PassesNoMark items
    pub hears : Hears s t us
    pub still : Still → (is_up s && not (is_up t)) ≡ false

  module _ (x y : Router) (new : ℕ → List (Entry Message)) (before items : ℕ → List (Passing Message)) (us : ℕ → List Update) (ends : ℕ → End Message) where
    abbrev pub left_at : ℕ → Option ℕ
    left_at v = left_of (is_up (x.sides v)) (is_up (y.sides v)) (x.sides v).link.epoch

    pub record AllTurn (n : ModelRouter) (vs : List ℕ) : Type 0 where
      pub m : ModelRouter
      pub goes : Goes g u far Still 0 n m (lost_first (first_left vs left_at) n.recorder.unfinished)
      pub there : (v : ℕ) → list_any (nat_eq v) vs ≡ true → IsTurned v (y.sides v) (new v) (before v ++ items v) (ends v) (m.recorder.ends v)
      pub last : m.recorder.last ≡ n.recorder.last
      pub copy : m.recorder.copy ≡ n.recorder.copy
      pub waits : m.recorder.waits ≡ n.recorder.waits
      pub kept : m.kept ≡ n.kept
      pub originated : m.originated ≡ n.originated
      pub kept_at : m.kept_at ≡ n.kept_at
      pub originated_at : m.originated_at ≡ n.originated_at
      pub unfinished : m.recorder.unfinished ≡ after_first (first_left vs left_at) n.recorder.unfinished
      pub off : (v : ℕ) → list_any (nat_eq v) vs ≡ false → (m.recorder.ends v ≡ n.recorder.ends v) × (m.recorder.channel v ≡ n.recorder.channel v)
      pub channel : (v : ℕ) → list_any (nat_eq v) vs ≡ true → filter is_update (m.recorder.channel v) ≡ filter is_update (n.recorder.channel v) ++ cond (n.recorder.waits v) (map UpdateMsg (us v)) []

    -- no peer stands twice
    abbrev pub AreApart : List ℕ → Type 0
    AreApart [] = Unit {0}
    AreApart (v ∷ vs) = (list_any (nat_eq v) vs ≡ false) × AreApart vs

    eq_same : (v w : ℕ) → nat_eq v w ≡ true → v ≡ w
    eq_same v w h = grind (arith, nat_tests, h)

    eq_here : (v : ℕ) → (v == v) ≡ true
    eq_here v = grind (arith, nat_tests)

    eq_off : (v w : ℕ) → nat_eq v w ≡ false → (v == w) ≡ false
    eq_off v w h = grind (arith, nat_tests, h)

    filter_at : (c : Bool) (m : Message) (xs ys zs : List Message) → zs ≡ xs ++ ys → cond c (m ∷ zs) zs ≡ cond c (m ∷ xs) xs ++ ys
    filter_at true m xs ys zs h = ap (λ w. m ∷ w) h
    filter_at false m xs ys zs h = h

    filter_append : (xs ys : List Message) → filter is_update (xs ++ ys) ≡ filter is_update xs ++ filter is_update ys
    filter_append [] ys = refl
    filter_append (m ∷ xs) ys = filter_at (is_update m) m (filter is_update xs) (filter is_update ys) (filter is_update (xs ++ ys)) (filter_append xs ys)

    new_channel : (w : Bool) (old used added : List Message) → filter is_update used ≡ added → filter is_update (cond w (old ++ used) old) ≡ filter is_update old ++ cond w added []
    new_channel true old used added h = filter_append old used ∙ ap (λ l. filter is_update old ++ l) h
    new_channel false old used added h = sym (append-nil (filter is_update old))

    or_behind : (b c : Bool) → c ≡ true → (b || c) ≡ true
    or_behind true c h = refl
    or_behind false c h = h

    neither : (b c : Bool) → (b || c) ≡ false → (b ≡ false) × (c ≡ false)
    neither true c h = absurd (cc h)
    neither false c h = (refl, h)

    -- a member is another than one that is none
    others : (v w : ℕ) (vs : List ℕ) → list_any (nat_eq v) vs ≡ false → list_any (nat_eq w) vs ≡ true → (w == v) ≡ false
    others v w vs none some = at (nat_eq w v) refl
      where
        at : (c : Bool) → nat_eq w v ≡ c → (w == v) ≡ false
        at true h = absurd (let same : w ≡ v = eq_same w v h in let k : list_any (nat_eq v) vs ≡ true = subst (λ i. list_any (nat_eq i) vs ≡ true) same some in cc (k, none))
        at false h = eq_off w v h

    no_turn : (n : ModelRouter) → AllTurn n []
    no_turn n = record {
      m = n;
      goes = no_goes g u far Still n;
      there = λ v h. absurd (cc h);
      last = refl;
      copy = refl;
      waits = refl;
      kept = refl;
      originated = refl;
      kept_at = refl;
      originated_at = refl;
      unfinished = refl;
      off = λ v h. (refl, refl);
      channel = λ v h. absurd (cc h);
    }

    -- one side, and then the others
    more_turn : (v : ℕ) (vs : List ℕ) (n : ModelRouter) (past : List (Entry Message)) → list_any (nat_eq v) vs ≡ false → n.recorder.ends v ≡ ends v
        → (f : Turns n v (x.sides v) (y.sides v) (new v) (before v ++ items v) (us v) past) → AllTurn f.m vs → AllTurn n (v ∷ vs)
    more_turn v vs n past none is f rest =
        let m : ModelRouter = rest.m in
        let k : ModelRouter = f.m in
        let left : Option ℕ = left_at v in
        let lost : lost_by_close (is_up (x.sides v) && not (is_up (y.sides v))) n.recorder.unfinished v (x.sides v).link.epoch ≡ lost_first (close_at v left) n.recorder.unfinished =
        one_lost (is_up (x.sides v)) (is_up (y.sides v)) n.recorder.unfinished v (x.sides v).link.epoch in
        let unf : k.recorder.unfinished ≡ after_first (close_at v left) n.recorder.unfinished =
        f.moved.unfinished ∙ one_after (is_up (x.sides v)) (is_up (y.sides v)) n.recorder.unfinished v (x.sides v).link.epoch in
        let both = then_goes g u far Still n k m (lost_by_close (is_up (x.sides v) && not (is_up (y.sides v))) n.recorder.unfinished v (x.sides v).link.epoch) (lost_first (first_left vs left_at) k.recorder.unfinished) f.goes rest.goes
        (λ s h. elim h [ inl t ↦ inl t | inr free ↦ inr (ap (λ (c : ℕ → Option (ℕ → End Message)). c s) f.moved.copy ∙ free) ]) in
        record {
          m = m;
          goes = subst (λ o. Goes g u far Still 0 n m o)
              (ap (λ o. o ++ lost_first (first_left vs left_at) k.recorder.unfinished) lost
              ∙ (ap (λ o. lost_first (close_at v left) n.recorder.unfinished ++ lost_first (first_left vs left_at) o) unf ∙ lost_both (close_at v left) (first_left vs left_at) n.recorder.unfinished)) both;
          there = λ w h. there_at w (nat_eq w v) refl h;
          last = rest.last ∙ f.moved.last;
          copy = rest.copy ∙ f.moved.copy;
          waits = rest.waits ∙ f.moved.waits;
          kept = rest.kept ∙ f.moved.kept;
          originated = rest.originated ∙ f.moved.originated;
          kept_at = rest.kept_at ∙ f.moved.kept_at;
          originated_at = rest.originated_at ∙ f.moved.originated_at;
          unfinished = rest.unfinished ∙ (ap (after_first (first_left vs left_at)) unf ∙ after_both (close_at v left) (first_left vs left_at) n.recorder.unfinished);
          off = λ w h. (let p = neither (nat_eq w v) (list_any (nat_eq w) vs) h in
              let apart = eq_off w v p.0 in
              let r = rest.off w p.1 in
              (r.0 ∙ f.moved.ends w apart, r.1 ∙ (f.moved.channel w ∙ ap (λ c. cond c (cond (n.recorder.waits w) (n.recorder.channel w ++ f.used) (n.recorder.channel w)) (n.recorder.channel w)) apart)));
          channel = λ w h. channel_at w (nat_eq w v) refl h;
        }
      where
        there_at : (w : ℕ) (c : Bool) → nat_eq w v ≡ c → (c || list_any (nat_eq w) vs) ≡ true → IsTurned w (y.sides w) (new w) (before w ++ items w) (ends w) (rest.m.recorder.ends w)
        there_at w true same h =
            let to : v ≡ w = sym (eq_same w v same) in
            subst (λ i. IsTurned i (y.sides i) (new i) (before i ++ items i) (ends i) (rest.m.recorder.ends i)) to
            (subst (λ e. IsTurned v (y.sides v) (new v) (before v ++ items v) (ends v) e) (sym ((rest.off v none).0 ∙ f.moved.own))
            (subst (λ e. IsTurned v (y.sides v) (new v) (before v ++ items v) e f.end) is f.turned))
        there_at w false same h = rest.there w h

        channel_at : (w : ℕ) (c : Bool) → nat_eq w v ≡ c → (c || list_any (nat_eq w) vs) ≡ true
            → filter is_update (rest.m.recorder.channel w) ≡ filter is_update (n.recorder.channel w) ++ cond (n.recorder.waits w) (map UpdateMsg (us w)) []
        channel_at w true same h =
            let to : v ≡ w = sym (eq_same w v same) in
            subst (λ i. filter is_update (rest.m.recorder.channel i) ≡ filter is_update (n.recorder.channel i) ++ cond (n.recorder.waits i) (map UpdateMsg (us i)) []) to
            (ap (filter is_update) ((rest.off v none).1 ∙ (f.moved.channel v ∙ ap (λ c. cond c (cond (n.recorder.waits v) (n.recorder.channel v ++ f.used) (n.recorder.channel v)) (n.recorder.channel v)) (eq_here v)))
            ∙ new_channel (n.recorder.waits v) (n.recorder.channel v) f.used (map UpdateMsg (us v)) f.are)
        channel_at w false same h =
            let apart = eq_off w v same in
            rest.channel w h
            ∙ (ap (λ l. filter is_update l ++ cond (f.m.recorder.waits w) (map UpdateMsg (us w)) []) (f.moved.channel w ∙ ap (λ c. cond c (cond (n.recorder.waits w) (n.recorder.channel w ++ f.used) (n.recorder.channel w)) (n.recorder.channel w)) apart)
            ∙ ap (λ (i : ℕ → Bool). filter is_update (n.recorder.channel w) ++ cond (i w) (map UpdateMsg (us w)) []) f.moved.waits)

    pub all_turn : (vs : List ℕ) → AreApart vs → (n : ModelRouter) → ((v : ℕ) → list_any (nat_eq v) vs ≡ true → n.recorder.ends v ≡ ends v)
        → ((v : ℕ) → list_any (nat_eq v) vs ≡ true → MayTurn v (x.sides v) (y.sides v) (new v) (before v) (items v) (us v) (ends v)) → AllTurn n vs
    all_turn [] apart n is may = no_turn n
    all_turn (v ∷ vs) apart n is may =
        let hit : nat_eq v v ≡ true = grind (arith, nat_tests) in
        let here : (nat_eq v v || list_any (nat_eq v) vs) ≡ true = ap (λ c. c || list_any (nat_eq v) vs) hit in
        let e = is v here in
        let k = may v here in
        let d = subst (λ i. Advances g (x.sides v) (y.sides v) (new v) (before v) (items v) i (far v)) (sym e) k.advances in
        let f = side_turns n v (x.sides v) (y.sides v) (new v) (before v) (items v) (us v) k.apart (subst (λ i. Stands (x.sides v) i (far v)) (sym e) k.stands) (subst (Holds g (x.sides v) (before v)) (sym e) k.holds)
        d k.quiet k.unmarked k.hears k.still in
        more_turn v vs n d.past apart.0 e f
        (all_turn vs apart.1 f.m (λ w h. f.moved.ends w (others v w vs apart.0 h) ∙ is w (or_behind (nat_eq w v) (list_any (nat_eq w) vs) h)) (λ w h. may w (or_behind (nat_eq w v) (list_any (nat_eq w) vs) h)))
