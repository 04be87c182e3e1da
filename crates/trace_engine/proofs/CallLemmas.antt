-- What calls give and leave, one behind the other.
use Rattle.std.proofs.Common.{◌≡◌, ◌≢◌, ℕ, ◌+◌, ◌-◌, ◌<◌, Bool, true, List, [], ◌∷◌, ◌++◌, length, take, drop, get_or, refl, ap, sym, subst, ◌∙◌, inl, inr, Ok, Err, append_assoc}
use Rattle.std.specs.Prelude.{Option}
use Rattle.std.proofs.lemmas.List.{take_more}
use Rattle.ranked_policy.specs.Plans.{Plan}
use Rattle.router_model.specs.Settings.{Setting, ChoosesByRank}
use Rattle.schedule_text.specs.declared.schedule.ScheduledOrder.{ScheduledOrder}
use Rattle.world_core.specs.declared.schedule.StepFault.{StepFault}
use Rattle.world_core.specs.declared.schedule.StepFault.TheVariants.{Memory}
use Rattle.world_core.specs.World.{World}
use Rattle.world_core.specs.Orders.{events_of}
use Rattle.world_core.specs.Views.{WorldView, plain_world, Opens}
use Rattle.world_core.specs.Watching as watching
use Rattle.world_core.specs.Watching.{Adds, WorkText, rest_of, WantsOr, WatchesOrder}
use Rattle.world_core.proofs.Watched.{added}
use Rattle.world_core.proofs.WatchedRounds.{reached_is}
use Rattle.text_engines.specs.declared.status.TheConstants.{DONE, REFUSED}
use Rattle.text_engines.specs.Decoding.{output}
use Rattle.text_engines.proofs.CheckLemmas.{parted}
use Rattle.schedule_text.specs.declared.report.RefusedOrder.{RefusedOrder}
use Rattle.schedule_text.specs.Obeying.{LeadTo, IsFirstRefused}
use Rattle.schedule_text.proofs.ObeyingLemmas.{lead_on}
use Rattle.text_engines.specs.Engine.{limited}
use Rattle.trace_engine.specs.Tracing.{SaysEvent, round_line, head_text, tail_text, count_of, BegunText, OrderText, OrdersText, StoppedText, stop_comment, OrdersTrace, HaltsIn, TracesOrder, TracesAll}
use Rattle.trace_engine.proofs.TextLemmas.{orders_behind}

-- ---- an order

pub order_done : (shows : Bool) (x y : WorldView) (o : ScheduledOrder) (old one two new : List ℕ) (rest : Option ℕ) (count : ℕ) → one ≡ old ++ head_text o.line o.order → WatchesOrder (SaysEvent shows) round_line true (Ok rest) x o.order one y two
    → new ≡ two ++ tail_text o.line o.order count rest → count ≡ length y.run - length x.run → TracesOrder shows (Ok tt) x o old y new
order_done shows x y o old one two new rest count first work last counted = λ g e ranks.
    let w = plain_world x in
    let es = events_of g.net o.order in
    let a = work g e ranks in
    let events = a.1.0 in
    let head = head_text o.line o.order in
    let is : count ≡ count_of g w es = counted ∙ ap (λ (v : World). length v.run - length w.run) (sym (reached_is g w (plain_world y) es a.0)) in
    let said : tail_text o.line o.order count rest ≡ tail_text o.line o.order (count_of g w es) (rest_of g w o.order) =
    ap (λ (c : ℕ). tail_text o.line o.order c rest) is ∙ ap (λ (r : Option ℕ). tail_text o.line o.order (count_of g w es) r) a.2 in (
      a.0,
      (
        (head ++ events) ++ tail_text o.line o.order count rest,
        (head ++ events, (events, a.1.1, refl), ap (λ (t : List ℕ). (head ++ events) ++ t) said),
        last ∙ ap (λ (t : List ℕ). t ++ tail_text o.line o.order count rest) (a.1.2 ∙ ap (λ (t : List ℕ). t ++ events) first ∙ append_assoc old head events)
            ∙ append_assoc old (head ++ events) (tail_text o.line o.order count rest),
      ),
    )

halts_by : (shows : Bool) (g : Setting) (w y : World) (o : ScheduledOrder) (old one new : List ℕ) (why : StepFault) → one ≡ old ++ head_text o.line o.order → why ≢ Memory
    → WantsOr true why (watching.HaltsIn g w (events_of g.net o.order) why y one new (WorkText (SaysEvent shows) round_line g w o.order)) → HaltsIn g w (events_of g.net o.order) why y old new (BegunText shows g w o)
halts_by shows g w y o old one new why first kind (inl m) = absurd (kind m.1)
halts_by shows g w y o old one new why first kind (inr a) =
    let head = head_text o.line o.order in
    let said = a.2 kind in
    let t = said.0 in
    (a.0, a.1, (head ++ t, (t, said.1, refl), said.2 ∙ ap (λ (s : List ℕ). s ++ t) first ∙ append_assoc old head t))

pub order_halts : (shows : Bool) (x y : WorldView) (o : ScheduledOrder) (old one new : List ℕ) (why : StepFault) → one ≡ old ++ head_text o.line o.order → WatchesOrder (SaysEvent shows) round_line true (Err why) x o.order one y new
    → TracesOrder shows (Err why) x o old y new
order_halts shows x y o old one new why first work = λ g e ranks kind. halts_by shows g (plain_world x) (plain_world y) o old one new why first kind (work g e ranks)

-- ---- orders

abbrev pub AreTraced : Bool → WorldView → List ScheduledOrder → List ℕ → WorldView → List ℕ → Type 0
AreTraced shows x orders old y new =
    (g : Setting) → g.net ≡ x.net → ChoosesByRank g → LeadTo g (plain_world x) orders (plain_world y) × Adds old new (OrdersText shows g (plain_world x) orders)

pub orders_on : (shows : Bool) (x y z : WorldView) (orders : List ScheduledOrder) (i : ℕ) (o : ScheduledOrder) (old mid new : List ℕ) → i < length orders → o ≡ get_or orders i o → y.net ≡ x.net
    → AreTraced shows x (take i orders) old y mid → TracesOrder shows (Ok tt) y o mid z new → AreTraced shows x (take (i + 1) orders) old z new
orders_on shows x y z orders i o old mid new lt is same h k = λ g e ranks.
    let wx = plain_world x in
    let wy = plain_world y in
    let a = h g e ranks in
    let b = k g (e ∙ sym same) ranks in
    let more : take (i + 1) orders ≡ take i orders ++ o ∷ [] = take_more orders i o lt ∙ ap (λ (p : ScheduledOrder). take i orders ++ p ∷ []) (sym is) in
    let text = added (OrdersText shows g wx (take i orders)) (OrderText shows g wy o) (OrdersText shows g wx (take i orders ++ o ∷ [])) old mid new a.1 b.1 (λ s t p q. orders_behind shows g (take i orders) o wx wy s t a.0 p q) in
    (lead_on g wx wy (plain_world z) orders i o g.net refl lt is a.0 b.0, subst (λ (os : List ScheduledOrder). Adds old new (OrdersText shows g wx os)) (sym more) text)

pub orders_halt : (shows : Bool) (x y z : WorldView) (orders : List ScheduledOrder) (i : ℕ) (o : ScheduledOrder) (old mid new : List ℕ) (why : StepFault) → i < length orders → o ≡ get_or orders i o → y.net ≡ x.net
    → AreTraced shows x (take i orders) old y mid → TracesOrder shows (Err why) y o mid z new → TracesAll shows (Err (record { line = o.line; why = why })) x orders old z new
orders_halt shows x y z orders i o old mid new why lt is same h k = λ g e ranks kind.
    let wx = plain_world x in
    let wy = plain_world y in
    let a = h g e ranks in
    let b = k g (e ∙ sym same) ranks kind in (
      record { before = take i orders; order = o; behind = drop (i + 1) orders; reached = wy; left = plain_world z; at = b.0; parts = parted orders i o lt is; stands = refl; done = a.0; stops = b.1 },
      (
        a.1.0 ++ b.2.0,
        (a.1.0, b.2.0, a.1.1, b.2.1, refl),
        b.2.2 ∙ ap (λ (t : List ℕ). t ++ b.2.0) a.1.2 ∙ append_assoc old a.1.0 b.2.0,
      ),
    )

-- ---- from a new world

pub all_traced : (shows : Bool) (net : Plan) (x y : WorldView) (head : List ℕ) (orders : List ScheduledOrder) (new : List ℕ) → Opens net x → TracesAll shows (Ok tt) x orders head y new → OrdersTrace shows net head orders (output (limited new) DONE)
all_traced shows net x y head orders new opens h = λ g e ranks.
    let k = subst (λ (w : World). LeadTo g w orders (plain_world y) × Adds head new (OrdersText shows g w orders)) (opens.1 g e) (h g (e ∙ sym opens.0) ranks) in
    inl (plain_world y, k.1.0, k.0, k.1.1, ap (λ (t : List ℕ). output (limited t) DONE) k.1.2)

pub all_stopped : (shows : Bool) (net : Plan) (x y : WorldView) (head : List ℕ) (orders : List ScheduledOrder) (stop : RefusedOrder) (mid : List ℕ) → stop.why ≢ Memory → Opens net x → TracesAll shows (Err stop) x orders head y mid
    → OrdersTrace shows net head orders (output (limited (mid ++ stop_comment stop.line stop.why)) REFUSED)
all_stopped shows net x y head orders stop mid kind opens h = λ g e ranks.
    let k = subst (λ (w : World). (s : IsFirstRefused g w orders stop) × Adds head mid (StoppedText shows g w orders stop s)) (opens.1 g e) (h g (e ∙ sym opens.0) ranks kind) in
    let said = k.1.0 in
    inr (
      stop,
      said,
      kind,
      k.0,
      k.1.1,
      ap (λ (t : List ℕ). output (limited t) REFUSED) (ap (λ (t : List ℕ). t ++ stop_comment stop.line stop.why) k.1.2 ∙ append_assoc head said (stop_comment stop.line stop.why)),
    )
