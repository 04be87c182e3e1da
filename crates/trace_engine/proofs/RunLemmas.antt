-- What a trace prints of events and orders says the events that were done.
use Rattle.std.proofs.Common.{◌≡◌, ℕ, zero, suc, ◌+◌, ◌-◌, ◌^◌, ◌==◌, Bool, true, false, cond, List, [], ◌∷◌, ◌++◌, length, map, refl, ap, sym, subst, ◌∙◌, append_assoc, Option, Some, None, Result, Ok, Err}
use Rattle.std.specs.Prelude.{◌&&◌, not, max, slice_get, codes, decimal, if◌then◌else◌}
use Rattle.std.specs.List.{AllByRecursion, flat_map}
use Rattle.std.proofs.lemmas.List.{append-nil}
use Rattle.prefix_lanes.specs.Bits.{PrefixView}
use Rattle.ranked_policy.specs.Plans.{Plan, IsNetwork, numbers}
use Rattle.router_model.specs.declared.command.Command.TheVariants as command
use Rattle.router_model.specs.Calls as calls
use Rattle.router_model.specs.Settings.{Setting, linked}
use Rattle.router_model.specs.Settings as settings
use Rattle.router_model.specs.Step.{RouterEvent, next_offer}
use Rattle.world_core.specs.declared.schedule.Event.{Event}
use Rattle.world_core.specs.declared.schedule.Event.TheVariants as event
use Rattle.world_core.specs.declared.schedule.Order.{Order}
use Rattle.world_core.specs.declared.schedule.Order.TheVariants as order
use Rattle.world_core.specs.declared.schedule.StepFault.TheVariants.{NoSuchRouter, NoSuchLink}
use Rattle.world_core.specs.World.{World, WorldAnswer, Does, Nothing, Stops, Played, of_offer, called, taking_of, where_linked, world_answer, world_after, world_of, onward, played}
use Rattle.world_core.specs.Orders.{events_of, with_peer, turn, round, second, repeated}
use Rattle.net_text.specs.declared.code.Code.{Code}
use Rattle.net_text.specs.declared.code.Code.TheVariants.{BadPrefix}
use Rattle.net_text.specs.Lexing.{Text}
use Rattle.net_text.specs.Words.{◌>>=◌, is_router, is_number, value_of, is_named, prefix_word, origin_word}
use Rattle.net_text.specs.Printing.{line}
use Rattle.net_text.specs.Layout.{LinesEndByLineFeeds}
use Rattle.schedule_text.specs.declared.schedule.ScheduledOrder.{ScheduledOrder}
use Rattle.schedule_text.specs.Schedules.{is_within, line_order, order_at, orders_of}
use Rattle.schedule_text.specs.Sayings.{NamesRouter, NamesPeers, NamesPrefix, NamesNumber, Say, LinesAreReadAsTheySay}
use Rattle.schedule_text.specs.Obeying.{all_events, LeadTo}
use Rattle.schedule_text.specs.Events.{event_line}
use Rattle.world_core.specs.Watching.{StepText, EventsText, BehindRound, RoundsText, WorkText, round_text, reached, rest_of}
use Rattle.world_core.proofs.WatchedRounds.{reached_is}
use Rattle.trace_engine.specs.Tracing.{SaysEvent, round_line, place_text, head_line, head_text, idle_line, counted_line, ticked_line, tail_text, count_of, OrderText, OrdersText}
use Rattle.schedule_text.proofs.LineLemmas.{shown_both, decimal_shown, are_shown, IsNamed, named_from, number_from, Says, says_none, says_both, says_nothing, says_comments}
use Rattle.trace_engine.proofs.NoteLemmas.{are_comments}
use Rattle.schedule_text.proofs.EventLemmas.{IsOriginated, MaySay, event_said}
use Rattle.schedule_text.proofs.ObeyingLemmas.{played_parts}
use Rattle.schedule_text.proofs.NameLemmas.{named_of, canonical_by}

-- ---- comments

place_shown : (at : ℕ) → are_shown (place_text at) ≡ true
unfolding place_text
place_shown at = shown_both (decimal at) (codes ": ") (decimal_shown at) refl

module _ (feeds : LinesEndByLineFeeds) (net : Plan) where
  head_says : (at : ℕ) (word : List ℕ) (n : ℕ) → are_shown word ≡ true → Says net (head_line at word n) []
  unfolding head_line place_text
  head_says at word n shown = says_nothing feeds net (place_text at ++ (word ++ decimal n)) (shown_both (place_text at) (word ++ decimal n) (place_shown at) (shown_both word (decimal n) shown (decimal_shown n))) refl

  pub heads_say : (at : ℕ) (o : Order) → Says net (head_text at o) []
  heads_say at (order.One e) = says_none net
  heads_say at (order.Rounds n) = head_says at (codes "rounds ") n refl
  heads_say at (order.Ticks n) = head_says at (codes "ticks ") n refl

  idle_says : (at : ℕ) (b : Bool) → Says net (if b then idle_line at else []) []
  unfolding idle_line place_text
  idle_says at true = says_nothing feeds net (place_text at ++ codes "nothing to do") (shown_both (place_text at) (codes "nothing to do") (place_shown at) refl) refl
  idle_says at false = says_none net

  counted_says : (at count : ℕ) (more : List ℕ) → are_shown more ≡ true → Says net (line (place_text at ++ (decimal count ++ more))) []
  unfolding place_text
  counted_says at count more shown =
      says_nothing feeds net (place_text at ++ (decimal count ++ more)) (shown_both (place_text at) (decimal count ++ more) (place_shown at) (shown_both (decimal count) more (decimal_shown count) shown)) refl

  pub tails_say : (at : ℕ) (o : Order) (count : ℕ) (rest : Option ℕ) → Says net (tail_text at o count rest) []
  unfolding counted_line ticked_line
  tails_say at (order.One e) count rest = idle_says at (count == 0)
  tails_say at (order.Rounds n) count (Some passed) = counted_says at count (codes " events, rest behind round " ++ decimal passed) (shown_both (codes " events, rest behind round ") (decimal passed) refl (decimal_shown passed))
  tails_say at (order.Rounds n) count None = counted_says at count (codes " events, no rest by round " ++ decimal n) (shown_both (codes " events, no rest by round ") (decimal n) refl (decimal_shown n))
  tails_say at (order.Ticks n) count rest = counted_says at count (codes " events") refl

  round_says : (number count : ℕ) (b : Bool) → Says net (if b then [] else round_line number count) []
  unfolding round_line
  round_says number count true = says_none net
  round_says number count false =
      let spent = decimal count ++ codes " events" in
      let behind = codes ": " ++ spent in
      let said = decimal number ++ behind in
      says_nothing feeds net (codes "# round " ++ said)
      (shown_both (codes "# round ") said refl (shown_both (decimal number) behind (decimal_shown number) (shown_both (codes ": ") spent refl (shown_both (decimal count) (codes " events") (decimal_shown count) refl))))
      refl

-- ---- what is done names routers of the network

there : (b : Bool) (a : WorldAnswer) (u : ℕ) (e : RouterEvent) (stamp : ℕ) → cond b a (Stops NoSuchRouter) ≡ Does u e stamp → b ≡ true
there true a u e stamp h = refl
there false a u e stamp h = absurd cc

both_there : (p q l : Bool) (a : WorldAnswer) (u : ℕ) (e : RouterEvent) (stamp : ℕ) → cond (p && q) (cond l a (Stops NoSuchLink)) (Stops NoSuchRouter) ≡ Does u e stamp → (p ≡ true) × (q ≡ true)
both_there true true l a u e stamp h = (refl, refl)
both_there true false l a u e stamp h = absurd cc
both_there false q l a u e stamp h = absurd cc

all_both : {X : Type 0} (P : X → Type 0) (xs ys : List X) → AllByRecursion P xs → AllByRecursion P ys → AllByRecursion P (xs ++ ys)
all_both P [] ys h k = k
all_both P (x ∷ xs) ys h k = (h.0, all_both P xs ys h.1 k)

all_flat : {X Y : Type 0} (P : Y → Type 0) (f : X → List Y) (xs : List X) → ((x : X) → AllByRecursion P (f x)) → AllByRecursion P (flat_map f xs)
all_flat P f [] h = tt
all_flat P f (x ∷ xs) h = all_both P (f x) (flat_map f xs) (h x) (all_flat P f xs h)

module _ (g : Setting) (network : IsNetwork g.net) where
  -- a line may name it where it is done
  abbrev pub Speaks : Event → Type 0
  Speaks x = (w : World) (u : ℕ) (e : RouterEvent) (stamp : ℕ) → world_answer g w x ≡ Does u e stamp → MaySay g.net x

  both_named : (u v : ℕ) (a : WorldAnswer) (k : ℕ) (e : RouterEvent) (stamp : ℕ) → where_linked g u v a ≡ Does k e stamp → IsNamed g.net u × IsNamed g.net v
  both_named u v a k e stamp h =
      let b = both_there (settings.is_router g u) (settings.is_router g v) (linked g.net u v) a k e stamp h in
      (named_of g network u b.0, named_of g network v b.1)

  with_peer_speaks : (u v : ℕ) → AllByRecursion Speaks (with_peer u v)
  with_peer_speaks u v =
      let put : Speaks (event.Put u v) = λ w k e stamp h. both_named u v (called g w u (calls.Put v)) k e stamp h in
      let take : Speaks (event.Take u v) = λ w k e stamp h. both_named u v (taking_of g w u v (slice_get (w.pipes v u) 0)) k e stamp h in
      let handle : Speaks (event.Handle u v) = λ w k e stamp h. both_named u v (called g w u (calls.Handle v)) k e stamp h in
      (put, (take, (handle, tt)))

  turn_speaks : (u : ℕ) → AllByRecursion Speaks (turn g.net u)
  turn_speaks u =
      let decide : Speaks (event.Decide u) = λ w k e stamp h. named_of g network u (there (settings.is_router g u) (called g w u calls.Decide) k e stamp h) in
      let advertise : Speaks (event.Advertise u) = λ w k e stamp h. named_of g network u (there (settings.is_router g u) (called g w u calls.Advertise) k e stamp h) in
      let offer : Speaks (event.Offer u) = λ w k e stamp h. named_of g network u (there (settings.is_router g u) (of_offer u (max (w.routers u).stamp w.board + 1) (next_offer (w.routers u).router)) k e stamp h) in
      all_both Speaks (flat_map (with_peer u) (settings.peers g.net u)) (event.Decide u ∷ event.Advertise u ∷ event.Offer u ∷ []) (all_flat Speaks (with_peer u) (settings.peers g.net u) (with_peer_speaks u))
      (decide, (advertise, (offer, tt)))

  seconds_speak : (ns : List ℕ) → AllByRecursion Speaks (map (λ u. event.Tick u) ns)
  seconds_speak [] = tt
  seconds_speak (u ∷ ns) = ((λ w k e stamp h. named_of g network u (there (settings.is_router g u) (called g w u calls.Tick) k e stamp h)), seconds_speak ns)

  repeated_speak : (n : ℕ) (es : List Event) → AllByRecursion Speaks es → AllByRecursion Speaks (repeated n es)
  repeated_speak zero es h = tt
  repeated_speak (suc n) es h = all_both Speaks es (repeated n es) h (repeated_speak n es h)

  -- an order of one event that a line may name, or of many
  abbrev pub MayOrder : Order → Type 0
  MayOrder (order.One e) = MaySay g.net e
  MayOrder (order.Rounds n) = Unit {0}
  MayOrder (order.Ticks n) = Unit {0}

  order_speaks : (o : Order) → MayOrder o → AllByRecursion Speaks (events_of g.net o)
  order_speaks (order.One e) may = ((λ w u d stamp h. may), tt)
  order_speaks (order.Rounds n) may = repeated_speak n (round g.net) (all_flat Speaks (turn g.net) (numbers g.net.routers) turn_speaks)
  order_speaks (order.Ticks n) may = repeated_speak n (second g.net) (seconds_speak (numbers g.net.routers))

  -- ---- events and orders

  module _ (feeds : LinesEndByLineFeeds) (read : LinesAreReadAsTheySay) where
    -- the events that were done between two worlds are what a text says
    pub record SaysDone (w y : World) (text : List ℕ) : Type 0 where
      pub done : List Event
      pub run : y.run ≡ w.run ++ done
      pub says : Says g.net text done

    done_by : (shows : Bool) (a : WorldAnswer) (w y : World) (x : Event) (xs : List Event) (at : ℕ) (text : List ℕ) → world_answer g w x ≡ a → Speaks x
        → ((next : World) (t : List ℕ) → played g next (at + 1) xs ≡ Ok y → EventsText (SaysEvent shows) g next xs t → SaysDone next y t)
        → onward (world_of g w x at a) (λ next. played g next (at + 1) xs) ≡ Ok y → StepText (SaysEvent shows) g w x a (λ next t. EventsText (SaysEvent shows) g next xs t) text → SaysDone w y text
    done_by shows (Does u e stamp) w y x xs at text is speaks go h s =
        let k = go (world_after g w x u e stamp) s.1 h s.3 in
        let line = says_both g.net (event_line x) s.2.0 (x ∷ []) [] (event_said feeds read g.net x (speaks w u e stamp is)) (says_comments feeds g.net s.2.0 (are_comments shows s.2.0 s.2.1)) in
        let whole = says_both g.net s.0 s.1 (x ∷ []) k.done (subst (λ (t : List ℕ). Says g.net t (x ∷ [])) (sym s.2.2) line) k.says in
        record { done = x ∷ k.done; run = k.run ∙ append_assoc w.run (x ∷ []) k.done; says = subst (λ (t : List ℕ). Says g.net t (x ∷ k.done)) (sym s.4) whole }
    done_by shows Nothing w y x xs at text is speaks go h s = go w text h s
    done_by shows (Stops fault) w y x xs at text is speaks go h s = absurd cc

    nothing_done : (w y : World) (text : List ℕ) → w ≡ y → text ≡ [] → SaysDone w y text
    nothing_done w y text same none =
        record { done = []; run = ap (λ (v : World). v.run) (sym same) ∙ sym (append-nil w.run); says = subst (λ (t : List ℕ). Says g.net t []) (sym none) (says_none g.net) }

    pub events_say : (shows : Bool) (xs : List Event) (w y : World) (at : ℕ) (text : List ℕ) → AllByRecursion Speaks xs → played g w at xs ≡ Ok y → EventsText (SaysEvent shows) g w xs text → SaysDone w y text
    events_say shows [] w y at text all h s = (let same : w ≡ y = cc in nothing_done w y text same s)
    events_say shows (x ∷ xs) w y at text all h s = done_by shows (world_answer g w x) w y x xs at text refl all.0 (λ next t k l. events_say shows xs next y (at + 1) t all.1 k l) h s

    -- so many rounds
    rounds_say : (shows : Bool) (n : ℕ) (w y : World) (passed : ℕ) (text : List ℕ) → played g w 0 (repeated n (round g.net)) ≡ Ok y → RoundsText (SaysEvent shows) round_line g w passed n text → SaysDone w y text
    rounds_say shows zero w y passed text h s = (let same : w ≡ y = cc in nothing_done w y text same s)
    rounds_say shows (suc n) w y passed text h s =
        let k = played_parts g (round g.net) (repeated n (round g.net)) w y 0 h in
        let behind = subst (λ (p : Played). BehindRound round_line w (passed + 1) p (λ next rest. RoundsText (SaysEvent shows) round_line g next (passed + 1) n rest) s.1) k.1 s.3 in
        let one = events_say shows (round g.net) w k.0 0 s.0 (all_flat Speaks (turn g.net) (numbers g.net.routers) turn_speaks) k.1 s.2 in
        let more = rounds_say shows n k.0 y (passed + 1) behind.0 k.2 behind.1 in
        let spent = length k.0.run - length w.run in
        let line = round_text round_line (passed + 1) spent in
        let said = says_both g.net line behind.0 [] more.done (round_says feeds g.net (passed + 1) spent (spent == 0)) more.says in
        record {
          done = one.done ++ more.done;
          run = more.run ∙ ap (λ (l : List Event). l ++ more.done) one.run ∙ append_assoc w.run one.done more.done;
          says =
              subst (λ (t : List ℕ). Says g.net t (one.done ++ more.done)) (sym (s.4 ∙ ap (λ (t : List ℕ). s.0 ++ t) behind.2))
              (says_both g.net s.0 (line ++ behind.0) one.done more.done one.says said);
        }

    work_says : (shows : Bool) (o : Order) (w y : World) (text : List ℕ) → MayOrder o → played g w 0 (events_of g.net o) ≡ Ok y → WorkText (SaysEvent shows) round_line g w o text → SaysDone w y text
    work_says shows (order.One e) w y text may h s = events_say shows (e ∷ []) w y 0 text (order_speaks (order.One e) may) h s
    work_says shows (order.Rounds n) w y text may h s = rounds_say shows n w y 0 text h s
    work_says shows (order.Ticks n) w y text may h s = events_say shows (repeated n (second g.net)) w y 0 text (order_speaks (order.Ticks n) may) h s

    -- a text of comments, then events, then comments
    around : (front text end : List ℕ) (w y : World) → Says g.net front [] → SaysDone w y text → Says g.net end [] → SaysDone w y ((front ++ text) ++ end)
    around front text end w y h k l =
        let first = says_both g.net front text [] k.done h k.says in
        let whole = says_both g.net (front ++ text) end k.done [] first l in
        record { done = k.done; run = k.run; says = subst (λ (es : List Event). Says g.net ((front ++ text) ++ end) es) (append-nil k.done) whole }

    order_says : (shows : Bool) (o : ScheduledOrder) (w y : World) (text : List ℕ) → MayOrder o.order → played g w 0 (events_of g.net o.order) ≡ Ok y → OrderText shows g w o text → SaysDone w y text
    order_says shows o w y text may h s =
        let begun = s.1 in
        let end = tail_text o.line o.order (count_of g w (events_of g.net o.order)) (rest_of g w o.order) in
        subst (SaysDone w y) (sym (s.2 ∙ ap (λ (t : List ℕ). t ++ end) begun.2))
        (around (head_text o.line o.order) begun.0 end w y (heads_say feeds g.net o.line o.order) (work_says shows o.order w y begun.0 may h begun.1)
        (tails_say feeds g.net o.line o.order (count_of g w (events_of g.net o.order)) (rest_of g w o.order)))

    pub orders_say : (shows : Bool) (os : List ScheduledOrder) (w y : World) (text : List ℕ) → AllByRecursion (λ o. MayOrder o.order) os → LeadTo g w os y → OrdersText shows g w os text → SaysDone w y text
    orders_say shows [] w y text all h s = (let same : w ≡ y = cc in nothing_done w y text same s)
    orders_say shows (o ∷ os) w y text all h s =
        let k = played_parts g (events_of g.net o.order) (all_events g.net os) w y 0 h in
        let is : reached g w (events_of g.net o.order) ≡ k.0 = reached_is g w k.0 (events_of g.net o.order) k.1 in
        let one = order_says shows o w k.0 s.0 all.0 k.1 s.2 in
        let more = orders_say shows os k.0 y s.1 all.1 k.2 (subst (λ (v : World). OrdersText shows g v os s.1) is s.3) in
        record {
          done = one.done ++ more.done;
          run = more.run ∙ ap (λ (l : List Event). l ++ more.done) one.run ∙ append_assoc w.run one.done more.done;
          says = subst (λ (t : List ℕ). Says g.net t (one.done ++ more.done)) (sym s.4) (says_both g.net s.0 s.1 one.done more.done one.says more.says);
        }

    -- ---- orders that were read

    named_in : (c : Bool) (p q : PrefixView) → is_named g.net.origins p ≡ c → (if not c then Err BadPrefix else Ok p) ≡ Ok q → is_named g.net.origins q ≡ true
    named_in true p q is h =
        let same : p ≡ q = cc in
        subst (λ (k : PrefixView). is_named g.net.origins k ≡ true) same is
    named_in false p q is h = absurd cc

    origin_by : (r : Result PrefixView Code) (q : PrefixView) → (r >>= λ p. if not (is_named g.net.origins p) then Err BadPrefix else Ok p) ≡ Ok q → is_named g.net.origins q ≡ true
    origin_by (Ok p) q h = named_in (is_named g.net.origins p) p q refl h
    origin_by (Err code) q h = absurd cc

    originated : (b : Text) (q : PrefixView) → origin_word g.net.origins b ≡ Ok q → IsOriginated g.net q
    originated b q h =
        let named = origin_by (prefix_word b) q h in
        record { canonical = canonical_by g.net.origins q network.plan.origins.canonical named; named = named }

    peers_may : (name : Text) (u v : ℕ) (words : List Text) → NamesPeers g.net name u v words → IsNamed g.net u × IsNamed g.net v
    peers_may name u v words s = (named_from g.net s.0 u s.3, named_from g.net s.1 v s.4)

    router_may : (name : Text) (u : ℕ) (words : List Text) → NamesRouter g.net name u words → IsNamed g.net u
    router_may name u words s = named_from g.net s.0 u s.2

    prefix_may : (name : Text) (u : ℕ) (q : PrefixView) (words : List Text) → NamesPrefix g.net name u q words → IsNamed g.net u × IsOriginated g.net q
    prefix_may name u q words s = (named_from g.net s.0 u s.3, originated s.1 q s.4)

    number_may : (name : Text) (u n : ℕ) (words : List Text) → NamesNumber g.net name u n words → IsNamed g.net u × (is_within (2 ^ 32 - 1) n ≡ true)
    number_may name u n words s = (named_from g.net s.0 u s.3, number_from (is_within (2 ^ 32 - 1)) (is_number s.1) (value_of s.1) n s.4)

    say_may : (o : Order) (words : List Text) → Say g.net o words → MayOrder o
    say_may (order.One (event.Command u (command.Start v))) words s = peers_may (codes "start") u v words s
    say_may (order.One (event.Command u (command.Stop v))) words s = peers_may (codes "stop") u v words s
    say_may (order.One (event.Command u (command.Reset v))) words s = peers_may (codes "reset") u v words s
    say_may (order.One (event.Command u (command.Originate q))) words s = prefix_may (codes "originate") u q words s
    say_may (order.One (event.Command u (command.Withdraw q))) words s = prefix_may (codes "withdraw") u q words s
    say_may (order.One (event.Command u (command.Snapshot n))) words s = number_may (codes "snapshot") u n words s
    say_may (order.One (event.Command u command.Restart)) words s = router_may (codes "restart") u words s
    say_may (order.One (event.Tick u)) words s = router_may (codes "tick") u words s
    say_may (order.One (event.Put u v)) words s = peers_may (codes "put") u v words s
    say_may (order.One (event.Take u v)) words s = peers_may (codes "take") u v words s
    say_may (order.One (event.Handle u v)) words s = peers_may (codes "handle") u v words s
    say_may (order.One (event.Decide u)) words s = router_may (codes "decide") u words s
    say_may (order.One (event.Advertise u)) words s = router_may (codes "advertise") u words s
    say_may (order.One (event.Offer u)) words s = router_may (codes "offer") u words s
    say_may (order.Rounds n) words s = tt
    say_may (order.Ticks n) words s = tt

    line_may : (at : ℕ) (text : Text) (r : Result (Option Order) Code) → line_order g.net text ≡ r → AllByRecursion (λ o. MayOrder o.order) (order_at at r)
    line_may at text (Ok (Some o)) is = (let s = (read g.net text o).0 is in (say_may o s.0 s.4, tt))
    line_may at text (Ok None) is = tt
    line_may at text (Err code) is = tt

    pub lines_may : (at : ℕ) (lines : List Text) → AllByRecursion (λ o. MayOrder o.order) (orders_of g.net at lines)
    lines_may at [] = tt
    lines_may at (text ∷ texts) =
        all_both (λ (o : ScheduledOrder). MayOrder o.order) (order_at (at + 1) (line_order g.net text)) (orders_of g.net (at + 1) texts) (line_may (at + 1) text (line_order g.net text) refl) (lines_may (at + 1) texts)
