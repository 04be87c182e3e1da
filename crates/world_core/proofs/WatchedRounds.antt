-- What is said of rounds that are done one behind the other, and of orders.
use Rattle.std.proofs.Common.{◌≡◌, ◌≢◌, ℕ, zero, suc, ◌+◌, ◌-◌, ◌==◌, ◌≤◌, arith, Bool, true, false, List, [], ◌∷◌, ◌++◌, length, refl, ap, sym, subst, ◌∙◌, append_assoc, append-nil, inl, inr, Ok, Err}
use Rattle.std.specs.Prelude.{Option, None, Some, if◌then◌else◌}
use Rattle.std.proofs.lemmas.Bool.{eq-eqb, ne_eqb}
use Rattle.ranked_policy.specs.Plans.{Plan}
use Rattle.router_model.specs.Settings.{Setting, ChoosesByRank}
use Rattle.world_core.specs.declared.schedule.Event.{Event}
use Rattle.world_core.specs.declared.schedule.Order.{Order}
use Rattle.world_core.specs.declared.schedule.Order.TheVariants as order
use Rattle.world_core.specs.declared.schedule.PlayFault.{PlayFault}
use Rattle.world_core.specs.declared.schedule.StepFault.{StepFault}
use Rattle.world_core.specs.declared.schedule.StepFault.TheVariants.{Memory}
use Rattle.world_core.specs.World.{World, WorldAnswer, Played, world_of, onward, played}
use Rattle.world_core.specs.Orders.{IsRefused, StopsAt, events_of, repeated, round, second}
use Rattle.world_core.specs.Views.{WorldView, plain_world, Obeys}
use Rattle.world_core.specs.Watching.{Adds, Sayings, EventsText, round_text, BehindRound, RoundsText, WorkText, end_of, reached, rest_in, WantsOr, HaltsAt, HaltsIn, WatchesEvents, WatchesRounds, WatchesOrder}
use Rattle.world_core.proofs.Orders.{repeated_among, stops_behind, stops_before}
use Rattle.world_core.proofs.Resting.{grows, rests}
use Rattle.world_core.proofs.Watched.{silent, halted_text}
use Rattle.world_core.proofs.Worlds.{played_then}

-- ---- how many rounds did something

pub reached_is : (g : Setting) (w y : World) (events : List Event) → played g w 0 events ≡ Ok y → reached g w events ≡ y
reached_is g w y events h = ap (end_of w) h

-- one that does nothing ends them, and one that does something goes on
rested : (g : Setting) (w y : World) (passed n : ℕ) → played g w 0 (round g.net) ≡ Ok y → length y.run ≡ length w.run → rest_in g w passed (suc n) ≡ Some passed
rested g w y passed n h same =
    let there : length (reached g w (round g.net)).run ≡ length w.run = ap (λ (x : World). length x.run) (reached_is g w y (round g.net) h) ∙ same in
    ap (λ (b : Bool). if b then Some passed else rest_in g (reached g w (round g.net)) (passed + 1) n) (eq-eqb (length (reached g w (round g.net)).run) (length w.run) there)

moved : (g : Setting) (w y : World) (passed n : ℕ) → played g w 0 (round g.net) ≡ Ok y → (length y.run == length w.run) ≡ false → rest_in g w passed (suc n) ≡ rest_in g y (passed + 1) n
moved g w y passed n h other =
    let is = reached_is g w y (round g.net) h in
    ap (λ (x : World). if length x.run == length w.run then Some passed else rest_in g x (passed + 1) n) is
    ∙ ap (λ (b : Bool). if b then Some passed else rest_in g y (passed + 1) n) other

-- the rest of all rounds is that of those that are left
abbrev pub RestsAs : WorldView → ℕ → WorldView → ℕ → ℕ → Type 0
RestsAs x n y passed left = (g : Setting) → g.net ≡ x.net → ChoosesByRank g → rest_in g (plain_world x) 0 n ≡ rest_in g (plain_world y) passed left

pub rest_found : (x y z : WorldView) (n passed left : ℕ) → y.net ≡ x.net → left ≡ suc (n - (passed + 1)) → RestsAs x n y passed left → Obeys (Ok tt) y (round x.net) z
    → length z.run ≡ length y.run → (g : Setting) → g.net ≡ x.net → ChoosesByRank g → Some passed ≡ rest_in g (plain_world x) 0 n
rest_found x y z n passed left same is rest h long g e ranks =
    let k : played g (plain_world y) 0 (round g.net) ≡ Ok (plain_world z) = subst (λ (p : Plan). played g (plain_world y) 0 (round p) ≡ Ok (plain_world z)) (sym e) (h g (e ∙ sym same) ranks) in
    sym (rest g e ranks ∙ ap (λ (m : ℕ). rest_in g (plain_world y) passed m) is ∙ rested g (plain_world y) (plain_world z) passed (n - (passed + 1)) k long)

pub rest_on : (x y z : WorldView) (n passed left : ℕ) → y.net ≡ x.net → left ≡ suc (n - (passed + 1)) → RestsAs x n y passed left → Obeys (Ok tt) y (round x.net) z
    → (length z.run == length y.run) ≡ false → RestsAs x n z (passed + 1) (n - (passed + 1))
rest_on x y z n passed left same is rest h other = λ g e ranks.
    let k : played g (plain_world y) 0 (round g.net) ≡ Ok (plain_world z) = subst (λ (p : Plan). played g (plain_world y) 0 (round p) ≡ Ok (plain_world z)) (sym e) (h g (e ∙ sym same) ranks) in
    rest g e ranks ∙ ap (λ (m : ℕ). rest_in g (plain_world y) passed m) is ∙ moved g (plain_world y) (plain_world z) passed (n - (passed + 1)) k other

-- ---- events that are refused

not_played : (g : Setting) (y : World) (x : Event) (xs : List Event) (n : ℕ) (why : StepFault) → why ≢ Memory → IsRefused g y x why → played g y n (x ∷ xs) ≡ Err (record { at = n; why = why })
not_played g y x xs n why kind (inl is) = ap (λ (a : WorldAnswer). onward (world_of g y x n a) (λ next. played g next (n + 1) xs)) is
not_played g y x xs n why kind (inr m) = absurd (kind m.3)

stops_there : (g : Setting) (w y : World) (events : List Event) (at : ℕ) (why : StepFault) → why ≢ Memory → StopsAt g w events at why y → (fault : PlayFault) × (played g w 0 events ≡ Err fault)
stops_there g w y events at why kind s =
    let t = played_then g s.before (s.event ∷ s.behind) w y 0 s.reached in
    (record { at = t.0; why = why }, ap (λ (es : List Event). played g w 0 es) s.parts ∙ t.1 ∙ not_played g y s.event s.behind t.0 why kind s.refused)

module _ (Says : Sayings) (line : ℕ → ℕ → List ℕ) where
  module _ (g : Setting) where
    -- ---- one round, and those behind it

    round_on : (w y : World) (passed n : ℕ) (events rest : List ℕ) → played g w 0 (round g.net) ≡ Ok y → EventsText Says g w (round g.net) events → RoundsText Says line g y (passed + 1) n rest
        → RoundsText Says line g w passed (suc n) (events ++ (round_text line (passed + 1) (length y.run - length w.run) ++ rest))
    round_on w y passed n events rest h written more =
        let behind = round_text line (passed + 1) (length y.run - length w.run) ++ rest in
        (events, behind, written, subst (λ (p : Played). BehindRound line w (passed + 1) p (λ next r. RoundsText Says line g next (passed + 1) n r) behind) (sym h) (rest, more, refl), refl)

    -- one that is refused
    round_off : (w : World) (passed n : ℕ) (events : List ℕ) (fault : PlayFault) → played g w 0 (round g.net) ≡ Err fault → EventsText Says g w (round g.net) events → RoundsText Says line g w passed (suc n) events
    round_off w passed n events fault h written =
        (events, [], written, subst (λ (p : Played). BehindRound line w (passed + 1) p (λ next r. RoundsText Says line g next (passed + 1) n r) []) (sym h) refl, sym (append-nil events))

    none_said : (number count : ℕ) → count ≡ 0 → round_text line number count ≡ []
    none_said number count none = ap (λ (n : ℕ). if n == 0 then [] else line number n) none

    -- those that do nothing
    still : (w : World) (passed n : ℕ) → played g w 0 (round g.net) ≡ Ok w → RoundsText Says line g w passed n []
    still w passed zero h = refl
    still w passed (suc n) h =
        let none : length w.run - length w.run ≡ 0 = omega arith in
        let gone : round_text line (passed + 1) (length w.run - length w.run) ++ [] ≡ [] = ap (λ (l : List ℕ). l ++ []) (none_said (passed + 1) (length w.run - length w.run) none) in (
          [],
          [],
          silent Says g (round g.net) w w 0 h refl,
          subst (λ (p : Played). BehindRound line w (passed + 1) p (λ next r. RoundsText Says line g next (passed + 1) n r) []) (sym h) ([], still w (passed + 1) n h, sym gone),
          refl,
        )

    -- one that does nothing, with those behind it
    round_rests : (w y : World) (passed n : ℕ) (events : List ℕ) → played g w 0 (round g.net) ≡ Ok y → length y.run ≡ length w.run → EventsText Says g w (round g.net) events → RoundsText Says line g w passed (suc n) events
    round_rests w y passed n events h same written =
        let is : y ≡ w = rests g (round g.net) w y 0 h same in
        let again : played g y 0 (round g.net) ≡ Ok y = subst (λ (v : World). played g v 0 (round g.net) ≡ Ok y) (sym is) h in
        let spent = length y.run - length w.run in
        let none : spent ≡ 0 = omega (arith, same) in
        let whole : events ++ (round_text line (passed + 1) spent ++ []) ≡ events = ap (λ (l : List ℕ). events ++ (l ++ [])) (none_said (passed + 1) spent none) ∙ append-nil events in
        subst (λ (l : List ℕ). RoundsText Says line g w passed (suc n) l) whole (round_on w y passed n events [] h written (still y (passed + 1) n again))

  -- ---- so many rounds

  -- what is said so far, with the text of the rounds that are left behind it, is that of all
  abbrev pub SaysAs : WorldView → ℕ → List ℕ → WorldView → ℕ → ℕ → List ℕ → Type 0
  SaysAs x n old y passed left mid =
      (g : Setting) → g.net ≡ x.net → ChoosesByRank g
      → (text : List ℕ) × ((rest : List ℕ) → RoundsText Says line g (plain_world y) passed left rest → RoundsText Says line g (plain_world x) 0 n (text ++ rest)) × (mid ≡ old ++ text)

  pub none_said_yet : (x : WorldView) (n left : ℕ) (old : List ℕ) → left ≡ n → SaysAs x n old x 0 left old
  none_said_yet x n left old is = λ g e ranks. ([], (λ rest more. subst (λ (m : ℕ). RoundsText Says line g (plain_world x) 0 m rest) is more), sym (append-nil old))

  module _ (may : Bool) where
    -- a round of a world, in a setting of its network
    round_in : (y z : WorldView) (mid new : List ℕ) (g : Setting) → (e : g.net ≡ y.net) → ChoosesByRank g → WatchesEvents Says may (Ok tt) y (round y.net) mid z new
        → (played g (plain_world y) 0 (round g.net) ≡ Ok (plain_world z)) × Adds mid new (EventsText Says g (plain_world y) (round g.net))
    round_in y z mid new g e ranks h =
        subst (λ (p : Plan). (played g (plain_world y) 0 (round p) ≡ Ok (plain_world z)) × Adds mid new (EventsText Says g (plain_world y) (round p))) (sym e) (h g e ranks)

    -- one round more, which did something
    pub said_on : (x y z : WorldView) (n passed left count : ℕ) (old mid next new : List ℕ) → y.net ≡ x.net → left ≡ suc (n - (passed + 1)) → SaysAs x n old y passed left mid
        → WatchesEvents Says may (Ok tt) y (round y.net) mid z next → length z.run ≢ length y.run → count ≡ length z.run - length y.run → new ≡ next ++ line (passed + 1) count
        → SaysAs x n old z (passed + 1) (n - (passed + 1)) new
    said_on x y z n passed left count old mid next new same is writes done other counted put = λ g e ranks.
        let wy = plain_world y in
        let wz = plain_world z in
        let so_far = writes g e ranks in
        let k = round_in y z mid next g (e ∙ sym same) ranks done in
        let text = so_far.0 in
        let said = k.1.0 in
        let spent = length z.run - length y.run in
        let up : length y.run ≤ length z.run = grows g (round g.net) wy wz 0 k.0 in
        let some : (spent == 0) ≡ false = ne_eqb spent 0 (λ none. other (let l : length z.run ≡ length y.run = omega (arith, up, none) in l)) in
        let behind_it = line (passed + 1) count in
        let told : round_text line (passed + 1) spent ≡ behind_it = ap (λ (b : Bool). if b then [] else line (passed + 1) spent) some ∙ ap (λ (c : ℕ). line (passed + 1) c) (sym counted) in (
          text ++ (said ++ behind_it),
          (λ rest more.
              let behind = said ++ (round_text line (passed + 1) spent ++ rest) in
              let whole : text ++ behind ≡ (text ++ (said ++ behind_it)) ++ rest =
              ap (λ (l : List ℕ). text ++ (said ++ (l ++ rest))) told ∙ ap (λ (l : List ℕ). text ++ l) (sym (append_assoc said behind_it rest)) ∙ sym (append_assoc text (said ++ behind_it) rest) in
              subst (λ (l : List ℕ). RoundsText Says line g (plain_world x) 0 n l) whole
              (so_far.1 behind (subst (λ (m : ℕ). RoundsText Says line g wy passed m behind) (sym is) (round_on g wy wz passed (n - (passed + 1)) said rest k.0 k.1.1 more)))),
          put ∙ ap (λ (l : List ℕ). l ++ behind_it) (k.1.2 ∙ ap (λ (l : List ℕ). l ++ said) so_far.2) ∙ append_assoc (old ++ text) said behind_it ∙ append_assoc old text (said ++ behind_it),
        )

    -- one more, which did nothing
    pub said_still : (x y z : WorldView) (n passed left : ℕ) (old mid new : List ℕ) → y.net ≡ x.net → left ≡ suc (n - (passed + 1)) → SaysAs x n old y passed left mid
        → WatchesEvents Says may (Ok tt) y (round y.net) mid z new → length z.run ≡ length y.run → (g : Setting) → g.net ≡ x.net → ChoosesByRank g → Adds old new (RoundsText Says line g (plain_world x) 0 n)
    said_still x y z n passed left old mid new same is writes done long g e ranks =
        let wy = plain_world y in
        let so_far = writes g e ranks in
        let k = round_in y z mid new g (e ∙ sym same) ranks done in
        let said = k.1.0 in (
          so_far.0 ++ said,
          so_far.1 said (subst (λ (m : ℕ). RoundsText Says line g wy passed m said) (sym is) (round_rests g wy (plain_world z) passed (n - (passed + 1)) said k.0 long k.1.1)),
          k.1.2 ∙ ap (λ (l : List ℕ). l ++ said) so_far.2 ∙ append_assoc old so_far.0 said,
        )

    -- all of them
    pub said_all : (x y : WorldView) (n passed left : ℕ) (old new : List ℕ) → left ≡ 0 → SaysAs x n old y passed left new → (g : Setting) → g.net ≡ x.net → ChoosesByRank g
        → Adds old new (RoundsText Says line g (plain_world x) 0 n)
    said_all x y n passed left old new none writes g e ranks =
        let all = writes g e ranks in (
          all.0 ++ [],
          all.1 [] (subst (λ (m : ℕ). RoundsText Says line g (plain_world y) passed m []) (sym none) refl),
          all.2 ∙ ap (λ (l : List ℕ). old ++ l) (sym (append-nil all.0)),
        )

    pub rounds_done : (x y : WorldView) (n : ℕ) (old new : List ℕ) (rest : Option ℕ) → Obeys (Ok tt) x (repeated n (round x.net)) y
        → ((g : Setting) → g.net ≡ x.net → ChoosesByRank g → Adds old new (RoundsText Says line g (plain_world x) 0 n)) → ((g : Setting) → g.net ≡ x.net → ChoosesByRank g → rest ≡ rest_in g (plain_world x) 0 n)
        → WatchesRounds Says line may (Ok rest) x n old y new
    rounds_done x y n old new rest obeys written found = λ g e ranks. (
      subst (λ (p : Plan). played g (plain_world x) 0 (repeated n (round p)) ≡ Ok (plain_world y)) (sym e) (obeys g e ranks),
      written g e ranks,
      found g e ranks,
    )

    -- one of which an event is refused
    rounds_halt_by : (g : Setting) (wx wy wz : World) (n passed left : ℕ) (old mid new text : List ℕ) (why : StepFault) → (passed + 1) + (n - (passed + 1)) ≡ n → left ≡ suc (n - (passed + 1))
        → played g wx 0 (repeated passed (round g.net)) ≡ Ok wy → ((rest : List ℕ) → RoundsText Says line g wy passed left rest → RoundsText Says line g wx 0 n (text ++ rest)) → mid ≡ old ++ text
        → WantsOr may why (HaltsAt Says g wy (round g.net) why wz mid new) → WantsOr may why (HaltsIn g wx (repeated n (round g.net)) why wz old new (RoundsText Says line g wx 0 n))
    rounds_halt_by g wx wy wz n passed left old mid new text why all is first go at (inl m) = inl m
    rounds_halt_by g wx wy wz n passed left old mid new text why all is first go at (inr k) =
        let once = round g.net in
        let said = k.2.0 in
        let place = length (repeated passed once) + k.0 in
        inr (
          place,
          subst (λ (es : List Event). StopsAt g wx es place why wz) (repeated_among passed (n - (passed + 1)) n once all)
              (stops_before g (repeated passed once ++ once) (repeated (n - (passed + 1)) once) wx wz place why (stops_behind g (repeated passed once) once wx wy wz k.0 why first k.1)),
          (λ kind.
              let stopped = stops_there g wy wz once k.0 why kind k.1 in
              let written = halted_text Says g wy wz once k.0 why said kind k.1 k.2.1 in (
                text ++ said,
                go said (subst (λ (m : ℕ). RoundsText Says line g wy passed m said) (sym is) (round_off g wy passed (n - (passed + 1)) said stopped.0 stopped.1 written)),
                k.2.2 ∙ ap (λ (l : List ℕ). l ++ said) at ∙ append_assoc old text said,
              )),
        )

    pub rounds_halt : (x y z : WorldView) (n passed left : ℕ) (old mid new : List ℕ) (why : StepFault) → (passed + 1) + (n - (passed + 1)) ≡ n → y.net ≡ x.net → left ≡ suc (n - (passed + 1))
        → Obeys (Ok tt) x (repeated passed (round x.net)) y → SaysAs x n old y passed left mid → WatchesEvents Says may (Err why) y (round y.net) mid z new → WatchesRounds Says line may (Err why) x n old z new
    rounds_halt x y z n passed left old mid new why all same is obeys writes halts = λ g e ranks.
        let wx = plain_world x in
        let wy = plain_world y in
        let wz = plain_world z in
        let so_far = writes g e ranks in
        let k = subst (λ (p : Plan). WantsOr may why (HaltsAt Says g wy (round p) why wz mid new)) (sym (e ∙ sym same)) (halts g (e ∙ sym same) ranks) in
        let first : played g wx 0 (repeated passed (round g.net)) ≡ Ok wy = subst (λ (p : Plan). played g wx 0 (repeated passed (round p)) ≡ Ok wy) (sym e) (obeys g e ranks) in
        rounds_halt_by g wx wy wz n passed left old mid new so_far.0 why all is first so_far.1 so_far.2 k

    -- the watcher wants memory
    pub rounds_want : (x z : WorldView) (n : ℕ) (old new : List ℕ) (why : StepFault) → may ≡ true → why ≡ Memory → WatchesRounds Says line may (Err why) x n old z new
    rounds_want x z n old new why m is = λ g e ranks. inl (m, is)

    -- ---- events that are an order's

    -- one of them is refused: what is said up to it is the text of all
    halts_by : (g : Setting) (w y : World) (events : List Event) (old new : List ℕ) (why : StepFault) → WantsOr may why (HaltsAt Says g w events why y old new)
        → WantsOr may why (HaltsIn g w events why y old new (EventsText Says g w events))
    halts_by g w y events old new why (inl m) = inl m
    halts_by g w y events old new why (inr k) = inr (k.0, k.1, (λ kind. (k.2.0, halted_text Says g w y events k.0 why k.2.0 kind k.1 k.2.1, k.2.2)))

    pub one_halts : (x y : WorldView) (event : Event) (old new : List ℕ) (why : StepFault) → WatchesEvents Says may (Err why) x (event ∷ []) old y new → WatchesOrder Says line may (Err why) x (order.One event) old y new
    one_halts x y event old new why h = λ g e ranks. halts_by g (plain_world x) (plain_world y) (event ∷ []) old new why (h g e ranks)

    pub one_done : (x y : WorldView) (event : Event) (old new : List ℕ) → WatchesEvents Says may (Ok tt) x (event ∷ []) old y new → WatchesOrder Says line may (Ok None) x (order.One event) old y new
    one_done x y event old new h = λ g e ranks. (let k = h g e ranks in (k.0, k.1, refl))

    pub ticks_halt : (x y : WorldView) (n : ℕ) (old new : List ℕ) (why : StepFault) → WatchesEvents Says may (Err why) x (repeated n (second x.net)) old y new → WatchesOrder Says line may (Err why) x (order.Ticks n) old y new
    ticks_halt x y n old new why h = λ g e ranks.
        halts_by g (plain_world x) (plain_world y) (repeated n (second g.net)) old new why
        (subst (λ (p : Plan). WantsOr may why (HaltsAt Says g (plain_world x) (repeated n (second p)) why (plain_world y) old new)) (sym e) (h g e ranks))

    pub ticks_done : (x y : WorldView) (n : ℕ) (old new : List ℕ) → WatchesEvents Says may (Ok tt) x (repeated n (second x.net)) old y new → WatchesOrder Says line may (Ok None) x (order.Ticks n) old y new
    ticks_done x y n old new h = λ g e ranks.
        let k = subst (λ (p : Plan). (played g (plain_world x) 0 (repeated n (second p)) ≡ Ok (plain_world y)) × Adds old new (EventsText Says g (plain_world x) (repeated n (second p)))) (sym e) (h g e ranks) in
        (k.0, k.1, refl)

    -- ---- an order that is obeyed

    pub obeyed_order : (x y : WorldView) (o : Order) (old new : List ℕ) (rest : Option ℕ) → WatchesOrder Says line may (Ok rest) x o old y new → Obeys (Ok tt) x (events_of x.net o) y
    obeyed_order x y o old new rest h = λ g e ranks.
        subst (λ (p : Plan). played g (plain_world x) 0 (events_of p o) ≡ Ok (plain_world y)) e (h g e ranks).0

    stopped_by : (g : Setting) (x y : WorldView) (o : Order) (old new : List ℕ) (why : StepFault) → may ≡ false → g.net ≡ x.net
        → WantsOr may why (HaltsIn g (plain_world x) (events_of g.net o) why (plain_world y) old new (WorkText Says line g (plain_world x) o)) → (at : ℕ) × StopsAt g (plain_world x) (events_of x.net o) at why (plain_world y)
    stopped_by g x y o old new why never e (inl m) = (let k : true ≡ false = sym m.0 ∙ never in absurd cc)
    stopped_by g x y o old new why never e (inr k) = (k.0, subst (λ (p : Plan). StopsAt g (plain_world x) (events_of p o) k.0 why (plain_world y)) e k.1)

    pub stopped_order : (x y : WorldView) (o : Order) (old new : List ℕ) (why : StepFault) → may ≡ false → WatchesOrder Says line may (Err why) x o old y new → Obeys (Err why) x (events_of x.net o) y
    stopped_order x y o old new why never h = λ g e ranks. stopped_by g x y o old new why never e (h g e ranks)
