-- An input has one text.
use Rattle.std.proofs.Common.{◌≡◌, ◌≢◌, ℕ, zero, suc, Bool, true, false, List, [], ◌∷◌, ◌++◌, refl, sym, ap, subst, ◌∙◌, arith, append_assoc, inl, inr, Err}
use Rattle.std.specs.List.{All}
use Rattle.std.proofs.lemmas.Bool.{cases_order}
use Rattle.std.proofs.lemmas.List.Elements.{All-head, All-tail}
use Rattle.ranked_policy.specs.Plans.{Plan, IsNetwork, IsNamed}
use Rattle.ranked_policy.specs.declared.network.NetRouter.{NetRouter}
use Rattle.ranked_policy.specs.declared.network.Origin.{Origin}
use Rattle.stable_paths.specs.declared.verdict.Mover.{Mover}
use Rattle.stable_paths.specs.Stable.{Problem, IsProblem, IsBest}
use Rattle.stable_paths.specs.Judging.{IsMoving, IsLeastWithout, IsMover, AreMovers}
use Rattle.stable_paths.specs.Promises.{OneBest}
use Rattle.net_text.specs.declared.code.Code.{Code}
use Rattle.net_text.specs.declared.code.Code.TheVariants as kinds
use Rattle.net_text.specs.declared.assignment.Entry.{Entry}
use Rattle.net_text.specs.declared.code.Refused.{Refused}
use Rattle.net_text.specs.Lexing.{Text, lines_of, before_section, behind_section}
use Rattle.net_text.specs.Networks.{refused_at}
use Rattle.net_text.specs.Assignments.{assignment_reading, RefusesAssignment}
use Rattle.net_text.specs.Laws.{OneNetwork, HoldTimesFit, SpeltIsNotRefused, OneRefusal}
use Rattle.net_text.specs.Printing.{code_text, unstable_line}
use Rattle.text_engines.specs.declared.status.TheConstants.{DONE}
use Rattle.text_engines.specs.Decoding.{Output, output, refused}
use Rattle.text_engines.specs.Inputs.{NetworkGives}
use Rattle.text_engines.specs.Checking.{paths_of, at_prefix, MayStand, IsFirstStray, IsStableAt, IsFirstMove, it_moves, JudgedBy, VerdictGives, EntriesGive, AssignmentGives, MoversText, movers_text}
use Rattle.text_engines.specs.Laws.{GivesOne, InputsGiveOne}

-- ---- whatever stands behind the network

same_refusal : (line other : ℕ) (code reason : Code) (a b : Output) → line ≡ other → code ≡ reason → a ≡ refused line (code_text code) → b ≡ refused other (code_text reason) → a ≡ b
same_refusal line other code reason a b lines kinds one two =
    one ∙ ap (λ n. refused n (code_text code)) lines ∙ ap (λ c. refused other (code_text c)) kinds ∙ sym two

module _ (one_network : OneNetwork) (hold : HoldTimesFit) (not_refused : SpeltIsNotRefused) (one_refusal : OneRefusal) (Gives : Plan → ℕ → List Text → Output → Type 0) (one : GivesOne Gives) where
  network_one : (front : List Text) (before : ℕ) (behind : List Text) (a b : Output) → NetworkGives Gives front before behind a → NetworkGives Gives front before behind b → a ≡ b
  network_one front before behind a b (inl r) (inl s) =
      let same = one_refusal front r.0 s.0 r.1 s.1 r.2 s.2 r.3 s.3 in
      same_refusal r.0 s.0 r.1 s.1 a b same.0 same.1 r.4 s.4
  network_one front before behind a b (inl r) (inr n) = absurd (r.2 (not_refused front n.0 r.0 r.1 n.1 r.3))
  network_one front before behind a b (inr n) (inl r) = absurd (r.2 (not_refused front n.0 r.0 r.1 n.1 r.3))
  network_one front before behind a b (inr n) (inr m) =
      one n.0 n.1.network (hold front n.0 n.1) before behind a b n.2
      (subst (λ (net : Plan). Gives net before behind b) (sym (one_network front n.0 m.0 n.1 m.1)) m.2)

  pub inputs_give_one : (name : List ℕ) → InputsGiveOne Gives name
  inputs_give_one name input a b (inl r) (inl s) = r.1 ∙ sym s.1
  inputs_give_one name input a b (inl r) (inr s) = absurd (omega (arith, r.0, s.0))
  inputs_give_one name input a b (inr r) (inl s) = absurd (omega (arith, r.0, s.0))
  inputs_give_one name input a b (inr r) (inr s) =
      network_one (before_section name (lines_of input)) _ (behind_section name (lines_of input)) a b r.1 s.1

-- ---- the first of a list of which this does not hold

module _ {X : Type 0} (P : X → Type 0) where
  pub in_middle : (xs : List X) (x : X) (ys : List X) → All P (xs ++ x ∷ ys) → P x
  in_middle [] x ys all = All-head P x ys all
  in_middle (z ∷ xs) x ys all = in_middle xs x ys (All-tail P z (xs ++ x ∷ ys) all)

  pub one_first : (xs ys more rest : List X) (x y : X) → xs ++ x ∷ more ≡ ys ++ y ∷ rest → All P xs → All P ys → (P x → ⊥) → (P y → ⊥) → (xs ≡ ys) × (x ≡ y)
  one_first [] [] more rest x y same px py nx ny = (refl, cc)
  one_first [] (v ∷ ys) more rest x y same px py nx ny =
      let head : v ≡ x = cc in
      absurd (nx (subst P head (All-head P v ys py)))
  one_first (u ∷ xs) [] more rest x y same px py nx ny =
      let head : u ≡ y = cc in
      absurd (ny (subst P head (All-head P u xs px)))
  one_first (u ∷ xs) (v ∷ ys) more rest x y same px py nx ny =
      let head : u ≡ v = cc in
      let tail : xs ++ x ∷ more ≡ ys ++ y ∷ rest = cc in
      let go = one_first xs ys more rest x y tail (All-tail P u xs px) (All-tail P v ys py) nx ny in
      (ap (λ w. w ∷ xs) head ∙ ap (λ l. v ∷ l) go.0, go.1)

-- ---- check

pub is_named : (before behind : List Origin) (o : Origin) → IsNamed (before ++ o ∷ behind) o.prefix
is_named [] behind o = (zero, o, omega arith, refl, refl)
is_named (b ∷ before) behind o =
    let rest = is_named before behind o in
    (suc rest.0, rest.1, omega (arith, rest.2), rest.3, rest.4)

module _ (one_best : OneBest) where
  -- a router that has its best would not move
  rests_not : (p : Problem) → IsProblem p → (paths : ℕ → List ℕ) (r : NetRouter) (m : Mover) → IsBest p paths r.asn (paths r.asn) → m.router ≡ r.asn → IsMover p paths m → ⊥
  rests_not p is paths r m best number moves =
      moves.moves (one_best p is paths m.router m.best (paths m.router) moves.best_is (subst (λ (u : ℕ). IsBest p paths u (paths u)) (sym number) best) ∙ sym moves.has_it)

  mover_one : (p : Problem) → IsProblem p → (paths : ℕ → List ℕ) (m n : Mover) → m.router ≡ n.router → IsMover p paths m → IsMover p paths n → m ≡ n
  mover_one p is paths m n number a b =
      let has : m.has ≡ n.has = a.has_it ∙ ap paths number ∙ sym b.has_it in
      let best : m.best ≡ n.best = one_best p is paths m.router m.best n.best a.best_is (subst (λ (u : ℕ). IsBest p paths u n.best) (sym number) b.best_is) in
      ap (λ (u : ℕ). record { router = u; has = m.has; best = m.best }) number ∙ ap (λ (l : List ℕ). record { router = n.router; has = l; best = m.best }) has
      ∙ ap (λ (l : List ℕ). record { router = n.router; has = n.has; best = l }) best

  least_one : (p : Problem) (Holds : ℕ → Type 0) (u v : ℕ) → IsLeastWithout p Holds u → IsLeastWithout p Holds v → u ≡ v
  least_one p Holds u v a b = elim (cases_order u v) [
    | inl same ↦ same
    | inr differ ↦ elim differ [
      | inl less ↦ absurd (a.fails (b.below u a.router less))
      | inr more ↦ absurd (b.fails (a.below v b.router more))
    ]
  ]

  not_stable : (net : Plan) (entries : List Entry) (o : Origin) (u : ℕ) (has best : List ℕ) → IsMoving (at_prefix net o.prefix) (paths_of entries o.prefix) u has best → IsStableAt net entries o → ⊥
  not_stable net entries o u has best moves stable = moves.least.fails (stable u moves.least.router)

  moving_one : (p : Problem) → IsNetwork p.net → IsNamed p.net.origins p.prefix → (paths : ℕ → List ℕ) (u v : ℕ) (has best had good : List ℕ) → IsMoving p paths u has best → IsMoving p paths v had good
      → unstable_line u has best ≡ unstable_line v had good
  moving_one p network named paths u v has best had good a b =
      let who : u ≡ v = least_one p (λ w. IsBest p paths w (paths w)) u v a.least b.least in
      let path : has ≡ had = a.has_it ∙ ap paths who ∙ sym b.has_it in
      let good_is : best ≡ good = one_best p (record { network = network; named = named }) paths u best good a.best_is (subst (λ w. IsBest p paths w good) (sym who) b.best_is) in
      ap (λ w. unstable_line w has best) who ∙ ap (λ l. unstable_line v l best) path ∙ ap (unstable_line v had) good_is

  move_one : (net : Plan) → IsNetwork net → (entries : List Entry) (u v : ℕ) (has best had good : List ℕ) → IsFirstMove net entries u has best → IsFirstMove net entries v had good
      → unstable_line u has best ≡ unstable_line v had good
  move_one net network entries u v has best had good a b =
      let same = one_first (IsStableAt net entries) a.before b.before a.behind b.behind a.moving b.moving (sym a.whole ∙ b.whole) a.stable b.stable
      (not_stable net entries a.moving u has best a.moves) (not_stable net entries b.moving v had good b.moves) in
      moving_one (at_prefix net a.moving.prefix) network (subst (λ os. IsNamed os a.moving.prefix) (sym a.whole) (is_named a.before a.behind a.moving))
      (paths_of entries a.moving.prefix) u v has best had good a.moves
      (subst (λ (o : Origin). IsMoving (at_prefix net o.prefix) (paths_of entries o.prefix) v had good) (sym same.1) b.moves)

  stable_moves : (net : Plan) (entries : List Entry) (u : ℕ) (has best : List ℕ) → All (IsStableAt net entries) net.origins → IsFirstMove net entries u has best → ⊥
  stable_moves net entries u has best all m =
      not_stable net entries m.moving u has best m.moves (in_middle (IsStableAt net entries) m.before m.moving m.behind (subst (All (IsStableAt net entries)) m.whole all))

  verdict_one : (net : Plan) → IsNetwork net → (entries : List Entry) (a b : Output) → VerdictGives net entries a → VerdictGives net entries b → a ≡ b
  verdict_one net network entries a b (inl s) (inl t) = s.1 ∙ sym t.1
  verdict_one net network entries a b (inl s) (inr (it_moves u has best m is)) = absurd (stable_moves net entries u has best s.0 m)
  verdict_one net network entries a b (inr (it_moves u has best m is)) (inl t) = absurd (stable_moves net entries u has best t.0 m)
  verdict_one net network entries a b (inr (it_moves u has best m is)) (inr (it_moves v had good n are)) =
      is ∙ ap (λ l. output l DONE) (move_one net network entries u v has best had good m n) ∙ sym are

  -- all routers that would move

  movers_one : (p : Problem) → IsProblem p → (paths : ℕ → List ℕ) (rs : List NetRouter) (ms ns : List Mover) → AreMovers p paths rs ms → AreMovers p paths rs ns → ms ≡ ns
  movers_one p is paths [] ms ns a b = a ∙ sym b
  movers_one p is paths (r ∷ rs) ms ns (inl a) (inl b) = movers_one p is paths rs ms ns a.1 b.1
  movers_one p is paths (r ∷ rs) ms ns (inl a) (inr b) = absurd (rests_not p is paths r b.0 a.0 b.3 b.4)
  movers_one p is paths (r ∷ rs) ms ns (inr a) (inl b) = absurd (rests_not p is paths r a.0 b.0 a.3 a.4)
  movers_one p is paths (r ∷ rs) ms ns (inr a) (inr b) =
      a.2 ∙ ap (λ (m : Mover). m ∷ a.1) (mover_one p is paths a.0 b.0 (a.3 ∙ sym b.3) a.4 b.4) ∙ ap (λ (l : List Mover). b.0 ∷ l) (movers_one p is paths rs a.1 b.1 a.5 b.5) ∙ sym b.2

  movers_text_one : (net : Plan) → IsNetwork net → (entries : List Entry) (before os : List Origin) (s t : List ℕ) → before ++ os ≡ net.origins → MoversText net entries os s → MoversText net entries os t → s ≡ t
  movers_text_one net network entries before [] s t whole a b = a ∙ sym b
  movers_text_one net network entries before (o ∷ os) s t whole a b =
      let is : IsProblem (at_prefix net o.prefix) = record { network = network; named = subst (λ (l : List Origin). IsNamed l o.prefix) whole (is_named before os o) } in
      let same = movers_one (at_prefix net o.prefix) is (paths_of entries o.prefix) net.routers a.0 b.0 a.2 b.2 in
      let rest = movers_text_one net network entries (before ++ o ∷ []) os a.1 b.1 (append_assoc before (o ∷ []) os ∙ whole) a.3 b.3 in
      a.4 ∙ ap (λ (ms : List Mover). movers_text o.prefix ms ++ a.1) same ∙ ap (λ (l : List ℕ). movers_text o.prefix b.0 ++ l) rest ∙ sym b.4

  judged_one : (all : Bool) (net : Plan) → IsNetwork net → (entries : List Entry) (a b : Output) → JudgedBy all net entries a → JudgedBy all net entries b → a ≡ b
  judged_one true net network entries a b s t = s.2 ∙ ap (λ (l : List ℕ). output l DONE) (movers_text_one net network entries [] net.origins s.0 t.0 refl s.1 t.1) ∙ sym t.2
  judged_one false net network entries a b s t = verdict_one net network entries a b s t

  stray_one : (net : Plan) (entries : List Entry) (at bt : ℕ) → IsFirstStray net entries at → IsFirstStray net entries bt → at ≡ bt
  stray_one net entries at bt a b =
      let same = one_first (MayStand net) a.before b.before a.behind b.behind a.stray b.stray (sym a.whole ∙ b.whole) a.good b.good a.not_permitted b.not_permitted in
      sym a.stands_at ∙ ap (λ (e : Entry). e.line) same.1 ∙ b.stands_at

  all_stand : (net : Plan) (entries : List Entry) (at : ℕ) → All (MayStand net) entries → IsFirstStray net entries at → ⊥
  all_stand net entries at all a = a.not_permitted (in_middle (MayStand net) a.before a.stray a.behind (subst (All (MayStand net)) a.whole all))

  entries_one : (all : Bool) (net : Plan) → IsNetwork net → (entries : List Entry) (a b : Output) → EntriesGive all net entries a → EntriesGive all net entries b → a ≡ b
  entries_one all net network entries a b (inl s) (inl t) = s.2 ∙ ap (λ n. refused n (code_text kinds.NotPermitted)) (stray_one net entries s.0 t.0 s.1 t.1) ∙ sym t.2
  entries_one all net network entries a b (inl s) (inr t) = absurd (all_stand net entries s.0 t.0 s.1)
  entries_one all net network entries a b (inr s) (inl t) = absurd (all_stand net entries t.0 s.0 t.1)
  entries_one all net network entries a b (inr s) (inr t) = judged_one all net network entries a b s.1 t.1

-- a refusal that is not want of memory is that of the reading
reading_is : (net : Plan) (before : ℕ) (lines : List Text) (at : ℕ) (code : Code) → code ≢ kinds.Memory → RefusesAssignment net before lines at code → assignment_reading net before lines ≡ Err (refused_at at code)
reading_is net before lines at kinds.Memory differs is = absurd (differs refl)
reading_is net before lines at kinds.BadForm differs is = is
reading_is net before lines at kinds.Unreadable differs is = is
reading_is net before lines at kinds.UnknownRouter differs is = is
reading_is net before lines at kinds.Repeated differs is = is
reading_is net before lines at kinds.NotConnected differs is = is
reading_is net before lines at kinds.OutOfLimit differs is = is
reading_is net before lines at kinds.NotSimple differs is = is
reading_is net before lines at kinds.BadPrefix differs is = is
reading_is net before lines at kinds.NotPermitted differs is = is

pub assignment_one : OneBest → (all : Bool) → GivesOne (AssignmentGives all)
assignment_one one_best all net network hold before lines a b (inl r) (inl s) =
    let one = reading_is net before lines r.0 r.1 r.2 r.3 in
    let two = reading_is net before lines s.0 s.1 s.2 s.3 in
    let same : refused_at r.0 r.1 ≡ refused_at s.0 s.1 = (let both = sym one ∙ two in cc) in
    same_refusal r.0 s.0 r.1 s.1 a b (ap (λ (x : Refused). x.line) same) (ap (λ (x : Refused). x.code) same) r.4 s.4
assignment_one one_best all net network hold before lines a b (inl r) (inr s) =
    let one = reading_is net before lines r.0 r.1 r.2 r.3 in
    absurd (let both = sym one ∙ s.1 in cc)
assignment_one one_best all net network hold before lines a b (inr r) (inl s) =
    let one = reading_is net before lines s.0 s.1 s.2 s.3 in
    absurd (let both = sym one ∙ r.1 in cc)
assignment_one one_best all net network hold before lines a b (inr r) (inr s) =
    let same : r.0 ≡ s.0 = (let both = sym r.1 ∙ s.1 in cc) in
    entries_one one_best all net network r.0 a b r.2 (subst (λ (es : List Entry). EntriesGive all net es b) (sym same) s.2)
