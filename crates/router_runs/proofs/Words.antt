-- Words, routes and the pending flag of a router, as the network of the laws of runs has them.
use Rattle.std.proofs.Common.{◌≡◌, ℕ, ◌==◌, nat_eq, Bool, true, false, ◌&&◌, ◌||◌, cond, List, [], ◌∷◌, ◌++◌, refl, ap, sym, ◌∙◌, arith, subst}
use Rattle.std.specs.Prelude.{not, filter, map}
use Rattle.std.specs.List.{list_any}
use Rattle.std.specs.Cmp.Lexicographic.{same_text, other_text}
use Rattle.std.proofs.lemmas.List.{append-nil}
use Rattle.std.proofs.Math.Path.{fun_ext}
use Rattle.std.proofs.lemmas.Bool.Decides.{nat_tests}
use Rattle.prefix_lanes.specs.Bits.{PrefixView, is_prefix}
use Rattle.bgp_codec.specs.declared.message.Message.{Message}
use Rattle.bgp_codec.specs.declared.message.Message.TheVariants.{OpenMsg, UpdateMsg, NoticeMsg, AliveMsg}
use Rattle.bgp_codec.specs.declared.update.Update.{Update}
use Rattle.ranked_policy.specs.Plans.{IsNetwork, numbers}
use Rattle.ranked_policy.specs.declared.network.Origin.{Origin}
use Rattle.rib_tables.specs.declared.word.Word.{Word}
use Rattle.rib_tables.specs.Words.{nothing, announced_word, path_in, lists, last_word, word_after}
use Rattle.run_model.specs.Links as links
use Rattle.run_model.specs.Links.{End, incarnation, said}
use Rattle.run_model.specs.Routes as routes
use Rattle.router_model.specs.Messages.{updates_in, is_update}
use Rattle.router_model.specs.Settings.{Setting, linked, peers, names, prefixes}
use Rattle.router_model.specs.Sides.{Side, is_up}
use Rattle.router_model.specs.State.{Router, heard, last_told, same_path, best_path, is_undecided, is_unadvertised, is_waiting_peer, is_pending}
use Rattle.router_runs.specs.Model.{announced_mentions, mentions, network_of}
use Rattle.router_runs.specs.Reading.{Reads}
use Rattle.router_runs.specs.Mirrors.{AreAlike}
use Rattle.router_runs.proofs.Lower.{Laws}

-- ---- words

later : (a b : Bool) (path old : List ℕ) → cond b path (cond a path old) ≡ cond (a || b) path old
later true true path old = refl
later true false path old = refl
later false b path old = refl

module _ (g : Setting) where
  -- prefixes that are mentioned with one path
  mention_all : (q : PrefixView) (path old : List ℕ) (ps : List PrefixView) (rest : List (PrefixView × List ℕ))
      → routes.last_mention (network_of g) q old (map (λ r. (r, path)) ps ++ rest) ≡ routes.last_mention (network_of g) q (cond (lists ps q) path old) rest
  mention_all q path old [] rest = refl
  mention_all q path old (p ∷ ps) rest =
      mention_all q path (cond (is_prefix p q) path old) ps rest
      ∙ ap (λ w. routes.last_mention (network_of g) q w rest) (later (is_prefix p q) (lists ps q) path old)

  chosen : (a b : Bool) (u : Update) (word : Word) → cond b (path_in (announced_word u.attrs)) (cond a [] (path_in word)) ≡ path_in (cond b (announced_word u.attrs) (cond a nothing word))
  chosen a true u word = refl
  chosen true false u word = refl
  chosen false false u word = refl

  -- an UPDATE says the same in both
  update_alike : (q : PrefixView) (word : Word) (u : Update) → routes.last_mention (network_of g) q (path_in word) (mentions (UpdateMsg u)) ≡ path_in (word_after word u q)
  update_alike q word u =
      mention_all q [] (path_in word) u.withdrawn (announced_mentions (path_in (announced_word u.attrs)) u.nlri)
      ∙ ap (λ ms. routes.last_mention (network_of g) q (cond (lists u.withdrawn q) [] (path_in word)) ms) (sym (append-nil (announced_mentions (path_in (announced_word u.attrs)) u.nlri)))
      ∙ mention_all q (path_in (announced_word u.attrs)) (cond (lists u.withdrawn q) [] (path_in word)) u.nlri []
      ∙ chosen (lists u.withdrawn q) (lists u.nlri q) u word

  words_alike : (q : PrefixView) (word : Word) (ms : List Message) → routes.last_told (network_of g) q (path_in word) (filter is_update ms) ≡ path_in (last_word word (updates_in ms) q)
  words_alike q word [] = refl
  words_alike q word (OpenMsg o ∷ ms) = words_alike q word ms
  words_alike q word (UpdateMsg u ∷ ms) =
      ap (λ w. routes.last_told (network_of g) q w (filter is_update ms)) (update_alike q word u) ∙ words_alike q (word_after word u q) ms
  words_alike q word (NoticeMsg n ∷ ms) = words_alike q word ms
  words_alike q word (AliveMsg ∷ ms) = words_alike q word ms

  heard_alike : (s : Side) (ends : ℕ → End Message) (v : ℕ) (q : PrefixView) → Reads s (ends v) → routes.heard_word (network_of g) ends v q ≡ path_in (heard s q)
  heard_alike s ends v q r =
      words_alike q nothing (said (incarnation (ends v)) (ends v).used)
      ∙ ap (λ us. path_in (last_word nothing us q)) (sym (r.acted (incarnation (ends v))) ∙ ap (λ e. s.acted e) (sym r.epoch))

  pub told_alike : (s : Side) (ends : ℕ → End Message) (v : ℕ) (q : PrefixView) → Reads s (ends v) → routes.told_word (network_of g) ends v q ≡ path_in (last_told s q)
  told_alike s ends v q r =
      words_alike q nothing (said (incarnation (ends v)) (ends v).appended)
      ∙ ap (λ us. path_in (last_word nothing us q)) (sym (r.sent (incarnation (ends v))) ∙ ap (λ e. s.sent e) (sym r.epoch))

same_words : (l b c : Bool) (old new : List ℕ) → (l ≡ true → (b ≡ c) × (old ≡ new)) → cond (l && b) old [] ≡ cond (l && c) new []
same_words true b c old new h = (let s = h refl in ap (λ k. cond k old []) s.0 ∙ ap (λ w. cond c w []) s.1)
same_words false b c old new h = refl

-- the route is the same
pub routes_alike : (g : Setting) (u : ℕ) (x : Router) (ends : ℕ → End Message) → AreAlike g u x ends → (q : PrefixView) → routes.route (network_of g) u ends q (x.originated q) ≡ best_path g u x q
routes_alike g u x ends alike q =
    ap (λ words. g.best u q (x.originated q) words)
    (fun_ext (λ v. same_words (linked g.net u v) (links.is_up (ends v)) (is_up (x.sides v)) (routes.heard_word (network_of g) ends v q) (path_in (heard (x.sides v) q))
    (λ near. (alike.up v near, heard_alike g (x.sides v) ends v q (alike.reads v near)))))

-- ---- tests over lists

neither : (a b : Bool) → (a || b) ≡ false → (a ≡ false) × (b ≡ false)
neither true b h = absurd cc
neither false b h = (refl, h)

both : (a b : Bool) → a ≡ false → b ≡ false → (a || b) ≡ false
both true b h k = absurd cc
both false b h k = k

split : (a b : Bool) → (a && b) ≡ true → (a ≡ true) × (b ≡ true)
split true b h = (refl, h)
split false b h = absurd cc

pub same_view : (p q : PrefixView) → is_prefix p q ≡ true → p ≡ q
same_view p q h =
    let s = split (p.addr == q.addr) (p.len == q.len) h in
    let e = s.0 in
    let f = s.1 in
    let a : p.addr ≡ q.addr = grind (arith, nat_tests, e) in
    let l : p.len ≡ q.len = grind (arith, nat_tests, f) in λ i. record { addr = a i; len = l i }

pub own_view : (p : PrefixView) → is_prefix p p ≡ true
own_view p = (let a : (p.addr == p.addr) ≡ true = grind (arith, nat_tests) in let l : (p.len == p.len) ≡ true = grind (arith, nat_tests) in rw (a, l) refl)

at_named : (f : PrefixView → Bool) (p q : PrefixView) (b : Bool) (rest : Bool) → is_prefix p q ≡ b → f p ≡ false → (b || rest) ≡ true → (rest ≡ true → f q ≡ false) → f q ≡ false
at_named f p q true rest e h m k = subst (λ r. f r ≡ false) (same_view p q e) h
at_named f p q false rest e h m k = k m

none_named : (f : PrefixView → Bool) (os : List Origin) (q : PrefixView) → list_any f (map (λ o. o.prefix) os) ≡ false → names os q ≡ true → f q ≡ false
none_named f [] q h m = absurd cc
none_named f (o ∷ os) q h m =
    let s = neither (f o.prefix) (list_any f (map (λ r. r.prefix) os)) h in
    at_named f o.prefix q (is_prefix o.prefix q) (names os q) refl s.0 m (none_named f os q s.1)

either_way : (b : Bool) → (b || true) ≡ true
either_way true = refl
either_way false = refl

all_named : (f : PrefixView → Bool) (os : List Origin) → ((q : PrefixView) → names os q ≡ true → f q ≡ false) → list_any f (map (λ o. o.prefix) os) ≡ false
all_named f [] h = refl
all_named f (o ∷ os) h =
    both (f o.prefix) (list_any f (map (λ r. r.prefix) os)) (h o.prefix (rw (own_view o.prefix) refl))
    (all_named f os (λ q m. h q (ap (λ b. is_prefix o.prefix q || b) m ∙ either_way (is_prefix o.prefix q))))

at_peer : (f : ℕ → Bool) (x v : ℕ) (rest b : Bool) → nat_eq v x ≡ b → f x ≡ false → (b || rest) ≡ true → (rest ≡ true → f v ≡ false) → f v ≡ false
at_peer f x v rest true e h m k = (let same : v ≡ x = grind (arith, nat_tests, e) in subst (λ w. f w ≡ false) (sym same) h)
at_peer f x v rest false e h m k = k m

none_of : (f : ℕ → Bool) (xs : List ℕ) (v : ℕ) → list_any f xs ≡ false → list_any (nat_eq v) xs ≡ true → f v ≡ false
none_of f [] v h m = absurd cc
none_of f (x ∷ xs) v h m = (let s = neither (f x) (list_any f xs) h in at_peer f x v (list_any (nat_eq v) xs) (nat_eq v x) refl s.0 m (none_of f xs v s.1))

all_of_at : (f q : ℕ → Bool) (x : ℕ) (rest : List ℕ) (b : Bool) → q x ≡ b → (q x ≡ true → f x ≡ false) → list_any f rest ≡ false → list_any f (cond b (x ∷ rest) rest) ≡ false
all_of_at f q x rest true e h k = both (f x) (list_any f rest) (h e) k
all_of_at f q x rest false e h k = k

all_of : (f q : ℕ → Bool) (xs : List ℕ) → ((v : ℕ) → q v ≡ true → f v ≡ false) → list_any f (filter q xs) ≡ false
all_of f q [] h = refl
all_of f q (x ∷ xs) h = all_of_at f q x (filter q xs) (q x) refl (h x) (all_of f q xs h)

-- ---- the flag

pub same_if : (a b : List ℕ) (t : Bool) → t ≡ same_path a b → not t ≡ false → a ≡ b
same_if a b true e h = same_text a b e
same_if a b false e h = absurd cc

pub if_same : (a b : List ℕ) (t : Bool) → t ≡ same_path a b → a ≡ b → not t ≡ false
if_same a b true e h = refl
if_same a b false e h = absurd (other_text a b e h)

waits_not : (b r : Bool) → cond b r false ≡ false → b ≡ true → r ≡ false
waits_not true r h e = h
waits_not false r h e = absurd cc

not_waiting : (b r : Bool) → (b ≡ true → r ≡ false) → cond b r false ≡ false
not_waiting true r h = h refl
not_waiting false r h = refl

module _ (laws : Laws) where
  calm : (g : Setting) → IsNetwork g.net → (u : ℕ) (x : Router) (ends : ℕ → End Message) → AreAlike g u x ends → is_pending g u x ≡ false
      → routes.IsNotPending (network_of g) u ends x.kept x.originated
  calm g net u x ends alike h =
      let s = neither (list_any (is_undecided g u x) (prefixes g)) (list_any (is_waiting_peer g u x) (peers g.net u)) h in (
        λ q m. same_if (x.kept q) (best_path g u x q) (same_path (x.kept q) (best_path g u x q)) refl (none_named (is_undecided g u x) g.net.origins q s.0 m) ∙ sym (routes_alike g u x ends alike q),
        λ v q near up m.
            let quiet = waits_not (is_up (x.sides v)) (list_any (is_unadvertised g u x v) (prefixes g)) (none_of (is_waiting_peer g u x) (peers g.net u) v s.1 (laws.links g.net net u v near).peer) (sym (alike.up v near) ∙ up) in
            told_alike g (x.sides v) ends v q (alike.reads v near)
            ∙ sym (same_if (x.kept q) (path_in (last_told (x.sides v) q)) (same_path (x.kept q) (path_in (last_told (x.sides v) q))) refl (none_named (is_unadvertised g u x v) g.net.origins q quiet m)),
      )

  flagged : (g : Setting) → IsNetwork g.net → (u : ℕ) (x : Router) (ends : ℕ → End Message) → AreAlike g u x ends
      → routes.IsNotPending (network_of g) u ends x.kept x.originated → is_pending g u x ≡ false
  flagged g net u x ends alike c =
      both (list_any (is_undecided g u x) (prefixes g)) (list_any (is_waiting_peer g u x) (peers g.net u))
      (all_named (is_undecided g u x) g.net.origins (λ q m. if_same (x.kept q) (best_path g u x q) (same_path (x.kept q) (best_path g u x q)) refl (c.0 q m ∙ routes_alike g u x ends alike q)))
      (all_of (is_waiting_peer g u x) (linked g.net u) (numbers g.net.routers) (λ v near. not_waiting (is_up (x.sides v)) (list_any (is_unadvertised g u x v) (prefixes g))
      (λ up. all_named (is_unadvertised g u x v) g.net.origins (λ q m. if_same (x.kept q) (path_in (last_told (x.sides v) q)) (same_path (x.kept q) (path_in (last_told (x.sides v) q))) refl
      (sym (c.1 v q near (alike.up v near ∙ up) m) ∙ told_alike g (x.sides v) ends v q (alike.reads v near))))))

  -- nothing is pending in the one exactly where nothing is in the other
  pub pending_alike : (g : Setting) → IsNetwork g.net → (u : ℕ) (x : Router) (ends : ℕ → End Message) → AreAlike g u x ends
      → (is_pending g u x ≡ false → routes.IsNotPending (network_of g) u ends x.kept x.originated)
      × (routes.IsNotPending (network_of g) u ends x.kept x.originated → is_pending g u x ≡ false)
  pending_alike g net u x ends alike = (calm g net u x ends alike, flagged g net u x ends alike)
