-- A line is read as the order that its words say.
use Rattle.std.proofs.Common.{◌≡◌, ℕ, ◌-◌, ◌^◌, Bool, true, false, cond, List, [], ◌∷◌, Option, Some, None, Result, Ok, Err, refl, sym, ap, subst, ◌∙◌}
use Rattle.std.specs.Prelude.{codes, not, ◌==◌}
use Rattle.std.proofs.lemmas.Bool.{eqb-true, and_parts, cond-false}
use Rattle.prefix_lanes.specs.Bits.{PrefixView}
use Rattle.ranked_policy.specs.Plans.{Plan}
use Rattle.router_model.specs.declared.command.Command.TheVariants as command
use Rattle.world_core.specs.declared.schedule.Event.TheVariants as event
use Rattle.world_core.specs.declared.schedule.Order.{Order}
use Rattle.world_core.specs.declared.schedule.Order.TheVariants as order
use Rattle.net_text.specs.declared.code.Code.{Code}
use Rattle.net_text.specs.declared.code.Code.TheVariants as kinds
use Rattle.net_text.specs.Lexing.{Text, same, words_of, is_skipped, says_nothing, is_ascii}
use Rattle.net_text.specs.Layout.{WordsStandBetweenBlanks}
use Rattle.net_text.specs.Words.{◌>>=◌, number_word, router_word, origin_word}
use Rattle.schedule_text.specs.declared.keyword.Keyword.{Keyword}
use Rattle.schedule_text.specs.declared.keyword.Keyword.TheVariants as keyword
use Rattle.schedule_text.specs.Schedules.{is_within, router_operand, peer_operands, prefix_operands, number_operands, count_operand, ordered, keyword_order, words_order, line_order}
use Rattle.schedule_text.specs.Keywords.{word_of, keywords, keyword_among, keyword_of}
use Rattle.schedule_text.specs.Sayings.{NamesRouter, NamesPeers, NamesPrefix, NamesNumber, NamesCount, Say, SaysOrder, LinesAreReadAsTheySay}

-- ---- the first word

same_true : (a b : Text) → same a b ≡ true → a ≡ b
same_true [] [] h = refl
same_true [] (y ∷ ys) h = absurd cc
same_true (x ∷ xs) [] h = absurd cc
same_true (x ∷ xs) (y ∷ ys) h =
    let parts = and_parts (x == y) (same xs ys) h in
    ap (λ (k : ℕ). k ∷ xs) (eqb-true x y parts.0) ∙ ap (λ (t : Text). y ∷ t) (same_true xs ys parts.1)

pick_by : (name : Text) (this k : Keyword) (rest : Option Keyword) (b : Bool) → same name (word_of this) ≡ b → (rest ≡ Some k → name ≡ word_of k) → cond b (Some this) rest ≡ Some k → name ≡ word_of k
pick_by name this k rest true is go h =
    let found : this ≡ k = cc in
    same_true name (word_of this) is ∙ ap word_of found
pick_by name this k rest false is go h = go h

pick : (name : Text) (this k : Keyword) (rest : Option Keyword) → (rest ≡ Some k → name ≡ word_of k) → cond (same name (word_of this)) (Some this) rest ≡ Some k → name ≡ word_of k
pick name this k rest go h = pick_by name this k rest (same name (word_of this)) refl go h

keyword_is : (ks : List Keyword) (name : Text) (k : Keyword) → keyword_among ks name ≡ Some k → name ≡ word_of k
keyword_is [] name k h = absurd cc
keyword_is (this ∷ ks) name k h = pick name this k (keyword_among ks name) (keyword_is ks name k) h

-- ---- what is read is said

bound : {A B : Type 0} (r : Result A Code) (f : A → Result B Code) (y : B) → (r >>= f) ≡ Ok y → (x : A) × (r ≡ Ok x) × (f x ≡ Ok y)
bound (Ok x) f y h = (x, refl, h)
bound (Err code) f y h = absurd cc

router_said : (net : Plan) (name : Text) (words : List Text) (u : ℕ) → router_operand net words ≡ Ok u → NamesRouter net name u (name ∷ words)
router_said net name [] u h = absurd cc
router_said net name (a ∷ []) u h = (a, refl, h)
router_said net name (a ∷ b ∷ words) u h = absurd cc

count_said : (name : Text) (words : List Text) (n : ℕ) → count_operand words ≡ Ok n → NamesCount name n (name ∷ words)
count_said name [] n h = absurd cc
count_said name (a ∷ []) n h = (a, refl, h)
count_said name (a ∷ b ∷ words) n h = absurd cc

-- two words, each with its reading
two : {X : Type 0} (r : Result ℕ Code) (s : Result X Code) (p : ℕ × X) → (r >>= λ u. s >>= λ v. Ok (u, v)) ≡ Ok p → (r ≡ Ok p.0) × (s ≡ Ok p.1)
two r s p h =
    let one = bound r _ p h in
    let other = bound s _ p one.2 in
    let is : (one.0, other.0) ≡ p = (let e = other.2 in cc) in
    (one.1 ∙ ap (λ (k : ℕ × _). Ok k.0) is, other.1 ∙ ap (λ (k : ℕ × _). Ok k.1) is)

peers_said : (net : Plan) (name : Text) (words : List Text) (p : ℕ × ℕ) → peer_operands net words ≡ Ok p → NamesPeers net name p.0 p.1 (name ∷ words)
peers_said net name [] p h = absurd cc
peers_said net name (a ∷ []) p h = absurd cc
peers_said net name (a ∷ b ∷ []) p h = (let both = two (router_word net.settings.width net.routers a) (router_word net.settings.width net.routers b) p h in (a, b, refl, both.0, both.1))
peers_said net name (a ∷ b ∷ d ∷ words) p h = absurd cc

prefix_said : (net : Plan) (name : Text) (words : List Text) (p : ℕ × PrefixView) → prefix_operands net words ≡ Ok p → NamesPrefix net name p.0 p.1 (name ∷ words)
prefix_said net name [] p h = absurd cc
prefix_said net name (a ∷ []) p h = absurd cc
prefix_said net name (a ∷ b ∷ []) p h = (let both = two (router_word net.settings.width net.routers a) (origin_word net.origins b) p h in (a, b, refl, both.0, both.1))
prefix_said net name (a ∷ b ∷ d ∷ words) p h = absurd cc

number_said : (net : Plan) (name : Text) (words : List Text) (p : ℕ × ℕ) → number_operands net words ≡ Ok p → NamesNumber net name p.0 p.1 (name ∷ words)
number_said net name [] p h = absurd cc
number_said net name (a ∷ []) p h = absurd cc
number_said net name (a ∷ b ∷ []) p h = (let both = two (router_word net.settings.width net.routers a) (number_word (is_within (2 ^ 32 - 1)) b) p h in (a, b, refl, both.0, both.1))
number_said net name (a ∷ b ∷ d ∷ words) p h = absurd cc

-- operands that were read, and the order that was made of them
made : {A : Type 0} (net : Plan) (words : List Text) (r : Result A Code) (f : A → Order) (o : Order) → (r >>= λ p. Ok (f p)) ≡ Ok o → ((p : A) → r ≡ Ok p → Say net (f p) words) → Say net o words
made net words r f o h says =
    let b = bound r _ o h in
    let is : f b.0 ≡ o = (let e = b.2 in cc) in
    subst (λ (k : Order). Say net k words) is (says b.0 b.1)

ordered_said : (net : Plan) (k : Keyword) (words : List Text) (o : Order) → ordered net k words ≡ Ok o → Say net o (word_of k ∷ words)
ordered_said net keyword.Start words o h = made net _ (peer_operands net words) _ o h (peers_said net (codes "start") words)
ordered_said net keyword.Stop words o h = made net _ (peer_operands net words) _ o h (peers_said net (codes "stop") words)
ordered_said net keyword.Reset words o h = made net _ (peer_operands net words) _ o h (peers_said net (codes "reset") words)
ordered_said net keyword.Originate words o h = made net _ (prefix_operands net words) _ o h (prefix_said net (codes "originate") words)
ordered_said net keyword.Withdraw words o h = made net _ (prefix_operands net words) _ o h (prefix_said net (codes "withdraw") words)
ordered_said net keyword.Snapshot words o h = made net _ (number_operands net words) _ o h (number_said net (codes "snapshot") words)
ordered_said net keyword.Restart words o h = made net _ (router_operand net words) _ o h (router_said net (codes "restart") words)
ordered_said net keyword.Tick words o h = made net _ (router_operand net words) _ o h (router_said net (codes "tick") words)
ordered_said net keyword.Put words o h = made net _ (peer_operands net words) _ o h (peers_said net (codes "put") words)
ordered_said net keyword.Take words o h = made net _ (peer_operands net words) _ o h (peers_said net (codes "take") words)
ordered_said net keyword.Handle words o h = made net _ (peer_operands net words) _ o h (peers_said net (codes "handle") words)
ordered_said net keyword.Decide words o h = made net _ (router_operand net words) _ o h (router_said net (codes "decide") words)
ordered_said net keyword.Advertise words o h = made net _ (router_operand net words) _ o h (router_said net (codes "advertise") words)
ordered_said net keyword.Offer words o h = made net _ (router_operand net words) _ o h (router_said net (codes "offer") words)
ordered_said net keyword.Rounds words o h = made net _ (count_operand words) _ o h (count_said (codes "rounds") words)
ordered_said net keyword.Ticks words o h = made net _ (count_operand words) _ o h (count_said (codes "ticks") words)

keyword_said : (net : Plan) (name : Text) (words : List Text) (o : Order) (k : Option Keyword) → keyword_of name ≡ k → keyword_order net k words ≡ Ok (Some o) → Say net o (name ∷ words)
keyword_said net name words o None is h = absurd cc
keyword_said net name words o (Some k) is h =
    let b = bound (ordered net k words) _ (Some o) h in
    let same_order : b.0 ≡ o = (let e = b.2 in cc) in
    subst (λ (n : Text). Say net o (n ∷ words)) (sym (keyword_is keywords name k is)) (ordered_said net k words o (b.1 ∙ ap (λ (x : Order). Ok x) same_order))

words_said : (net : Plan) (words : List Text) (o : Order) → words_order net words ≡ Ok (Some o) → Say net o words
words_said net [] o h = absurd cc
words_said net (name ∷ words) o h = keyword_said net name words o (keyword_of name) refl h

line_said : (law : WordsStandBetweenBlanks) (net : Plan) (line : Text) (o : Order) (b c : Bool) → is_skipped line ≡ b → is_ascii line ≡ c
    → cond b (Ok None) (cond (not c) (Err kinds.BadForm) (words_order net (words_of line))) ≡ Ok (Some o) → SaysOrder net line o
line_said law net line o true c is ascii h = absurd cc
line_said law net line o false false is ascii h = absurd cc
line_said law net line o false true is ascii h = (words_of line, (law line (words_of line)).0 refl, is, ascii, words_said net (words_of line) o h)

-- ---- what is said is read

one_back : {A : Type 0} (r : Result A Code) (x : A) (f : A → Order) → r ≡ Ok x → ((r >>= λ p. Ok (f p)) >>= λ o. Ok (Some o)) ≡ Ok (Some (f x))
one_back r x f h = ap (λ (s : Result _ Code). (s >>= λ p. Ok (f p)) >>= λ o. Ok (Some o)) h

abbrev pair : {X : Type 0} → ℕ → X → Result (ℕ × X) Code
pair a b = Ok (a, b)

two_back : {X : Type 0} (r : Result ℕ Code) (s : Result X Code) (u : ℕ) (v : X) → r ≡ Ok u → s ≡ Ok v → (r >>= λ a. s >>= λ b. pair a b) ≡ pair u v
two_back {X} r s u v h k =
    ap (λ (t : Result ℕ Code). t >>= λ a. s >>= λ b. pair a b) h ∙ ap (λ (t : Result X Code). t >>= λ b. pair u b) k

peers_back : (net : Plan) (name : Text) (words : List Text) (u v : ℕ) (f : ℕ × ℕ → Order) → NamesPeers net name u v words
    → ((a b : Text) → words_order net (name ∷ a ∷ b ∷ []) ≡ ((peer_operands net (a ∷ b ∷ []) >>= λ p. Ok (f p)) >>= λ o. Ok (Some o))) → words_order net words ≡ Ok (Some (f (u, v)))
peers_back net name words u v f h reads =
    ap (words_order net) h.2 ∙ reads h.0 h.1
    ∙ one_back (peer_operands net (h.0 ∷ h.1 ∷ [])) (u, v) f (two_back (router_word net.settings.width net.routers h.0) (router_word net.settings.width net.routers h.1) u v h.3 h.4)

prefix_back : (net : Plan) (name : Text) (words : List Text) (u : ℕ) (q : PrefixView) (f : ℕ × PrefixView → Order) → NamesPrefix net name u q words
    → ((a b : Text) → words_order net (name ∷ a ∷ b ∷ []) ≡ ((prefix_operands net (a ∷ b ∷ []) >>= λ p. Ok (f p)) >>= λ o. Ok (Some o))) → words_order net words ≡ Ok (Some (f (u, q)))
prefix_back net name words u q f h reads =
    ap (words_order net) h.2 ∙ reads h.0 h.1
    ∙ one_back (prefix_operands net (h.0 ∷ h.1 ∷ [])) (u, q) f (two_back (router_word net.settings.width net.routers h.0) (origin_word net.origins h.1) u q h.3 h.4)

number_back : (net : Plan) (name : Text) (words : List Text) (u s : ℕ) (f : ℕ × ℕ → Order) → NamesNumber net name u s words
    → ((a b : Text) → words_order net (name ∷ a ∷ b ∷ []) ≡ ((number_operands net (a ∷ b ∷ []) >>= λ p. Ok (f p)) >>= λ o. Ok (Some o))) → words_order net words ≡ Ok (Some (f (u, s)))
number_back net name words u s f h reads =
    ap (words_order net) h.2 ∙ reads h.0 h.1
    ∙ one_back (number_operands net (h.0 ∷ h.1 ∷ [])) (u, s) f (two_back (router_word net.settings.width net.routers h.0) (number_word (is_within (2 ^ 32 - 1)) h.1) u s h.3 h.4)

router_back : (net : Plan) (name : Text) (words : List Text) (u : ℕ) (f : ℕ → Order) → NamesRouter net name u words
    → ((a : Text) → words_order net (name ∷ a ∷ []) ≡ ((router_operand net (a ∷ []) >>= λ p. Ok (f p)) >>= λ o. Ok (Some o))) → words_order net words ≡ Ok (Some (f u))
router_back net name words u f h reads =
    ap (words_order net) h.1 ∙ reads h.0 ∙ one_back (router_operand net (h.0 ∷ [])) u f h.2

count_back : (net : Plan) (name : Text) (words : List Text) (n : ℕ) (f : ℕ → Order) → NamesCount name n words
    → ((a : Text) → words_order net (name ∷ a ∷ []) ≡ ((count_operand (a ∷ []) >>= λ p. Ok (f p)) >>= λ o. Ok (Some o))) → words_order net words ≡ Ok (Some (f n))
count_back net name words n f h reads =
    ap (words_order net) h.1 ∙ reads h.0 ∙ one_back (count_operand (h.0 ∷ [])) n f h.2

said_back : (net : Plan) (o : Order) (words : List Text) → Say net o words → words_order net words ≡ Ok (Some o)
said_back net (order.One (event.Command u (command.Start v))) words h = peers_back net (codes "start") words u v (λ p. order.One (event.Command p.0 (command.Start p.1))) h (λ a b. refl)
said_back net (order.One (event.Command u (command.Stop v))) words h = peers_back net (codes "stop") words u v (λ p. order.One (event.Command p.0 (command.Stop p.1))) h (λ a b. refl)
said_back net (order.One (event.Command u (command.Reset v))) words h = peers_back net (codes "reset") words u v (λ p. order.One (event.Command p.0 (command.Reset p.1))) h (λ a b. refl)
said_back net (order.One (event.Command u (command.Originate q))) words h = prefix_back net (codes "originate") words u q (λ p. order.One (event.Command p.0 (command.Originate p.1))) h (λ a b. refl)
said_back net (order.One (event.Command u (command.Withdraw q))) words h = prefix_back net (codes "withdraw") words u q (λ p. order.One (event.Command p.0 (command.Withdraw p.1))) h (λ a b. refl)
said_back net (order.One (event.Command u (command.Snapshot s))) words h = number_back net (codes "snapshot") words u s (λ p. order.One (event.Command p.0 (command.Snapshot p.1))) h (λ a b. refl)
said_back net (order.One (event.Command u command.Restart)) words h = router_back net (codes "restart") words u (λ n. order.One (event.Command n command.Restart)) h (λ a. refl)
said_back net (order.One (event.Tick u)) words h = router_back net (codes "tick") words u (λ n. order.One (event.Tick n)) h (λ a. refl)
said_back net (order.One (event.Put u v)) words h = peers_back net (codes "put") words u v (λ p. order.One (event.Put p.0 p.1)) h (λ a b. refl)
said_back net (order.One (event.Take u v)) words h = peers_back net (codes "take") words u v (λ p. order.One (event.Take p.0 p.1)) h (λ a b. refl)
said_back net (order.One (event.Handle u v)) words h = peers_back net (codes "handle") words u v (λ p. order.One (event.Handle p.0 p.1)) h (λ a b. refl)
said_back net (order.One (event.Decide u)) words h = router_back net (codes "decide") words u (λ n. order.One (event.Decide n)) h (λ a. refl)
said_back net (order.One (event.Advertise u)) words h = router_back net (codes "advertise") words u (λ n. order.One (event.Advertise n)) h (λ a. refl)
said_back net (order.One (event.Offer u)) words h = router_back net (codes "offer") words u (λ n. order.One (event.Offer n)) h (λ a. refl)
said_back net (order.Rounds n) words h = count_back net (codes "rounds") words n (λ k. order.Rounds k) h (λ a. refl)
said_back net (order.Ticks n) words h = count_back net (codes "ticks") words n (λ k. order.Ticks k) h (λ a. refl)

line_back : (law : WordsStandBetweenBlanks) (net : Plan) (line : Text) (o : Order) → SaysOrder net line o → line_order net line ≡ Ok (Some o)
line_back law net line o h =
    let are = (law line h.0).1 h.1 in
    let said : is_skipped line ≡ false = ap says_nothing (sym are) ∙ h.2 in
    cond-false (is_skipped line) _ _ said ∙ ap (λ (b : Bool). cond (not b) (Err kinds.BadForm) (words_order net (words_of line))) h.3
    ∙ ap (words_order net) (sym are) ∙ said_back net o h.0 h.4

pub lines_are_read_as_they_say : WordsStandBetweenBlanks → LinesAreReadAsTheySay
lines_are_read_as_they_say law net line o = (λ h. line_said law net line o (is_skipped line) (is_ascii line) refl refl h, line_back law net line o)
