-- Want of memory is no line's fault, and any other refusal is that of the first line with a fault.
use Rattle.std.proofs.Common.{◌≡◌, ℕ, Bool, cond, List, [], ◌∷◌, Option, None, Some, Result, Ok, Err, sym, not, ◌≢◌, suc, ◌++◌, refl, subst, arith}
use Rattle.prefix_lanes.specs.Bits.{PrefixView}
use Rattle.ranked_policy.specs.Plans.{Plan}
use Rattle.ranked_policy.specs.declared.network.NetRouter.{NetRouter}
use Rattle.ranked_policy.specs.declared.network.Origin.{Origin}
use Rattle.net_text.specs.declared.code.Code.{Code}
use Rattle.net_text.specs.declared.code.Code.TheVariants as codes
use Rattle.net_text.specs.Lexing.{Text, is_skipped, is_ascii, words_of}
use Rattle.net_text.specs.Words.{◌>>=◌, number_word, is_router, asn_word, router_word, prefix_of, prefix_or_fault, is_named, origin_word}
use Rattle.bgp_values.specs.declared.width.Width.{Width}
use Rattle.bgp_values.specs.Ranges.{is_asn}
use Rattle.net_text.proofs.StepLemmas.{NoMemory, plain, either_way, one_by_one}
use Rattle.schedule_text.specs.declared.operands.TheConstants.{MOST_COUNT}
use Rattle.schedule_text.specs.declared.keyword.Keyword.{Keyword}
use Rattle.schedule_text.specs.declared.keyword.Keyword.TheVariants as keyword
use Rattle.schedule_text.specs.Keywords.{keyword_of}
use Rattle.schedule_text.specs.Schedules.{is_within, router_operand, peer_operands, prefix_operands, number_operands, count_operand, ordered, keyword_order, words_order, line_order, IsFaulty, IsGood, IsFirstFault, RefusesSchedule}
use Rattle.std.specs.Prelude.{IsOk}
use Rattle.std.specs.List.{All}
use Rattle.world_core.specs.declared.schedule.Order.{Order}

with_good : {A B : Type 0} (r : Result A Code) (f : A → B) → NoMemory r → NoMemory (r >>= λ x. Ok (f x))
with_good r f h = one_by_one r (λ x. Ok (f x)) h (λ x. plain (Ok (f x)) refl)

-- ---- words

number : (test : ℕ → Bool) (word : Text) → NoMemory (number_word test word)
number test word = either_way _ _ _ (plain (Err codes.Unreadable) refl) (either_way _ _ _ (plain (Err codes.OutOfLimit) refl) (plain (Ok _) refl))

router : (width : Width) (routers : List NetRouter) (word : Text) → NoMemory (router_word width routers word)
router width routers word =
    one_by_one (asn_word width word) (λ u. cond (not (is_router routers u)) (Err codes.UnknownRouter) (Ok u)) (number (is_asn width) word) (λ u. either_way _ _ _ (plain (Err codes.UnknownRouter) refl) (plain (Ok u) refl))

prefix : (q : Option PrefixView) → NoMemory (prefix_or_fault q)
prefix None = plain (Err codes.BadPrefix) refl
prefix (Some q) = plain (Ok q) refl

origin : (origins : List Origin) (word : Text) → NoMemory (origin_word origins word)
origin origins word =
    one_by_one (prefix_or_fault (prefix_of word)) (λ q. cond (not (is_named origins q)) (Err codes.BadPrefix) (Ok q)) (prefix (prefix_of word)) (λ q. either_way _ _ _ (plain (Err codes.BadPrefix) refl) (plain (Ok q) refl))

-- ---- operands

module _ (net : Plan) where
  of_router : (words : List Text) → NoMemory (router_operand net words)
  of_router [] = plain (Err codes.BadForm) refl
  of_router (a ∷ []) = router net.settings.width net.routers a
  of_router (a ∷ b ∷ words) = plain (Err codes.BadForm) refl

  abbrev both : {A : Type 0} → ℕ → A → ℕ × A
  both u x = (u, x)

  of_two : {A : Type 0} (a b : Text) (second : Text → Result A Code) → NoMemory (second b) → NoMemory (router_word net.settings.width net.routers a >>= λ u. second b >>= λ x. Ok (both u x))
  of_two a b second h = one_by_one (router_word net.settings.width net.routers a) (λ u. second b >>= λ x. Ok (both u x)) (router net.settings.width net.routers a) (λ u. with_good (second b) (both u) h)

  of_peers : (words : List Text) → NoMemory (peer_operands net words)
  of_peers [] = plain (Err codes.BadForm) refl
  of_peers (a ∷ []) = plain (Err codes.BadForm) refl
  of_peers (a ∷ b ∷ []) = of_two a b (router_word net.settings.width net.routers) (router net.settings.width net.routers b)
  of_peers (a ∷ b ∷ c ∷ words) = plain (Err codes.BadForm) refl

  of_prefix : (words : List Text) → NoMemory (prefix_operands net words)
  of_prefix [] = plain (Err codes.BadForm) refl
  of_prefix (a ∷ []) = plain (Err codes.BadForm) refl
  of_prefix (a ∷ b ∷ []) = of_two a b (origin_word net.origins) (origin net.origins b)
  of_prefix (a ∷ b ∷ c ∷ words) = plain (Err codes.BadForm) refl

  of_number : (words : List Text) → NoMemory (number_operands net words)
  of_number [] = plain (Err codes.BadForm) refl
  of_number (a ∷ []) = plain (Err codes.BadForm) refl
  of_number (a ∷ b ∷ []) = of_two a b (number_word (is_within 4294967295)) (number (is_within 4294967295) b)
  of_number (a ∷ b ∷ c ∷ words) = plain (Err codes.BadForm) refl

  of_count : (words : List Text) → NoMemory (count_operand words)
  of_count [] = plain (Err codes.BadForm) refl
  of_count (a ∷ []) = number (is_within MOST_COUNT) a
  of_count (a ∷ b ∷ words) = plain (Err codes.BadForm) refl

  -- ---- lines

  of_keyword : (k : Keyword) (words : List Text) → NoMemory (ordered net k words)
  of_keyword keyword.Start words = with_good (peer_operands net words) _ (of_peers words)
  of_keyword keyword.Stop words = with_good (peer_operands net words) _ (of_peers words)
  of_keyword keyword.Reset words = with_good (peer_operands net words) _ (of_peers words)
  of_keyword keyword.Originate words = with_good (prefix_operands net words) _ (of_prefix words)
  of_keyword keyword.Withdraw words = with_good (prefix_operands net words) _ (of_prefix words)
  of_keyword keyword.Snapshot words = with_good (number_operands net words) _ (of_number words)
  of_keyword keyword.Restart words = with_good (router_operand net words) _ (of_router words)
  of_keyword keyword.Tick words = with_good (router_operand net words) _ (of_router words)
  of_keyword keyword.Put words = with_good (peer_operands net words) _ (of_peers words)
  of_keyword keyword.Take words = with_good (peer_operands net words) _ (of_peers words)
  of_keyword keyword.Handle words = with_good (peer_operands net words) _ (of_peers words)
  of_keyword keyword.Decide words = with_good (router_operand net words) _ (of_router words)
  of_keyword keyword.Advertise words = with_good (router_operand net words) _ (of_router words)
  of_keyword keyword.Offer words = with_good (router_operand net words) _ (of_router words)
  of_keyword keyword.Rounds words = with_good (count_operand words) _ (of_count words)
  of_keyword keyword.Ticks words = with_good (count_operand words) _ (of_count words)

  of_found : (k : Option Keyword) (words : List Text) → NoMemory (keyword_order net k words)
  of_found None words = plain (Err codes.BadForm) refl
  of_found (Some k) words = with_good (ordered net k words) _ (of_keyword k words)

  of_words : (words : List Text) → NoMemory (words_order net words)
  of_words [] = plain (Ok None) refl
  of_words (name ∷ words) = of_found (keyword_of name) words

  of_line : (text : Text) → NoMemory (line_order net text)
  of_line text = either_way (is_skipped text) _ _ (plain (Ok None) refl) (either_way (not (is_ascii text)) _ _ (plain (Err codes.BadForm) refl) (of_words (words_of text)))

  -- the fault of a line
  pub is_faulty : (text : Text) (code : Code) → Err code ≡ line_order net text → IsFaulty net text code
  is_faulty text codes.Memory e = absurd (of_line text (sym e))
  is_faulty text codes.BadForm e = sym e
  is_faulty text codes.Unreadable e = sym e
  is_faulty text codes.UnknownRouter e = sym e
  is_faulty text codes.Repeated e = sym e
  is_faulty text codes.NotConnected e = sym e
  is_faulty text codes.OutOfLimit e = sym e
  is_faulty text codes.NotSimple e = sym e
  is_faulty text codes.BadPrefix e = sym e
  is_faulty text codes.NotPermitted e = sym e

-- ---- a schedule that is refused

pub refused_at : (net : Plan) (before : ℕ) (lines : List Text) (at : ℕ) (code : Code) → code ≢ codes.Memory → RefusesSchedule net before lines at code → IsFirstFault net before lines at code
refused_at net before lines at codes.BadForm k h = h
refused_at net before lines at codes.Unreadable k h = h
refused_at net before lines at codes.UnknownRouter k h = h
refused_at net before lines at codes.Repeated k h = h
refused_at net before lines at codes.NotConnected k h = h
refused_at net before lines at codes.OutOfLimit k h = h
refused_at net before lines at codes.NotSimple k h = h
refused_at net before lines at codes.BadPrefix k h = h
refused_at net before lines at codes.Memory k h = absurd (k refl)
refused_at net before lines at codes.NotPermitted k h = h

good_in : (P : Text → Type 0) (front : List Text) (x : Text) (rest : List Text) → All P (front ++ x ∷ rest) → P x
good_in P [] x rest all = all 0 x (omega arith)
good_in P (y ∷ ys) x rest all = good_in P ys x rest (λ k d lt. all (suc k) d (omega (arith, lt)))

pub not_good : (r : Result (Option Order) Code) (code : Code) → r ≡ Err code → IsOk r → ⊥
not_good (Ok o) code is h = absurd cc
not_good (Err e) code is h = absurd cc

pub no_fault : (net : Plan) (before : ℕ) (lines : List Text) (at : ℕ) (code : Code) → All (IsGood net) lines → IsFirstFault net before lines at code → ⊥
no_fault net before lines at code all f =
    let good = good_in (IsGood net) f.front f.faulty f.behind (subst (All (IsGood net)) f.parted all) in
    not_good (line_order net f.faulty) code f.fault good
