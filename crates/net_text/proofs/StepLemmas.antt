-- What judged words say, and that want of memory is none of their faults.
use Rattle.std.proofs.Common.{◌≡◌, ℕ, ◌≤◌, ◌&&◌, nat_le, nat_lt, ◌||◌, not, Bool, true, false, cond, List, [], ◌∷◌, length, map, Result, Ok, Err, refl, sym, ap, ◌∙◌}
use Rattle.std.specs.List.{list_all, All}
use Rattle.std.proofs.lemmas.Bool.{not-false, and_parts, leb-true, or_parts}
use Rattle.std.proofs.lemmas.List.Elements.{All-cons, All-nil}
use Rattle.prefix_lanes.specs.Bits.{PrefixView}
use Rattle.ranked_policy.specs.declared.network.NetRouter.{NetRouter}
use Rattle.net_text.specs.declared.code.Code.{Code}
use Rattle.net_text.specs.declared.code.Code.TheVariants as codes
use Rattle.net_text.specs.declared.network_so_far.NetworkSoFar.{NetworkSoFar}
use Rattle.net_text.specs.Lexing.{Text}
use Rattle.net_text.specs.Words.{◌>>=◌, path_of, path_word, is_from, router_word, prefix_word, rule_path_word, rule_path_words, is_none, assigned_word, assigned_path}
use Rattle.ranked_policy.specs.Tests.{is_simple}
use Rattle.bgp_values.specs.declared.width.Width.{Width}
use Rattle.bgp_values.specs.declared.width.Width.TheVariants.{Four}
use Rattle.net_text.proofs.AddingLemmas.{wider}
use Rattle.bgp_values.specs.Ranges.{is_asn}
use Rattle.net_text.specs.Lines.{width_named, are_short, are_distinct, is_ruled, is_full, rule_fault, rule_line, with_rule}
use Rattle.net_text.specs.Taking.{IsTakeable}
use Rattle.net_text.specs.Steps.{Refuses}

-- ---- want of memory is no fault

abbrev pub NoMemory : {A : Type 0} → Result A Code → Type 0
NoMemory {A} r = let memory : Result A Code = Err codes.Memory in r ≡ memory → ⊥

pub either_way : {A : Type 0} (b : Bool) (x y : Result A Code) → NoMemory x → NoMemory y → NoMemory (cond b x y)
either_way true x y h k = h
either_way false x y h k = k

pub one_by_one : {A B : Type 0} (r : Result A Code) (f : A → Result B Code) → NoMemory r → ((x : A) → NoMemory (f x)) → NoMemory (r >>= f)
one_by_one (Ok x) f h k e = k x e
one_by_one (Err code) f h k e = h (let same : code ≡ codes.Memory = cc in ap Err same)

abbrev pub is_memory : Code → Bool
is_memory codes.Memory = true
is_memory code = false

abbrev pub wants_memory : {A : Type 0} → Result A Code → Bool
wants_memory (Ok x) = false
wants_memory (Err code) = is_memory code

pub plain : {A : Type 0} (r : Result A Code) → wants_memory r ≡ false → NoMemory r
plain r h e = let k : false ≡ true = sym h ∙ ap wants_memory e in absurd cc

pub path_no_memory : (width : Width) (routers : List NetRouter) (word : Text) → NoMemory (path_word width routers word)
path_no_memory width routers word = either_way _ _ _ (plain (Err codes.Unreadable) refl) (either_way _ _ _ (plain (Err codes.OutOfLimit) refl) (either_way _ _ _ (plain (Err codes.UnknownRouter) refl) (plain (Ok tt) refl)))

rule_path_no_memory : (width : Width) (routers : List NetRouter) (u : ℕ) (word : Text) → NoMemory (rule_path_word width routers u word)
rule_path_no_memory width routers u word =
    one_by_one (path_word width routers word) (λ _. cond (is_from u (path_of word) && is_simple (path_of word)) (Ok tt) (Err codes.NotSimple)) (path_no_memory width routers word)
    (λ _. either_way _ _ _ (plain (Ok tt) refl) (plain (Err codes.NotSimple) refl))

pub rule_paths_no_memory : (width : Width) (routers : List NetRouter) (u : ℕ) (words : List Text) → NoMemory (rule_path_words width routers u words)
rule_paths_no_memory width routers u [] = plain (Ok tt) refl
rule_paths_no_memory width routers u (word ∷ words) =
    one_by_one (rule_path_word width routers u word) (λ _. rule_path_words width routers u words) (rule_path_no_memory width routers u word) (λ _. rule_paths_no_memory width routers u words)

-- a fault of judged words is the fault of the line
pub refuses : {A S : Type 0} (code : Code) (judged : Result A Code) (read : Result S Code) → NoMemory judged → judged ≡ Err code → read ≡ Err code → Refuses code read
refuses codes.Memory judged read h e f = absurd (h e)
refuses codes.BadForm judged read h e f = f
refuses codes.Unreadable judged read h e f = f
refuses codes.UnknownRouter judged read h e f = f
refuses codes.Repeated judged read h e f = f
refuses codes.NotConnected judged read h e f = f
refuses codes.OutOfLimit judged read h e f = f
refuses codes.NotSimple judged read h e f = f
refuses codes.BadPrefix judged read h e f = f
refuses codes.NotPermitted judged read h e f = f

-- ---- what good words are

pub past : {A : Type 0} (b : Bool) (code : Code) (rest : Result A Code) (v : A) → cond b (Err code) rest ≡ Ok v → (b ≡ false) × (rest ≡ Ok v)
past true code rest v e = absurd (cc)
past false code rest v e = (refl, e)

pub then_ok : {A B : Type 0} (r : Result A Code) (f : A → Result B Code) (v : B) → (r >>= f) ≡ Ok v → (x : A) × (r ≡ Ok x) × (f x ≡ Ok v)
then_ok (Ok x) f v e = (x, refl, e)
then_ok (Err code) f v e = absurd (cc)

all_wider : (width : Width) (ns : List ℕ) → list_all (is_asn width) ns ≡ true → list_all (is_asn Four) ns ≡ true
all_wider width [] h = refl
all_wider width (n ∷ ns) h =
    let parts = and_parts (is_asn width n) (list_all (is_asn width) ns) h in
    let one = wider width n parts.0 in
    let more = all_wider width ns parts.1 in
    rw (one, more) refl

pub path_asns : (width : Width) (routers : List NetRouter) (word : Text) (u : Unit {0}) → path_word width routers word ≡ Ok u → list_all (is_asn Four) (path_of word) ≡ true
path_asns width routers word u e = all_wider width (path_of word) (not-false _ (past _ codes.OutOfLimit _ u (past _ codes.Unreadable _ u e).1).0)

pub is_short : (n : ℕ) → nat_le n 16 ≡ true → n ≤ 16
is_short n t = leb-true n 16 t

takeable_in : (width : Width) (routers : List NetRouter) (u : ℕ) (words : List Text) (v : Unit {0}) → rule_path_words width routers u words ≡ Ok v → are_short (map path_of words) ≡ true → All IsTakeable words
takeable_in width routers u [] v e s = All-nil IsTakeable
takeable_in width routers u (word ∷ words) v e s =
    let first = then_ok (rule_path_word width routers u word) (λ _. rule_path_words width routers u words) v e in
    let path = then_ok (path_word width routers word) (λ _. cond (is_from u (path_of word) && is_simple (path_of word)) (Ok tt) (Err codes.NotSimple)) first.0 first.1 in
    let both = and_parts (nat_le (length (path_of word)) 16) (are_short (map path_of words)) s in
    All-cons IsTakeable word words (record { numbers = path_asns width routers word path.0 path.1; short = is_short (length (path_of word)) both.0 }) (takeable_in width routers u words v first.2 both.1)

-- the paths of a good rule can be taken into memory
pub takeable : (width : Width) (routers : List NetRouter) (u : ℕ) (q : PrefixView) (words : List Text) (v w : Unit {0}) → rule_path_words width routers u words ≡ Ok v → rule_fault routers u q words ≡ Ok w → All IsTakeable words
takeable width routers u q words v w e f =
    let counts = past (is_ruled routers u q || not (are_distinct (map path_of words))) codes.Repeated _ w f in
    let limits = past (nat_lt 32 (length words) || is_full routers u || not (are_short (map path_of words))) codes.OutOfLimit (Ok tt) w counts.1 in
    takeable_in width routers u words v e (not-false _ (or_parts (nat_lt 32 (length words) || is_full routers u) (not (are_short (map path_of words))) limits.0).1)

-- the path of a good assignment can be taken into memory, where it is no word for the empty one
path_is : (b : Bool) (x y : Result (Unit {0}) Code) → b ≡ false → cond b x y ≡ Ok tt → y ≡ Ok tt
path_is true x y e h = absurd cc
path_is false x y e h = h

short_is : (b : Bool) (word : Text) → b ≡ false → nat_le (length (cond b [] (path_of word))) 16 ≡ true → nat_le (length (path_of word)) 16 ≡ true
short_is true word e h = absurd cc
short_is false word e h = h

pub assigned_takeable : (width : Width) (routers : List NetRouter) (word : Text) → is_none word ≡ false → assigned_word width routers word ≡ Ok tt → nat_le (length (assigned_path word)) 16 ≡ true → IsTakeable word
assigned_takeable width routers word named good short = record {
  numbers = path_asns width routers word tt (path_is (is_none word) (Ok tt) (path_word width routers word) named good);
  short = is_short (length (path_of word)) (short_is (is_none word) word named short);
}

-- ---- a rule's line stops at a path, or goes on to its counts

pub rule_stops : (d : NetworkSoFar) (line words more : List Text) (a b : Text) (u : ℕ) (q : PrefixView) (code : Code) → line ≡ a ∷ more → more ≡ b ∷ words → Ok u ≡ router_word (width_named d.named) d.net.routers a → Ok q ≡ prefix_word b
    → Err code ≡ rule_path_words (width_named d.named) d.net.routers u words → rule_line d line ≡ Err code
rule_stops d line words more a b u q code l m e f g =
    ap (rule_line d) (l ∙ ap (λ (ws : List Text). a ∷ ws) m)
    ∙ ap (λ (r : Result ℕ Code). r >>= λ u. prefix_word b >>= λ q. rule_path_words (width_named d.named) d.net.routers u words >>= λ _. rule_fault d.net.routers u q words >>= λ _. Ok (with_rule d u q (map path_of words))) (sym e)
    ∙ ap (λ (r : Result PrefixView Code). r >>= λ q. rule_path_words (width_named d.named) d.net.routers u words >>= λ _. rule_fault d.net.routers u q words >>= λ _. Ok (with_rule d u q (map path_of words))) (sym f)
    ∙ ap (λ (r : Result (Unit {0}) Code). r >>= λ _. rule_fault d.net.routers u q words >>= λ _. Ok (with_rule d u q (map path_of words))) (sym g)
