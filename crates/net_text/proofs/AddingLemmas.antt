-- What each good line of a network text adds to the draft.
use Rattle.std.proofs.Common.{◌≡◌, ℕ, ◌==◌, Bool, true, false, cond, List, [], ◌∷◌, map, length, Option, Some, None, Result, Ok, Err, refl, sym, ap, subst, ◌∙◌, inl, inr, ◌≤◌, arith}
use Rattle.std.specs.Prelude.{codes, not, nat_le}
use mathlib.Core.Logic.{◌⊎◌}
use Rattle.std.proofs.lemmas.Bool.{eqb-true, and_parts, leb-true, le-leb}
use Rattle.bgp_values.specs.Ranges.{is_asn}
use Rattle.bgp_values.specs.declared.width.Width.{Width}
use Rattle.bgp_values.specs.declared.width.Width.TheVariants.{Two, Four}
use Rattle.prefix_lanes.specs.Bits.{PrefixView}
use Rattle.ranked_policy.specs.declared.network.NetRouter.{NetRouter}
use Rattle.ranked_policy.specs.Adding.{with_link}
use Rattle.net_text.specs.declared.code.Code.{Code}
use Rattle.net_text.specs.declared.code.Code.TheVariants as kinds
use Rattle.net_text.specs.declared.settings.Setting.{Setting}
use Rattle.net_text.specs.declared.network_so_far.NetworkSoFar.{NetworkSoFar}
use Rattle.net_text.specs.Lexing.{Text, same, words_of, is_skipped, says_nothing, is_ascii}
use Rattle.net_text.specs.Words.{◌>>=◌, is_number, value_of, number_word, asn_word, router_word, is_router, id_word, prefix_word, path_of, rule_path_words}
use Rattle.net_text.specs.Lines.{width_named, setting_of, in_range, was_named, setting_line, with_router, is_taken, router_line, link_line, with_origin, origin_line, with_rule, rule_line, rule_fault, named_line, words_line, line_reading}

pub same_true : (a b : Text) → same a b ≡ true → a ≡ b
same_true [] [] h = refl
same_true [] (y ∷ ys) h = absurd cc
same_true (x ∷ xs) [] h = absurd cc
same_true (x ∷ xs) (y ∷ ys) h =
    let parts = and_parts (x == y) (same xs ys) h in
    ap (λ (k : ℕ). k ∷ xs) (eqb-true x y parts.0) ∙ ap (λ (t : Text). y ∷ t) (same_true xs ys parts.1)

bound : {A B : Type 0} (r : Result A Code) (f : A → Result B Code) (y : B) → (r >>= f) ≡ Ok y → (x : A) × (r ≡ Ok x) × (f x ≡ Ok y)
bound (Ok x) f y h = (x, refl, h)
bound (Err code) f y h = absurd cc

-- what passed two tests
passed : {X : Type 0} (b c : Bool) (e f : Code) (x y : X) → cond b (Err e) (cond c (Err f) (Ok x)) ≡ Ok y → x ≡ y
passed true c e f x y h = absurd cc
passed false true e f x y h = absurd cc
passed false false e f x y h = cc

known_by : (routers : List NetRouter) (b : Bool) (u v : ℕ) → cond (not b) (Err kinds.UnknownRouter) (Ok u) ≡ Ok v → u ≡ v
known_by routers true u v h = cc
known_by routers false u v h = absurd cc

-- ---- numbers that four octets hold, whatever the width of those that are read

pub wider : (width : Width) (n : ℕ) → is_asn width n ≡ true → is_asn Four n ≡ true
wider Two n h =
    let parts = and_parts (nat_le 1 n) (nat_le n 65535) h in
    let low : 1 ≤ n = leb-true 1 n parts.0 in
    let high : n ≤ 65535 = leb-true n 65535 parts.1 in
    let fits : nat_le n 4294967295 ≡ true = le-leb n 4294967295 (omega (arith, high)) in
    rw (parts.0, fits) refl
wider Four n h = h

number_by : (a b c : Bool) (n u : ℕ) → (b ≡ true → c ≡ true) → cond (not a) (Err kinds.Unreadable) (cond (not b) (Err kinds.OutOfLimit) (Ok n)) ≡ Ok u
    → cond (not a) (Err kinds.Unreadable) (cond (not c) (Err kinds.OutOfLimit) (Ok n)) ≡ Ok u
number_by false b c n u on h = absurd cc
number_by true false c n u on h = absurd cc
number_by true true true n u on h = h
number_by true true false n u on h = absurd (let k = on refl in cc)

wide_asn : (width : Width) (a : Text) (u : ℕ) → asn_word width a ≡ Ok u → asn_word Four a ≡ Ok u
wide_asn width a u h = number_by (is_number a) (is_asn width (value_of a)) (is_asn Four (value_of a)) (value_of a) u (wider width (value_of a)) h

-- a known router is one that its number names
known_asn : (width : Width) (routers : List NetRouter) (a : Text) (u : ℕ) → router_word width routers a ≡ Ok u → asn_word Four a ≡ Ok u
known_asn width routers a u h =
    let b = bound (asn_word width a) _ u h in
    wide_asn width a u (b.1 ∙ ap (λ (n : ℕ). Ok n) (known_by routers (is_router routers b.0) b.0 u b.2))

-- ---- what a good line adds

-- a line has a word, and two behind it, each read in its way; they make a draft
pub record AddsTwo {X Y : Type 0} (word : Text) (read : Text → Result X Code) (read_other : Text → Result Y Code) (make : X → Y → NetworkSoFar) (e : NetworkSoFar) (words : List Text) : Type 0 where
  pub a : Text
  pub b : Text
  pub x : X
  pub y : Y
  pub are : words ≡ word ∷ a ∷ b ∷ []
  pub one : read a ≡ Ok x
  pub other : read_other b ≡ Ok y
  pub new : make x y ≡ e

abbrev pub AddsRouter : NetworkSoFar → NetworkSoFar → List Text → Type 0
AddsRouter d e words = AddsTwo (codes "router") (asn_word Four) id_word (with_router d) e words

abbrev pub AddsLink : NetworkSoFar → NetworkSoFar → List Text → Type 0
AddsLink d e words = AddsTwo (codes "link") (asn_word Four) (asn_word Four) (λ u v. record d { net = with_link d.net u v }) e words

abbrev pub AddsOrigin : NetworkSoFar → NetworkSoFar → List Text → Type 0
AddsOrigin d e words = AddsTwo (codes "origin") (asn_word Four) prefix_word (with_origin d) e words

pub record AddsRule (d e : NetworkSoFar) (words : List Text) : Type 0 where
  pub rest : List Text
  pub u : ℕ
  pub q : PrefixView
  pub paths : List (List ℕ)
  pub are : words ≡ codes "rank" ∷ rest
  pub new : with_rule d u q paths ≡ e

-- a setting, or nothing at all
pub record AddsNothing (d e : NetworkSoFar) (words : List Text) : Type 0 where
  pub router : (a b : Text) → words ≡ codes "router" ∷ a ∷ b ∷ [] → ⊥
  pub link : (a b : Text) → words ≡ codes "link" ∷ a ∷ b ∷ [] → ⊥
  pub origin : (a b : Text) → words ≡ codes "origin" ∷ a ∷ b ∷ [] → ⊥
  pub new : e.net ≡ d.net

abbrev pub Adds : NetworkSoFar → NetworkSoFar → List Text → Type 0
Adds d e words = AddsRouter d e words ⊎ (AddsLink d e words ⊎ (AddsOrigin d e words ⊎ (AddsRule d e words ⊎ AddsNothing d e words)))

router_adds : (d e : NetworkSoFar) (words : List Text) → router_line d words ≡ Ok e → AddsRouter d e (codes "router" ∷ words)
router_adds d e [] h = absurd cc
router_adds d e (a ∷ []) h = absurd cc
router_adds d e (a ∷ b ∷ []) h =
    let one = bound (asn_word (width_named d.named) a) _ e h in
    let other = bound (id_word b) _ e one.2 in
    record {
      a = a;
      b = b;
      x = one.0;
      y = other.0;
      are = refl;
      one = wide_asn (width_named d.named) a one.0 one.1;
      other = other.1;
      new = passed (is_taken d.net.routers one.0 other.0) (nat_le 64 (length d.net.routers)) kinds.Repeated kinds.OutOfLimit (with_router d one.0 other.0) e other.2;
    }
router_adds d e (a ∷ b ∷ x ∷ words) h = absurd cc

link_adds : (d e : NetworkSoFar) (words : List Text) → link_line d words ≡ Ok e → AddsLink d e (codes "link" ∷ words)
link_adds d e [] h = absurd cc
link_adds d e (a ∷ []) h = absurd cc
link_adds d e (a ∷ b ∷ []) h =
    let one = bound (router_word (width_named d.named) d.net.routers a) _ e h in
    let other = bound (router_word (width_named d.named) d.net.routers b) _ e one.2 in
    record {
      a = a;
      b = b;
      x = one.0;
      y = other.0;
      are = refl;
      one = known_asn (width_named d.named) d.net.routers a one.0 one.1;
      other = known_asn (width_named d.named) d.net.routers b other.0 other.1;
      new = passed _ _ kinds.Repeated kinds.OutOfLimit (record d { net = with_link d.net one.0 other.0 }) e other.2;
    }
link_adds d e (a ∷ b ∷ x ∷ words) h = absurd cc

origin_adds : (d e : NetworkSoFar) (words : List Text) → origin_line d words ≡ Ok e → AddsOrigin d e (codes "origin" ∷ words)
origin_adds d e [] h = absurd cc
origin_adds d e (a ∷ []) h = absurd cc
origin_adds d e (a ∷ b ∷ []) h =
    let one = bound (router_word (width_named d.named) d.net.routers a) _ e h in
    let other = bound (prefix_word b) _ e one.2 in
    record {
      a = a;
      b = b;
      x = one.0;
      y = other.0;
      are = refl;
      one = known_asn (width_named d.named) d.net.routers a one.0 one.1;
      other = other.1;
      new = passed _ _ kinds.Repeated kinds.OutOfLimit (with_origin d one.0 other.0) e other.2;
    }
origin_adds d e (a ∷ b ∷ x ∷ words) h = absurd cc

rule_adds : (d e : NetworkSoFar) (words : List Text) → rule_line d words ≡ Ok e → AddsRule d e (codes "rank" ∷ words)
rule_adds d e [] h = absurd cc
rule_adds d e (a ∷ []) h = absurd cc
rule_adds d e (a ∷ b ∷ words) h =
    let one = bound (router_word (width_named d.named) d.net.routers a) _ e h in
    let other = bound (prefix_word b) _ e one.2 in
    let paths = bound (rule_path_words (width_named d.named) d.net.routers one.0 words) _ e other.2 in
    let free = bound (rule_fault d.net.routers one.0 other.0 words) _ e paths.2 in
    record {
      rest = a ∷ b ∷ words;
      u = one.0;
      q = other.0;
      paths = map path_of words;
      are = refl;
      new = (let k = free.2 in cc);
    }

setting_by : (d e : NetworkSoFar) (b : Bool) (x : NetworkSoFar) → cond b (Err kinds.Repeated) (Ok x) ≡ Ok e → x ≡ e
setting_by d e true x h = absurd cc
setting_by d e false x h = cc

setting_net : (d e : NetworkSoFar) (s : Setting) (words : List Text) → setting_line s d words ≡ Ok e → e.net ≡ d.net
setting_net d e s [] h = absurd cc
setting_net d e s (a ∷ []) h =
    let one = bound (number_word (in_range s) a) _ e h in
    let new = setting_by d e (was_named s d.named) _ one.2 in
    ap (λ (k : NetworkSoFar). k.net) (sym new)
setting_net d e s (a ∷ b ∷ words) h = absurd cc

named_net : (d e : NetworkSoFar) (s : Option Setting) (words : List Text) → named_line s d words ≡ Ok e → e.net ≡ d.net
named_net d e None words h = absurd cc
named_net d e (Some s) words h = setting_net d e s words h

pub other_word : (name c : Text) (words more : List Text) → same name c ≡ false → same c c ≡ true → name ∷ words ≡ c ∷ more → ⊥
other_word name c words more differs fits e =
    let is : name ≡ c = cc in
    let k : true ≡ false = sym fits ∙ ap (λ (t : Text). same t c) (sym is) ∙ differs in
    absurd cc

line_adds : (d e : NetworkSoFar) (name : Text) (words : List Text) (r l o k : Bool) → same name (codes "router") ≡ r → same name (codes "link") ≡ l → same name (codes "origin") ≡ o → same name (codes "rank") ≡ k
    → cond r (router_line d words) (cond l (link_line d words) (cond o (origin_line d words) (cond k (rule_line d words) (named_line (setting_of name) d words)))) ≡ Ok e
    → Adds d e (name ∷ words)
line_adds d e name words true l o k ir il io ik h = subst (λ (n : Text). Adds d e (n ∷ words)) (sym (same_true name (codes "router") ir)) (inl (router_adds d e words h))
line_adds d e name words false true o k ir il io ik h = subst (λ (n : Text). Adds d e (n ∷ words)) (sym (same_true name (codes "link") il)) (inr (inl (link_adds d e words h)))
line_adds d e name words false false true k ir il io ik h = subst (λ (n : Text). Adds d e (n ∷ words)) (sym (same_true name (codes "origin") io)) (inr (inr (inl (origin_adds d e words h))))
line_adds d e name words false false false true ir il io ik h = subst (λ (n : Text). Adds d e (n ∷ words)) (sym (same_true name (codes "rank") ik)) (inr (inr (inr (inl (rule_adds d e words h)))))
line_adds d e name words false false false false ir il io ik h =
    inr (inr (inr (inr (record {
      router = λ a b. other_word name (codes "router") words (a ∷ b ∷ []) ir refl;
      link = λ a b. other_word name (codes "link") words (a ∷ b ∷ []) il refl;
      origin = λ a b. other_word name (codes "origin") words (a ∷ b ∷ []) io refl;
      new = named_net d e (setting_of name) words h;
    }))))

words_add : (d e : NetworkSoFar) (words : List Text) → words_line d words ≡ Ok e → Adds d e words
words_add d e [] h =
    let same_draft : d ≡ e = cc in
    inr (inr (inr (inr (record {
      router = λ a b k. absurd (cc);
      link = λ a b k. absurd (cc);
      origin = λ a b k. absurd (cc);
      new = ap (λ (x : NetworkSoFar). x.net) (sym same_draft);
    }))))
words_add d e (name ∷ words) h = line_adds d e name words _ _ _ _ refl refl refl refl h

-- a line that is skipped names nothing
no_words : (words : List Text) (c : Text) (more : List Text) → says_nothing words ≡ true → says_nothing (c ∷ more) ≡ false → words ≡ c ∷ more → ⊥
no_words words c more none some e = (let k : true ≡ false = sym none ∙ ap says_nothing e ∙ some in absurd cc)

adds_by : (d e : NetworkSoFar) (line : Text) (b c : Bool) → is_skipped line ≡ b → is_ascii line ≡ c → cond b (Ok d) (cond (not c) (Err kinds.BadForm) (words_line d (words_of line))) ≡ Ok e → Adds d e (words_of line)
adds_by d e line true c is ascii h =
    let same_draft : d ≡ e = cc in
    inr (inr (inr (inr (record {
      router = λ a b. no_words (words_of line) (codes "router") (a ∷ b ∷ []) is refl;
      link = λ a b. no_words (words_of line) (codes "link") (a ∷ b ∷ []) is refl;
      origin = λ a b. no_words (words_of line) (codes "origin") (a ∷ b ∷ []) is refl;
      new = ap (λ (x : NetworkSoFar). x.net) (sym same_draft);
    }))))
adds_by d e line false false is ascii h = absurd cc
adds_by d e line false true is ascii h = words_add d e (words_of line) h

pub adds : (d e : NetworkSoFar) (line : Text) → line_reading d line ≡ Ok e → Adds d e (words_of line)
adds d e line h = adds_by d e line (is_skipped line) (is_ascii line) refl refl h
