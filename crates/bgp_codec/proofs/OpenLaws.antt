-- What is read from an OPEN is spelt so, and what is spelt so is read.
use Rattle.std.proofs.Common.{◌≡◌, ℕ, ◌+◌, ◌≤◌, Bool, true, false, cond, List, [], ◌∷◌, ◌++◌, length, drop, Option, Some, None, Result, Ok, Err, refl, sym, ap, subst, ◌∙◌, eq-eqb, arith}
use Rattle.std.specs.Prelude.{◌==◌, not, slice_index}
use Rattle.std.specs.Int.{w16, w32, to_be_bytes}
use Rattle.std.proofs.lemmas.Bool.{eqb-true}
use Rattle.std.proofs.lemmas.List.{length-drop}
use Rattle.std.proofs.lemmas.Nat.{be_bytes_2, be_bytes_4, from_be_bytes-to_be_bytes_2, from_be_bytes-to_be_bytes_4}
use Rattle.bgp_codec.specs.declared.fault.Fault.{Fault}
use Rattle.bgp_codec.specs.Reading.{◌>>=◌}
use Rattle.bgp_codec.specs.declared.open.Cap.{Cap}
use Rattle.bgp_codec.specs.declared.open.Open.{Open}
use Rattle.bgp_codec.specs.declared.rule.Rule.{Rule}
use Rattle.bgp_codec.specs.Spelling.{IsOctets}
use Rattle.bgp_codec.specs.Opens.{params_reading, open_reading, unless, params_fault, open_of, open_octets, is_peer, asn_field, hold_field, id_field, OpenFits, SpellsOpen}
use Rattle.bgp_values.specs.Ranges.{is_hold_time, is_unicast}
use Rattle.bgp_codec.proofs.OctetLemmas.{octets_behind, two_octets, four_octets}
use Rattle.bgp_codec.proofs.OpenLemmas.{params_takes, params_again}

-- ---- an OPEN

-- the fields of a body that passes each check
pub record Checked (rule : Rule) (body : List ℕ) (params : List (List Cap)) : Type 0 where
  pub version : slice_index body 0 ≡ 4
  pub peer : is_peer rule.width rule.peer (asn_field body) ≡ true
  pub hold : is_hold_time (hold_field body) ≡ true
  pub id : is_unicast (id_field body) ≡ true
  pub size : length body ≡ 10 + slice_index body 9
  pub params_are : params_reading (drop 10 body) ≡ Ok params
  pub said : params_fault rule params ≡ None

checked_reads : (rule : Rule) (body : List ℕ) (params : List (List Cap)) → Checked rule body params → open_reading rule body ≡ Ok (open_of body params)
unfolding open_reading
checked_reads rule body params c =
    let version : (slice_index body 0 == 4) ≡ true = eq-eqb (slice_index body 0) 4 c.version in
    let size : (length body == 10 + slice_index body 9) ≡ true = eq-eqb (length body) (10 + slice_index body 9) c.size in
    rw (version, c.peer, c.hold, c.id, size, c.params_are, c.said) refl

passed : (b : Bool) (e : Fault) (rest : Result Open Fault) (o : Open) → cond (not b) (Err e) rest ≡ Ok o → (b ≡ true) × (rest ≡ Ok o)
passed true e rest o q = (refl, q)
passed false e rest o q = absurd cc

unless_found : (fault : Option Fault) (one o : Open) → unless fault one ≡ Ok o → (fault ≡ None) × (one ≡ o)
unless_found None one o e = (refl, cc)
unless_found (Some f) one o e = absurd cc

made_open : (rule : Rule) (body : List ℕ) (r : Result (List (List Cap)) Fault) (o : Open) → (r >>= λ params. unless (params_fault rule params) (open_of body params)) ≡ Ok o
    → (params : List (List Cap)) × (r ≡ Ok params) × (params_fault rule params ≡ None) × (open_of body params ≡ o)
made_open rule body (Ok params) o e = let u = unless_found (params_fault rule params) (open_of body params) o e in (params, refl, u.0, u.1)
made_open rule body (Err f) o e = absurd cc

read_checked : (rule : Rule) (body : List ℕ) (o : Open) → open_reading rule body ≡ Ok o → (params : List (List Cap)) × Checked rule body params × (open_of body params ≡ o)
unfolding open_reading
read_checked rule body o e =
    let a = passed (slice_index body 0 == 4) _ _ o e in
    let b = passed (is_peer rule.width rule.peer (asn_field body)) _ _ o a.1 in
    let d = passed (is_hold_time (hold_field body)) _ _ o b.1 in
    let f = passed (is_unicast (id_field body)) _ _ o d.1 in
    let g = passed (length body == 10 + slice_index body 9) _ _ o f.1 in
    let m = made_open rule body (params_reading (drop 10 body)) o g.1 in (
      m.0,
      record {
        version = eqb-true (slice_index body 0) 4 a.0;
        peer = b.0;
        hold = d.0;
        id = f.0;
        size = eqb-true (length body) (10 + slice_index body 9) g.0;
        params_are = m.1;
        said = m.2;
      },
      m.3,
    )

-- the first ten octets, and the rest
first_ten : (body : List ℕ) → 10 ≤ length body
    → body ≡ slice_index body 0 ∷ slice_index body 1 ∷ slice_index body 2 ∷ slice_index body 3 ∷ slice_index body 4 ∷ slice_index body 5 ∷ slice_index body 6 ∷ slice_index body 7 ∷ slice_index body 8
    ∷ slice_index body 9 ∷ drop 10 body
first_ten (a ∷ b ∷ c ∷ d ∷ e ∷ f ∷ g ∷ h ∷ i ∷ j ∷ rest) le = refl
first_ten [] le = absurd (omega arith)
first_ten (a ∷ []) le = absurd (omega arith)
first_ten (a ∷ b ∷ []) le = absurd (omega arith)
first_ten (a ∷ b ∷ c ∷ []) le = absurd (omega arith)
first_ten (a ∷ b ∷ c ∷ d ∷ []) le = absurd (omega arith)
first_ten (a ∷ b ∷ c ∷ d ∷ e ∷ []) le = absurd (omega arith)
first_ten (a ∷ b ∷ c ∷ d ∷ e ∷ f ∷ []) le = absurd (omega arith)
first_ten (a ∷ b ∷ c ∷ d ∷ e ∷ f ∷ g ∷ []) le = absurd (omega arith)
first_ten (a ∷ b ∷ c ∷ d ∷ e ∷ f ∷ g ∷ h ∷ []) le = absurd (omega arith)
first_ten (a ∷ b ∷ c ∷ d ∷ e ∷ f ∷ g ∷ h ∷ i ∷ []) le = absurd (omega arith)

rejoin : (a b h g i j k l n : ℕ) (rest x y z : List ℕ) → x ≡ a ∷ b ∷ [] → y ≡ h ∷ g ∷ [] → z ≡ i ∷ j ∷ k ∷ l ∷ [] → 4 ∷ (x ++ (y ++ (z ++ (n ∷ rest)))) ≡ 4 ∷ a ∷ b ∷ h ∷ g ∷ i ∷ j ∷ k ∷ l ∷ n ∷ rest
rejoin a b h g i j k l n rest x y z ex ey ez = rw (ex, ey, ez) refl

-- joined again: the fields as they are written
joined : (v a b h g i j k l n : ℕ) (asn hold id : ℕ) (rest : List ℕ) → v ≡ 4 → to_be_bytes w16 asn ≡ a ∷ b ∷ [] → to_be_bytes w16 hold ≡ h ∷ g ∷ [] → to_be_bytes w32 id ≡ i ∷ j ∷ k ∷ l ∷ []
    → n ≡ length rest
    → v ∷ a ∷ b ∷ h ∷ g ∷ i ∷ j ∷ k ∷ l ∷ n ∷ rest ≡ 4 ∷ (to_be_bytes w16 asn ++ (to_be_bytes w16 hold ++ (to_be_bytes w32 id ++ (length rest ∷ rest))))
joined v a b h g i j k l n asn hold id rest ev ea eh ei en = rw (ev, en) (sym (rejoin a b h g i j k l (length rest) rest _ _ _ ea eh ei))

same_open : (o : Open) (asn hold id : ℕ) → asn ≡ o.asn → hold ≡ o.hold → id ≡ o.id → (let made : Open = record { asn = asn; hold = hold; id = id; params = o.params } in let r : Result Open Fault = Ok made in r ≡ Ok o)
same_open o asn hold id ea eh ei = rw (ea, eh, ei) refl

pub open_takes : (rule : Rule) (body : List ℕ) (o : Open) → IsOctets body → 10 ≤ length body → open_reading rule body ≡ Ok o → SpellsOpen rule body o
open_takes rule body o are long e =
    let r = read_checked rule body o e in
    let params = r.0 in
    let c = r.1 in
    let asn : to_be_bytes w16 (asn_field body) ≡ slice_index body 1 ∷ slice_index body 2 ∷ [] = be_bytes_2 _ (asn_field body) refl (two_octets _ _ (are 1) (are 2)) refl in
    let hold : to_be_bytes w16 (hold_field body) ≡ slice_index body 3 ∷ slice_index body 4 ∷ [] = be_bytes_2 _ (hold_field body) refl (two_octets _ _ (are 3) (are 4)) refl in
    let id : to_be_bytes w32 (id_field body) ≡ slice_index body 5 ∷ slice_index body 6 ∷ slice_index body 7 ∷ slice_index body 8 ∷ [] =
    be_bytes_4 _ (id_field body) refl (four_octets _ _ _ _ (are 5) (are 6) (are 7) (are 8)) refl in
    let behind = params_takes (drop 10 body) params (octets_behind 10 body are) c.params_are in
    let size : slice_index body 9 ≡ length (drop 10 body) = omega (arith, c.size, length-drop 10 body) in
    let whole : body ≡ open_octets (open_of body params) =
    first_ten body long ∙ joined _ _ _ _ _ _ _ _ _ _ (asn_field body) (hold_field body) (id_field body) (drop 10 body) c.version asn hold id size
    ∙ ap (λ (ps : List ℕ). 4 ∷ (to_be_bytes w16 (asn_field body) ++ (to_be_bytes w16 (hold_field body) ++ (to_be_bytes w32 (id_field body) ++ (length ps ∷ ps))))) behind.0 in
    subst (SpellsOpen rule body) r.2 (record {
      fits = record {
        asn = omega (arith, are 1, are 2);
        hold = omega (arith, are 3, are 4);
        hold_time = c.hold;
        id = omega (arith, are 5, are 6, are 7, are 8);
        unicast = c.id;
        params = behind.1;
        all = omega (arith, size, ap length behind.0, are 9);
      };
      peer = c.peer;
      said = c.said;
      whole = whole;
    })

pub open_again : (rule : Rule) (o : Open) → OpenFits o → is_peer rule.width rule.peer o.asn ≡ true → params_fault rule o.params ≡ None → open_reading rule (open_octets o) ≡ Ok o
open_again rule o fits peer said =
    let body = open_octets o in
    let asn : asn_field body ≡ o.asn = from_be_bytes-to_be_bytes_2 o.asn fits.asn in
    let hold : hold_field body ≡ o.hold = from_be_bytes-to_be_bytes_2 o.hold fits.hold in
    let id : id_field body ≡ o.id = from_be_bytes-to_be_bytes_4 o.id fits.id in
    let c : Checked rule body o.params = record {
      version = refl;
      peer = ap (is_peer rule.width rule.peer) asn ∙ peer;
      hold = ap is_hold_time hold ∙ fits.hold_time;
      id = ap is_unicast id ∙ fits.unicast;
      size = omega arith;
      params_are = params_again o.params fits.params;
      said = said;
    } in
    checked_reads rule body o.params c ∙ same_open o (asn_field body) (hold_field body) (id_field body) asn hold id
