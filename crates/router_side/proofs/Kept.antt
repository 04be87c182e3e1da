-- What is kept grows at its end, and is read from its front.
use Rattle.std.proofs.Common.{◌≡◌, ℕ, ◌==◌, ◌≤◌, ◌+◌, ◌-◌, Bool, true, false, cond, List, [], ◌∷◌, ◌++◌, length, take, drop, append_assoc, refl, ap, sym, ◌∙◌, subst, arith}
use Rattle.std.proofs.Math.Path.{fun_ext}
use Rattle.std.proofs.Math.Seq.{take-length, drop-length, take-append_seam, drop-append_seam}
use Rattle.std.proofs.lemmas.List.{length-append, append-nil, take-append-le, drop-append-le}
use Rattle.std.specs.Prelude.{Result, Ok}
use Rattle.bgp_values.specs.declared.width.Width.{Width}
use Rattle.bgp_codec.specs.declared.fault.Fault.{Fault}
use Rattle.bgp_codec.specs.declared.message.Message.{Message}
use Rattle.bgp_codec.specs.declared.message.Message.TheVariants.{UpdateMsg}
use Rattle.bgp_codec.specs.declared.update.Update.{Update}
use Rattle.bgp_codec.specs.Header.{IsFrame}
use Rattle.bgp_codec.specs.Faults.{reading, WrittenIsRead}
use Rattle.bgp_codec.specs.Spelling.{written}
use Rattle.router_model.specs.Sides.{with_update}
use Rattle.router_side.specs.declared.block.Block.{Block}
use Rattle.router_side.specs.declared.block.Stored.{Stored}
use Rattle.router_side.specs.declared.history.PastUpdate.{PastUpdate}
use Rattle.router_side.specs.Histories.{Place, history, updates_read, dated, told_in, told_stored, told_by_blocks, entries_in, octets_in, places_of, spelt_by, spelt, spelt_in, stored_len, AreKept, IsStored, AreStored, AreAllStored, PutsBehind}
use Rattle.router_side.specs.Sayings.{nobody, IsSayable}

under : (b c : Bool) (t u : Update) (us : List Update) → cond b (t ∷ cond c (us ++ u ∷ []) us) (cond c (us ++ u ∷ []) us) ≡ cond c (cond b (t ∷ us) us ++ u ∷ []) (cond b (t ∷ us) us)
under b c t u us = grind arith

history_at : (ts : List PastUpdate) (t : PastUpdate) (n : ℕ) → history (ts ++ t ∷ []) n ≡ with_update (history ts) t.epoch t.update n
history_at [] t n = refl
history_at (s ∷ ts) t n = rw (history_at ts t n) (under (n == s.epoch) (n == t.epoch) s.update t.update (history ts n))

pub history_on : (ts : List PastUpdate) (t : PastUpdate) → history (ts ++ t ∷ []) ≡ with_update (history ts) t.epoch t.update
history_on ts t = fun_ext (history_at ts t)

-- ---- octets behind the others

pub kept_on : (ps : List Place) (octets new : List ℕ) (p : Place) → AreKept ps octets → AreKept (p ∷ []) new → AreKept (ps ++ p ∷ []) (octets ++ new)
kept_on [] octets new p none one = subst (λ (os : List ℕ). AreKept (p ∷ []) (os ++ new)) (sym none) one
kept_on (q ∷ ps) octets new p (le, is, kept) one =
    let front = take-append-le q.len octets new le in
    let behind = drop-append-le q.len octets new le in
    (longer le, subst IsFrame (sym front) is, subst (AreKept (ps ++ p ∷ [])) (sym behind) (kept_on ps (drop q.len octets) new p kept one))
  where
    longer : q.len ≤ length octets → q.len ≤ length (octets ++ new)
    longer le = omega (arith, le, length-append octets new)

pub told_on : (width : Width) (ps : List Place) (octets new : List ℕ) (more : List Place) → AreKept ps octets → told_in width (ps ++ more) (octets ++ new) ≡ told_in width ps octets ++ told_in width more new
told_on width [] octets new more none = ap (λ (os : List ℕ). told_in width more (os ++ new)) none
told_on width (q ∷ ps) octets new more (le, is, kept) =
    let front = take-append-le q.len octets new le in
    let behind = drop-append-le q.len octets new le in
    let one = λ (os : List ℕ). dated q.epoch (updates_read (reading (nobody width) os)) in
    ap (λ (os : List ℕ). one os ++ told_in width (ps ++ more) (drop q.len (octets ++ new))) front
    ∙ ap (λ (os : List ℕ). one (take q.len octets) ++ told_in width (ps ++ more) os) behind
    ∙ ap (λ (ts : List PastUpdate). one (take q.len octets) ++ ts) (told_on width ps (drop q.len octets) new more kept)
    ∙ sym (append_assoc (one (take q.len octets)) (told_in width ps (drop q.len octets)) (told_in width more new))

pub one_told : (width : Width) (p : Place) (octets : List ℕ) (u : Update) → reading (nobody width) octets ≡ Ok (UpdateMsg u) → p.len ≡ length octets → told_in width (p ∷ []) octets ≡ record { epoch = p.epoch; update = u } ∷ []
one_told width p octets u read len =
    let whole = ap (λ (n : ℕ). take n octets) len ∙ take-length octets in
    ap (λ (os : List ℕ). dated p.epoch (updates_read (reading (nobody width) os)) ++ []) whole
    ∙ ap (λ (r : Result Message Fault). dated p.epoch (updates_read r) ++ []) read

-- what is written of it
pub written_kept : (width : Width) → WrittenIsRead → (octets : List ℕ) (u : Update) → IsSayable width (UpdateMsg u) → octets ≡ written width (UpdateMsg u) → IsFrame octets × (reading (nobody width) octets ≡ Ok (UpdateMsg u))
written_kept width read octets u sayable is =
    let w = read (nobody width) (UpdateMsg u) refl refl sayable.0 sayable.1 in
    (subst IsFrame (sym is) w.0, ap (reading (nobody width)) is ∙ w.1)

-- the histories of all incarnations with one more
pub history_grown : (width : Width) (ps : List Place) (octets new : List ℕ) (p : Place) (u : Update) → AreKept ps octets → reading (nobody width) new ≡ Ok (UpdateMsg u) → p.len ≡ length new
    → history (told_in width (ps ++ p ∷ []) (octets ++ new)) ≡ with_update (history (told_in width ps octets)) p.epoch u
history_grown width ps octets new p u kept read len =
    let t : PastUpdate = record { epoch = p.epoch; update = u } in
    ap history (told_on width ps octets new (p ∷ []) kept ∙ ap (λ (ts : List PastUpdate). told_in width ps octets ++ ts) (one_told width p new u read len)) ∙ history_on (told_in width ps octets) t

-- an UPDATE that is read at a place
pub told_at : (width : Width) (octets : List ℕ) (t : PastUpdate) (epoch : ℕ) → t.epoch ≡ epoch → updates_read (reading (nobody width) octets) ≡ t.update ∷ [] → dated epoch (updates_read (reading (nobody width) octets)) ≡ t ∷ []
told_at width octets t epoch e u = ap (λ (us : List Update). dated epoch us) u ∙ ap (λ (n : ℕ). record { epoch = n; update = t.update } ∷ []) (sym e)

-- ---- octets that are stored of them

pub spelt_length : (short : Bool) (len : ℕ) (os : List ℕ) → length (spelt_by short len os) ≡ cond short (29 + length os) (length os)
spelt_length true len os = omega arith
spelt_length false len os = refl

stored_by : (short : Bool) (len : ℕ) (os : List ℕ) → len ≡ length (spelt_by short len os) → cond short (len - 29) len ≡ length os
stored_by true len os e = let n = spelt_length true len os in omega (arith, e, n)
stored_by false len os e = e

stored_is : (p : Stored) (os : List ℕ) → p.len ≡ length (spelt p os) → stored_len p ≡ length os
stored_is p os e = stored_by p.short p.len os e

pub one_stored : (p : Stored) (os : List ℕ) → IsStored p os → AreStored (p ∷ []) os
one_stored p os one =
    let n = stored_is p os one.1 in
    let whole = ap (λ (n : ℕ). take n os) n ∙ take-length os in
    (omega (arith, n), subst (IsStored p) (sym whole) one, ap (λ (n : ℕ). drop n os) n ∙ drop-length os)

one_spelt : (p : Stored) (os : List ℕ) → IsStored p os → spelt_in (p ∷ []) os ≡ spelt p os
one_spelt p os one =
    let n = stored_is p os one.1 in
    let whole = ap (λ (n : ℕ). take n os) n ∙ take-length os in
    ap (λ (xs : List ℕ). spelt p xs ++ []) whole ∙ append-nil (spelt p os)

pub stored_on : (ps : List Stored) (os new : List ℕ) (p : Stored) → AreStored ps os → AreStored (p ∷ []) new → AreStored (ps ++ p ∷ []) (os ++ new)
stored_on [] os new p none one = subst (λ (xs : List ℕ). AreStored (p ∷ []) (xs ++ new)) (sym none) one
stored_on (q ∷ ps) os new p (le, is, kept) one =
    let front = take-append-le (stored_len q) os new le in
    let behind = drop-append-le (stored_len q) os new le in
    (longer le, subst (IsStored q) (sym front) is, subst (AreStored (ps ++ p ∷ [])) (sym behind) (stored_on ps (drop (stored_len q) os) new p kept one))
  where
    longer : stored_len q ≤ length os → stored_len q ≤ length (os ++ new)
    longer le = omega (arith, le, length-append os new)

spelt_on : (ps : List Stored) (os new : List ℕ) (more : List Stored) → AreStored ps os → spelt_in (ps ++ more) (os ++ new) ≡ spelt_in ps os ++ spelt_in more new
spelt_on [] os new more none = ap (λ (xs : List ℕ). spelt_in more (xs ++ new)) none
spelt_on (q ∷ ps) os new more (le, is, kept) =
    let front = take-append-le (stored_len q) os new le in
    let behind = drop-append-le (stored_len q) os new le in
    let one = spelt q (take (stored_len q) os) in
    ap (λ (xs : List ℕ). spelt q xs ++ spelt_in (ps ++ more) (drop (stored_len q) (os ++ new))) front
    ∙ ap (λ (xs : List ℕ). one ++ spelt_in (ps ++ more) xs) behind
    ∙ ap (λ (xs : List ℕ). one ++ xs) (spelt_on ps (drop (stored_len q) os) new more kept)
    ∙ sym (append_assoc one (spelt_in ps (drop (stored_len q) os)) (spelt_in more new))

-- what is spelt in front is a place's own
kept_front : (q : Place) (ps : List Place) (a b : List ℕ) → IsFrame a → q.len ≡ length a → AreKept ps b → AreKept (q ∷ ps) (a ++ b)
kept_front q ps a b is len kept =
    let front = ap (λ (n : ℕ). take n (a ++ b)) len ∙ take-append_seam a b in
    let behind = ap (λ (n : ℕ). drop n (a ++ b)) len ∙ drop-append_seam a b in
    (omega (arith, len, length-append a b), subst IsFrame (sym front) is, subst (AreKept ps) (sym behind) kept)

pub kept_of : (ps : List Stored) (os : List ℕ) → AreStored ps os → AreKept (places_of ps) (spelt_in ps os)
kept_of [] os none = refl
kept_of (q ∷ ps) os (le, is, rest) = kept_front (record { epoch = q.epoch; len = q.len }) (places_of ps) (spelt q (take (stored_len q) os)) (spelt_in ps (drop (stored_len q) os)) is.0 is.1 (kept_of ps (drop (stored_len q) os) rest)

-- the UPDATE of the first place, and those behind it
pub first_told : (width : Width) (q : Stored) (ps : List Stored) (os : List ℕ) → AreStored (q ∷ ps) os
    → told_stored width (q ∷ ps) os ≡ dated q.epoch (updates_read (reading (nobody width) (spelt q (take (stored_len q) os)))) ++ told_stored width ps (drop (stored_len q) os)
first_told width q ps os (le, is, rest) =
    let a = spelt q (take (stored_len q) os) in
    let b = spelt_in ps (drop (stored_len q) os) in
    let front = ap (λ (n : ℕ). take n (a ++ b)) is.1 ∙ take-append_seam a b in
    let behind = ap (λ (n : ℕ). drop n (a ++ b)) is.1 ∙ drop-append_seam a b in
    let one = λ (xs : List ℕ). dated q.epoch (updates_read (reading (nobody width) xs)) in
    ap (λ (xs : List ℕ). one xs ++ told_in width (places_of ps) (drop q.len (a ++ b))) front ∙ ap (λ (xs : List ℕ). one a ++ told_in width (places_of ps) xs) behind

-- the places of more
places_more : (ps qs : List Stored) → places_of (ps ++ qs) ≡ places_of ps ++ places_of qs
places_more [] qs = refl
places_more (p ∷ ps) qs = ap (λ (xs : List Place). record { epoch = p.epoch; len = p.len } ∷ xs) (places_more ps qs)

-- the histories of all incarnations with one more
pub history_stored : (width : Width) (ps : List Stored) (os new : List ℕ) (p : Stored) (u : Update) → AreStored ps os → IsStored p new → reading (nobody width) (spelt p new) ≡ Ok (UpdateMsg u)
    → history (told_stored width (ps ++ p ∷ []) (os ++ new)) ≡ with_update (history (told_stored width ps os)) p.epoch u
history_stored width ps os new p u all one read =
    ap (λ (qs : List Place). history (told_in width qs (spelt_in (ps ++ p ∷ []) (os ++ new)))) (places_more ps (p ∷ []))
    ∙ ap (λ (xs : List ℕ). history (told_in width (places_of ps ++ places_of (p ∷ [])) xs)) (spelt_on ps os new (p ∷ []) all ∙ ap (λ (xs : List ℕ). spelt_in ps os ++ xs) (one_spelt p new one))
    ∙ history_grown width (places_of ps) (spelt_in ps os) (spelt p new) (record { epoch = p.epoch; len = p.len }) u (kept_of ps os all) read one.1

-- what was put behind a front, as it stands behind the old octets
pub record Behind (front whole old new rest : List ℕ) : Type 0 where
  pub is : new ≡ old ++ rest
  pub spells : spelt_by true (29 + length rest) rest ≡ whole
  pub joined : front ++ rest ≡ whole

pub put_behind : (front whole old new rest : List ℕ) → PutsBehind front whole old new → rest ≡ drop (length old) new → Behind front whole old new rest
put_behind front whole old new rest b e =
    let same : rest ≡ b.rest = e ∙ ap (λ (xs : List ℕ). drop (length old) xs) b.appended ∙ drop-append_seam old b.rest in
    let len : length whole ≡ 29 + length b.rest = sym (ap length b.spells) ∙ spelt_length true (length whole) b.rest in
    record {
      is = b.appended ∙ ap (λ (xs : List ℕ). old ++ xs) (sym same);
      spells = ap (λ (xs : List ℕ). spelt_by true (29 + length xs) xs) same ∙ ap (λ (n : ℕ). spelt_by true n b.rest) (sym len) ∙ b.spells;
      joined = ap (λ (xs : List ℕ). front ++ xs) same ∙ ap (λ (xs : List ℕ). xs ++ b.rest) b.front_is ∙ b.spells;
    }

-- ---- blocks one behind the other

-- what blocks tell, and what is told behind them
pub told_behind : (width : Width) (bs : List Block) (ps : List Place) (octets : List ℕ) → AreAllStored bs → told_in width (entries_in bs ++ ps) (octets_in bs ++ octets) ≡ told_by_blocks width bs ++ told_in width ps octets
told_behind width [] ps octets kept = refl
told_behind width (b ∷ bs) ps octets (one, kept) =
    let spelt = spelt_in b.places.items b.octets.items in
    ap (λ (qs : List Place). told_in width qs ((spelt ++ octets_in bs) ++ octets)) (append_assoc (places_of b.places.items) (entries_in bs) ps)
    ∙ ap (λ (os : List ℕ). told_in width (places_of b.places.items ++ (entries_in bs ++ ps)) os) (append_assoc spelt (octets_in bs) octets)
    ∙ told_on width (places_of b.places.items) spelt (octets_in bs ++ octets) (entries_in bs ++ ps) (kept_of b.places.items b.octets.items one)
    ∙ ap (λ (ts : List PastUpdate). told_stored width b.places.items b.octets.items ++ ts) (told_behind width bs ps octets kept)
    ∙ sym (append_assoc (told_stored width b.places.items b.octets.items) (told_by_blocks width bs) (told_in width ps octets))

-- a block more
pub entries_more : (bs : List Block) (b : Block) → entries_in (bs ++ b ∷ []) ≡ entries_in bs ++ places_of b.places.items
entries_more [] b = append-nil (places_of b.places.items)
entries_more (a ∷ bs) b = ap (λ (ps : List Place). places_of a.places.items ++ ps) (entries_more bs b) ∙ sym (append_assoc (places_of a.places.items) (entries_in bs) (places_of b.places.items))

pub octets_more : (bs : List Block) (b : Block) → octets_in (bs ++ b ∷ []) ≡ octets_in bs ++ spelt_in b.places.items b.octets.items
octets_more [] b = append-nil (spelt_in b.places.items b.octets.items)
octets_more (a ∷ bs) b =
    let spelt = spelt_in a.places.items a.octets.items in
    ap (λ (os : List ℕ). spelt ++ os) (octets_more bs b) ∙ sym (append_assoc spelt (octets_in bs) (spelt_in b.places.items b.octets.items))

-- the histories of what is told behind
history_behind : (ts us : List PastUpdate) (n : ℕ) → history (ts ++ us) n ≡ history ts n ++ history us n
history_behind [] us n = refl
history_behind (t ∷ ts) us n = rw (history_behind ts us n) (chosen (n == t.epoch) t.update (history ts n) (history us n))
  where
    chosen : (b : Bool) (u : Update) (vs ws : List Update) → cond b (u ∷ (vs ++ ws)) (vs ++ ws) ≡ cond b (u ∷ vs) vs ++ ws
    chosen true u vs ws = refl
    chosen false u vs ws = refl

grown_at : (ts us more : List PastUpdate) (e : ℕ) (u : Update) (n : ℕ) → history more ≡ with_update (history us) e u → history (ts ++ more) n ≡ with_update (history (ts ++ us)) e u n
grown_at ts us more e u n grown =
    history_behind ts more n
    ∙ ap (λ (h : ℕ → List Update). history ts n ++ h n) grown
    ∙ joined (n == e) (history ts n) (history us n)
    ∙ ap (λ (vs : List Update). cond (n == e) (vs ++ u ∷ []) vs) (sym (history_behind ts us n))
  where
    joined : (b : Bool) (vs ws : List Update) → vs ++ cond b (ws ++ u ∷ []) ws ≡ cond b ((vs ++ ws) ++ u ∷ []) (vs ++ ws)
    joined true vs ws = sym (append_assoc vs ws (u ∷ []))
    joined false vs ws = refl

pub grown_behind : (ts us more : List PastUpdate) (e : ℕ) (u : Update) → history more ≡ with_update (history us) e u → history (ts ++ more) ≡ with_update (history (ts ++ us)) e u
grown_behind ts us more e u grown = fun_ext (λ n. grown_at ts us more e u n grown)
