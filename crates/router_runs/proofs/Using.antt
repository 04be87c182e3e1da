-- The messages that moves use, and the UPDATEs among them that a side acted on.
use Rattle.std.proofs.Common.{◌≡◌, ℕ, ◌==◌, Bool, true, false, ◌&&◌, cond, List, [], ◌∷◌, ◌++◌, filter, refl, ap, sym, ◌∙◌, arith, append_assoc, inl, inr, ◌⊎◌}
use Rattle.std.specs.Prelude.{map}
use Rattle.std.proofs.lemmas.List.{append-nil, append_cancel_left}
use Rattle.std.proofs.lemmas.Bool.Decides.{nat_tests}
use Rattle.bgp_codec.specs.declared.message.Message.{Message}
use Rattle.bgp_codec.specs.declared.message.Message.TheVariants.{OpenMsg, UpdateMsg, NoticeMsg, AliveMsg}
use Rattle.bgp_codec.specs.declared.update.Update.{Update}
use Rattle.run_model.specs.Links as links
use Rattle.run_model.specs.Links.{Entry, Dial, Says, Mark, Shut, End, Move, Dials, Tells, Marks, HangsUp, Takes, incarnation, said, is_joined, used_with}
use Rattle.run_model.specs.Sessions.{afters}
use Rattle.run_model.specs.Recordings.{used_by}
use Rattle.router_model.specs.Messages.{is_update, updates_in}
use Rattle.router_model.specs.Sides.{Side}
use Rattle.router_runs.specs.Reading.{Reads}
use Rattle.router_runs.proofs.Entries.{updates-append}
use Rattle.router_runs.proofs.Lower.{Laws, said-append}

-- the messages that moves use
abbrev pub uses : End Message → List (Move Message) → List Message
uses a [] = []
uses a (m ∷ ms) = used_by a m ++ uses (links.after a m) ms

-- with their incarnations
abbrev entries_by : End Message → Move Message → List (Entry Message)
entries_by a Dials = []
entries_by a (Tells m) = []
entries_by a (Marks n) = []
entries_by a HangsUp = []
entries_by a (Takes (Dial e)) = []
entries_by a (Takes (Says e m)) = cond (is_joined a.phase && (incarnation a == e)) (Says e m ∷ []) []
entries_by a (Takes (Mark e n)) = []
entries_by a (Takes (Shut e)) = []

abbrev entries : End Message → List (Move Message) → List (Entry Message)
entries a [] = []
entries a (m ∷ ms) = entries_by a m ++ entries (links.after a m) ms

abbrev messages : List (Entry Message) → List Message
messages [] = []
messages (Dial e ∷ xs) = messages xs
messages (Says e m ∷ xs) = m ∷ messages xs
messages (Mark e n ∷ xs) = messages xs
messages (Shut e ∷ xs) = messages xs

messages_append : (xs ys : List (Entry Message)) → messages (xs ++ ys) ≡ messages xs ++ messages ys
messages_append [] ys = refl
messages_append (Dial e ∷ xs) ys = messages_append xs ys
messages_append (Says e m ∷ xs) ys = ap (λ w. m ∷ w) (messages_append xs ys)
messages_append (Mark e n ∷ xs) ys = messages_append xs ys
messages_append (Shut e ∷ xs) ys = messages_append xs ys

one_message : (c : Bool) (e : ℕ) (m : Message) → cond c (m ∷ []) [] ≡ messages (cond c (Says e m ∷ []) [])
one_message true e m = refl
one_message false e m = refl

used_one : (a : End Message) (m : Move Message) → used_by a m ≡ messages (entries_by a m)
used_one a Dials = refl
used_one a (Tells m) = refl
used_one a (Marks n) = refl
used_one a HangsUp = refl
used_one a (Takes (Dial e)) = refl
used_one a (Takes (Says e m)) = one_message (is_joined a.phase && (incarnation a == e)) e m
used_one a (Takes (Mark e n)) = refl
used_one a (Takes (Shut e)) = refl

uses_are : (ms : List (Move Message)) (a : End Message) → uses a ms ≡ messages (entries a ms)
uses_are [] a = refl
uses_are (m ∷ ms) a =
    ap (λ w. w ++ uses (links.after a m) ms) (used_one a m)
    ∙ (ap (λ w. messages (entries_by a m) ++ w) (uses_are ms (links.after a m)) ∙ sym (messages_append (entries_by a m) (entries (links.after a m) ms)))

said_used : (p : links.Phase) (n e : ℕ) (m : Message) (used : List (Entry Message)) → used_with p n e m used ≡ used ++ cond (is_joined p && (n == e)) (Says e m ∷ []) []
said_used links.Closed n e m used = sym (append-nil used)
said_used links.Offered n e m used = sym (append-nil used)
said_used links.Joined n e m used = at (n == e)
  where
    at : (c : Bool) → cond c (used ++ Says e m ∷ []) used ≡ used ++ cond c (Says e m ∷ []) []
    at true = refl
    at false = sym (append-nil used)

used_after : (a : End Message) (m : Move Message) → (links.after a m).used ≡ a.used ++ entries_by a m
used_after a Dials = sym (append-nil a.used)
used_after a (Tells m) = sym (append-nil a.used)
used_after a (Marks n) = sym (append-nil a.used)
used_after a HangsUp = sym (append-nil a.used)
used_after a (Takes (Dial e)) = sym (append-nil a.used)
used_after a (Takes (Says e m)) = said_used a.phase (incarnation a) e m a.used
used_after a (Takes (Mark e n)) = sym (append-nil a.used)
used_after a (Takes (Shut e)) = sym (append-nil a.used)

used_more : (ms : List (Move Message)) (a : End Message) → (afters a ms).used ≡ a.used ++ entries a ms
used_more [] a = sym (append-nil a.used)
used_more (m ∷ ms) a = used_more ms (links.after a m) ∙ (ap (λ w. w ++ entries (links.after a m) ms) (used_after a m) ∙ append_assoc a.used (entries_by a m) (entries (links.after a m) ms))

-- ---- the UPDATEs among them

not_update : (c : Bool) (m : Message) (xs : List Message) → is_update m ≡ false → updates_in (cond c (m ∷ xs) xs) ≡ updates_in xs
not_update true (OpenMsg o) xs h = refl
not_update true (UpdateMsg u) xs h = absurd (cc h)
not_update true (NoticeMsg n) xs h = refl
not_update true AliveMsg xs h = refl
not_update false m xs h = refl

itself : (e : ℕ) → (e == e) ≡ true
itself e = grind (arith, nat_tests)

no_updates : (xs : List (Entry Message)) → ((e : ℕ) → updates_in (said e xs) ≡ []) → filter is_update (messages xs) ≡ []
no_updates [] h = refl
no_updates (Dial f ∷ xs) h = no_updates xs h
no_updates (Says f (OpenMsg o) ∷ xs) h = no_updates xs (λ e. sym (not_update (e == f) (OpenMsg o) (said e xs) refl) ∙ h e)
no_updates (Says f (UpdateMsg u) ∷ xs) h = absurd (let k : u ∷ updates_in (said f xs) ≡ [] = sym (ap (λ c. updates_in (cond c (UpdateMsg u ∷ said f xs) (said f xs))) (itself f)) ∙ h f in cc k)
no_updates (Says f (NoticeMsg n) ∷ xs) h = no_updates xs (λ e. sym (not_update (e == f) (NoticeMsg n) (said e xs) refl) ∙ h e)
no_updates (Says f AliveMsg ∷ xs) h = no_updates xs (λ e. sym (not_update (e == f) AliveMsg (said e xs) refl) ∙ h e)
no_updates (Mark f n ∷ xs) h = no_updates xs h
no_updates (Shut f ∷ xs) h = no_updates xs h

-- one, of incarnation n
one_update : (xs : List (Entry Message)) (n : ℕ) (u : Update) → ((e : ℕ) → updates_in (said e xs) ≡ cond (e == n) (u ∷ []) []) → filter is_update (messages xs) ≡ UpdateMsg u ∷ []
one_update [] n u h = absurd (let k : [] ≡ u ∷ [] = h n ∙ ap (λ c. cond c (u ∷ []) []) (itself n) in cc k)
one_update (Dial f ∷ xs) n u h = one_update xs n u h
one_update (Says f (OpenMsg o) ∷ xs) n u h = one_update xs n u (λ e. sym (not_update (e == f) (OpenMsg o) (said e xs) refl) ∙ h e)
one_update (Says f (UpdateMsg w) ∷ xs) n u h = at (f == n) refl
  where
    here : w ∷ updates_in (said f xs) ≡ cond (f == n) (u ∷ []) []
    here = sym (ap (λ c. updates_in (cond c (UpdateMsg w ∷ said f xs) (said f xs))) (itself f)) ∙ h f

    others : (e : ℕ) (c : Bool) → (e == f) ≡ c → (f == n) ≡ true → updates_in (said f xs) ≡ [] → updates_in (cond c (UpdateMsg w ∷ said e xs) (said e xs)) ≡ cond (e == n) (u ∷ []) [] → updates_in (said e xs) ≡ []
    others e true is at_n none k = (let same : e ≡ f = grind (arith, nat_tests, is) in ap (λ i. updates_in (said i xs)) same ∙ none)
    others e false is at_n none k = (let off : (e == n) ≡ false = grind (arith, nat_tests, is, at_n) in k ∙ ap (λ c. cond c (u ∷ []) []) off)

    at : (c : Bool) → (f == n) ≡ c → UpdateMsg w ∷ filter is_update (messages xs) ≡ UpdateMsg u ∷ []
    at true is =
        let k : w ∷ updates_in (said f xs) ≡ u ∷ [] = here ∙ ap (λ c. cond c (u ∷ []) []) is in
        let same : w ≡ u = cc k in
        let none : updates_in (said f xs) ≡ [] = cc k in
        ap (λ i. UpdateMsg i ∷ filter is_update (messages xs)) same ∙ ap (λ l. UpdateMsg u ∷ l) (no_updates xs (λ e. others e (e == f) refl is none (h e)))
    at false is = absurd (let k : w ∷ updates_in (said f xs) ≡ [] = here ∙ ap (λ c. cond c (u ∷ []) []) is in cc k)
one_update (Says f (NoticeMsg k) ∷ xs) n u h = one_update xs n u (λ e. sym (not_update (e == f) (NoticeMsg k) (said e xs) refl) ∙ h e)
one_update (Says f AliveMsg ∷ xs) n u h = one_update xs n u (λ e. sym (not_update (e == f) AliveMsg (said e xs) refl) ∙ h e)
one_update (Mark f k ∷ xs) n u h = one_update xs n u h
one_update (Shut f ∷ xs) n u h = one_update xs n u h

-- a side acts on nothing, or on one UPDATE
abbrev pub Hears : Side → Side → List Update → Type 0
Hears s t us =
    ((us ≡ []) × ((e : ℕ) → t.acted e ≡ s.acted e))
    ⊎ ((u : Update) × (n : ℕ) × (us ≡ u ∷ []) × ((e : ℕ) → t.acted e ≡ cond (e == n) (s.acted e ++ u ∷ []) (s.acted e)))

module _ (laws : Laws) where
  new_updates : (s t : Side) (a : End Message) (ms : List (Move Message)) → Reads s a → Reads t (afters a ms) → (e : ℕ) → t.acted e ≡ s.acted e ++ updates_in (said e (entries a ms))
  new_updates s t a ms r q e =
      q.acted e ∙ (ap (λ w. updates_in (said e w)) (used_more ms a) ∙ (ap updates_in (said-append laws e a.used (entries a ms))
      ∙ (updates-append (said e a.used) (said e (entries a ms)) ∙ ap (λ w. w ++ updates_in (said e (entries a ms))) (sym (r.acted e)))))

  by_cond : (c : Bool) (us : List Update) (u : Update) → cond c (us ++ u ∷ []) us ≡ us ++ cond c (u ∷ []) []
  by_cond true us u = refl
  by_cond false us u = sym (append-nil us)

  pub used_updates : (s t : Side) (a : End Message) (ms : List (Move Message)) (us : List Update) → Reads s a → Reads t (afters a ms) → Hears s t us → filter is_update (uses a ms) ≡ map UpdateMsg us
  used_updates s t a ms us r q (inl h) =
      ap (filter is_update) (uses_are ms a)
      ∙ (no_updates (entries a ms) (λ e. sym (append_cancel_left (s.acted e) [] (updates_in (said e (entries a ms))) (append-nil (s.acted e) ∙ (sym (h.1 e) ∙ new_updates s t a ms r q e))))
      ∙ ap (map UpdateMsg) (sym h.0))
  used_updates s t a ms us r q (inr h) =
      let u : Update = h.0 in
      let n : ℕ = h.1 in
      ap (filter is_update) (uses_are ms a)
      ∙ (one_update (entries a ms) n u
      (λ e. sym (append_cancel_left (s.acted e) (cond (e == n) (u ∷ []) []) (updates_in (said e (entries a ms))) (sym (by_cond (e == n) (s.acted e) u) ∙ (sym (h.3 e) ∙ new_updates s t a ms r q e))))
      ∙ ap (map UpdateMsg) (sym h.2))
