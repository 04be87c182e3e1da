-- A text that spells a network is refused only for want of memory; what is refused otherwise is refused in one way.
use Rattle.std.proofs.Common.{◌≡◌, ◌≢◌, ℕ, List, [], length, ◌<◌, Result, Ok, Err, subst, sym, ◌∙◌, refl, inl, inr, rules}
use mathlib.Core.Logic.{◌⊎◌}
use Rattle.ranked_policy.specs.Plans.{Plan, IsNetwork, IsConnected}
use Rattle.ranked_policy.specs.declared.network.NetRouter.{NetRouter}
use Rattle.net_text.specs.declared.code.Code.{Code}
use Rattle.net_text.specs.declared.code.Code.TheVariants as codes
use Rattle.net_text.specs.declared.code.Refused.{Refused}
use Rattle.net_text.specs.declared.network_so_far.NetworkSoFar.{NetworkSoFar}
use Rattle.net_text.specs.Lexing.{Text}
use Rattle.net_text.specs.Networks.{SpellsNetwork, RefusesNetwork, IsNoNetwork, FailsAsNetwork, refused_at, draft_reading, last_line}
use Rattle.net_text.specs.Laws.{SpeltIsNotRefused, OneRefusal}

some_are_not_none : (routers : List NetRouter) → 0 < length routers → routers ≡ [] → ⊥
some_are_not_none routers some e = search rules

is_no_fault : (a b : Plan) → a ≡ b → IsNetwork a → (code : Code) → FailsAsNetwork b code → ⊥
is_no_fault a b e n code (inl r) = some_are_not_none b.routers (subst (λ (p : Plan). 0 < length p.routers) e n.some) r.1
is_no_fault a b e n code (inr r) = r.2 (subst (λ (p : Plan). IsConnected p.routers p.links) e n.connected)

same_net : (r : Result NetworkSoFar Refused) (d f : NetworkSoFar) → r ≡ Ok d → r ≡ Ok f → d.net ≡ f.net
same_net r d f one other = search rules

ok_is_no_error : (r : Result NetworkSoFar Refused) (d : NetworkSoFar) (f : Refused) → r ≡ Ok d → r ≡ Err f → ⊥
ok_is_no_error r d f one other = search rules

-- the text has a faulty line, or is no network as a whole
abbrev IsFaulty : List Text → ℕ → Code → Type 0
IsFaulty lines line code = (draft_reading lines ≡ Err (refused_at line code)) ⊎ (IsNoNetwork lines code × (line ≡ last_line lines))

is_faulty : (lines : List Text) (line : ℕ) (code : Code) → RefusesNetwork lines line code → (code ≡ codes.Memory) ⊎ IsFaulty lines line code
is_faulty lines line codes.Memory r = inl refl
is_faulty lines line codes.BadForm r = inr r
is_faulty lines line codes.Unreadable r = inr r
is_faulty lines line codes.UnknownRouter r = inr r
is_faulty lines line codes.Repeated r = inr r
is_faulty lines line codes.NotConnected r = inr r
is_faulty lines line codes.OutOfLimit r = inr r
is_faulty lines line codes.NotSimple r = inr r
is_faulty lines line codes.BadPrefix r = inr r
is_faulty lines line codes.NotPermitted r = inr r

is_not_faulty : (lines : List Text) (net : Plan) (line : ℕ) (code : Code) → SpellsNetwork lines net → IsFaulty lines line code → ⊥
is_not_faulty lines net line code spelt (inl e) = ok_is_no_error (draft_reading lines) _ _ spelt.whole e
is_not_faulty lines net line code spelt (inr bad) = is_no_fault net bad.0.draft.net (same_net (draft_reading lines) (record { named = spelt.named; net = net }) bad.0.draft spelt.whole bad.0.whole) spelt.network code bad.0.fault

memory_or : (lines : List Text) (net : Plan) (line : ℕ) (code : Code) → SpellsNetwork lines net → (code ≡ codes.Memory) ⊎ IsFaulty lines line code → code ≡ codes.Memory
memory_or lines net line code spelt (inl e) = e
memory_or lines net line code spelt (inr fault) = absurd (is_not_faulty lines net line code spelt fault)

pub spelt_is_not_refused : SpeltIsNotRefused
spelt_is_not_refused lines net line code spelt r = memory_or lines net line code spelt (is_faulty lines line code r)

-- ---- one refusal

same_fault : (r : Result NetworkSoFar Refused) (line other : ℕ) (code reason : Code) → r ≡ Err (refused_at line code) → r ≡ Err (refused_at other reason) → (line ≡ other) × (code ≡ reason)
same_fault r line other code reason one two = search rules

same_failure : (a b : Plan) → a ≡ b → (code reason : Code) → FailsAsNetwork a code → FailsAsNetwork b reason → code ≡ reason
same_failure a b e code reason (inl x) (inl y) = x.0 ∙ sym y.0
same_failure a b e code reason (inl x) (inr y) = absurd (y.1 (subst (λ (p : Plan). p.routers ≡ []) e x.1))
same_failure a b e code reason (inr x) (inl y) = absurd (x.1 (subst (λ (p : Plan). p.routers ≡ []) (sym e) y.1))
same_failure a b e code reason (inr x) (inr y) = x.0 ∙ sym y.0

faulty_once : (lines : List Text) (line other : ℕ) (code reason : Code) → IsFaulty lines line code → IsFaulty lines other reason → (line ≡ other) × (code ≡ reason)
faulty_once lines line other code reason (inl a) (inl b) = same_fault (draft_reading lines) line other code reason a b
faulty_once lines line other code reason (inl a) (inr b) = absurd (ok_is_no_error (draft_reading lines) _ _ b.0.whole a)
faulty_once lines line other code reason (inr a) (inl b) = absurd (ok_is_no_error (draft_reading lines) _ _ a.0.whole b)
faulty_once lines line other code reason (inr a) (inr b) =
    (a.1 ∙ sym b.1, same_failure _ _ (same_net (draft_reading lines) a.0.draft b.0.draft a.0.whole b.0.whole) code reason a.0.fault b.0.fault)

refused_once : (lines : List Text) (line other : ℕ) (code reason : Code) → code ≢ codes.Memory → reason ≢ codes.Memory
    → (code ≡ codes.Memory) ⊎ IsFaulty lines line code → (reason ≡ codes.Memory) ⊎ IsFaulty lines other reason → (line ≡ other) × (code ≡ reason)
refused_once lines line other code reason n m (inl e) b = absurd (n e)
refused_once lines line other code reason n m (inr a) (inl e) = absurd (m e)
refused_once lines line other code reason n m (inr a) (inr b) = faulty_once lines line other code reason a b

pub one_refusal : OneRefusal
one_refusal lines line other code reason n m a b = refused_once lines line other code reason n m (is_faulty lines line code a) (is_faulty lines other reason b)
