-- What a network text's reader answers.
use Rattle.std.proofs.Common.{◌≡◌, ℕ, ◌+◌, ◌==◌, true, false, ◌<◌, List, [], ◌∷◌, length, Result, Ok, Err, refl, sym, ap, subst, ◌∙◌, inl, inr, arith}
use Rattle.std.proofs.lemmas.Bool.{eqb-true, eqb-false, true≢false}
use Rattle.std.specs.Prelude.{IfOk, IfErr}
use Rattle.ranked_policy.specs.Plans.{Plan, IsNetwork}
use Rattle.net_text.specs.declared.code.Code.{Code}
use Rattle.net_text.specs.declared.code.Code.TheVariants as codes
use Rattle.net_text.specs.declared.network_so_far.NetworkSoFar.{NetworkSoFar}
use Rattle.net_text.specs.declared.assignment.Entry.{Entry}
use Rattle.net_text.specs.Lexing.{Text, lines_of}
use Rattle.net_text.specs.Lines.{line_reading}
use Rattle.net_text.specs.Networks.{empty_draft, draft_reading, last_line, SpellsNetwork, FailsAsNetwork, IsNoNetwork, RefusesNetwork}
use Rattle.net_text.specs.Assignments.{entry_reading, RefusesAssignment}
use Rattle.net_text.specs.Steps.{Refuses}
use Rattle.net_text.proofs.TextLemmas.{Reached, reached_fault, reached_memory}

abbrev pub NetworkReached : List Text → ℕ → NetworkSoFar → List Text → Type 0
NetworkReached lines line made left = Reached (λ line d words. line_reading d words) 0 (empty_draft lines) lines line made left

-- a line's refusal is the text's
pub refuses_network : (lines left rest : List Text) (line : ℕ) (made : NetworkSoFar) (next : Text) (code : Code) → left ≡ next ∷ rest → NetworkReached lines line made left
    → Refuses code (line_reading made next) → RefusesNetwork lines (line + 1) code
refuses_network lines left rest line made next codes.Memory l h e = reached_memory (λ line d words. line_reading d words) 0 (empty_draft lines) made lines left rest line next l h e
refuses_network lines left rest line made next codes.BadForm l h e = inl (reached_fault (λ line d words. line_reading d words) 0 (empty_draft lines) made lines left rest line next codes.BadForm l h e)
refuses_network lines left rest line made next codes.Unreadable l h e = inl (reached_fault (λ line d words. line_reading d words) 0 (empty_draft lines) made lines left rest line next codes.Unreadable l h e)
refuses_network lines left rest line made next codes.UnknownRouter l h e = inl (reached_fault (λ line d words. line_reading d words) 0 (empty_draft lines) made lines left rest line next codes.UnknownRouter l h e)
refuses_network lines left rest line made next codes.Repeated l h e = inl (reached_fault (λ line d words. line_reading d words) 0 (empty_draft lines) made lines left rest line next codes.Repeated l h e)
refuses_network lines left rest line made next codes.NotConnected l h e = inl (reached_fault (λ line d words. line_reading d words) 0 (empty_draft lines) made lines left rest line next codes.NotConnected l h e)
refuses_network lines left rest line made next codes.OutOfLimit l h e = inl (reached_fault (λ line d words. line_reading d words) 0 (empty_draft lines) made lines left rest line next codes.OutOfLimit l h e)
refuses_network lines left rest line made next codes.NotSimple l h e = inl (reached_fault (λ line d words. line_reading d words) 0 (empty_draft lines) made lines left rest line next codes.NotSimple l h e)
refuses_network lines left rest line made next codes.BadPrefix l h e = inl (reached_fault (λ line d words. line_reading d words) 0 (empty_draft lines) made lines left rest line next codes.BadPrefix l h e)
refuses_network lines left rest line made next codes.NotPermitted l h e = inl (reached_fault (λ line d words. line_reading d words) 0 (empty_draft lines) made lines left rest line next codes.NotPermitted l h e)

pub spells_network : (lines : List Text) (draft : NetworkSoFar) (net : Plan) → draft_reading lines ≡ Ok draft → net ≡ draft.net → IsNetwork net → SpellsNetwork lines net
spells_network lines draft net whole is network =
    record { named = draft.named; whole = whole ∙ ap (λ (p : Plan). Ok (record { named = draft.named; net = p })) (sym is); network = network }

-- a whole that is no network
pub fails_network : (lines : List Text) (draft : NetworkSoFar) (line : ℕ) (code : Code) → draft_reading lines ≡ Ok draft → line ≡ last_line lines → FailsAsNetwork draft.net code → RefusesNetwork lines line code
fails_network lines draft line code whole last fault =
    let none : IsNoNetwork lines code = record { draft = draft; whole = whole; fault = fault } in
    elim fault [
      | inl e ↦ subst (RefusesNetwork lines line) (sym e.0) (inr (subst (IsNoNetwork lines) e.0 none, last))
      | inr e ↦ subst (RefusesNetwork lines line) (sym e.0) (inr (subst (IsNoNetwork lines) e.0 none, last))
    ]

abbrev pub EntriesReached : Plan → ℕ → List Text → ℕ → List Entry → List Text → Type 0
EntriesReached net before lines line made left = Reached (entry_reading net) before [] lines line made left

pub refuses_assignment : (net : Plan) (before : ℕ) (lines left rest : List Text) (line : ℕ) (made : List Entry) (next : Text) (code : Code) → left ≡ next ∷ rest → EntriesReached net before lines line made left
    → Refuses code (entry_reading net (line + 1) made next) → RefusesAssignment net before lines (line + 1) code
refuses_assignment net before lines left rest line made next codes.Memory l h e = reached_memory (entry_reading net) before [] made lines left rest line next l h e
refuses_assignment net before lines left rest line made next codes.BadForm l h e = reached_fault (entry_reading net) before [] made lines left rest line next codes.BadForm l h e
refuses_assignment net before lines left rest line made next codes.Unreadable l h e = reached_fault (entry_reading net) before [] made lines left rest line next codes.Unreadable l h e
refuses_assignment net before lines left rest line made next codes.UnknownRouter l h e = reached_fault (entry_reading net) before [] made lines left rest line next codes.UnknownRouter l h e
refuses_assignment net before lines left rest line made next codes.Repeated l h e = reached_fault (entry_reading net) before [] made lines left rest line next codes.Repeated l h e
refuses_assignment net before lines left rest line made next codes.NotConnected l h e = reached_fault (entry_reading net) before [] made lines left rest line next codes.NotConnected l h e
refuses_assignment net before lines left rest line made next codes.OutOfLimit l h e = reached_fault (entry_reading net) before [] made lines left rest line next codes.OutOfLimit l h e
refuses_assignment net before lines left rest line made next codes.NotSimple l h e = reached_fault (entry_reading net) before [] made lines left rest line next codes.NotSimple l h e
refuses_assignment net before lines left rest line made next codes.BadPrefix l h e = reached_fault (entry_reading net) before [] made lines left rest line next codes.BadPrefix l h e
refuses_assignment net before lines left rest line made next codes.NotPermitted l h e = reached_fault (entry_reading net) before [] made lines left rest line next codes.NotPermitted l h e

-- ---- the end of a text

pub some_lines : (text : Text) → false ≡ (length text == 0) → 0 < length text
some_lines [] e = absurd (true≢false (sym e))
some_lines (x ∷ xs) e = omega arith

pub no_lines : (text : Text) → true ≡ (length text == 0) → lines_of text ≡ []
no_lines [] e = refl
no_lines (x ∷ xs) e = absurd (let at = eqb-true (length (x ∷ xs)) 0 (sym e) in omega (arith, at))

pub some_octets : (text : Text) → false ≡ (length text == 0) → 0 < length text
some_octets [] e = absurd (eqb-false 0 0 (sym e) refl)
some_octets (x ∷ xs) e = omega arith

pub both_ok : {X Y : Type 0} (r : Result X Y) (P Q R : X → Type 0) → ((x : X) → P x → Q x → R x) → IfOk r P → IfOk r Q → IfOk r R
both_ok (Ok x) P Q R f p q = f x p q
both_ok (Err y) P Q R f p q = p

pub both_err : {X Y : Type 0} (r : Result X Y) (P Q R : Y → Type 0) → ((y : Y) → P y → Q y → R y) → IfErr r P → IfErr r Q → IfErr r R
both_err (Ok x) P Q R f p q = p
both_err (Err y) P Q R f p q = f y p q
