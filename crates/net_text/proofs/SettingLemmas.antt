-- The settings of a network that lines spell are those that they name, and its hold time has two octets.
use Rattle.std.proofs.Common.{◌≡◌, ℕ, ◌+◌, ◌≤◌, ◌&&◌, nat_le, Bool, true, false, cond, List, [], ◌∷◌, Option, Some, None, Result, Ok, Err, refl, sym, ap, ◌∙◌, inl, inr, arith}
use Rattle.std.proofs.lemmas.Bool.{leb-true}
use Rattle.ranked_policy.specs.Plans.{Plan}
use Rattle.ranked_policy.specs.declared.network.Settings.{Settings}
use Rattle.net_text.specs.declared.code.Code.{Code}
use Rattle.net_text.specs.declared.network_so_far.NetworkSoFar.{NetworkSoFar}
use Rattle.net_text.specs.declared.settings.Setting.{Setting}
use Rattle.net_text.specs.declared.settings.Setting.TheVariants.{Hold, Restart, Cut, Pipe, Octets}
use Rattle.net_text.specs.Lexing.{Text, words_of}
use Rattle.bgp_values.specs.declared.width.Width.TheVariants.{Four}
use Rattle.bgp_values.specs.Ranges.{is_hold_time}
use Rattle.net_text.specs.Words.{is_number, value_of}
use Rattle.net_text.specs.Lines.{line_reading, in_range, setting_of, told_of, told, settings_behind, usual}
use Rattle.net_text.specs.Networks.{reading, then_on, empty_draft}
use Rattle.net_text.specs.Laws.{SettingsAreNamed, HoldTimesFit}
use Rattle.net_text.proofs.AddingLemmas.{adds}

-- ---- no line changes them: they are those of the whole text

line_keeps : (d e : NetworkSoFar) (line : Text) → line_reading d line ≡ Ok e → e.net.settings ≡ d.net.settings
line_keeps d e line h =
    elim (adds d e line h) [
      | inl r ↦ ap (λ (x : NetworkSoFar). x.net.settings) (sym r.new)
      | inr k ↦ elim k [
        | inl l ↦ ap (λ (x : NetworkSoFar). x.net.settings) (sym l.new)
        | inr k ↦ elim k [
          | inl o ↦ ap (λ (x : NetworkSoFar). x.net.settings) (sym o.new)
          | inr k ↦ elim k [
            | inl r ↦ ap (λ (x : NetworkSoFar). x.net.settings) (sym r.new)
            | inr n ↦ ap (λ (x : Plan). x.settings) n.new
          ]
        ]
      ]
    ]

lines_by : (d end : NetworkSoFar) (before : ℕ) (line : Text) (lines : List Text) (r : Result NetworkSoFar Code) → line_reading d line ≡ r
    → ((e : NetworkSoFar) → reading (λ at x words. line_reading x words) (before + 1) e lines ≡ Ok end → end.net.settings ≡ e.net.settings)
    → then_on (before + 1) r (λ e. reading (λ at x words. line_reading x words) (before + 1) e lines) ≡ Ok end
    → end.net.settings ≡ d.net.settings
lines_by d end before line lines (Err code) is rest h = absurd cc
lines_by d end before line lines (Ok e) is rest h = rest e h ∙ line_keeps d e line is

lines_keep : (lines : List Text) (d end : NetworkSoFar) (before : ℕ) → reading (λ at x words. line_reading x words) before d lines ≡ Ok end → end.net.settings ≡ d.net.settings
lines_keep [] d end before h =
    let same_draft : d ≡ end = cc in
    ap (λ (x : NetworkSoFar). x.net.settings) (sym same_draft)
lines_keep (line ∷ lines) d end before h = lines_by d end before line lines (line_reading d line) refl (λ e k. lines_keep lines e end (before + 1) k) h

pub settings_are_named : SettingsAreNamed
settings_are_named lines net h = lines_keep lines (empty_draft lines) (record { named = h.named; net = net }) 0 h.whole

-- ---- hold times

hold_by : (a b c : Bool) (n : ℕ) (s : Settings) → (b ≡ true → n ≤ 65535) → s.hold ≤ 65535 → (cond (a && (b && c)) (record s { hold = n }) s).hold ≤ 65535
hold_by true true true n s within h = within refl
hold_by true true false n s within h = h
hold_by true false c n s within h = h
hold_by false b c n s within h = h

other_by : (b : Bool) (s t : Settings) → t.hold ≡ s.hold → s.hold ≤ 65535 → (cond b t s).hold ≤ 65535
other_by true s t e h = omega (arith, e, h)
other_by false s t e h = h

told_of_fits : (setting : Option Setting) (word : Text) (s : Settings) → s.hold ≤ 65535 → (told_of setting word s).hold ≤ 65535
told_of_fits None word s h = h
told_of_fits (Some Hold) word s h = hold_by (is_number word) (nat_le (value_of word) 65535) (is_hold_time (value_of word)) (value_of word) s (λ t. leb-true (value_of word) 65535 t) h
told_of_fits (Some Restart) word s h = other_by (is_number word && in_range Restart (value_of word)) s (record s { restart = value_of word }) refl h
told_of_fits (Some Cut) word s h = other_by (is_number word && in_range Cut (value_of word)) s (record s { cut = value_of word }) refl h
told_of_fits (Some Pipe) word s h = other_by (is_number word && in_range Pipe (value_of word)) s (record s { pipe = value_of word }) refl h
told_of_fits (Some Octets) word s h = other_by (is_number word && in_range Octets (value_of word)) s (record s { width = Four }) refl h

told_fits : (words : List Text) (s : Settings) → s.hold ≤ 65535 → (told words s).hold ≤ 65535
told_fits [] s h = h
told_fits (a ∷ []) s h = h
told_fits (a ∷ b ∷ []) s h = told_of_fits (setting_of a) b s h
told_fits (a ∷ b ∷ c ∷ words) s h = h

behind_fits : (lines : List Text) (s : Settings) → s.hold ≤ 65535 → (settings_behind s lines).hold ≤ 65535
behind_fits [] s h = h
behind_fits (line ∷ lines) s h = behind_fits lines (told (words_of line) s) (told_fits (words_of line) s h)

pub hold_times_fit : HoldTimesFit
hold_times_fit lines net h =
    let named = ap (λ (s : Settings). s.hold) (settings_are_named lines net h) in
    omega (arith, named, behind_fits lines usual (omega arith))
