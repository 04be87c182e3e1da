use Rattle.std.proofs.Common.{◌≡◌, ◌≢◌, List, length, refl, sym, ap, ◌∙◌, arith, rules}
use Rattle.std.specs.Prelude.{MatchOption}
use Rattle.std.specs.List.{slice_get}
use Rattle.std.proofs.lemmas.Option.{slice_get_within, get_or_from_slice_get}
use Rattle.rib_tables.specs.declared.row.Peer.{Peer}
use Rattle.rib_tables.specs.declared.word.Word.{Word}
use Rattle.rib_tables.specs.Words.{nothing}
use Rattle.rib_tables.specs.Tables.{Words, word_of}
use Rattle.rib_tables.specs.Rows.{said_in}
use Rattle.rib_tables.proofs.ChangeLemmas.{row_at}
use Rattle.rib_tables.proofs.ViewLemmas.{no_row, no_peer}
use Rattle.rib_tables.proofs.RibLemmas.{old_word}
use Rattle.rib_tables.proofs.OneRowLemmas.{key_none}
use Rattle.rib_tables.proofs.AskingLemmas.{line_of, line_long, words_seen, word_seen}
use Rattle.rib_tables.proofs.rib.Rib.word.Goals as goal

pub returns-in_err-from : goal.returns-in_err-from
returns-in_err-from c =
    let s = c.self.inside in
    let v = c.args.peer in
    let q = c.args.prefix.now in
    rw c.from_residual.ensures (words_seen s.network.now s.router s.peers.items s.rows.items c.args.sent c.args.self.now c.self.view_is (λ (ws : Words). word_of ws v q ≡ nothing)
    (no_peer v q (line_of c.args.sent) s.peers.items s.rows.items (λ k p at e. c.in_err-from.ensures k p (ap (λ (ps : List Peer). slice_get ps k) c.as_slice.ensures.value ∙ at) e)))

pub returns-in_err-prefix_at : goal.returns-in_err-prefix_at
returns-in_err-prefix_at c =
    let s = c.self.inside in
    let v = c.args.peer in
    let q = c.args.prefix.now in
    rw c.from_residual-in_err-prefix_at.ensures (words_seen s.network.now s.router s.peers.items s.rows.items c.args.sent c.args.self.now c.self.view_is (λ (ws : Words). word_of ws v q ≡ nothing)
    (no_row v q (line_of c.args.sent) s.peers.items s.rows.items (key_none s.network.now s.router s.peers.items s.keys.keys s.rows.items c.self.invariant.whole q c.in_err-prefix_at.ensures)))

pub index-requires : goal.index-requires
index-requires c =
    let s = c.self.inside in
    let x = row_at s.keys.keys s.rows.items c.self.invariant.whole.listed c.in_ok-prefix_at.prefix_at c.args.prefix.now c.in_ok-prefix_at.ensures in
    let lt = slice_get_within s.rows.items c.in_ok-prefix_at.prefix_at x.0 x.1 in
    let len : length s.rows.items ≡ s.rows.len = search rules in
    omega (arith, lt, len)

pub something-requires : goal.something-requires
something-requires c =
    let s = c.self.inside in
    let place = c.in_ok-prefix_at.prefix_at in
    let x = row_at s.keys.keys s.rows.items c.self.invariant.whole.listed place c.args.prefix.now c.in_ok-prefix_at.ensures in
    let row : c.index.result.now ≡ x.0 = c.index.ensures ∙ get_or_from_slice_get s.rows.items place x.0 c.index.result.now x.1 in
    let peer = c.in_ok-from.ensures in
    let lt = slice_get_within s.peers.items c.in_ok-from.from peer.0 (ap (λ (ps : List Peer). slice_get ps c.in_ok-from.from) (sym c.as_slice.ensures.value) ∙ peer.1) in
    let size = line_long s.network.now s.router s.peers.items s.rows.items c.args.sent x.0 (c.self.invariant.whole.each place x.0 x.1) in
    let same = ap (λ (ws : List Word). length ws) (c.line.ensures ∙ ap (line_of c.args.sent) row) in
    omega (arith, lt, size, same)

pub returns : goal.returns
returns c =
    let s = c.self.inside in
    let v = c.args.peer in
    let q = c.args.prefix.now in
    let place = c.in_ok-prefix_at.prefix_at in
    let from = c.in_ok-from.from in
    let x = row_at s.keys.keys s.rows.items c.self.invariant.whole.listed place q c.in_ok-prefix_at.ensures in
    let row : c.index.result.now ≡ x.0 = c.index.ensures ∙ get_or_from_slice_get s.rows.items place x.0 c.index.result.now x.1 in
    let peer = c.in_ok-from.ensures in
    let there = ap (λ (ps : List Peer). slice_get ps from) (sym c.as_slice.ensures.value) ∙ peer.1 in
    words_seen s.network.now s.router s.peers.items s.rows.items c.args.sent c.args.self.now c.self.view_is
    (λ (ws : Words). MatchOption c.something.result (word_of ws v q ≡ nothing) (λ word. (word.now ≡ word_of ws v q) × (word.now ≢ nothing)))
    (word_seen (λ word. word.now) c.something.result c.line.result.now from (word_of (said_in (line_of c.args.sent) s.peers.items s.rows.items) v q)
    (λ w at.
    old_word s.network.now s.router s.peers.items s.keys.keys s.rows.items c.self.invariant.whole (λ r. r) (λ r. refl) (line_of c.args.sent) v q place from x.0 peer.0 w x.1 x.2 there peer.2
    (ap (λ (ws : List Word). slice_get ws from) (sym (c.line.ensures ∙ ap (line_of c.args.sent) row)) ∙ at)) c.something.ensures)
