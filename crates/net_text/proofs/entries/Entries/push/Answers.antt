use Rattle.std.proofs.Common.{◌≡◌, ◌++◌, ◌∷◌, [], List, true, subst, sym, ◌∙◌, ap}
use Rattle.std.specs.BTreeSet.{Updates}
use Rattle.net_text.specs.declared.assignment.Entry.{Entry}
use Rattle.net_text.specs.declared.entries.Key.{Key}
use Rattle.net_text.specs.Assignments.{key_cmp, AreGiven}
use Rattle.net_text.proofs.EntryLemmas.{given_on}
use Rattle.net_text.proofs.entries.Entries.push.Goals as goal

pub invariant_of-self-2 : goal.invariant_of-self-2
invariant_of-self-2 c =
    let items : c.push_reserved.new.self.items ≡ c.self.inside.list.items ++ c.args.entry ∷ [] = c.push_reserved.ensures.items ∙ ap (λ (es : List Entry). es ++ c.args.entry ∷ []) c.reserve.ensures.items in
    subst (AreGiven c.insert.new.self) (sym items)
    (given_on c.self.inside.given c.insert.new.self c.self.inside.list.items c.args.entry c.self.invariant
    (subst (λ (k : Key). Updates key_cmp c.self.inside.given c.insert.new.self k true) c.key_of.ensures c.in_ok-insert.ensures.updates))
