use Rattle.std.proofs.Common.{◌≡◌, ◌∙◌, ◌++◌, ◌<◌, [], ◌∷◌, ℕ, zero, suc, List, get_or, sym, ap, arith, inl}
use Rattle.wheel_search.specs.Lists.{onward}
use Rattle.wheel_search.proofs.ListLemmas.{walks_alone}
use Rattle.wheel_search.proofs.listing.alone.Goals as goal

pub put_onward-requires-clause-rests : goal.put_onward-requires-clause-rests
put_onward-requires-clause-rests c = λ k d l. inl (first k d l)
  where
    first : (k : ℕ) (d : List ℕ) → k < 1 → get_or (c.new.result ∷ []) k d ≡ []
    first zero d l = c.new.ensures
    first (suc k) d l = absurd (omega (arith, l))

pub returns : goal.returns
returns c =
    let p = c.args.instance.now in
    c.from_vec.ensures
    ∙ c.in_ok-put_onward.ensures
    ∙ ap (λ (xs : List (List ℕ)). xs ++ onward p.net p.prefix c.args.router (c.new.result ∷ [])) c.new-out.ensures.items
    ∙ ap (λ (x : List ℕ). onward p.net p.prefix c.args.router (x ∷ [])) c.new.ensures
    ∙ sym (walks_alone p c.args.router)
