use Rattle.std.proofs.Common.{ℕ, ◌≡◌, ◌<◌, ◌+◌, List, [], ◌++◌, length, get_or, drop, map, arith, ap}
use Rattle.std.proofs.lemmas.List.{get_or_default}
use Rattle.bk_statics.specs.Plan.{links_from, link_of}
use Rattle.bk_scope.specs.Shown.{declared_shown}
use Rattle.bk_scope.specs.declared.plan.Declared.{Declared}
use Rattle.bk_scope.proofs.Making.{counted-more, link-first}
use Rattle.bk_elab_level.proofs.made.links.Goals as goal

-- the link of one variable more
links-more : (n : ℕ) (xs ys : List Declared) (i : ℕ) (d : Declared) (number : ℕ) (found after whole : List (ℕ × ℕ)) → ys ≡ xs → i < length xs → number ≡ n + i → after ≡ found ++ link_of number (get_or ys i d).higher [] →
    found ++ links_from (n + i) (map declared_shown (drop i xs)) ≡ whole → after ++ links_from (n + (i + 1)) (map declared_shown (drop (i + 1) xs)) ≡ whole
links-more n xs ys i d number found after whole same l e a h =
    counted-more (λ (m : ℕ) (ds : List Declared). links_from m (map declared_shown ds)) (λ m x rest. link-first m (declared_shown x) (map declared_shown rest)) n xs i (get_or xs i d) found (link_of number (get_or ys i d).higher []) after whole l
    (get_or_default xs i d (get_or xs i d) l) (λ j. link_of (e j) (get_or (same j) i d).higher []) a h

pub loop-index-preserved : goal.loop-index-preserved
loop-index-preserved c =
    links-more c.args.plan.now.variables_at c.args.plan.now.variables.items c.deref-variable-items.result.now c.loop-index.index _ c.in_ok-number.number c.loop-index.found.items c.push_link.new.found.items (links_from c.args.plan.now.variables_at (map declared_shown c.args.plan.now.variables.items))
    c.deref-variable-items.ensures.value (omega (arith, ap length c.deref-variable-items.ensures.value)) c.in_ok-number.ensures c.in_ok-push_link.ensures c.loop-index.invariant
