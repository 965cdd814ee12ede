use Rattle.std.proofs.Common.{◌≡◌, refl, sym, ◌∙◌, ap, true}
use Rattle.std.specs.Prelude.{Option, Some, None, is_some}
use Rattle.std.specs.Ordering.{eq_by_cmp}
use Rattle.std.specs.Option.{option_copied, option_map}
use Rattle.bk_val.specs.Value.{value_cmp}
use Rattle.bk_val.specs.ValueOf.{value_of}
use Rattle.bk_val.specs.Sets.{apply_of}
use Rattle.bk_val.proofs.Relations.{two_begin}
use Rattle.bk_val.proofs.relation.only_second.Goals as goal

is_some-option_map : {A B : Type 0} (f : A → B) (o : Option A) → is_some (option_map f o) ≡ is_some o
is_some-option_map f (Some x) = refl
is_some-option_map f None = refl

pub returns-then-is_some-clause-exact : goal.returns-then-is_some-clause-exact
returns-then-is_some-clause-exact c =
    let is_pair = sym c.p.view_is ∙ ap value_of c.in-Pair.is in
    let begins : eq_by_cmp value_cmp c.args.x.now c.in-Pair.first.value ≡ true = rw c.deref.ensures at (sym c.eq.ensures ∙ c.if-eq.true) in
    two_begin (eq_by_cmp value_cmp c.args.x.now) c.deref-p-items.result.now c.loop-p.p-index c.p-item.result c.in-Pair.first.value c.in-Pair.second.value (option_copied c.loop-p.found) c.loop-p-test.true c.p-item.is is_pair begins c.loop-p.invariant (is_some-option_map (λ (x : _). x.now) c.loop-p.found ∙ sym c.is_some.ensures ∙ c.if-is_some.true)
    ∙ ap (λ f. apply_of f c.args.x.now) (c.deref-p-items.ensures.value ∙ c.f.view_is)
