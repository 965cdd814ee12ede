use Rattle.std.proofs.Common.{◌≡◌, true, rules}
use Rattle.std.specs.Str.{bytes_eq}
use Rattle.bk_elab_terms.proofs.Awaited.{awaits-some}
use Rattle.bk_elab_terms.proofs.binder.awaiting_type.Goals as goal

pub returns-then-is_some : goal.returns-then-is_some
returns-then-is_some c =
    let same : bytes_eq c.index-locals-place.result.text.now c.args.text.now ≡ true = search rules in
    awaits-some c.args.text.now c.args.locals.now c.loop-place.place c.index-locals-place.result c.loop-place-test.true c.loop-place.invariant c.index-locals-place.is same (search rules)
