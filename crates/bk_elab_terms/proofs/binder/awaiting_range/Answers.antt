use Rattle.std.proofs.Common.{◌≡◌, true, rules}
use Rattle.std.specs.Str.{bytes_eq}
use Rattle.bk_elab_terms.proofs.Awaited.{lacks-some}
use Rattle.bk_elab_terms.proofs.binder.awaiting_range.Goals as goal

pub returns-then-is_some : goal.returns-then-is_some
returns-then-is_some c =
    let same : bytes_eq c.index-names-place.result.text.now c.args.text.now ≡ true = search rules in
    lacks-some c.args.text.now c.args.names.now c.loop-place.place c.index-names-place.result c.loop-place-test.true c.loop-place.invariant c.index-names-place.is same (search rules)
