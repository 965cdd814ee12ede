use Rattle.std.proofs.Common.{◌-◌, length, get_or, take, drop, sym, ◌∙◌, ap, rules}
use Rattle.std.specs.Option.{option_copied}
use Rattle.bk_seq.proofs.Paths.{path-begins, below-child}
use Rattle.bk_seq.proofs.path.+build.Goals as goal

pub build-requires : goal.build-requires
build-requires t c =
    let path = c.args.path.now in
    let is_child = sym c.child.ensures ∙ ap option_copied c.unwrap-part.ensures in
    let below = below-child c.args.form.now path (get_or path 0 0) (take (length path - 1) (drop 1 path)) c.unwrap-part.result.now c.args.new (path-begins path c.in-len1-up.len_at_least) is_child c.requires.place c.requires.small in
    (search rules, below)
