use Rattle.std.proofs.Common.{◌≡◌, ◌-◌, rules, subst, ◌∷◌, ℤ, pos, get_or, FitsSigned, w64}
use Rattle.std.specs.Prelude.{All}
use Rattle.std.proofs.lemmas.Int.{to_z-of_z}
use Rattle.std.proofs.lemmas.List.Elements.{All-head, All-tail}
use Rattle.bk_vm.specs.Depth.{tops}
use Rattle.bk_vm.specs.Flows.{IsSmall}
use Rattle.bk_vm.proofs.Tops.{tops-one}
use Rattle.bk_vm.proofs.execute.take_one.Goals as goal

pub returns-clause-range : goal.returns-clause-range
returns-clause-range c =
    let whole = subst (All IsSmall) (tops-one c.args.depth c.args.stack.now c.requires.enough) c.requires.range in
    let top : IsSmall (get_or c.args.stack.now (c.args.depth - 1) (pos 0)) =
    All-head IsSmall (get_or c.args.stack.now (c.args.depth - 1) (pos 0)) (tops (c.args.depth - 1) c.args.stack.now) whole in
    let fits : FitsSigned w64 (get_or c.args.stack.now (c.args.depth - 1) (pos 0)) = search rules in
    simp (to_z-of_z, fits) top

pub returns-clause-rest : goal.returns-clause-rest
returns-clause-rest c =
    let whole = subst (All IsSmall) (tops-one c.args.depth c.args.stack.now c.requires.enough) c.requires.range in
    All-tail IsSmall (get_or c.args.stack.now (c.args.depth - 1) (pos 0)) (tops (c.args.depth - 1) c.args.stack.now) whole
