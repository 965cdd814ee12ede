use Rattle.std.proofs.Common.{rules, ◌≡◌, List, ℤ, pos, length, sym, ◌∙◌, ap, subst, All}
use Rattle.std.specs.Prelude.{replicate}
use Rattle.std.proofs.Math.ListN.{length-replicate}
use Rattle.std.proofs.lemmas.List.Elements.{All-replicate}
use Rattle.bk_limits.specs.declared.TheConstants.{STACK_ROOM}
use Rattle.bk_code.specs.Numbers.{int_max, IsWithin}
use Rattle.bk_code.specs.Laws.{AreCells}
use Rattle.bk_code.proofs.Ranges.{zero_within}
use Rattle.bk_vm.proofs.machine.Machine.new.Goals as goal

pub invariant_of-result : goal.invariant_of-result
invariant_of-result c =
    let max = int_max c.args.image in
    let count = c.args.image.cells in
    let long : length c.in_ok-stack.stack.items ≡ STACK_ROOM = search rules in
    let zeros : c.in_ok-cells.cells.items ≡ replicate count (pos 0) = search rules in
    let within : All (IsWithin max) (replicate count (pos 0)) = All-replicate (IsWithin max) count (pos 0) (zero_within max c.requires.numbered.range.least) in
    let kept : AreCells c.args.image c.in_ok-cells.cells.items =
    record { many = ap (λ (zs : List ℤ). length zs) zeros ∙ length-replicate count (pos 0); range = subst (All (IsWithin max)) (sym zeros) within } in
    (record { checked = c.requires; kept = kept; untouched = λ _. zeros }, long)
