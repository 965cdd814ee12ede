-- The first fault of where branches stand is that of the first branch, or else that of the others.
use Rattle.std.proofs.Common.{◌≡◌, ap, sym, ◌∙◌, ◌-◌, ◌≤◌, Bool, List, [], ◌∷◌, length, get_or, take, drop, arith}
use Rattle.std.specs.Prelude.{Option}
use Rattle.std.proofs.lemmas.List.{take_rest}
use Rattle.bk_dev.specs.declared.kind.Kind.{Kind}
use Rattle.bk_raw.specs.declared.substitution.RawBranch.{RawBranch}
use Rattle.bk_raw.specs.Trees.SubTree.{SubTree}
use Rattle.bk_raw.specs.Codes.SubView.{choices_of}
use Rattle.bk_raw.specs.Errors.Blame.{blame, earlier}
use Rattle.bk_raw.proofs.Blamed.{blame-joins}
use Rattle.bk_raw.specs.Errors.Faults.{Fault}
use Rattle.bk_statics.specs.OperationFaults.{shape_faults, branches_shape, choices_shape}
use Rattle.bk_scope.specs.Shown.{branches_shown}

-- of two faults that are told, the earlier
both : (f g f' g' : Option Fault) → f ≡ f' → g ≡ g' → earlier f g ≡ earlier f' g'
both f g f' g' e k = ap (λ (o : Option Fault). earlier o g) e ∙ ap (λ (o : Option Fault). earlier f' o) k

pub branches-told : (kind : Kind) (inside : Bool) (bs : List RawBranch) (last : Option SubTree) (b : RawBranch) (f g : Option Fault) → 1 ≤ length bs → b ≡ get_or bs 0 b → f ≡ blame (shape_faults kind inside b.body) → g ≡ blame (branches_shape kind inside (branches_shown (take (length bs - 1) (drop 1 bs)) last)) → earlier f g ≡ blame (branches_shape kind inside (branches_shown bs last))
branches-told kind inside [] last b f g h e k l = absurd (omega arith)
branches-told kind inside (x ∷ bs) last b f g h e k l =
    both f g (blame (shape_faults kind inside x.body)) (blame (branches_shape kind inside (branches_shown bs last))) (k ∙ ap (λ (y : RawBranch). blame (shape_faults kind inside y.body)) e)
    (l ∙ ap (λ (ys : List RawBranch). blame (branches_shape kind inside (branches_shown ys last))) (take_rest (x ∷ bs) 1)) ∙ sym (blame-joins (shape_faults kind inside x.body) (branches_shape kind inside (branches_shown bs last)))

pub choices-told : (kind : Kind) (inside : Bool) (ss : List SubTree) (s : SubTree) (f g : Option Fault) → 1 ≤ length ss → s ≡ get_or ss 0 s → f ≡ blame (shape_faults kind inside s) → g ≡ blame (choices_shape kind inside (choices_of (take (length ss - 1) (drop 1 ss)))) → earlier f g ≡ blame (choices_shape kind inside (choices_of ss))
choices-told kind inside [] s f g h e k l = absurd (omega arith)
choices-told kind inside (x ∷ ss) s f g h e k l =
    both f g (blame (shape_faults kind inside x)) (blame (choices_shape kind inside (choices_of ss))) (k ∙ ap (λ (y : SubTree). blame (shape_faults kind inside y)) e)
    (l ∙ ap (λ (ys : List SubTree). blame (choices_shape kind inside (choices_of ys))) (take_rest (x ∷ ss) 1)) ∙ sym (blame-joins (shape_faults kind inside x) (choices_shape kind inside (choices_of ss)))
