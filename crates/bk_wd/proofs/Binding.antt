-- Variables bound one binder after another.
use Rattle.std.proofs.Common.{◌≡◌, List, [], ◌∷◌, ◌++◌, refl}
use Rattle.bk_form.specs.Role.{bind}

pub bind_append : {A : Type 0} (xs ys around : List A) → bind (xs ++ ys) around ≡ bind ys (bind xs around)
bind_append [] ys around = refl
bind_append (x ∷ xs) ys around = bind_append xs ys (x ∷ around)
