-- Places in formulas: the formula that stands at a path of child numbers, and another one put there.
use Rattle.std.specs.Prelude.{ℕ, zero, suc, List, [], ◌∷◌, slice_set, Option, Some, None, slice_get, option_and_then, unwrap_or}
use Rattle.bk_form.specs.Formula.{Formula, unary, binary, comprehension, lambda, formulas_of, list_of_formulas}

-- the item of this number, counted from 1
abbrev pub numbered_item : {A : Type 0} → List A → ℕ → Option A
numbered_item xs zero = None
numbered_item xs (suc n) = slice_get xs n

-- the list with another item of this number
abbrev pub with_item : {A : Type 0} → List A → ℕ → A → List A
with_item xs zero x = xs
with_item xs (suc n) x = slice_set xs n x

-- the parts that a path may enter: the left and the right side, a single
-- operand, the ranges of a comprehension or lambda; never a binder's body
abbrev pub children : Formula → List Formula
children (unary o a) = a ∷ []
children (binary o a b) = a ∷ b ∷ []
children (comprehension rs p) = list_of_formulas rs
children (lambda rs p v) = list_of_formulas rs
children _ = []

-- the formula with as many other children
abbrev pub with_children : Formula → List Formula → Formula
with_children (unary o a) (c ∷ cs) = unary o c
with_children (binary o a b) (c ∷ d ∷ cs) = binary o c d
with_children (comprehension rs p) cs = comprehension (formulas_of cs) p
with_children (lambda rs p v) cs = lambda (formulas_of cs) p v
with_children f _ = f

-- the child of this number
abbrev pub child : Formula → ℕ → Option Formula
child f n = numbered_item (children f) n

-- the formula with another child of this number
abbrev pub with_child : Formula → ℕ → Formula → Formula
with_child f n c = with_children f (with_item (children f) n c)

-- the formula at a path, none where the path leaves the tree or enters a binder's body
abbrev pub sub_at : Formula → List ℕ → Option Formula
sub_at f [] = Some f
sub_at f (n ∷ ns) = option_and_then (λ c. sub_at c ns) (child f n)

-- the formula with another one at a path, where there is one
abbrev pub put_at : Formula → List ℕ → Formula → Formula
put_at f [] new = new
put_at f (n ∷ ns) new = with_child f n (put_at (unwrap_or (child f n) f) ns new)
