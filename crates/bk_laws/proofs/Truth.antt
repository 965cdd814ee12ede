-- Every instance of a table is true where each of its rows is.
use Rattle.std.proofs.Common.{◌≡◌, nat_eq, Bool, true, false, cond, List, [], ◌∷◌, subst}
use Rattle.std.specs.Prelude.{Some, None}
use Rattle.bk_form.specs.Formula.{Formula}
use Rattle.bk_laws.specs.Rows.{Row, Instance, built, pick_at, fits, row_named, instance_of_row}
use Rattle.bk_laws.specs.Laws.{IsTrueLaw, IsTrueRow, AreTrueRows, IsTrueTable}

some-same : (i j : Instance) → Some i ≡ Some j → i ≡ j
some-same i j h = cc

of-picks : (row : Row) → IsTrueRow row → (picks : List Formula) (i : Instance) (b : Bool) → cond b (Some (built row (pick_at picks))) None ≡ Some i → IsTrueLaw i
of-picks row is_true picks i true h = subst (λ j. IsTrueLaw j) (some-same (built row (pick_at picks)) i h) (is_true (pick_at picks))
of-picks row is_true picks i false h = absurd (cc)

pub table-is-true : (rows : List Row) → AreTrueRows rows → IsTrueTable rows
table-is-true [] all name picks i h = absurd (cc)
table-is-true (row ∷ rows) all name picks i h = by_name (table-is-true rows all.1 name picks i) (nat_eq row.name name) h
  where
    by_name : (instance_of_row picks (row_named rows name) ≡ Some i → IsTrueLaw i) → (b : Bool) → instance_of_row picks (cond b (Some row) (row_named rows name)) ≡ Some i → IsTrueLaw i
    by_name on true k = of-picks row all.0 picks i (fits row picks) k
    by_name on false k = on k
