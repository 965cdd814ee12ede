-- Every row is true, and so is every instance.
use Rattle.std.proofs.Common.{◌≡◌, nat_eq, Bool, true, false, cond, length, List, [], ◌∷◌, subst, sym}
use Rattle.std.specs.Prelude.{Some, None}
use Rattle.bk_form.specs.Formula.{Formula}
use Rattle.bk_laws.specs.Rows.{Instance, pick_at}
use Rattle.bk_laws.specs.Laws.{IsTrueLaw}
use Rattle.bk_seqs.specs.Rows.{Row, row_named, instance_of_row, rows}
use Rattle.bk_seqs.specs.RowNames.{row_at}
use Rattle.bk_seqs.specs.declared.row.RowName.{RowName}
use Rattle.bk_seqs.specs.declared.row.RowName.TheVariants.{Q1, Q2, Q3, Q4, Q5, Q6, Q7, Q8, Q9, Q10, Q11, Q12, Q13, Q14, Q15, Q16}
use Rattle.bk_seqs.specs.Laws.{IsTrueRow, AreTrueRows, IsTrueTable}
use Rattle.bk_seqs.proofs.Appended.{true-q1, true-q2, true-q3, true-q4, true-q14, true-q15, true-q16}
use Rattle.bk_seqs.proofs.Shortened.{true-q5, true-q6, true-q7, true-q8}
use Rattle.bk_seqs.proofs.Reversed.{true-q9, true-q10, true-q11}
use Rattle.bk_seqs.proofs.Joined.{true-q12, true-q13}

some-same : (i j : Instance) → Some i ≡ Some j → i ≡ j
some-same i j h = cc

of-picks : (row : Row) → IsTrueRow row → (picks : List Formula) (i : Instance) (b : Bool) → cond b (Some (row.at (pick_at picks))) None ≡ Some i → IsTrueLaw i
of-picks row is_true picks i true h = subst (λ j. IsTrueLaw j) (some-same (row.at (pick_at picks)) i h) (is_true (pick_at picks))
of-picks row is_true picks i false h = absurd (cc)

table-is-true : (table : List Row) → AreTrueRows table → IsTrueTable table
table-is-true [] all name picks i h = absurd (cc)
table-is-true (row ∷ table) all name picks i h = by_name (table-is-true table all.1 name picks i) (nat_eq row.name name) h
  where
    by_name : (instance_of_row picks (row_named table name) ≡ Some i → IsTrueLaw i) → (b : Bool) → instance_of_row picks (cond b (Some row) (row_named table name)) ≡ Some i → IsTrueLaw i
    by_name on true k = of-picks row all.0 picks i (nat_eq (length picks) row.letters) k
    by_name on false k = on k

pub rows-are-true : AreTrueRows rows
unfolding rows
rows-are-true = (true-q1, (true-q2, (true-q3, (true-q4, (true-q5, (true-q6, (true-q7, (true-q8, (true-q9, (true-q10, (true-q11, (true-q12, (true-q13, (true-q14, (true-q15, (true-q16, tt))))))))))))))))

pub laws-are-true : IsTrueTable rows
laws-are-true = table-is-true rows rows-are-true

-- the row of each name, at all picks
at-name : (r : RowName) → IsTrueRow (row_at r)
at-name Q1 = true-q1
at-name Q2 = true-q2
at-name Q3 = true-q3
at-name Q4 = true-q4
at-name Q5 = true-q5
at-name Q6 = true-q6
at-name Q7 = true-q7
at-name Q8 = true-q8
at-name Q9 = true-q9
at-name Q10 = true-q10
at-name Q11 = true-q11
at-name Q12 = true-q12
at-name Q13 = true-q13
at-name Q14 = true-q14
at-name Q15 = true-q15
at-name Q16 = true-q16

pub law-is-true : (i : Instance) (r : RowName) (picks : List Formula) → i ≡ (row_at r).at (pick_at picks) → IsTrueLaw i
law-is-true i r picks h = subst (λ j. IsTrueLaw j) (sym h) (at-name r (pick_at picks))

pub ruleset true_laws = (law-is-true)
