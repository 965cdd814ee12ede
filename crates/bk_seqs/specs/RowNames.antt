-- The rows by their names in the program, and instances as the program holds them.
use Rattle.bk_bind.specs.declared.law.LawInstance.{LawInstance}
use Rattle.bk_laws.specs.Rows.{Instance}
use Rattle.bk_seqs.specs.declared.row.RowName.{RowName}
use Rattle.bk_seqs.specs.declared.row.RowName.TheVariants.{Q1, Q2, Q3, Q4, Q5, Q6, Q7, Q8, Q9, Q10, Q11, Q12, Q13, Q14, Q15, Q16}
use Rattle.bk_seqs.specs.Rows.{Row, q1, q2, q3, q4, q5, q6, q7, q8, q9, q10, q11, q12, q13, q14, q15, q16}

-- the row that a name stands for
abbrev pub row_at : RowName → Row
row_at Q1 = q1
row_at Q2 = q2
row_at Q3 = q3
row_at Q4 = q4
row_at Q5 = q5
row_at Q6 = q6
row_at Q7 = q7
row_at Q8 = q8
row_at Q9 = q9
row_at Q10 = q10
row_at Q11 = q11
row_at Q12 = q12
row_at Q13 = q13
row_at Q14 = q14
row_at Q15 = q15
row_at Q16 = q16

-- the instance that the program holds
abbrev pub instance_of : LawInstance → Instance
instance_of i = record { sides = i.sides.items; left = i.left; right = i.right }
