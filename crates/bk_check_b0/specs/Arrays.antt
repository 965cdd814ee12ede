-- Which variables of a level are arrays, and over what domains, as the program is asked.
use Rattle.std.specs.Prelude.{◌≡◌, ℕ, Bool, true, false, List, [], ◌∷◌, ◌++◌, Option, Some}
use Rattle.bk_form.specs.Formula.{Formula}
use Rattle.bk_form.specs.Table.{variable_type}
use Rattle.bk_gsl.specs.State.{among}
use Rattle.bk_dev.specs.Development.{Development, Level, int_max as machine_max}
use Rattle.bk_dev.specs.Layout.{Clue, silent, has_scalars, row_by, typing_clue, reversed}
use Rattle.bk_elab_terms.specs.Visible.{typing_of}
use Rattle.bk_statics.specs.Executable.{where_array, domain_in, declared_domain}
use Rattle.bk_statics.specs.ValueFaults.{is_there}
use Rattle.bk_scope.specs.declared.way.Typing.{Typing as TypingKept}
use Rattle.bk_check_b0.specs.Executed.{array_by}

-- there is one level alone
abbrev pub IsAlone : List Level → Type 0
IsAlone ls = (l : Level) × (ls ≡ l ∷ [])

-- the development is of these levels, types and values
pub record IsDeclaredBy (dev : Development) (t : TypingKept) (above : Development)
    (own : List Level) (valued : List (ℕ × Formula)) : Type 0 where
  pub levels : dev.levels ≡ above.levels ++ own
  -- what is an array by the types of the table is one by those that are told
  pub types : (l : Level) → own ≡ l ∷ [] → (n : ℕ) → among l.vars n ≡ true →
      has_scalars (variable_type dev.table n) ≡ has_scalars (typing_of t.types.now n)
  pub values : dev.values ≡ valued
  pub max : t.max ≡ machine_max dev

-- of each such development the arrays are found, with the domains that they are declared with
abbrev pub AreItsArrays : TypingKept → Development → List Level → List (ℕ × Formula) → List (ℕ × Formula) → Type 0
AreItsArrays t above own valued arrays = (dev : Development) → IsDeclaredBy dev t above own valued →
    (x : ℕ) → array_by arrays x ≡ declared_domain dev x

-- whether nothing is said
abbrev pub is_silent : Clue → Bool
is_silent silent = true
is_silent _ = false

-- the domain that the variable's first typing conjunct tells, where it makes an array
abbrev pub array_told : Development → ℕ → Option Formula
array_told dev x = where_array (is_there (row_by dev x (typing_clue (Some x) (reversed dev.levels []))))
    (domain_in (typing_clue (Some x) (reversed dev.levels [])))
