-- What is shown of written substitutions.
use Rattle.std.specs.Prelude.{◌≡◌, ℕ, ℤ, Bool, []}
use Rattle.bk_form.specs.Table.{Table}
use Rattle.bk_gsl.specs.Typed.{Types}
use Rattle.bk_dev.specs.Facts.{binders, AreDistinct, StaysIn}
use Rattle.bk_raw.specs.Trees.SubTree.{SubTree}
use Rattle.bk_raw.specs.Meaning.Names.{Names}
use Rattle.bk_raw.specs.Meaning.Speaking.{AreTyped}
use Rattle.bk_statics.specs.Typings.{Typing, interval, typed}
use Rattle.bk_statics.specs.Binders.{binder_count}
use Rattle.bk_statics.specs.Elaborated.{elaborated}
use Rattle.bk_statics.specs.SubFaults.{sub_faults}
use Rattle.bk_statics.specs.Settled.{IsSettled, AreOf, AreSeen, IsBelow}

-- what a substitution binds is an interval of numbers, each once
abbrev pub BindersAreIntervals : Type 0
BindersAreIntervals = (int_max : ℤ) (typing : Typing) (above names : Names) (n : ℕ) (s : SubTree) →
    (binders (elaborated int_max typing above names n s) ≡ interval n (binder_count s))
    × AreDistinct (binders (elaborated int_max typing above names n s))

-- the types are those of the table, both lists of names are of it, and the names have types
pub record AreNamesOf (table : Table) (typing : Typing) (above names : Names) : Type 0 where
  pub settled : IsSettled table typing
  pub above_of : AreOf table above
  pub names_of : AreOf table names
  pub have_types : AreTyped (typed typing names)

-- where the types are those of a table, a substitution without a fault types in it
abbrev pub SubstitutionsType : Type 0
SubstitutionsType = (int_max : ℤ) (table : Table) (typing : Typing) (above names : Names) → AreNamesOf table typing above names →
    (writable : ℕ → Bool) (n : ℕ) (s : SubTree) → sub_faults int_max typing above names writable n s ≡ [] →
    Types table (elaborated int_max typing above names n s)

-- the names are variables that may be seen, whose numbers are below n, and those above may be seen above
pub record MayBeSeen (above visible : ℕ → Bool) (higher names : Names) (n : ℕ) : Type 0 where
  pub above_seen : AreSeen above higher
  pub seen : AreSeen visible names
  pub below : IsBelow n visible

-- where the names are variables that may be seen, whose numbers are below the counter, a substitution without a fault names,
-- writes and binds what it may
abbrev pub SubstitutionsStay : Type 0
SubstitutionsStay = (int_max : ℤ) (table : Table) (typing : Typing) (higher names : Names) → AreNamesOf table typing higher names →
    (above visible writable : ℕ → Bool) (n : ℕ) → MayBeSeen above visible higher names n →
    (s : SubTree) → sub_faults int_max typing higher names writable n s ≡ [] →
    StaysIn visible above writable (elaborated int_max typing higher names n s)
