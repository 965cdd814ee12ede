-- Laws of places in formulas, as statements.
use Rattle.std.specs.Prelude.{◌≡◌, ◌≢◌, ℕ, List, Some}
use Rattle.bk_val.specs.ValueType.{ValueType}
use Rattle.bk_form.specs.Table.{Table}
use Rattle.bk_form.specs.Formula.{Formula}
use Rattle.bk_form.specs.Role.{role, untyped}
use Rattle.bk_form.specs.Search.{Finder}
use Rattle.bk_form.specs.Environment.{Environment}
use Rattle.bk_bind.specs.Same.{MeanSame}
use Rattle.bk_seq.specs.Paths.{sub_at, put_at}

-- what is put at a path stands there
abbrev pub PutStands : Type 0
PutStands = (f : Formula) (path : List ℕ) (old new : Formula) → sub_at f path ≡ Some old → sub_at (put_at f path new) path ≡ Some new

-- a formula of the same role at a path keeps the role of the whole
abbrev pub PutKeepsRole : Type 0
PutKeepsRole = (table : Table) (around : List ValueType) (f : Formula) (path : List ℕ) (old new : Formula) → sub_at f path ≡ Some old →
    role table around new ≡ role table around old → role table around (put_at f path new) ≡ role table around f

-- a formula that means the same keeps the meaning of the whole
abbrev pub PutKeepsMeaning : Type 0
PutKeepsMeaning = (find : Finder) (e : Environment) (f : Formula) (path : List ℕ) (old new : Formula) →
    sub_at f path ≡ Some old → MeanSame find e new old → MeanSame find e (put_at f path new) f

-- what stands in a formula that types, types
abbrev pub PartsType : Type 0
PartsType = (table : Table) (around : List ValueType) (f : Formula) (path : List ℕ) (part : Formula) →
    sub_at f path ≡ Some part → role table around f ≢ untyped → role table around part ≢ untyped
