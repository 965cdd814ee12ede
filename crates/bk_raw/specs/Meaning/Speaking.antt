-- When there is a formula: what has no fault and only names with types is a predicate or an expression, as its form says.
use Rattle.std.specs.Prelude.{◌≡◌, Bool, true, false, [], ◌∷◌, None}
use Rattle.bk_raw.specs.Meaning.Names.{Names, Meaning, local, global}
use Rattle.bk_raw.specs.Meaning.Outcome.{Outcome, partial, ranging, holding, silent, Reading}

-- the outcome is a predicate where one is wanted, else a value or another domain
abbrev pub Fits : Bool → Outcome → Type 0
Fits true (holding p) = Unit {0}
Fits true _ = ⊥
Fits false (partial p) = Unit {0}
Fits false (ranging f t there) = Unit {0}
Fits false _ = ⊥

-- what stands for a variable has a type
abbrev pub HasType : Meaning → Type 0
HasType (local None) = ⊥
HasType (global n None) = ⊥
HasType _ = Unit {0}

-- each name has a type
abbrev pub AreTyped : Names → Type 0
AreTyped [] = Unit {0}
AreTyped (n ∷ ns) = HasType n.meaning × AreTyped ns

-- where there is no fault, there is a formula of the wanted kind
abbrev pub Speaks : Bool → Reading → Type 0
Speaks wanted r = r.faults ≡ [] → Fits wanted r.outcome

-- something is told
abbrev pub IsTold : Outcome → Type 0
IsTold silent = ⊥
IsTold _ = Unit {0}
