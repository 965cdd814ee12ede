-- What is found of names, step by step.
use Rattle.std.specs.Prelude.{ℕ, suc, true, false, Bool, cond, List, [], ◌∷◌, Option, MatchOption, Some, None}
use Rattle.std.specs.List.{list_any}
use Rattle.std.specs.Str.{bytes_eq}
use Rattle.bk_form.specs.Table.{SetEntry}

-- where something is meant, a thing that it means; else it means nothing
abbrev pub IsMeaning : {A : Type 0} → (A → Type 0) → Option A → Type 0
IsMeaning {A} Means o = MatchOption o ((x : A) → Means x → ⊥) Means

-- whether the text is that of a set, where it is one's or an element's
abbrev pub in_set : SetEntry → List ℕ → Option Bool
in_set e text = cond (bytes_eq e.name text) (Some true) (cond (list_any (λ x. bytes_eq x text) e.elements) (Some false) None)

-- the set, where the text is its name; else what is found after it, where the text is no element's either
abbrev pub set_or : ℕ → Option Bool → Option ℕ → Option ℕ
set_or s (Some true) rest = Some s
set_or s (Some false) rest = None
set_or s None rest = rest

-- the set with the text, of those from the s-th on, where no set and no element before it has it
abbrev pub set_among : ℕ → List SetEntry → List ℕ → Option ℕ
set_among s [] text = None
set_among s (e ∷ es) text = set_or s (in_set e text) (set_among (suc s) es text)
