-- What a clause declares, as the program finds it: sets with their elements, constants, and variables of both kinds.
use Rattle.std.proofs.Common.{◌≡◌, refl, ap, ◌∙◌, ◌+◌, ◌<◌, ℕ, Bool, List, [], ◌∷◌, ◌++◌, length, get_or, drop, append_assoc}
use Rattle.std.proofs.lemmas.List.{at_drop_more}
use Rattle.bk_raw.specs.Trees.ComponentTree.{RawClause}
use Rattle.bk_raw.specs.declared.term.RawName.{RawName}
use Rattle.bk_raw.specs.declared.component.ClauseWord.TheVariants.{Sets, Constants, Variables, ConcreteVariables}
use Rattle.bk_statics.specs.Components.{as_variables, variable_names, variables_of_clause, set_names, if_clause, sets_in, names_in, declared_by, all_declared_by, WrittenVariable}

names-behind : (b : Bool) (xs : List RawName) (vs : List WrittenVariable) → variable_names (as_variables b xs ++ vs) ≡ xs ++ variable_names vs
names-behind b [] vs = refl
names-behind b (x ∷ xs) vs = ap (λ ys. x ∷ ys) (names-behind b xs vs)

names-of : (b : Bool) (xs : List RawName) → variable_names (as_variables b xs) ≡ xs
names-of b [] = refl
names-of b (x ∷ xs) = ap (λ ys. x ∷ ys) (names-of b xs)

names-of-clause : (d : RawClause) → variable_names (variables_of_clause d) ≡ if_clause Variables names_in d ++ if_clause ConcreteVariables names_in d
names-of-clause d =
    names-behind _ (if_clause Variables names_in d) (as_variables _ (if_clause ConcreteVariables names_in d))
    ∙ ap (λ ys. if_clause Variables names_in d ++ ys) (names-of _ (if_clause ConcreteVariables names_in d))

pub declared_by-parts : (d : RawClause) → declared_by d ≡ set_names (if_clause Sets sets_in d) ++ (if_clause Constants names_in d ++ (if_clause Variables names_in d ++ if_clause ConcreteVariables names_in d))
declared_by-parts d = ap (λ ys. set_names (if_clause Sets sets_in d) ++ (if_clause Constants names_in d ++ ys)) (names-of-clause d)

four : {A : Type 0} (f a b c e r : List A) → f ++ ((a ++ (b ++ (c ++ e))) ++ r) ≡ (((f ++ a) ++ b) ++ c) ++ e ++ r
four f a b c e r = simp append_assoc

pub declared-step : (cs : List RawClause) (i : ℕ) (d : RawClause) (found f1 f2 f3 f4 whole : List RawName) → i < length cs → d ≡ get_or cs i d
    → found ++ all_declared_by (drop i cs) ≡ whole
    → f1 ≡ found ++ set_names (if_clause Sets sets_in d) → f2 ≡ f1 ++ if_clause Constants names_in d
    → f3 ≡ f2 ++ if_clause Variables names_in d → f4 ≡ f3 ++ if_clause ConcreteVariables names_in d
    → f4 ++ all_declared_by (drop (i + 1) cs) ≡ whole
declared-step cs i d found f1 f2 f3 f4 whole lt is was e1 e2 e3 e4 =
    let rest = all_declared_by (drop (i + 1) cs) in
    let next : all_declared_by (drop i cs) ≡ declared_by (get_or cs i d) ++ rest = at_drop_more all_declared_by cs i d lt in
    let parts = declared_by-parts d in
    let joined = four found (set_names (if_clause Sets sets_in d)) (if_clause Constants names_in d) (if_clause Variables names_in d) (if_clause ConcreteVariables names_in d) rest in
    cc
