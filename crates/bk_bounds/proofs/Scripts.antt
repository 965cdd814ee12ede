-- How many names the scripts of proof files bring, and how many variables a table has with those of a script.
use Rattle.std.proofs.Common.{ℕ, ◌+◌, ◌≤◌, Bool, true, false, not, cond, List, [], ◌∷◌, ◌++◌, length, Option, sym, subst, arith, length-append, All, filter, flat_map, filter_map}
use Rattle.std.specs.List.{AllZip, list_any}
use Rattle.std.specs.Str.{bytes_eq}
use Rattle.std.proofs.lemmas.List.Elements.{All-nil, All-append}
use Rattle.bk_limits.specs.declared.TheConstants.{MOST_TOKENS}
use Rattle.bk_val.specs.ValueType.{ValueType}
use Rattle.bk_form.specs.Table.{Table}
use Rattle.bk_raw.specs.declared.script.RawTyped.{RawTyped}
use Rattle.bk_raw.specs.Trees.ScriptTree.{RawScript}
use Rattle.bk_dev.specs.Development.{Development}
use Rattle.bk_p_proof.specs.TypedNames.{script_names}
use Rattle.bk_p_proof.specs.Files.{IsProofFile, AreScriptsOf}
use Rattle.bk_scripts.specs.Brought.{own_parameters, type_of, with_first, first_of_each, brought, is_in_scope, new_over, entry_for, widened_by, widened}
use Rattle.bk_elab.proofs.Rooms.{fewer}
use Rattle.bk_bounds.proofs.Written.{names-few}

-- ---- files
-- a file has at most 1,000,000 tokens, and so its scripts bring at most so many names
file-bounded : (text : List ℕ) (scripts : List RawScript) → IsProofFile text scripts → All (λ s. length (script_names s) ≤ MOST_TOKENS) scripts
file-bounded text scripts f = let w = f.low.written in names-few MOST_TOKENS scripts w.tokens w.shallow.cut.few w.spelled

files-bounded : (texts : List (List ℕ)) (files : List (List RawScript)) → AllZip IsProofFile texts files → All (λ s. length (script_names s) ≤ MOST_TOKENS) (flat_map (λ f. f) files)
files-bounded [] [] h = All-nil (λ s. length (script_names s) ≤ MOST_TOKENS)
files-bounded [] (f ∷ fs) h = absurd h
files-bounded (t ∷ ts) [] h = absurd h
files-bounded (t ∷ ts) (f ∷ fs) h = All-append (λ s. length (script_names s) ≤ MOST_TOKENS) f (flat_map (λ f. f) fs) (file-bounded t f h.0) (files-bounded ts fs h.1)

pub scripts-bounded : (texts : List (List ℕ)) (scripts : List RawScript) → AreScriptsOf texts scripts → All (λ s. length (script_names s) ≤ MOST_TOKENS) scripts
scripts-bounded texts scripts h = subst (All (λ s. length (script_names s) ≤ MOST_TOKENS)) (sym h.joined) (files-bounded texts h.files h.each)

-- ---- tables
-- of the names with one text the first is kept
first-few : (b : Bool) (firsts : List RawTyped) (x : RawTyped) → length (cond b firsts (firsts ++ x ∷ [])) ≤ length firsts + 1
first-few true firsts x = omega (arith)
first-few false firsts x = omega (arith, length-append firsts (x ∷ []))

firsts-few : (firsts xs : List RawTyped) → length (first_of_each firsts xs) ≤ length firsts + length xs
firsts-few firsts [] = omega (arith)
firsts-few firsts (x ∷ xs) = omega (arith, firsts-few (with_first firsts x) xs, first-few (list_any (λ y. bytes_eq x.name.text y.name.text) firsts) firsts x)

-- what passes a test is no more than all
kept-few : {X : Type 0} (b : Bool) (x : X) (kept xs : List X) → length kept ≤ length xs → length (cond b (x ∷ kept) kept) ≤ length (x ∷ xs)
kept-few true x kept xs h = omega (arith, h)
kept-few false x kept xs h = omega (arith, h)

filter-few : {X : Type 0} (p : X → Bool) (xs : List X) → length (filter p xs) ≤ length xs
filter-few p [] = omega (arith)
filter-few p (x ∷ xs) = kept-few (p x) x (filter p xs) xs (filter-few p xs)

new-few : (own : List (List ℕ × ℕ)) (xs : List RawTyped) → length (new_over own xs) ≤ length xs
new-few own xs = filter-few (λ x. not (is_in_scope own x.name.text)) xs

-- a table gets at most one more variable for each name that a script brings
wider-few : (typed : RawTyped → Option ValueType) (own : List (List ℕ × ℕ)) (table : Table) (s : RawScript) → length (widened_by typed table (new_over own (brought s))).variables ≤ length table.variables + length (script_names s)
wider-few typed own table s =
    let names = new_over own (brought s) in
    omega (arith, length-append table.variables (filter_map (entry_for typed) names), fewer (entry_for typed) names, new-few own (brought s), firsts-few [] (script_names s))

pub widened-count : (table : Table) (dev : Development) (s : RawScript) → length (widened table dev s).variables ≤ length table.variables + length (script_names s)
widened-count table dev s = wider-few (type_of table dev s) (own_parameters table dev s) table s
